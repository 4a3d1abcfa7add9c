-- The cut of what stands outside comments into statements, labels, prefixes and the bodies of instructions (GNU as,
-- "Statements" and "Labels"; that prefixes may be statements of their own is its "i386-Prefixes"). It looks at codes alone,
-- whatever the elements are.
use Rattle.std.specs.Prelude.{ℕ, zero, suc, ◌+◌, ◌-◌, ◌==◌, ◌||◌, ◌&&◌, nat_le, nat_lt, nat_eq, not, Bool, true, false, List, [], ◌∷◌, ◌++◌, length, map, take, drop, slice_index, Option, None, Some, codes, if◌then◌else◌}
use Rattle.std.specs.List.{prefix_len, slice_split, list_all, list_any, flat_map}
use Rattle.std.specs.Cmp.Lexicographic.{pointwise}
use Rattle.asm_core.specs.Cond.{entry_named}
use Rattle.asm_core.specs.declared.names.Prefix.{Prefix}
use Rattle.asm_core.specs.declared.names.Prefix.TheVariants as prefixes

-- blank or tab
abbrev pub is_blank : ℕ → Bool
is_blank c = (c == 32) || (c == 9)

-- newline or `;`
abbrev pub ends_statement : ℕ → Bool
ends_statement c = (c == 10) || (c == 59)

abbrev pub is_digit : ℕ → Bool
is_digit c = nat_le 48 c && nat_le c 57

-- letter, digit or `_`
abbrev pub is_word : ℕ → Bool
is_word c = is_digit c || (nat_le 97 c && nat_le c 122) || (nat_le 65 c && nat_le c 90) || (c == 95)

-- part of a label, of a prefix or of a name: letter, digit, `_`, `.`, and the number of `%=`
abbrev pub is_part : ℕ → Bool
is_part c = is_word c || (c == 46) || (c == 1)

-- 1 to 4 digits
abbrev pub is_number_label : List ℕ → Bool
is_number_label w = nat_lt 0 (length w) && (nat_le (length w) 4 && list_all is_digit w)

-- `.L`, letters, digits and `_` of which the last is no digit, and the number of `%=`
abbrev pub is_unique_label : List ℕ → Bool
is_unique_label w =
    let n = length w - 1 in
    (slice_index w 0 == 46) && ((slice_index w 1 == 76) && ((slice_index w n == 1) && (list_all is_word (drop 2 (take n w)) && not (is_digit (slice_index w (n - 1))))))

abbrev pub is_label : List ℕ → Bool
is_label w = is_number_label w || is_unique_label w

abbrev pub same_name : List ℕ → List ℕ → Bool
same_name a b = pointwise nat_eq a b

abbrev prefix_names : List (List ℕ × Prefix)
prefix_names =
    (codes "lock", prefixes.Lock) ∷ (codes "rep", prefixes.Rep)
    ∷ (codes "repe", prefixes.Repe) ∷ (codes "repz", prefixes.Repe)
    ∷ (codes "repne", prefixes.Repne) ∷ (codes "repnz", prefixes.Repne) ∷ []

-- the prefix of that name
abbrev pub prefix_named : List ℕ → Option Prefix
prefix_named w = entry_named w prefix_names

-- What stands in a statement: each with the rest of the statement from it on.
pub data Item (X : Type 0) : Type 0 where
  Labelled : (name : List ℕ) → (from : List X) → Item X
  Prefixed : (prefix : Prefix) → (from : List X) → Item X
  Body : (from : List X) → Item X

-- without the blanks at the beginning
unfoldable pub begun : {X : Type 0} → (X → ℕ) → List X → List X
begun code xs = drop (prefix_len is_blank (map code xs)) xs

-- how many codes the word at the beginning has
abbrev pub word_len : List ℕ → ℕ
word_len cs = prefix_len is_part cs

-- what a word of n codes at the beginning is; `next` reads on, and says whether labels may still stand there
unfoldable pub item_at : {X : Type 0} → (X → ℕ) → Bool → (Bool → List X → List (Item X)) → List X → ℕ → List (Item X)
item_at code labels next xs n =
    let word = take n (map code xs) in
    if length xs == 0 then []
    else if labels && (is_label word && (slice_index (map code xs) n == 58)) then Labelled word xs ∷ next true (drop (n + 1) xs)
    else elim (prefix_named word) [ Some p ↦ Prefixed p xs ∷ next false (drop n xs) | None ↦ Body xs ∷ [] ]

-- labels, then prefixes, then an instruction; there are fewer than `left`
unfoldable pub items_from : {X : Type 0} → (X → ℕ) → ℕ → Bool → List X → List (Item X)
items_from code zero labels xs = []
items_from code (suc left) labels xs = item_at code labels (items_from code left) (begun code xs) (word_len (map code (begun code xs)))

abbrev pub items_of : {X : Type 0} → (X → ℕ) → List X → List (Item X)
items_of code xs = items_from code (length xs + 1) true xs

-- What the statements are, one behind the other.
pub data Raw (X : Type 0) : Type 0 where
  -- a label
  Named : (name : List ℕ) → Raw X
  -- an instruction without a reading: a prefix that no instruction follows, or the second of two equal `.L` labels
  Dead : (from : List X) → Raw X
  -- an instruction with its prefixes, and what stands from the first of them on
  Live : (before : List Prefix) → (from : List X) → (body : List X) → Raw X

-- prefixes that wait for their instruction, and what stands from the first of them on
pub record Waiting (X : Type 0) : Type 0 where
  pub prefixes : List Prefix
  pub froms : List (List X)

abbrev pub none_waits : {X : Type 0} → Waiting X
none_waits = record { prefixes = []; froms = [] }

-- the first, or d where there is none
abbrev pub first_or : {A : Type 0} → List A → A → A
first_or [] d = d
first_or (x ∷ xs) d = x

-- Each item in turn: prefixes wait for an instruction, which a label or the end keeps from them. `seen` are the labels so far.
unfoldable pub raws_from : {X : Type 0} → Waiting X → List (List ℕ) → List (Item X) → List (Raw X)
raws_from w seen [] = map Dead w.froms
raws_from w seen (Labelled name from ∷ items) =
    map Dead w.froms ++ (if is_unique_label name && list_any (same_name name) seen then Dead from ∷ raws_from none_waits seen items
    else Named name ∷ raws_from none_waits (name ∷ seen) items)
raws_from w seen (Prefixed p from ∷ items) = raws_from (record { prefixes = w.prefixes ++ p ∷ []; froms = w.froms ++ from ∷ [] }) seen items
raws_from w seen (Body body ∷ items) = Live w.prefixes (first_or w.froms body) body ∷ raws_from none_waits seen items

-- the statements' labels and instructions
unfoldable pub raws_of : {X : Type 0} → (X → ℕ) → List X → List (Raw X)
raws_of code xs = raws_from none_waits [] (flat_map (items_of code) (slice_split (λ x. ends_statement (code x)) xs))

abbrev pub instruction_count : {X : Type 0} → List (Raw X) → ℕ
instruction_count [] = 0
instruction_count (Named name ∷ raws) = instruction_count raws
instruction_count (Dead from ∷ raws) = 1 + instruction_count raws
instruction_count (Live before from body ∷ raws) = 1 + instruction_count raws

-- each label with the number of the instruction that it stands before, n being that of the first
abbrev pub labels_from : {X : Type 0} → ℕ → List (Raw X) → List (List ℕ × ℕ)
labels_from n [] = []
labels_from n (Named name ∷ raws) = (name, n) ∷ labels_from n raws
labels_from n (Dead from ∷ raws) = labels_from (n + 1) raws
labels_from n (Live before from body ∷ raws) = labels_from (n + 1) raws
