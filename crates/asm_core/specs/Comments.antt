-- Comments in a template. `#` begins one that goes on to the newline. `/*` begins one where a statement, an operand or a
-- word may begin, if it is closed (GNU as, "Comments"; where `/*` may begin one is this project's own rule).
use Rattle.std.specs.Prelude.{ℕ, Bool, true, false, List, [], ◌∷◌, ◌+◌, ◌-◌, ◌==◌, ◌||◌, ◌&&◌, nat_lt, if◌then◌else◌, Option, Some, None, unwrap_or, map, drop, slice_index}
use Rattle.std.specs.List.{list_any}

-- the number is in the list
abbrev pub is_one_of : List ℕ → ℕ → Bool
is_one_of table b = list_any (λ t. b == t) table

-- blank, tab, newline, `;`, `:`, `,`
abbrev pub comment_breaks : List ℕ
comment_breaks = 32 ∷ 9 ∷ 10 ∷ 59 ∷ 58 ∷ 44 ∷ []

-- `/*` stands there, first of all or behind one of those bytes.
abbrev pub opens_block : List ℕ → ℕ → Bool
opens_block codes i = (slice_index codes i == 47) && (slice_index codes (i + 1) == 42) && ((i == 0) || is_one_of comment_breaks (slice_index codes (i - 1)))

-- the index of the next newline, or the end
unfoldable pub line_end : ℕ → List ℕ → ℕ
line_end i [] = i
line_end i (c ∷ cs) = if c == 10 then i else line_end (i + 1) cs

-- `*/` stands there
abbrev pub closes_block : List ℕ → ℕ → Bool
closes_block codes i = (slice_index codes i == 42) && (slice_index codes (i + 1) == 47)

-- the index behind the next `*/`
unfoldable pub block_end : ℕ → List ℕ → Option ℕ
block_end i [] = None
block_end i (c ∷ cs) = if (c == 42) && (slice_index cs 0 == 47) then Some (i + 2) else block_end (i + 1) cs

-- the index behind the comment that begins at an index; a newline that ends a comment is no part of it
unfoldable pub comment_end : List ℕ → ℕ → Option ℕ
comment_end codes i =
    if slice_index codes i == 35 then Some (line_end (i + 1) (drop (i + 1) codes))
    else if opens_block codes i then block_end (i + 2) (drop (i + 2) codes)
    else None

-- the index behind the comment in which a byte stands, where it stands in one; the one before it ended at `until`
unfoldable pub comment_until : List ℕ → ℕ → ℕ → ℕ
comment_until codes until i = if nat_lt i until then until else unwrap_or (comment_end codes i) until

-- Whether each byte from the index i on stands in a comment; the one before them goes on up to `until`.
unfoldable pub comments_from : List ℕ → ℕ → ℕ → List ℕ → List Bool
comments_from codes until i [] = []
comments_from codes until i (c ∷ cs) = let end = comment_until codes until i in nat_lt i end ∷ comments_from codes end (i + 1) cs

-- whether each byte stands in a comment
abbrev pub comments_of : List ℕ → List Bool
comments_of codes = comments_from codes 0 0 codes

-- What is left without comments; the newlines in them go on parting lines.
unfoldable pub kept : {A : Type 0} → (A → ℕ) → List A → List Bool → List A
kept code [] marks = []
kept code (x ∷ xs) [] = []
kept code (x ∷ xs) (inside ∷ marks) = if inside && (if code x == 10 then false else true) then kept code xs marks else x ∷ kept code xs marks

-- What stands outside comments, of items that have a byte's code each (another one where they aren't bytes).
abbrev pub uncommented : {A : Type 0} → (A → ℕ) → List A → List A
uncommented code xs = kept code xs (comments_of (map code xs))
