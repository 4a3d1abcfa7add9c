-- How many shapes there are, and the lists of them made step by step.
use Rattle.std.proofs.Common.{◌≡◌, inl, inr, ℕ, zero, suc, ◌+◌, ◌*◌, ◌<◌, ◌≤◌, min, List, [], ◌∷◌, ◌++◌, length, map, take, drop, get_or, Option, None, Some, slice_get, option_to_list, refl, sym, ap, ◌∙◌, append_assoc, add-one, add-zero, length-append, arith}
use Rattle.std.specs.List.{flat_map}
use Rattle.std.proofs.Math.Seq.{take-suc}
use Rattle.std.proofs.lemmas.Bool.{cases_lt}
use Rattle.std.proofs.lemmas.Grind.{flat_map-append}
use Rattle.std.proofs.lemmas.List.{append-nil, length-map, drop_more, drop_all}
use Rattle.std.proofs.lemmas.List.Folds.{flat_map-map}
use Rattle.asm_core.specs.Lists.{count_from}
use Rattle.asm_core.specs.Shape.{letter_kinds, kinds_after, kind_lists, alternative_of, alternatives_of, shapes_of}
use Rattle.asm_core.specs.WellFormed.{IsInterface}
use Rattle.asm_core.specs.declared.shape.Kind.{Kind}
use Rattle.asm_core.specs.declared.shape.Shape.{Shape}
use Rattle.asm_core.specs.declared.interface.AltIface.{AltIface}
use Rattle.asm_core.specs.declared.interface.OperandIface.{OperandIface}
use Rattle.asm_core.specs.declared.interface.Interface.{Interface}
use Rattle.asm_places.specs.Counts.{kind_count, list_count, one_longer, all_longer, allowed_in, count_with, lists_with, shape_of, of_alternative}
use Rattle.asm_core.proofs.ShapeLaws.{inside_get}

-- ---- alternatives in order

unfoldable pub upto : ℕ → List ℕ
upto zero = []
upto (suc n) = upto n ++ n ∷ []

upto-more : (n : ℕ) → upto (n + 1) ≡ upto n ++ n ∷ []
unfolding upto
upto-more n = ap upto (add-one n)

counted_upto : {A : Type 0} (xs : List A) (n : ℕ) → upto n ++ count_from n xs ≡ upto (n + length xs)
counted_upto [] n = append-nil (upto n) ∙ ap upto (sym (add-zero n))
counted_upto (x ∷ xs) n =
    sym (append_assoc (upto n) (n ∷ []) (count_from (n + 1) xs)) ∙ ap (λ l. l ++ count_from (n + 1) xs) (sym (upto-more n)) ∙ counted_upto xs (n + 1) ∙ ap upto (let e : n + 1 + length xs ≡ n + suc (length xs) = omega arith in e)

alternatives_by : List OperandIface → List ℕ
alternatives_by os = elim os [ [] ↦ 0 ∷ [] | o ∷ rest ↦ count_from 0 o.alts ]

counted_length : {A : Type 0} (xs : List A) (n : ℕ) → length (count_from n xs) ≡ length xs
counted_length [] n = refl
counted_length (x ∷ xs) n = ap suc (counted_length xs (n + 1))

by_upto : (os : List OperandIface) → alternatives_by os ≡ upto (length (alternatives_by os))
unfolding alternatives_by upto
by_upto [] = refl
by_upto (o ∷ os) = counted_upto o.alts 0 ∙ ap upto (let e : 0 + length o.alts ≡ length o.alts = omega arith in e ∙ sym (counted_length o.alts 0))

pub alternatives_upto : (i : Interface) → alternatives_of i ≡ upto (length (alternatives_of i))
unfolding alternatives_by
alternatives_upto i = by_upto i.operands

pub alternatives_none : (i : Interface) → slice_get i.operands 0 ≡ None → length (alternatives_of i) ≡ 1
alternatives_none i e = go i.operands e
  where
    go : (os : List OperandIface) → slice_get os 0 ≡ None → length (elim os as (λ x. List ℕ) [ [] ↦ 0 ∷ [] | o ∷ rest ↦ count_from 0 o.alts ]) ≡ 1
    go [] e = refl
    go (o ∷ os) e = cc

pub alternatives_some : (i : Interface) (o : OperandIface) → slice_get i.operands 0 ≡ Some o → length (alternatives_of i) ≡ length o.alts
alternatives_some i o e = go i.operands e
  where
    go : (os : List OperandIface) → slice_get os 0 ≡ Some o → length (elim os as (λ x. List ℕ) [ [] ↦ 0 ∷ [] | q ∷ rest ↦ count_from 0 q.alts ]) ≡ length o.alts
    go [] e = cc
    go (q ∷ os) e = let same : q ≡ o = cc in counted_length q.alts 0 ∙ ap (λ (x : OperandIface). length x.alts) same

-- ---- shapes by alternative

abbrev pub shapes_upto : Interface → ℕ → List Shape
shapes_upto i n = flat_map (of_alternative i) (upto n)

pub shapes_begun : (i : Interface) → shapes_upto i 0 ≡ []
unfolding upto
shapes_begun i = refl

pub shapes_more : (i : Interface) (n : ℕ) → shapes_upto i (n + 1) ≡ shapes_upto i n ++ of_alternative i n
shapes_more i n = ap (flat_map (of_alternative i)) (upto-more n) ∙ flat_map-append (of_alternative i) (upto n) (n ∷ []) ∙ ap (λ l. shapes_upto i n ++ l) (append-nil (of_alternative i n))

pub shapes_done : (i : Interface) → shapes_upto i (length (alternatives_of i)) ≡ shapes_of i
shapes_done i = ap (flat_map (of_alternative i)) (sym (alternatives_upto i))

-- ---- counts

-- ties lead to operands before
TiesBelow : ℕ → List AltIface → Type 0
TiesBelow n alts = (j t : ℕ) (alt : AltIface) → slice_get alts j ≡ Some alt → alt.tied ≡ Some t → t < n + j

flat_length : {A B : Type 0} (f : A → List B) (xs : List A) (n : ℕ) → ((x : A) → length (f x) ≡ n) → length (flat_map f xs) ≡ length xs * n
flat_length f [] n each = omega arith
flat_length f (x ∷ xs) n each =
    let rest = flat_length f xs n each in
    let first = each x in
    length-append (f x) (flat_map f xs) ∙ (let e : length (f x) + length (flat_map f xs) ≡ n + length xs * n = omega arith in e) ∙ (let e : n + length xs * n ≡ suc (length xs) * n = omega arith in e)

some_length : {A : Type 0} (o : Option A) (x : A) → o ≡ Some x → length (option_to_list o) ≡ 1
some_length None x h = cc
some_length (Some y) x h = refl

kinds_counted : (before : List Kind) (alt : AltIface) → ((t : ℕ) → alt.tied ≡ Some t → t < length before) → length (kinds_after before alt) ≡ kind_count alt
kinds_counted before alt below = go alt.tied below
  where
    go : (tied : Option ℕ) → ((t : ℕ) → tied ≡ Some t → t < length before)
        → length (elim tied as (λ x. List Kind) [ None ↦ letter_kinds alt | Some k ↦ option_to_list (slice_get before k) ]) ≡ (elim tied as (λ x. ℕ) [ None ↦ length (letter_kinds alt) | Some k ↦ 1 ])
    go None below = refl
    go (Some t) below = let x = inside_get before t (below t refl) in some_length (slice_get before t) x.0 x.1

lists_counted : (before : List Kind) (alts : List AltIface) → TiesBelow (length before) alts → length (kind_lists before alts) ≡ list_count alts
unfolding list_count TiesBelow
lists_counted before [] ties = refl
lists_counted before (alt ∷ alts) ties =
    flat_length (λ kind. kind_lists (before ++ kind ∷ []) alts) (kinds_after before alt) (list_count alts)
    (λ kind. lists_counted (before ++ kind ∷ []) alts (λ j t a is tied.
    let lt = ties (suc j) t a is tied in
    let long : length (before ++ kind ∷ []) ≡ length before + 1 = length-append before (kind ∷ []) in
    omega arith))
    ∙ ap (λ n. n * list_count alts) (kinds_counted before alt (λ t tied. let lt = ties 0 t alt refl tied in omega arith))

-- each operand has the alternative
AllHave : ℕ → List OperandIface → Type 0
AllHave a os = (k : ℕ) (o : OperandIface) → slice_get os k ≡ Some o → (alt : AltIface) × (slice_get o.alts a ≡ Some alt)

record IsAllowedAt (a j : ℕ) (os : List OperandIface) (alt : AltIface) : Type 0 where
  operand : OperandIface
  is_operand : slice_get os j ≡ Some operand
  is_alternative : slice_get operand.alts a ≡ Some alt

allowed_at : (a : ℕ) (os : List OperandIface) → AllHave a os → (j : ℕ) (alt : AltIface) → slice_get (allowed_in a os) j ≡ Some alt → IsAllowedAt a j os alt
unfolding AllHave
allowed_at a [] all j alt is = cc
allowed_at a (o ∷ os) all j alt is =
    let first = all 0 o refl in
    behind (allowed_at a os (λ k. all (suc k))) first.0 first.1 j (sym (ap (λ x. slice_get (option_to_list x ++ allowed_in a os) j) first.1) ∙ is)
  where
    behind : ((j : ℕ) (alt : AltIface) → slice_get (allowed_in a os) j ≡ Some alt → IsAllowedAt a j os alt) → (b : AltIface) → slice_get o.alts a ≡ Some b
        → (j : ℕ) → slice_get (b ∷ allowed_in a os) j ≡ Some alt → IsAllowedAt a j (o ∷ os) alt
    behind rest b e zero is = record { operand = o; is_operand = refl; is_alternative = e ∙ is }
    behind rest b e (suc j) is = let r = rest j alt is in record { operand = r.operand; is_operand = r.is_operand; is_alternative = r.is_alternative }

first_of : (os : List OperandIface) (k : ℕ) (o : OperandIface) → slice_get os k ≡ Some o → (q : OperandIface) × (slice_get os 0 ≡ Some q)
first_of [] k o is = cc
first_of (q ∷ os) k o is = (q, refl)

all_have : (i : Interface) → IsInterface i → (a : ℕ) → a < length (alternatives_of i) → AllHave a i.operands
unfolding AllHave
all_have i interface a below k o is =
    let first = first_of i.operands k o is in
    let counts = interface.counts k 0 o first.0 is first.1 in
    let many = alternatives_some i first.0 first.1 in
    inside_get o.alts a (omega arith)

pub alternative_counted : (i : Interface) → IsInterface i → (a : ℕ) → a < length (alternatives_of i) → length (kind_lists [] (alternative_of i a)) ≡ list_count (alternative_of i a)
unfolding TiesBelow
alternative_counted i interface a below = lists_counted [] (alternative_of i a) (λ j t alt is tied.
    let r = allowed_at a i.operands (all_have i interface a below) j alt is in
    let tie = interface.ties j a t r.operand alt (record { is_operand = r.is_operand; is_alternative = r.is_alternative }) tied in
    let before = tie.before in
    omega arith)

pub shapes_counted : (i : Interface) → IsInterface i → (a : ℕ) → a < length (alternatives_of i) → length (shapes_upto i (a + 1)) ≡ length (shapes_upto i a) + list_count (alternative_of i a)
shapes_counted i interface a below =
    ap length (shapes_more i a) ∙ length-append (shapes_upto i a) (of_alternative i a)
    ∙ ap (λ n. length (shapes_upto i a) + n) (length-map (kind_lists [] (alternative_of i a)) (shape_of a) ∙ alternative_counted i interface a below)

pub cut_product : (a n : ℕ) → min (min 65 a * n) 65 ≡ min 65 (a * n)
cut_product a zero = omega arith
cut_product a (suc n) = elim (cases_lt a 65) [
  | inl below ↦ let e : min 65 a ≡ a = omega arith in ap (λ x. min (x * suc n) 65) e ∙ (let f : min (a * suc n) 65 ≡ min 65 (a * suc n) = omega arith in f)
  | inr above ↦
      let e : min 65 a ≡ 65 = omega arith in
      let big : 65 ≤ 65 * suc n = omega arith in
      let more : 65 ≤ a * suc n = grind arith in
      ap (λ x. min (x * suc n) 65) e ∙ (let f : min (65 * suc n) 65 ≡ min 65 (a * suc n) = omega arith in f)
]

pub count_append : (alts : List AltIface) (alt : AltIface) → list_count (alts ++ alt ∷ []) ≡ list_count alts * kind_count alt
unfolding list_count
count_append [] alt = omega arith
count_append (x ∷ xs) alt = ap (λ n. kind_count x * n) (count_append xs alt) ∙ (let e : kind_count x * (list_count xs * kind_count alt) ≡ kind_count x * list_count xs * kind_count alt = grind arith in e)

-- ---- a loop over the operands

allowed_more : (a : ℕ) (os : List OperandIface) (k : ℕ) (d : OperandIface) → k < length os → allowed_in a (take (k + 1) os) ≡ allowed_in a (take k os) ++ option_to_list (slice_get (get_or os k d).alts a)
allowed_more a os k d lt =
    ap (allowed_in a) (ap (λ n. take n os) (add-one k) ∙ take-suc os k d lt)
    ∙ flat_map-append (λ (o : OperandIface). option_to_list (slice_get o.alts a)) (take k os) (get_or os k d ∷ [])
    ∙ ap (λ l. allowed_in a (take k os) ++ l) (append-nil (option_to_list (slice_get (get_or os k d).alts a)))

count_kept : (a : ℕ) (os : List OperandIface) (k : ℕ) (d : OperandIface) (count : ℕ) → k < length os → slice_get (get_or os k d).alts a ≡ None
    → count ≡ min 65 (list_count (allowed_in a (take k os))) → count ≡ min 65 (list_count (allowed_in a (take (k + 1) os)))
count_kept a os k d count lt none h =
    h ∙ ap (λ l. min 65 (list_count l)) (sym (allowed_more a os k d lt ∙ ap (λ o. allowed_in a (take k os) ++ option_to_list o) none ∙ append-nil (allowed_in a (take k os))))

count_grown : (a : ℕ) (os : List OperandIface) (k : ℕ) (d : OperandIface) (count kinds : ℕ) (alt : AltIface) → k < length os → slice_get (get_or os k d).alts a ≡ Some alt → kinds ≡ kind_count alt
    → count ≡ min 65 (list_count (allowed_in a (take k os))) → min (count * kinds) 65 ≡ min 65 (list_count (allowed_in a (take (k + 1) os)))
count_grown a os k d count kinds alt lt some is h =
    ap (λ n. min (n * kinds) 65) h ∙ ap (λ n. min (min 65 (list_count (allowed_in a (take k os))) * n) 65) is
    ∙ cut_product (list_count (allowed_in a (take k os))) (kind_count alt)
    ∙ ap (min 65) (sym (ap list_count (allowed_more a os k d lt ∙ ap (λ o. allowed_in a (take k os) ++ option_to_list o) some) ∙ count_append (allowed_in a (take k os)) alt))

flat_flat : {A B C : Type 0} (f : A → List B) (g : B → List C) (xs : List A) → flat_map g (flat_map f xs) ≡ flat_map (λ x. flat_map g (f x)) xs
flat_flat f g [] = refl
flat_flat f g (x ∷ xs) = flat_map-append g (f x) (flat_map f xs) ∙ ap (λ l. flat_map g (f x) ++ l) (flat_flat f g xs)

flat_same : {A B : Type 0} (f g : A → List B) (xs : List A) → ((x : A) → f x ≡ g x) → flat_map f xs ≡ flat_map g xs
flat_same f g [] h = refl
flat_same f g (x ∷ xs) h = ap (λ l. l ++ flat_map f xs) (h x) ∙ ap (λ l. g x ++ l) (flat_same f g xs h)

longer_same : (alt : AltIface) (alts : List AltIface) (lists : List (List Kind)) → flat_map (λ b. kind_lists b alts) (all_longer alt lists) ≡ flat_map (λ b. kind_lists b (alt ∷ alts)) lists
longer_same alt alts lists =
    flat_flat (one_longer alt) (λ b. kind_lists b alts) lists
    ∙ flat_same (λ b. flat_map (λ b. kind_lists b alts) (one_longer alt b)) (λ b. kind_lists b (alt ∷ alts)) lists
    (λ b. flat_map-map (λ b. kind_lists b alts) (λ kind. b ++ kind ∷ []) (kinds_after b alt))

-- what is left of the operands gives what all give
lists_kept : (a : ℕ) (os : List OperandIface) (k : ℕ) (d : OperandIface) (lists all : List (List Kind)) → k < length os → slice_get (get_or os k d).alts a ≡ None
    → flat_map (λ b. kind_lists b (allowed_in a (drop k os))) lists ≡ all → flat_map (λ b. kind_lists b (allowed_in a (drop (k + 1) os))) lists ≡ all
lists_kept a os k d lists all lt none h =
    ap (λ l. flat_map (λ b. kind_lists b l) lists) (sym (ap (allowed_in a) (drop_more os k d lt) ∙ ap (λ o. option_to_list o ++ allowed_in a (drop (k + 1) os)) none)) ∙ h

lists_grown : (a : ℕ) (os : List OperandIface) (k : ℕ) (d : OperandIface) (alt : AltIface) (lists all : List (List Kind)) → k < length os → slice_get (get_or os k d).alts a ≡ Some alt
    → flat_map (λ b. kind_lists b (allowed_in a (drop k os))) lists ≡ all → flat_map (λ b. kind_lists b (allowed_in a (drop (k + 1) os))) (all_longer alt lists) ≡ all
lists_grown a os k d alt lists all lt some h =
    longer_same alt (allowed_in a (drop (k + 1) os)) lists
    ∙ ap (λ l. flat_map (λ b. kind_lists b l) lists) (sym (ap (allowed_in a) (drop_more os k d lt) ∙ ap (λ o. option_to_list o ++ allowed_in a (drop (k + 1) os)) some)) ∙ h

pub lists_begun : (alts : List AltIface) → flat_map (λ b. kind_lists b alts) ([] ∷ []) ≡ kind_lists [] alts
lists_begun alts = append-nil (kind_lists [] alts)

singles : {A : Type 0} (xs : List A) → flat_map (λ x. x ∷ []) xs ≡ xs
singles [] = refl
singles (x ∷ xs) = ap (λ l. x ∷ l) (singles xs)

pub lists_done : (a : ℕ) (os : List OperandIface) (k : ℕ) (lists all : List (List Kind)) → length os ≤ k → flat_map (λ b. kind_lists b (allowed_in a (drop k os))) lists ≡ all → lists ≡ all
lists_done a os k lists all past h = sym (ap (λ l. flat_map (λ b. kind_lists b (allowed_in a l)) lists) (drop_all k os past) ∙ singles lists) ∙ h

-- ---- loops that make lists

pub flat_more : {A B : Type 0} (f : A → List B) (before : List B) (xs : List A) (k : ℕ) (d : A) → k < length xs → (before ++ flat_map f (take k xs)) ++ f (get_or xs k d) ≡ before ++ flat_map f (take (k + 1) xs)
flat_more f before xs k d lt =
    append_assoc before (flat_map f (take k xs)) (f (get_or xs k d))
    ∙ ap (λ l. before ++ l) (ap (λ l. flat_map f (take k xs) ++ l) (sym (append-nil (f (get_or xs k d)))) ∙ sym (flat_map-append f (take k xs) (get_or xs k d ∷ []))
    ∙ ap (flat_map f) (sym (ap (λ n. take n xs) (add-one k) ∙ take-suc xs k d lt)))

-- ---- one more operand

pub count_more : (a : ℕ) (os : List OperandIface) (k : ℕ) (o : OperandIface) (allowed : Option AltIface) (count : ℕ) → k < length os → o ≡ get_or os k o → allowed ≡ slice_get o.alts a
    → count ≡ min 65 (list_count (allowed_in a (take k os))) → count_with allowed count ≡ min 65 (list_count (allowed_in a (take (k + 1) os)))
count_more a os k o None count lt is found h = count_kept a os k o count lt (ap (λ (x : OperandIface). slice_get x.alts a) (sym is) ∙ sym found) h
count_more a os k o (Some alt) count lt is found h = count_grown a os k o count (kind_count alt) alt lt (ap (λ (x : OperandIface). slice_get x.alts a) (sym is) ∙ sym found) refl h

pub lists_more : (a : ℕ) (os : List OperandIface) (k : ℕ) (o : OperandIface) (allowed : Option AltIface) (lists all : List (List Kind)) → k < length os → o ≡ get_or os k o → allowed ≡ slice_get o.alts a
    → flat_map (λ b. kind_lists b (allowed_in a (drop k os))) lists ≡ all → flat_map (λ b. kind_lists b (allowed_in a (drop (k + 1) os))) (lists_with allowed lists) ≡ all
lists_more a os k o None lists all lt is found h = lists_kept a os k o lists all lt (ap (λ (x : OperandIface). slice_get x.alts a) (sym is) ∙ sym found) h
lists_more a os k o (Some alt) lists all lt is found h = lists_grown a os k o alt lists all lt (ap (λ (x : OperandIface). slice_get x.alts a) (sym is) ∙ sym found) h

-- an alternative without shapes
pub no_shapes : (i : Interface) → IsInterface i → (a : ℕ) → a < length (alternatives_of i) → min 65 (list_count (alternative_of i a)) ≡ 0 → of_alternative i a ≡ []
no_shapes i interface a below none =
    let count = alternative_counted i interface a below in
    let empty : length (kind_lists [] (alternative_of i a)) ≡ 0 = omega arith in
    ap (map (shape_of a)) (no_items (kind_lists [] (alternative_of i a)) empty)
  where
    no_items : {A : Type 0} (xs : List A) → length xs ≡ 0 → xs ≡ []
    no_items [] h = refl
    no_items (x ∷ xs) h = absurd (omega arith)

pub cut_sum : (count added before more total sum : ℕ) → sum ≡ min (count + added) 65 → count ≡ min 65 before → added ≡ min 65 more → total ≡ before + more → sum ≡ min 65 total
cut_sum count added before more total sum e f g h = omega arith
