-- Numbers, registers and labels are read from codes of which none is a hole.
use Rattle.std.proofs.Common.{◌≡◌, ℕ, zero, suc, ◌+◌, ◌-◌, ◌==◌, ◌||◌, ◌&&◌, ◌≤◌, nat_le, nat_lt, not, ℤ, List, [], ◌∷◌, length, take, drop, Bool, true, false, cond, Option, None, Some, refl, sym, ◌∙◌, slice_index, arith}
use Rattle.std.proofs.Math.Dec.{eqb-suc-zero}
use Rattle.std.proofs.lemmas.Bool.{eqb-true}
use Rattle.std.specs.Cmp.Lexicographic.{pointwise, same_text}
use Rattle.std.specs.Prelude.{nat_eq}
use Rattle.std.specs.List.{list_all}
use Rattle.std.specs.Char.{digit_value}
use Rattle.std.specs.Str.Parse.{digits_value}
use Rattle.asm_core.specs.Cond.{entry_named}
use Rattle.asm_core.specs.Reading.Cut.{is_digit, is_word, is_number_label, is_unique_label}
use Rattle.asm_core.specs.Reading.Written.{register_names, register_named, is_numeral, numeral_value, magnitude_of, not_above, as_positive, as_negative, number_of}
use Rattle.asm_core.specs.Reading.Line.{Defined, is_reference, goal_of}
use Rattle.asm_core.specs.declared.reg.Reg.{Reg}
use Rattle.asm_core.specs.declared.reg.Slice.{Slice}

-- ---- codes of which none is a hole

abbrev pub no_hole : List ℕ → Bool
no_hole cs = list_all (λ c. not (c == 0)) cs

both_true : (a b : Bool) → (a && b) ≡ true → b ≡ true
both_true true b h = h
both_true false b h = cc

first_true : (a b : Bool) → (a && b) ≡ true → a ≡ true
first_true true b h = refl
first_true false b h = cc

and_of : (a b : Bool) → a ≡ true → b ≡ true → (a && b) ≡ true
and_of a b ha hb = rw (ha, hb) refl

all_implies : (p q : ℕ → Bool) → ((c : ℕ) → p c ≡ true → q c ≡ true) → (cs : List ℕ) → list_all p cs ≡ true → list_all q cs ≡ true
all_implies p q f [] h = refl
all_implies p q f (c ∷ cs) h = and_of (q c) (list_all q cs) (f c (first_true (p c) (list_all p cs) h)) (all_implies p q f cs (both_true (p c) (list_all p cs) h))

not_zero : (c : ℕ) → not (suc c == 0) ≡ true
not_zero c = rw (eqb-suc-zero c) refl

-- a code that passes a test which 0 doesn't
passes : (p : ℕ → Bool) → p 0 ≡ false → (c : ℕ) → p c ≡ true → not (c == 0) ≡ true
passes p none zero h = let wrong : false ≡ true = sym none ∙ h in cc
passes p none (suc c) h = not_zero c

-- what a choice between two gives, one of them gives
pub cond_some : {A : Type 0} (b : Bool) (x y : Option A) (a : A) (P : Type 0) → (b ≡ true → x ≡ Some a → P) → (b ≡ false → y ≡ Some a → P) → cond b x y ≡ Some a → P
cond_some true x y a P f g e = f refl e
cond_some false x y a P f g e = g refl e

first_code : (c : ℕ) (cs : List ℕ) → (slice_index cs 0 == suc c) ≡ true → no_hole (drop 1 cs) ≡ true → no_hole cs ≡ true
first_code c [] h rest = refl
first_code c (x ∷ xs) h rest = and_of (not (x == 0)) (no_hole xs) (let same : x ≡ suc c = eqb-true x (suc c) h in rw same (not_zero c)) rest

two_codes : (c d : ℕ) (cs : List ℕ) → (slice_index cs 0 == suc c) ≡ true → (slice_index cs 1 == suc d) ≡ true → no_hole (drop 2 cs) ≡ true → no_hole cs ≡ true
two_codes c d [] h k rest = refl
two_codes c d (x ∷ []) h k rest = first_code c (x ∷ []) h refl
two_codes c d (x ∷ y ∷ ys) h k rest = first_code c (x ∷ y ∷ ys) h (first_code d (y ∷ ys) k rest)

-- ---- numbers, registers

numeral_codes : (radix : ℕ) (ds : List ℕ) (n : ℕ) → nat_lt 36 radix ≡ false → numeral_value radix ds ≡ Some n → no_hole ds ≡ true
numeral_codes radix ds n low e =
    cond_some (is_numeral radix ds) (Some (digits_value radix ds)) None n (no_hole ds ≡ true)
    (λ h f. all_implies (λ d. nat_lt (digit_value d) radix) (λ d. not (d == 0)) (passes (λ d. nat_lt (digit_value d) radix) low) ds (both_true (nat_lt 0 (length ds)) _ h)) (λ h f. cc) e

magnitude_codes : (cs : List ℕ) (n : ℕ) → magnitude_of cs ≡ Some n → no_hole cs ≡ true
unfolding magnitude_of
magnitude_codes cs n e =
    cond_some ((slice_index cs 0 == 48) && nat_lt 1 (length cs)) _ (numeral_value 10 cs) n (no_hole cs ≡ true)
    (λ h f. let first = first_true (slice_index cs 0 == 48) _ h in
    cond_some (slice_index cs 1 == 120) (numeral_value 16 (drop 2 cs)) _ n (no_hole cs ≡ true)
    (λ k g. two_codes 47 119 cs first k (numeral_codes 16 (drop 2 cs) n refl g))
    (λ k g. cond_some (slice_index cs 1 == 98) (numeral_value 2 (drop 2 cs)) (numeral_value 8 (drop 1 cs)) n (no_hole cs ≡ true)
    (λ l r. two_codes 47 97 cs first l (numeral_codes 2 (drop 2 cs) n refl r)) (λ l r. first_code 47 cs first (numeral_codes 8 (drop 1 cs) n refl r)) g) f)
    (λ h f. numeral_codes 10 cs n refl f) e

bounded : (cs : List ℕ) (limit n : ℕ) (m : Option ℕ) → magnitude_of cs ≡ m → not_above m limit ≡ Some n → no_hole cs ≡ true
bounded cs limit n None e f = cc
bounded cs limit n (Some m) e f = magnitude_codes cs m e

positive : (cs : List ℕ) (limit : ℕ) (z : ℤ) (n : Option ℕ) → not_above (magnitude_of cs) limit ≡ n → as_positive n ≡ Some z → no_hole cs ≡ true
positive cs limit z None e f = cc
positive cs limit z (Some n) e f = bounded cs limit n (magnitude_of cs) refl e

negative : (cs : List ℕ) (limit : ℕ) (z : ℤ) (n : Option ℕ) → not_above (magnitude_of cs) limit ≡ n → as_negative n ≡ Some z → no_hole cs ≡ true
negative cs limit z None e f = cc
negative cs limit z (Some n) e f = bounded cs limit n (magnitude_of cs) refl e

pub number_codes : (cs : List ℕ) (z : ℤ) → number_of cs ≡ Some z → no_hole cs ≡ true
unfolding number_of
number_codes cs z e =
    cond_some (slice_index cs 0 == 45) _ _ z (no_hole cs ≡ true)
    (λ h f. first_code 44 cs h (negative (drop 1 cs) _ z (not_above (magnitude_of (drop 1 cs)) _) refl f)) (λ h f. positive cs _ z (not_above (magnitude_of cs) _) refl f) e

entry_codes : {A : Type 0} (cs : List ℕ) (rows : List (List ℕ × A)) (a : A) → list_all (λ (row : List ℕ × A). no_hole row.0) rows ≡ true → entry_named cs rows ≡ Some a → no_hole cs ≡ true
entry_codes cs [] a all e = cc
entry_codes cs (row ∷ rows) a all e =
    cond_some (pointwise nat_eq cs row.0) (Some row.1) (entry_named cs rows) a (no_hole cs ≡ true)
    (λ h f. let same : cs ≡ row.0 = same_text cs row.0 (sym h) in rw same (first_true (no_hole row.0) _ all)) (λ h f. entry_codes cs rows a (both_true (no_hole row.0) _ all) f) e

pub register_codes : (cs : List ℕ) (r : Reg × Slice) → register_named cs ≡ Some r → no_hole cs ≡ true
register_codes cs r e = entry_codes cs register_names r refl e

pub percent_codes : (cs : List ℕ) (r : Reg × Slice) → (slice_index cs 0 == 37) ≡ true → register_named (drop 1 cs) ≡ Some r → no_hole cs ≡ true
percent_codes cs r h e = first_code 36 cs h (register_codes (drop 1 cs) r e)

-- ---- labels

-- all codes but the last, and the last one
last_code : (n : ℕ) (cs : List ℕ) → length cs ≤ n + 1 → no_hole (take n cs) ≡ true → not (slice_index cs n == 0) ≡ true → no_hole cs ≡ true
last_code n [] short front last = refl
last_code zero (c ∷ []) short front last = and_of (not (c == 0)) true last refl
last_code zero (c ∷ d ∷ ds) short front last = absurd (omega arith)
last_code (suc n) (c ∷ cs) short front last =
    and_of (not (c == 0)) (no_hole cs) (first_true (not (c == 0)) (no_hole (take n cs)) front) (last_code n cs (omega arith) (both_true (not (c == 0)) (no_hole (take n cs)) front) last)

word_codes : (cs : List ℕ) → list_all is_word cs ≡ true → no_hole cs ≡ true
word_codes cs h = all_implies is_word (λ c. not (c == 0)) (passes is_word refl) cs h

digit_codes : (cs : List ℕ) → list_all is_digit cs ≡ true → no_hole cs ≡ true
digit_codes cs h = all_implies is_digit (λ c. not (c == 0)) (passes is_digit refl) cs h

is_one : (c : ℕ) → (c == 1) ≡ true → not (c == 0) ≡ true
is_one c h = passes (λ d. d == 1) refl c h

ends_reference : (c : ℕ) → ((c == 98) || (c == 102)) ≡ true → not (c == 0) ≡ true
ends_reference c h = passes (λ d. (d == 98) || (d == 102)) refl c h

unique_codes : (n : ℕ) (cs : List ℕ) → length cs ≤ n + 1 → (slice_index cs 0 == 46) ≡ true → (slice_index cs 1 == 76) ≡ true → (slice_index cs n == 1) ≡ true → list_all is_word (drop 2 (take n cs)) ≡ true
    → no_hole cs ≡ true
unique_codes n [] short dot letter last words = refl
unique_codes n (c ∷ []) short dot letter last words = first_code 45 (c ∷ []) dot refl
unique_codes zero (c ∷ d ∷ ds) short dot letter last words = absurd (omega arith)
unique_codes (suc zero) (c ∷ d ∷ []) short dot letter last words = two_codes 45 75 (c ∷ d ∷ []) dot letter refl
unique_codes (suc zero) (c ∷ d ∷ b ∷ ds) short dot letter last words = absurd (omega arith)
unique_codes (suc (suc n)) (c ∷ d ∷ ds) short dot letter last words =
    two_codes 45 75 (c ∷ d ∷ ds) dot letter (last_code n ds (omega arith) (word_codes (take n ds) words) (is_one (slice_index ds n) last))

unique_label_codes : (cs : List ℕ) → is_unique_label cs ≡ true → no_hole cs ≡ true
unique_label_codes cs h =
    let n = length cs - 1 in
    let dot = first_true (slice_index cs 0 == 46) _ h in
    let more = both_true (slice_index cs 0 == 46) _ h in
    let letter = first_true (slice_index cs 1 == 76) _ more in
    let rest = both_true (slice_index cs 1 == 76) _ more in
    let last = first_true (slice_index cs n == 1) _ rest in
    let words = both_true (slice_index cs n == 1) _ rest in
    unique_codes n cs (omega arith) dot letter last (first_true (list_all is_word (drop 2 (take n cs))) _ words)

-- a goal of a label is read from codes without a hole
pub record NameLabels (goal : List ℕ → Option (Option ℕ)) : Type 0 where
  pub each : (cs : List ℕ) (to : Option ℕ) → goal cs ≡ Some to → no_hole cs ≡ true

label_codes : (labels : List Defined) (inst : ℕ) (cs : List ℕ) (to : Option ℕ) → goal_of labels inst cs ≡ Some to → no_hole cs ≡ true
unfolding goal_of
label_codes labels inst cs to e =
    let n = length cs - 1 in
    let last = slice_index cs n in
    cond_some (is_reference (take n cs) && ((last == 98) || (last == 102))) _ _ to (no_hole cs ≡ true)
    (λ h f. let number = first_true (is_number_label (take n cs)) _ (first_true (is_reference (take n cs)) _ h) in
    let more = both_true (nat_lt 0 (length (take n cs))) _ number in
    let digits = both_true (nat_le (length (take n cs)) 4) _ more in
    last_code n cs (omega arith) (digit_codes (take n cs) digits) (ends_reference last (both_true (is_reference (take n cs)) _ h)))
    (λ h f. cond_some (is_unique_label cs) _ None to (no_hole cs ≡ true) (λ k g. unique_label_codes cs k) (λ k g. cc) f) e

pub goal_codes : (labels : List Defined) (inst : ℕ) → NameLabels (goal_of labels inst)
goal_codes labels inst = record { each = label_codes labels inst }
