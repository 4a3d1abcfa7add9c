-- Punctuators in three bytes, padded with 0.
use Rattle.std.proofs.Common.{◌≡◌, ℕ, ◌+◌, ◌<◌, ◌≤◌, Bool, true, false, List, [], ◌∷◌, drop, length, get_or, cond, refl, arith, ◌==◌, ◌||◌, ◌&&◌, ◌∙◌, add-zero, get_or-drop, length-drop}
use Rattle.std.proofs.lemmas.Bool.{eqb-true}
use Rattle.std.specs.List.{list_all}
use Rattle.c_tokens.specs.Puncts.{threes, twos, ones, one_of, begins, punctuator_len}

pub and_left : (a b : Bool) → (a && b) ≡ true → a ≡ true
and_left true b h = refl
and_left false b h = h

pub and_right : (a b : Bool) → (a && b) ≡ true → b ≡ true
and_right true b h = h
and_right false b h = cc

-- what stands past the end may be read as 0
padded : (bs : List ℕ) → punctuator_len bs ≡ punctuator_len (get_or bs 0 0 ∷ get_or bs 1 0 ∷ get_or bs 2 0 ∷ [])
unfolding punctuator_len
padded [] = refl
padded (b ∷ []) = refl
padded (b ∷ c ∷ []) = refl
padded (b ∷ c ∷ d ∷ bs) = refl

pub punctuator_len-at : (text : List ℕ) (i : ℕ) → punctuator_len (drop i text) ≡ punctuator_len (get_or text i 0 ∷ get_or text (i + 1) 0 ∷ get_or text (i + 2) 0 ∷ [])
punctuator_len-at text i = padded (drop i text) ∙ rw (get_or-drop i text 0 0, get_or-drop i text 1 0, get_or-drop i text 2 0, add-zero) refl

begins_fits : (w bs : List ℕ) → begins w bs ≡ true → length w ≤ length bs
begins_fits [] bs h = omega arith
begins_fits (w ∷ ws) [] h = cc
begins_fits (w ∷ ws) (b ∷ bs) h = omega (arith, begins_fits ws bs (and_right (w == b) (begins ws bs) h))

-- every word of the table has this length
abbrev pub all_of_len : ℕ → List (List ℕ) → Bool
all_of_len k table = list_all (λ w. length w == k) table

pub one_of_fits : (k : ℕ) (table : List (List ℕ)) (bs : List ℕ) → all_of_len k table ≡ true → one_of table bs ≡ true → k ≤ length bs
one_of_fits k [] bs a h = cc
one_of_fits k (w ∷ ws) bs a h =
    elim (begins w bs) as (λ t. begins w bs ≡ t → (t || one_of ws bs) ≡ true → k ≤ length bs) [
      | true ↦ λ e _. let same : length w ≡ k = eqb-true (length w) k (and_left (length w == k) (all_of_len k ws) a) in omega (arith, begins_fits w bs e)
      | false ↦ λ _ more. one_of_fits k ws bs (and_right (length w == k) (all_of_len k ws) a) more
    ] refl h

len_fits : (bs : List ℕ) → punctuator_len bs ≤ length bs
unfolding punctuator_len
len_fits bs =
    elim (one_of threes bs) as (λ t. one_of threes bs ≡ t → cond t 3 (cond (one_of twos bs) 2 (cond (one_of ones bs) 1 0)) ≤ length bs) [
      | true ↦ λ h. one_of_fits 3 threes bs refl h
      | false ↦ λ _. elim (one_of twos bs) as (λ t. one_of twos bs ≡ t → cond t 2 (cond (one_of ones bs) 1 0) ≤ length bs) [
        | true ↦ λ h. one_of_fits 2 twos bs refl h
        | false ↦ λ _. elim (one_of ones bs) as (λ t. one_of ones bs ≡ t → cond t 1 0 ≤ length bs) [
          | true ↦ λ h. one_of_fits 1 ones bs refl h
          | false ↦ λ _. omega arith
        ] refl
      ] refl
    ] refl

pub punctuator_fits : (text : List ℕ) (i : ℕ) → i < length text → i + punctuator_len (drop i text) ≤ length text
punctuator_fits text i lt = omega (arith, len_fits (drop i text), length-drop i text)

pub ruleset punctuator_rules = (punctuator_len-at, punctuator_fits)
