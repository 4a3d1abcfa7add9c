-- Sets of registers and tables of them, bit by bit.
use Rattle.std.proofs.Common.{◌≡◌, ℕ, zero, suc, ◌+◌, ◌/◌, ◌%◌, ◌^◌, ◌<◌, ◌==◌, ◌&&◌, ◌||◌, min, max, Bool, true, false, bit_and, bit_or, slice_index, [], ◌∷◌, refl, sym, ap, ◌∙◌, add-one, arith}
use Rattle.std.specs.Int.{bit_at}
use Rattle.std.proofs.lemmas.Nat.{shr-shr, or_disjoint}
use Rattle.std.proofs.lemmas.Nat.Bits.{bit_at_and, bit_at_or, bit_at-lt}
use Rattle.std.proofs.lemmas.Bool.{agree_below, agree_below_at, eqb-true}
use Rattle.std.proofs.Math.Bool.{and-true, and-false, true-and, false-and, or-false}
use Rattle.register_search.specs.Assignment.{registers_of}
use Rattle.register_search.specs.Table.{are_apart, some_below}

min_is_one : (x y : ℕ) → x < 2 → y < 2 → (min x y == 1) ≡ (x == 1 && y == 1)
min_is_one zero zero a b = refl
min_is_one zero (suc zero) a b = refl
min_is_one (suc zero) zero a b = refl
min_is_one (suc zero) (suc zero) a b = refl
min_is_one (suc (suc x)) y a b = absurd (omega arith)
min_is_one x (suc (suc y)) a b = absurd (omega arith)

max_is_one : (x y : ℕ) → x < 2 → y < 2 → (max x y == 1) ≡ (x == 1 || y == 1)
max_is_one zero zero a b = refl
max_is_one zero (suc zero) a b = refl
max_is_one (suc zero) zero a b = refl
max_is_one (suc zero) (suc zero) a b = refl
max_is_one (suc (suc x)) y a b = absurd (omega arith)
max_is_one x (suc (suc y)) a b = absurd (omega arith)

pub in_both : (a b i : ℕ) → (bit_at (bit_and a b) i == 1) ≡ (bit_at a i == 1 && bit_at b i == 1)
in_both a b i = ap (λ n. n == 1) (bit_at_and a b i) ∙ min_is_one (bit_at a i) (bit_at b i) (bit_at-lt a i) (bit_at-lt b i)

pub in_either : (a b i : ℕ) → (bit_at (bit_or a b) i == 1) ≡ (bit_at a i == 1 || bit_at b i == 1)
in_either a b i = ap (λ n. n == 1) (bit_at_or a b i) ∙ max_is_one (bit_at a i) (bit_at b i) (bit_at-lt a i) (bit_at-lt b i)

-- the sets that are apart from a choice, as the code writes them
abbrev pub apart_sets : ℕ → ℕ
apart_sets choice = slice_index (113427455640312821154458202477256070485 ∷ 68056473384187692692674921486353642291 ∷ 20016609818878733144904388672456953615 ∷ 1324055902416102970674609367438786815 ∷ 5192217631581220737344928932233215 ∷ 79228162495817593524129366015 ∷ 18446744073709551615 ∷ 441351967472034323558203122479595605 ∷ []) choice

-- what holds of each of the eight choices
pub each_choice : (P : ℕ → Type 0) → P 0 → P 1 → P 2 → P 3 → P 4 → P 5 → P 6 → P 7 → (choice : ℕ) → choice < 8 → P choice
each_choice P a b c d e f g h zero below = a
each_choice P a b c d e f g h (suc zero) below = b
each_choice P a b c d e f g h (suc (suc zero)) below = c
each_choice P a b c d e f g h (suc (suc (suc zero))) below = d
each_choice P a b c d e f g h (suc (suc (suc (suc zero)))) below = e
each_choice P a b c d e f g h (suc (suc (suc (suc (suc zero))))) below = f
each_choice P a b c d e f g h (suc (suc (suc (suc (suc (suc zero)))))) below = g
each_choice P a b c d e f g h (suc (suc (suc (suc (suc (suc (suc zero))))))) below = h
each_choice P a b c d e f g h (suc (suc (suc (suc (suc (suc (suc (suc n)))))))) below = absurd (omega arith)

abbrev IsTested : ℕ → Type 0
IsTested choice = (set : ℕ) → set < 128 → (bit_at (apart_sets choice) set == 1) ≡ are_apart set (registers_of choice)

tested : (choice : ℕ) → agree_below (λ n. bit_at (apart_sets choice) n == 1) (λ n. are_apart n (registers_of choice)) 128 ≡ true → IsTested choice
tested choice h set s = agree_below_at (λ n. bit_at (apart_sets choice) n == 1) (λ n. are_apart n (registers_of choice)) 128 set h s

apart_tests : (choice : ℕ) → choice < 8 → IsTested choice
apart_tests choice below =
    each_choice IsTested (tested 0 refl) (tested 1 refl) (tested 2 refl) (tested 3 refl) (tested 4 refl) (tested 5 refl) (tested 6 refl) (tested 7 refl) choice below

shifted : (t choice set : ℕ) (b : Bool) → are_apart set (registers_of choice) ≡ b
    → (bit_at (t / 2 ^ registers_of choice) set == 1 && b) ≡ (b && bit_at t (bit_or set (registers_of choice)) == 1)
shifted t choice set true e =
    let sum : bit_or set (registers_of choice) ≡ registers_of choice + set = or_disjoint set (registers_of choice) (eqb-true _ _ e) ∙ omega arith in
    let same : bit_at (t / 2 ^ registers_of choice) set ≡ bit_at t (bit_or set (registers_of choice)) = ap (λ n. n % 2) (shr-shr t (registers_of choice) set ∙ ap (λ n. t / 2 ^ n) (sym sum)) in
    and-true _ ∙ ap (λ n. n == 1) same
shifted t choice set false e = and-false _

-- the code's shift and mask
pub before_choice_bits : (t choice : ℕ) → choice < 8 → (set : ℕ) → set < 128
    → (bit_at (bit_and (t / 2 ^ registers_of choice) (apart_sets choice)) set == 1) ≡ (are_apart set (registers_of choice) && bit_at t (bit_or set (registers_of choice)) == 1)
before_choice_bits t choice below set s =
    in_both (t / 2 ^ registers_of choice) (apart_sets choice) set
    ∙ ap (λ b. bit_at (t / 2 ^ registers_of choice) set == 1 && b) (apart_tests choice below set s)
    ∙ shifted t choice set (are_apart set (registers_of choice)) refl

pub some_below-more : (n : ℕ) (test : ℕ → Bool) → some_below (n + 1) test ≡ (some_below n test || test n)
unfolding some_below
some_below-more n test = ap (λ m. some_below m test) (add-one n)

-- one more choice, which the class may take
pub one_more : (n : ℕ) (may : ℕ → Bool) (lead : ℕ → Bool) (old made joined : Bool)
    → old ≡ some_below n (λ k. may k && lead k) → may n ≡ true → made ≡ lead n → joined ≡ (old || made) → joined ≡ some_below (n + 1) (λ k. may k && lead k)
one_more n may lead old made joined e m l j =
    j ∙ ap (λ b. b || made) e ∙ ap (λ b. some_below n (λ k. may k && lead k) || b) (l ∙ sym (ap (λ b. b && lead n) m ∙ true-and _)) ∙ sym (some_below-more n (λ k. may k && lead k))

-- and one which it may not
pub one_less : (n : ℕ) (may : ℕ → Bool) (lead : ℕ → Bool) (old : Bool)
    → old ≡ some_below n (λ k. may k && lead k) → may n ≡ false → old ≡ some_below (n + 1) (λ k. may k && lead k)
one_less n may lead old e m =
    let below : Bool = some_below n (λ k. may k && lead k) in
    e ∙ sym (or-false below) ∙ ap (λ b. below || b) (sym (ap (λ b. b && lead n) m ∙ false-and (lead n))) ∙ sym (some_below-more n (λ k. may k && lead k))
