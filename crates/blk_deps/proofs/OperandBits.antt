-- Words whose bits are answers.
use Rattle.std.proofs.Common.{◌≡◌, ◌≢◌, ℕ, zero, suc, ◌+◌, ◌*◌, ◌%◌, ◌^◌, ◌<◌, ◌==◌, ◌||◌, Bool, true, false, List, [], ◌∷◌, max, take, length, get_or, bit_or, refl, ap, ap₂, sym, subst, ◌∙◌, arith}
use Rattle.std.specs.List.{list_any}
use Rattle.std.specs.Int.{bit_at}
use Rattle.std.proofs.Math.Pow.{pow-lt}
use Rattle.std.proofs.Math.Seq.{take-suc}
use Rattle.std.proofs.lemmas.Nat.Bits.{bit_at_or, bit_at-lt, bit_at-pow_same, bit_at-pow_other}
use Rattle.std.proofs.lemmas.Bool.Decides.{nat_tests}
use Rattle.std.proofs.lemmas.List.Folds.{list_any-append}
use Rattle.asm_core.specs.declared.sym.Arg.{Arg}
use Rattle.blk_deps.specs.Ground.{has_bit}
use Rattle.blk_deps.specs.Rules.{is_of_operand}
use Rattle.blk_deps.specs.LineMoves.{AreBits}

either_bit : (x y : ℕ) → x < 2 → y < 2 → (max x y == 1) ≡ ((x == 1) || (y == 1))
either_bit zero zero _ _ = refl
either_bit zero (suc zero) _ _ = refl
either_bit (suc zero) zero _ _ = refl
either_bit (suc zero) (suc zero) _ _ = refl
either_bit zero (suc (suc y)) _ h = absurd (omega arith)
either_bit (suc zero) (suc (suc y)) _ h = absurd (omega arith)
either_bit (suc (suc x)) y h _ = absurd (omega arith)

has_bit_or : (a b k : ℕ) → has_bit (bit_or a b) k ≡ (has_bit a k || has_bit b k)
has_bit_or a b k = ap (λ bit. bit == 1) (bit_at_or a b k)
    ∙ either_bit (bit_at a k) (bit_at b k) (bit_at-lt a k) (bit_at-lt b k)

pub bits_of_either : (a b : ℕ) (f g : ℕ → Bool) → AreBits a f → AreBits b g → AreBits (bit_or a b) (λ k. f k || g k)
bits_of_either a b f g first second = record
    { each = λ k within. has_bit_or a b k ∙ ap₂ (λ x y. x || y) (first.each k within) (second.each k within) }

or_false : (b : Bool) → (b || false) ≡ b
or_false true = refl
or_false false = refl

any_more : {X : Type 0} (test : X → Bool) (xs : List X) (i : ℕ) (d : X) → i < length xs
    → list_any test (take (i + 1) xs) ≡ (list_any test (take i xs) || test (get_or xs i d))
any_more test xs i d within =
    let next : i + 1 ≡ suc i = omega arith in
    ap (λ n. list_any test (take n xs)) next ∙ ap (list_any test) (take-suc xs i d within)
    ∙ list_any-append test (take i xs) (get_or xs i d ∷ [])
    ∙ ap (λ b. list_any test (take i xs) || b) (or_false (test (get_or xs i d)))

-- the bits of one item more
pub bits_of_more : {X : Type 0} (test : ℕ → X → Bool) (xs : List X) (i : ℕ) (d : X) (a b : ℕ) → i < length xs
    → AreBits a (λ k. list_any (test k) (take i xs)) → AreBits b (λ k. test k (get_or xs i d))
    → AreBits (bit_or a b) (λ k. list_any (test k) (take (i + 1) xs))
bits_of_more test xs i d a b within before here = record {
  each = λ k small. has_bit_or a b k ∙ ap₂ (λ x y. x || y) (before.each k small) (here.each k small)
      ∙ sym (any_more (test k) xs i d within);
}

one_bit : (k j : ℕ) → has_bit (2 ^ k) j ≡ (k == j)
one_bit k j = by_test (k == j) refl
  where
    by_test : (t : Bool) → (k == j) ≡ t → has_bit (2 ^ k) j ≡ (k == j)
    by_test true e =
        let same : k ≡ j = grind (arith, nat_tests, e) in
        ap (λ bit. bit == 1) (subst (λ j. bit_at (2 ^ k) j ≡ 1) same (bit_at-pow_same k)) ∙ sym e
    by_test false e =
        let apart : j ≢ k = λ same. absurd (grind (arith, nat_tests, e, same)) in
        ap (λ bit. bit == 1) (bit_at-pow_other k j apart) ∙ sym e

pub operand_bits : (k : ℕ) → k < 32 → AreBits (1 * 2 ^ k % 4294967296) (λ j. is_of_operand j (Arg.Memory k))
operand_bits k within =
    let small = pow-lt {i = k} {j = 32} within in
    let whole : 1 * 2 ^ k % 4294967296 ≡ 2 ^ k = omega arith in
    record { each = λ j _. ap (λ n. has_bit n j) whole ∙ one_bit k j }
