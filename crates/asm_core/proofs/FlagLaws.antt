-- Reading a flag of a set that was made from truth values.
use Rattle.std.proofs.Common.{◌≡◌, ℕ, ◌+◌, ◌*◌, ◌/◌, ◌%◌, ◌<◌, ◌≤◌, ◌==◌, Bool, true, false, arith, refl, ap, ◌∙◌}
use Rattle.asm_core.specs.Flag.{flag_in, flag_set, Truths, bit_if}
use Rattle.asm_core.specs.declared.flag.Flag.{Flag}
use Rattle.asm_core.specs.declared.flag.Flag.TheVariants.{Cf, Pf, Af, Zf, Sf, Of, Df}

-- the truth value of a flag
abbrev pub truth_of : Flag → Truths → Bool
truth_of Cf t = t.cf
truth_of Pf t = t.pf
truth_of Af t = t.af
truth_of Zf t = t.zf
truth_of Sf t = t.sf
truth_of Of t = t.of
truth_of Df t = t.df

abbrev bit : Bool → ℕ
bit b = bit_if b 1

bit_small : (b : Bool) → bit b ≤ 1
bit_small true = omega arith
bit_small false = omega arith

bit_if-bit : (b : Bool) (w : ℕ) → bit_if b w ≡ w * bit b
bit_if-bit true w = omega arith
bit_if-bit false w = omega arith

bit-one : (b : Bool) → (bit b == 1) ≡ b
bit-one true = refl
bit-one false = refl

-- seven bits as one number
abbrev joined : ℕ → ℕ → ℕ → ℕ → ℕ → ℕ → ℕ → ℕ
joined a b c d e f g = a + 2 * b + 4 * c + 8 * d + 16 * e + 32 * f + 64 * g

record AreBits (a b c d e f g : ℕ) : Type 0 where
  is_a : a ≤ 1
  is_b : b ≤ 1
  is_c : c ≤ 1
  is_d : d ≤ 1
  is_e : e ≤ 1
  is_f : f ≤ 1
  is_g : g ≤ 1

bit-0 : (a b c d e f g : ℕ) → AreBits a b c d e f g → joined a b c d e f g / 1 % 2 ≡ a
bit-0 a b c d e f g bits = omega arith

bit-1 : (a b c d e f g : ℕ) → AreBits a b c d e f g → joined a b c d e f g / 2 % 2 ≡ b
bit-1 a b c d e f g bits = omega arith

bit-2 : (a b c d e f g : ℕ) → AreBits a b c d e f g → joined a b c d e f g / 4 % 2 ≡ c
bit-2 a b c d e f g bits = omega arith

bit-3 : (a b c d e f g : ℕ) → AreBits a b c d e f g → joined a b c d e f g / 8 % 2 ≡ d
bit-3 a b c d e f g bits = omega arith

bit-4 : (a b c d e f g : ℕ) → AreBits a b c d e f g → joined a b c d e f g / 16 % 2 ≡ e
bit-4 a b c d e f g bits = omega arith

bit-5 : (a b c d e f g : ℕ) → AreBits a b c d e f g → joined a b c d e f g / 32 % 2 ≡ f
bit-5 a b c d e f g bits = omega arith

bit-6 : (a b c d e f g : ℕ) → AreBits a b c d e f g → joined a b c d e f g / 64 % 2 ≡ g
bit-6 a b c d e f g bits = omega arith

module _ (t : Truths) where
  number : (flag_set t).0 ≡ joined (bit t.cf) (bit t.pf) (bit t.af) (bit t.zf) (bit t.sf) (bit t.of) (bit t.df)
  unfolding flag_set
  number = cc (bit_if-bit t.pf 2, bit_if-bit t.af 4, bit_if-bit t.zf 8, bit_if-bit t.sf 16, bit_if-bit t.of 32, bit_if-bit t.df 64)

  bits : AreBits (bit t.cf) (bit t.pf) (bit t.af) (bit t.zf) (bit t.sf) (bit t.of) (bit t.df)
  bits = record { is_a = bit_small t.cf; is_b = bit_small t.pf; is_c = bit_small t.af; is_d = bit_small t.zf; is_e = bit_small t.sf; is_f = bit_small t.of; is_g = bit_small t.df }

  -- seven bits
  pub flag_set_small : (flag_set t).0 < 128
  flag_set_small = let is = number in let small = bits in omega arith

  -- a flag of the set is as the truth value says
  pub flag_in-flag_set : (f : Flag) → flag_in f (flag_set t) ≡ truth_of f t
  flag_in-flag_set Cf = ap (λ n. (n / 1 % 2) == 1) number ∙ ap (λ n. n == 1) (bit-0 _ _ _ _ _ _ _ bits) ∙ bit-one t.cf
  flag_in-flag_set Pf = ap (λ n. (n / 2 % 2) == 1) number ∙ ap (λ n. n == 1) (bit-1 _ _ _ _ _ _ _ bits) ∙ bit-one t.pf
  flag_in-flag_set Af = ap (λ n. (n / 4 % 2) == 1) number ∙ ap (λ n. n == 1) (bit-2 _ _ _ _ _ _ _ bits) ∙ bit-one t.af
  flag_in-flag_set Zf = ap (λ n. (n / 8 % 2) == 1) number ∙ ap (λ n. n == 1) (bit-3 _ _ _ _ _ _ _ bits) ∙ bit-one t.zf
  flag_in-flag_set Sf = ap (λ n. (n / 16 % 2) == 1) number ∙ ap (λ n. n == 1) (bit-4 _ _ _ _ _ _ _ bits) ∙ bit-one t.sf
  flag_in-flag_set Of = ap (λ n. (n / 32 % 2) == 1) number ∙ ap (λ n. n == 1) (bit-5 _ _ _ _ _ _ _ bits) ∙ bit-one t.of
  flag_in-flag_set Df = ap (λ n. (n / 64 % 2) == 1) number ∙ ap (λ n. n == 1) (bit-6 _ _ _ _ _ _ _ bits) ∙ bit-one t.df
