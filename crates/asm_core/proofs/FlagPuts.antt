-- A flag that is written leaves the others.
use Rattle.std.proofs.Common.{◌≡◌, ℕ, ◌+◌, ◌*◌, ◌/◌, ◌%◌, ◌==◌, refl, ap, arith}
use Rattle.asm_core.specs.Flag.{flag_in, with_flag}
use Rattle.asm_core.specs.declared.flag.Flag.{Flag}
use Rattle.asm_core.specs.declared.flag.FlagSet.{FlagSet}
use Rattle.asm_core.specs.declared.flag.Flag.TheVariants.{Cf, Pf, Af, Zf, Sf, Of, Df}

bit_Cf_Pf : (v n : ℕ) → (n / 2 * 2 + v % 2 * 1 + n % 1) / 2 % 2 ≡ n / 2 % 2
bit_Cf_Pf v n = omega arith

bit_Cf_Af : (v n : ℕ) → (n / 2 * 2 + v % 2 * 1 + n % 1) / 4 % 2 ≡ n / 4 % 2
bit_Cf_Af v n = omega arith

bit_Cf_Zf : (v n : ℕ) → (n / 2 * 2 + v % 2 * 1 + n % 1) / 8 % 2 ≡ n / 8 % 2
bit_Cf_Zf v n = omega arith

bit_Cf_Sf : (v n : ℕ) → (n / 2 * 2 + v % 2 * 1 + n % 1) / 16 % 2 ≡ n / 16 % 2
bit_Cf_Sf v n = omega arith

bit_Cf_Of : (v n : ℕ) → (n / 2 * 2 + v % 2 * 1 + n % 1) / 32 % 2 ≡ n / 32 % 2
bit_Cf_Of v n = omega arith

bit_Cf_Df : (v n : ℕ) → (n / 2 * 2 + v % 2 * 1 + n % 1) / 64 % 2 ≡ n / 64 % 2
bit_Cf_Df v n = omega arith

bit_Pf_Cf : (v n : ℕ) → (n / 4 * 4 + v % 2 * 2 + n % 2) / 1 % 2 ≡ n / 1 % 2
bit_Pf_Cf v n = omega arith

bit_Pf_Af : (v n : ℕ) → (n / 4 * 4 + v % 2 * 2 + n % 2) / 4 % 2 ≡ n / 4 % 2
bit_Pf_Af v n = omega arith

bit_Pf_Zf : (v n : ℕ) → (n / 4 * 4 + v % 2 * 2 + n % 2) / 8 % 2 ≡ n / 8 % 2
bit_Pf_Zf v n = omega arith

bit_Pf_Sf : (v n : ℕ) → (n / 4 * 4 + v % 2 * 2 + n % 2) / 16 % 2 ≡ n / 16 % 2
bit_Pf_Sf v n = omega arith

bit_Pf_Of : (v n : ℕ) → (n / 4 * 4 + v % 2 * 2 + n % 2) / 32 % 2 ≡ n / 32 % 2
bit_Pf_Of v n = omega arith

bit_Pf_Df : (v n : ℕ) → (n / 4 * 4 + v % 2 * 2 + n % 2) / 64 % 2 ≡ n / 64 % 2
bit_Pf_Df v n = omega arith

bit_Af_Cf : (v n : ℕ) → (n / 8 * 8 + v % 2 * 4 + n % 4) / 1 % 2 ≡ n / 1 % 2
bit_Af_Cf v n = omega arith

bit_Af_Pf : (v n : ℕ) → (n / 8 * 8 + v % 2 * 4 + n % 4) / 2 % 2 ≡ n / 2 % 2
bit_Af_Pf v n = omega arith

bit_Af_Zf : (v n : ℕ) → (n / 8 * 8 + v % 2 * 4 + n % 4) / 8 % 2 ≡ n / 8 % 2
bit_Af_Zf v n = omega arith

bit_Af_Sf : (v n : ℕ) → (n / 8 * 8 + v % 2 * 4 + n % 4) / 16 % 2 ≡ n / 16 % 2
bit_Af_Sf v n = omega arith

bit_Af_Of : (v n : ℕ) → (n / 8 * 8 + v % 2 * 4 + n % 4) / 32 % 2 ≡ n / 32 % 2
bit_Af_Of v n = omega arith

bit_Af_Df : (v n : ℕ) → (n / 8 * 8 + v % 2 * 4 + n % 4) / 64 % 2 ≡ n / 64 % 2
bit_Af_Df v n = omega arith

bit_Zf_Cf : (v n : ℕ) → (n / 16 * 16 + v % 2 * 8 + n % 8) / 1 % 2 ≡ n / 1 % 2
bit_Zf_Cf v n = omega arith

bit_Zf_Pf : (v n : ℕ) → (n / 16 * 16 + v % 2 * 8 + n % 8) / 2 % 2 ≡ n / 2 % 2
bit_Zf_Pf v n = omega arith

bit_Zf_Af : (v n : ℕ) → (n / 16 * 16 + v % 2 * 8 + n % 8) / 4 % 2 ≡ n / 4 % 2
bit_Zf_Af v n = omega arith

bit_Zf_Sf : (v n : ℕ) → (n / 16 * 16 + v % 2 * 8 + n % 8) / 16 % 2 ≡ n / 16 % 2
bit_Zf_Sf v n = omega arith

bit_Zf_Of : (v n : ℕ) → (n / 16 * 16 + v % 2 * 8 + n % 8) / 32 % 2 ≡ n / 32 % 2
bit_Zf_Of v n = omega arith

bit_Zf_Df : (v n : ℕ) → (n / 16 * 16 + v % 2 * 8 + n % 8) / 64 % 2 ≡ n / 64 % 2
bit_Zf_Df v n = omega arith

bit_Sf_Cf : (v n : ℕ) → (n / 32 * 32 + v % 2 * 16 + n % 16) / 1 % 2 ≡ n / 1 % 2
bit_Sf_Cf v n = omega arith

bit_Sf_Pf : (v n : ℕ) → (n / 32 * 32 + v % 2 * 16 + n % 16) / 2 % 2 ≡ n / 2 % 2
bit_Sf_Pf v n = omega arith

bit_Sf_Af : (v n : ℕ) → (n / 32 * 32 + v % 2 * 16 + n % 16) / 4 % 2 ≡ n / 4 % 2
bit_Sf_Af v n = omega arith

bit_Sf_Zf : (v n : ℕ) → (n / 32 * 32 + v % 2 * 16 + n % 16) / 8 % 2 ≡ n / 8 % 2
bit_Sf_Zf v n = omega arith

bit_Sf_Of : (v n : ℕ) → (n / 32 * 32 + v % 2 * 16 + n % 16) / 32 % 2 ≡ n / 32 % 2
bit_Sf_Of v n = omega arith

bit_Sf_Df : (v n : ℕ) → (n / 32 * 32 + v % 2 * 16 + n % 16) / 64 % 2 ≡ n / 64 % 2
bit_Sf_Df v n = omega arith

bit_Of_Cf : (v n : ℕ) → (n / 64 * 64 + v % 2 * 32 + n % 32) / 1 % 2 ≡ n / 1 % 2
bit_Of_Cf v n = omega arith

bit_Of_Pf : (v n : ℕ) → (n / 64 * 64 + v % 2 * 32 + n % 32) / 2 % 2 ≡ n / 2 % 2
bit_Of_Pf v n = omega arith

bit_Of_Af : (v n : ℕ) → (n / 64 * 64 + v % 2 * 32 + n % 32) / 4 % 2 ≡ n / 4 % 2
bit_Of_Af v n = omega arith

bit_Of_Zf : (v n : ℕ) → (n / 64 * 64 + v % 2 * 32 + n % 32) / 8 % 2 ≡ n / 8 % 2
bit_Of_Zf v n = omega arith

bit_Of_Sf : (v n : ℕ) → (n / 64 * 64 + v % 2 * 32 + n % 32) / 16 % 2 ≡ n / 16 % 2
bit_Of_Sf v n = omega arith

bit_Of_Df : (v n : ℕ) → (n / 64 * 64 + v % 2 * 32 + n % 32) / 64 % 2 ≡ n / 64 % 2
bit_Of_Df v n = omega arith

bit_Df_Cf : (v n : ℕ) → (n / 128 * 128 + v % 2 * 64 + n % 64) / 1 % 2 ≡ n / 1 % 2
bit_Df_Cf v n = omega arith

bit_Df_Pf : (v n : ℕ) → (n / 128 * 128 + v % 2 * 64 + n % 64) / 2 % 2 ≡ n / 2 % 2
bit_Df_Pf v n = omega arith

bit_Df_Af : (v n : ℕ) → (n / 128 * 128 + v % 2 * 64 + n % 64) / 4 % 2 ≡ n / 4 % 2
bit_Df_Af v n = omega arith

bit_Df_Zf : (v n : ℕ) → (n / 128 * 128 + v % 2 * 64 + n % 64) / 8 % 2 ≡ n / 8 % 2
bit_Df_Zf v n = omega arith

bit_Df_Sf : (v n : ℕ) → (n / 128 * 128 + v % 2 * 64 + n % 64) / 16 % 2 ≡ n / 16 % 2
bit_Df_Sf v n = omega arith

bit_Df_Of : (v n : ℕ) → (n / 128 * 128 + v % 2 * 64 + n % 64) / 32 % 2 ≡ n / 32 % 2
bit_Df_Of v n = omega arith

-- a flag leaves the others
pub other_flag_kept : (f g : Flag) (v : ℕ) (s : FlagSet) → (f ≡ g → ⊥) → flag_in g (with_flag f v s) ≡ flag_in g s
other_flag_kept Cf Cf v s apart = absurd (apart refl)
other_flag_kept Cf Pf v s apart = ap (λ n. n == 1) (bit_Cf_Pf v s.0)
other_flag_kept Cf Af v s apart = ap (λ n. n == 1) (bit_Cf_Af v s.0)
other_flag_kept Cf Zf v s apart = ap (λ n. n == 1) (bit_Cf_Zf v s.0)
other_flag_kept Cf Sf v s apart = ap (λ n. n == 1) (bit_Cf_Sf v s.0)
other_flag_kept Cf Of v s apart = ap (λ n. n == 1) (bit_Cf_Of v s.0)
other_flag_kept Cf Df v s apart = ap (λ n. n == 1) (bit_Cf_Df v s.0)
other_flag_kept Pf Cf v s apart = ap (λ n. n == 1) (bit_Pf_Cf v s.0)
other_flag_kept Pf Pf v s apart = absurd (apart refl)
other_flag_kept Pf Af v s apart = ap (λ n. n == 1) (bit_Pf_Af v s.0)
other_flag_kept Pf Zf v s apart = ap (λ n. n == 1) (bit_Pf_Zf v s.0)
other_flag_kept Pf Sf v s apart = ap (λ n. n == 1) (bit_Pf_Sf v s.0)
other_flag_kept Pf Of v s apart = ap (λ n. n == 1) (bit_Pf_Of v s.0)
other_flag_kept Pf Df v s apart = ap (λ n. n == 1) (bit_Pf_Df v s.0)
other_flag_kept Af Cf v s apart = ap (λ n. n == 1) (bit_Af_Cf v s.0)
other_flag_kept Af Pf v s apart = ap (λ n. n == 1) (bit_Af_Pf v s.0)
other_flag_kept Af Af v s apart = absurd (apart refl)
other_flag_kept Af Zf v s apart = ap (λ n. n == 1) (bit_Af_Zf v s.0)
other_flag_kept Af Sf v s apart = ap (λ n. n == 1) (bit_Af_Sf v s.0)
other_flag_kept Af Of v s apart = ap (λ n. n == 1) (bit_Af_Of v s.0)
other_flag_kept Af Df v s apart = ap (λ n. n == 1) (bit_Af_Df v s.0)
other_flag_kept Zf Cf v s apart = ap (λ n. n == 1) (bit_Zf_Cf v s.0)
other_flag_kept Zf Pf v s apart = ap (λ n. n == 1) (bit_Zf_Pf v s.0)
other_flag_kept Zf Af v s apart = ap (λ n. n == 1) (bit_Zf_Af v s.0)
other_flag_kept Zf Zf v s apart = absurd (apart refl)
other_flag_kept Zf Sf v s apart = ap (λ n. n == 1) (bit_Zf_Sf v s.0)
other_flag_kept Zf Of v s apart = ap (λ n. n == 1) (bit_Zf_Of v s.0)
other_flag_kept Zf Df v s apart = ap (λ n. n == 1) (bit_Zf_Df v s.0)
other_flag_kept Sf Cf v s apart = ap (λ n. n == 1) (bit_Sf_Cf v s.0)
other_flag_kept Sf Pf v s apart = ap (λ n. n == 1) (bit_Sf_Pf v s.0)
other_flag_kept Sf Af v s apart = ap (λ n. n == 1) (bit_Sf_Af v s.0)
other_flag_kept Sf Zf v s apart = ap (λ n. n == 1) (bit_Sf_Zf v s.0)
other_flag_kept Sf Sf v s apart = absurd (apart refl)
other_flag_kept Sf Of v s apart = ap (λ n. n == 1) (bit_Sf_Of v s.0)
other_flag_kept Sf Df v s apart = ap (λ n. n == 1) (bit_Sf_Df v s.0)
other_flag_kept Of Cf v s apart = ap (λ n. n == 1) (bit_Of_Cf v s.0)
other_flag_kept Of Pf v s apart = ap (λ n. n == 1) (bit_Of_Pf v s.0)
other_flag_kept Of Af v s apart = ap (λ n. n == 1) (bit_Of_Af v s.0)
other_flag_kept Of Zf v s apart = ap (λ n. n == 1) (bit_Of_Zf v s.0)
other_flag_kept Of Sf v s apart = ap (λ n. n == 1) (bit_Of_Sf v s.0)
other_flag_kept Of Of v s apart = absurd (apart refl)
other_flag_kept Of Df v s apart = ap (λ n. n == 1) (bit_Of_Df v s.0)
other_flag_kept Df Cf v s apart = ap (λ n. n == 1) (bit_Df_Cf v s.0)
other_flag_kept Df Pf v s apart = ap (λ n. n == 1) (bit_Df_Pf v s.0)
other_flag_kept Df Af v s apart = ap (λ n. n == 1) (bit_Df_Af v s.0)
other_flag_kept Df Zf v s apart = ap (λ n. n == 1) (bit_Df_Zf v s.0)
other_flag_kept Df Sf v s apart = ap (λ n. n == 1) (bit_Df_Sf v s.0)
other_flag_kept Df Of v s apart = ap (λ n. n == 1) (bit_Df_Of v s.0)
other_flag_kept Df Df v s apart = absurd (apart refl)
