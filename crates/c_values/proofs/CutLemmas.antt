-- Cutting a number that was computed modulo 2^128.
use Rattle.std.proofs.Common.{◌≡◌, ℕ, suc, ◌^◌, ◌<◌, ◌/◌, ◌%◌, ◌-◌, Bool, true, false, refl, ap, sym, ◌∙◌, arith, nat_lt}
use Rattle.std.proofs.lemmas.Int.{wrapping_mul_is, int_wrap_fits}
use Rattle.std.proofs.lemmas.Nat.{pow_below}
use Rattle.std.proofs.lemmas.Bool.{lt-ltb}
use Rattle.std.specs.Prelude.{ℤ, ◌*ℤ◌, FitsSigned, pos, negsuc, unsigned_abs, ◌==◌, if◌then◌else◌, Option, Some, None}
use Rattle.std.specs.Int.{w128, int_wrap, int_rem_euclid, int_div_euclid, int_shl, int_shr, cast_signed}
use Rattle.std.specs.Option.{option_map}
use Rattle.std.proofs.Math.Nat.{div-le_self}
use mir.Val.{sel}
use Rattle.c_values.specs.Numbers.{cut, value_count, bit_count, centered}
use Rattle.c_values.specs.declared.operator.Calculation.{Calculation}
use Rattle.c_values.specs.declared.operator.Shift.{Shift}
use Rattle.c_values.specs.Calculations.{exact, calculated, exact_shift, shifted}

-- A count of values divides 2^128.
record Divides (m : ℕ) : Type 0 where
  flips : (r : ℕ) → r < 2 ^ 128 → m - 1 - (2 ^ 128 - suc r) % m ≡ r % m
  nests : (n : ℕ) → n % 2 ^ 128 % m ≡ n % m
  nests_below : (n : ℕ) → (2 ^ 128 - 1 - n % 2 ^ 128) % m ≡ m - 1 - n % m

rem-sel : (m : ℕ) → Divides m → (b : Bool) (r : ℕ) → r < 2 ^ 128
    → int_rem_euclid (sel b (pos r) (negsuc (2 ^ 128 - suc r))) (pos m) ≡ pos (r % m)
rem-sel m d true r lt = refl
rem-sel m d false r lt = ap pos (d.flips r lt)

rem-cast : (m : ℕ) → Divides m → (r : ℕ) → r < 2 ^ 128 → int_rem_euclid (cast_signed w128 r) (pos m) ≡ pos (r % m)
rem-cast m d r lt = rem-sel m d (nat_lt r (2 ^ 127)) r lt

rem-int_wrap : (m : ℕ) → Divides m → (z : ℤ) → int_rem_euclid (int_wrap w128 z) (pos m) ≡ int_rem_euclid z (pos m)
unfolding int_wrap
rem-int_wrap m d (pos n) = rem-cast m d (n % 2 ^ 128) (omega arith) ∙ ap pos (d.nests n)
rem-int_wrap m d (negsuc n) = rem-cast m d (2 ^ 128 - 1 - n % 2 ^ 128) (omega arith) ∙ ap pos (d.nests_below n)

counts_divide : (a b c : Bool) → Divides (if a then 256 else if b then 65536 else if c then 4294967296 else 18446744073709551616)
counts_divide true b c = record { flips = λ r lt. omega arith; nests = λ n. omega arith; nests_below = λ n. omega arith }
counts_divide false true c = record { flips = λ r lt. omega arith; nests = λ n. omega arith; nests_below = λ n. omega arith }
counts_divide false false true = record { flips = λ r lt. omega arith; nests = λ n. omega arith; nests_below = λ n. omega arith }
counts_divide false false false = record { flips = λ r lt. omega arith; nests = λ n. omega arith; nests_below = λ n. omega arith }

pub cut-int_wrap : (size : ℕ) (signed : Bool) (z : ℤ) → cut size signed (int_wrap w128 z) ≡ cut size signed z
unfolding cut
cut-int_wrap size signed z =
    ap (λ r. centered signed (value_count size) (unsigned_abs r)) (rem-int_wrap (value_count size) (counts_divide (size == 1) (size == 2) (size == 4)) z)

option_map-cut : (size : ℕ) (signed : Bool) (o : Option ℤ) → option_map (cut size signed) (option_map (int_wrap w128) o) ≡ option_map (cut size signed) o
option_map-cut size signed None = refl
option_map-cut size signed (Some z) = ap Some (cut-int_wrap size signed z)

power_fits : (n : ℕ) → n < 64 → FitsSigned w128 (pos (2 ^ n))
power_fits n lt = record { sfits = pow_below n 127 (omega arith) }

pub int_shl-int_wrap : (x : ℤ) (n : ℕ) → FitsSigned w128 x → n < 64 → int_shl w128 x n ≡ int_wrap w128 (x *ℤ pos (2 ^ n))
int_shl-int_wrap x n fits lt = wrapping_mul_is w128 x (pos (2 ^ n)) fits (power_fits n lt)

pub int_shr-int_wrap : (x : ℤ) (n : ℕ) → FitsSigned w128 x → int_shr x n ≡ int_wrap w128 (int_div_euclid x (pos (2 ^ n)))
int_shr-int_wrap (pos a) n fits = sym (int_wrap_fits w128 (pos (a / 2 ^ n)) (record { sfits = omega (arith, div-le_self a (2 ^ n), fits.sfits) }))
int_shr-int_wrap (negsuc a) n fits = sym (int_wrap_fits w128 (negsuc (a / 2 ^ n)) (record { sfits = omega (arith, div-le_self a (2 ^ n), fits.sfits) }))

pub ruleset shift_steps = (int_shl-int_wrap, int_shr-int_wrap)

-- an amount below the width
pub shifted_within : (op : Shift) (size : ℕ) (signed : Bool) (x amount : ℤ) (k : ℕ) → amount ≡ pos k → k < bit_count size
    → Some (cut size signed (int_wrap w128 (exact_shift op (cut size signed x) k))) ≡ shifted op size signed x amount
unfolding shifted
shifted_within op size signed x amount k e lt =
    ap Some (cut-int_wrap size signed (exact_shift op (cut size signed x) k))
    ∙ ap (λ (b : Bool). if b then Some (cut size signed (exact_shift op (cut size signed x) k)) else None) (sym (lt-ltb k (bit_count size) lt))
    ∙ ap (shifted op size signed x) (sym e)

pub calculated_is : (op : Calculation) (size : ℕ) (signed : Bool) (x y : ℤ) (o : Option ℤ)
    → o ≡ option_map (int_wrap w128) (exact op (cut size signed x) (cut size signed y)) → option_map (cut size signed) o ≡ calculated op size signed x y
unfolding calculated
calculated_is op size signed x y o e =
    ap (option_map (cut size signed)) e ∙ option_map-cut size signed (exact op (cut size signed x) (cut size signed y))
