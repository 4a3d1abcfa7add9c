-- The usual arithmetic conversions give the same type in either order.
use Rattle.std.proofs.Common.{◌≡◌, ℕ, Bool, true, false, refl, arith}
use Rattle.std.proofs.lemmas.Bool.Decides.{nat_tests}
use Rattle.std.specs.Prelude.{nat_lt, if◌then◌else◌}
use Rattle.c_values.specs.declared.number_type.NumberType.{NumberType}
use Rattle.c_values.specs.declared.number_type.NumberType.TheVariants.{Bool as Truth, Int, Enumeration, Float}
use Rattle.c_values.specs.NumberTypes.{common, promoted, yields_to}

abbrev meet : NumberType → NumberType → NumberType
meet a b = if yields_to a b then b else a

abbrev Meets : NumberType → NumberType → Type 0
Meets a b = meet a b ≡ meet b a

ints_meet : (m n : ℕ) (s t : Bool) → Meets (Int m s) (Int n t)
ints_meet m n true true = grind (arith, nat_tests)
ints_meet m n true false = grind (arith, nat_tests)
ints_meet m n false true = grind (arith, nat_tests)
ints_meet m n false false = grind (arith, nat_tests)

enumerations_meet : (m : ℕ) (s : Bool) → Meets (Int m s) Enumeration
enumerations_meet m true = grind (arith, nat_tests)
enumerations_meet m false = grind (arith, nat_tests)

enumerations_meet_back : (m : ℕ) (s : Bool) → Meets Enumeration (Int m s)
enumerations_meet_back m true = grind (arith, nat_tests)
enumerations_meet_back m false = grind (arith, nat_tests)

floats_meet : (m n : ℕ) → Meets (Float m) (Float n)
floats_meet m n = grind (arith, nat_tests)

promoted_int : (P : NumberType → Type 0) → ((m : ℕ) (s : Bool) → P (Int m s)) → (b : Bool) (m : ℕ) (s : Bool) → P (if b then Int 4 true else Int m s)
promoted_int P p true m s = p 4 true
promoted_int P p false m s = p m s

promoted_cases : (P : NumberType → Type 0) → ((m : ℕ) (s : Bool) → P (Int m s)) → P Enumeration → ((m : ℕ) → P (Float m)) → (t : NumberType) → P (promoted t)
promoted_cases P p q r Truth = p 4 true
promoted_cases P p q r (Int m s) = promoted_int P p (nat_lt m 4) m s
promoted_cases P p q r Enumeration = q
promoted_cases P p q r (Float m) = r m

pub common-symmetric : (a b : NumberType) → common a b ≡ common b a
common-symmetric a b =
    promoted_cases (λ x. Meets x (promoted b))
    (λ m s. promoted_cases (Meets (Int m s)) (λ n t. ints_meet m n s t) (enumerations_meet m s) (λ n. refl) b)
    (promoted_cases (Meets Enumeration) enumerations_meet_back refl (λ n. refl) b)
    (λ m. promoted_cases (Meets (Float m)) (λ n t. refl) refl (floats_meet m) b)
    a

pub ruleset common_laws = (common-symmetric)
