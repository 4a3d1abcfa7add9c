-- Numbers of places are small.
use Rattle.std.proofs.Common.{◌≡◌, ℕ, ◌-◌, ◌<◌, ◌≤◌, nat_lt, Bool, true, false, IsTrue, refl, arith}
use Rattle.std.proofs.lemmas.Option.{slice_get_past}
use Rattle.std.proofs.lemmas.Bool.Decides.{nat_tests}
use Rattle.asm_core.specs.WellFormed.{IsInterface}
use Rattle.asm_core.specs.declared.shape.Shape.{Shape}
use Rattle.asm_core.specs.declared.interface.Interface.{Interface}
use Rattle.blk_deps.specs.Operands.{is_place}

pub place_past : (i : Interface) (s : Shape) (p : ℕ) → IsInterface i → 37 ≤ p → is_place i s p ≡ false
place_past i s p h past =
    let few = h.few in
    let none = slice_get_past i.operands (p - 7) (omega arith) in
    grind (arith, nat_tests, none)

pub place_few : (i : Interface) (s : Shape) (p : ℕ) → IsInterface i → IsTrue (is_place i s p) → p < 37
place_few i s p h is = by_test (nat_lt p 37) refl
  where
    by_test : (t : Bool) → nat_lt p 37 ≡ t → p < 37
    by_test true e = grind (arith, nat_tests, e)
    by_test false e =
        let past : 37 ≤ p = grind (arith, nat_tests, e) in
        let none = place_past i s p h past in
        grind (arith, none, is)
