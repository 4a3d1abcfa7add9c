-- Where the places are that a placed line names.
use Rattle.std.proofs.Common.{◌≡◌, inl, inr, ℕ, ◌+◌, ◌-◌, ◌<◌, ◌||◌, nat_lt, true, false, List, length, None, Some, slice_get, is_some, refl, sym, ap, ◌∙◌, arith}
use Rattle.std.proofs.lemmas.Bool.{le-ltb, and_from, and_parts, both_ways, cases_lt}
use Rattle.std.proofs.lemmas.Option.{slice_get_past}
use Rattle.asm_core.specs.Reading.Placed.{placed_place, operand_under}
use Rattle.asm_core.specs.WellFormed.{IsInterface}
use Rattle.asm_core.specs.declared.reg.Reg.{Reg}
use Rattle.asm_core.specs.declared.reg.Slice.{Slice}
use Rattle.asm_core.specs.declared.sym.Place.{Place}
use Rattle.asm_core.specs.declared.sym.Arg.{Arg}
use Rattle.asm_core.specs.declared.shape.Shape.{Shape}
use Rattle.asm_core.specs.declared.interface.Interface.{Interface}
use Rattle.asm_core.specs.declared.placement.Placement.{Placement}
use Rattle.blk_deps.specs.Cells.{place_number, place_at}
use Rattle.blk_deps.specs.Operands.{is_place, is_operand_place}
use Rattle.blk_frame.specs.Shown.{place_register, register_under, number_or, placed_by}
use Rattle.blk_frame.proofs.ByteWrites.{LiesIn}

pub place_back : (place : Place) → place_at (place_number place) ≡ place
place_back (Place.Reg Reg.Eax) = refl
place_back (Place.Reg Reg.Ebx) = refl
place_back (Place.Reg Reg.Ecx) = refl
place_back (Place.Reg Reg.Edx) = refl
place_back (Place.Reg Reg.Esi) = refl
place_back (Place.Reg Reg.Edi) = refl
place_back (Place.Reg Reg.Ebp) = refl
place_back (Place.Operand k) = let gone : nat_lt (7 + k) 7 ≡ false = le-ltb (7 + k) 7 (omega arith) in rw gone
    (ap Place.Operand (omega arith))

pub there_below : {A : Type 0} (xs : List A) (n : ℕ) → is_some (slice_get xs n) ≡ true → n < length xs
there_below xs n is = elim (cases_lt n (length xs)) [
  | inl lt ↦ lt
  | inr le ↦ absurd (both_ways _ (ap is_some (slice_get_past xs n le)) is)
]

pub place_small : (i : Interface) (s : Shape) (u : ℕ) → IsInterface i → is_place i s u ≡ true → u < 37
place_small i s u interface is = elim (cases_lt u 7) [
  | inl lt ↦ omega (arith, lt)
  | inr le ↦
      let operand : is_operand_place i s (u - 7) ≡ true = ap (λ b. b || is_operand_place i s (u - 7))
      (sym (le-ltb u 7 le)) ∙ is in
      let below = there_below i.operands (u - 7) (and_parts _ _ operand).0 in
      let few = interface.few in
      omega (arith, le, below, few)
]

module _ (i : Interface) (s : Shape) (p : Placement) (interface : IsInterface i) where
  -- the register of a place that is put into one
  pub lies_in : (place : Place) (r : Reg) → is_place i s (place_number place) ≡ true
      → placed_place p place ≡ Place.Reg r → LiesIn (placed_by i s p) (place_number place) r
  lies_in place r is at = record {
    below = place_small i s (place_number place) interface is;
    in_register = and_from _ _ is (ap is_some here);
    register = rw is (ap number_or here);
  } where
    here : register_under p (place_number place) ≡ Some r
    here = ap (λ q. place_register (placed_place p q)) (place_back place) ∙ ap place_register at

  -- a register operand that has a name lies in a register
  pub named_of : (place : Place) (slice : Slice) → (operand_under p (Arg.Register place slice) ≡ None → ⊥) → (r : Reg)
      × (placed_place p place ≡ Place.Reg r)
  named_of place slice there = by_place (placed_place p place) refl there
    where
      by_place : (q : Place) → placed_place p place ≡ q → (operand_under p (Arg.Register place slice) ≡ None → ⊥)
          → (r : Reg) × (placed_place p place ≡ Place.Reg r)
      by_place (Place.Reg r) e there = (r, e)
      by_place (Place.Operand k) e there = absurd (there (rw e refl))
