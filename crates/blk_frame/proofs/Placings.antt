-- Allowed placements put places as the facts take it.
use Rattle.std.proofs.Common.{◌≡◌, inl, inr, ℕ, ◌==◌, Bool, true, false, List, [], ◌∷◌, ◌++◌, Option, None, Some, is_some, if◌then◌else◌, refl, sym, ap, subst, ◌∙◌}
use Rattle.std.proofs.lemmas.Bool.{eq-eqb, eqb-true, and_parts, and_right, or_cases}
use Rattle.asm_core.specs.Lists.{IsMember}
use Rattle.asm_core.specs.Reg.{reg_number}
use Rattle.asm_core.specs.Placement.{spot_of, value_registers, address_registers, IsAllowed}
use Rattle.asm_core.specs.Reading.Placed.{spot_place, placed_place}
use Rattle.asm_core.specs.Roomy.{place_registers}
use Rattle.asm_core.specs.declared.reg.Reg.{Reg}
use Rattle.asm_core.specs.declared.sym.Place.{Place}
use Rattle.asm_core.specs.declared.shape.Shape.{Shape}
use Rattle.asm_core.specs.declared.interface.Interface.{Interface}
use Rattle.asm_core.specs.declared.placement.Spot.{Spot}
use Rattle.asm_core.specs.declared.placement.Placement.{Placement}
use Rattle.asm_core.proofs.RegisterLaws.{same_reg}
use Rattle.blk_deps.specs.Cells.{place_at}
use Rattle.blk_deps.specs.Operands.{is_place}
use Rattle.blk_deps.specs.Start.{TellsSharing}
use Rattle.blk_frame.specs.World.{Placed, ArePlaced}
use Rattle.blk_frame.specs.Shown.{place_register, register_under, number_or, address_under, is_memory_spot, is_memory_place, is_numbered, placed_by}

-- ---- one place

in_spot : (k : ℕ) (spot : Spot) (r : Reg) → place_register (spot_place k spot) ≡ Some r
    → IsMember r (value_registers spot ++ address_registers spot)
in_spot k (Spot.Register q) r is = inl (sym (ap (λ o. elim o [ None ↦ r | Some h ↦ h ]) is))
in_spot k Spot.Pair r is = inl (sym (ap (λ o. elim o [ None ↦ r | Some h ↦ h ]) is))
in_spot k (Spot.Memory form) r is = cc
in_spot k (Spot.Number n) r is = cc

-- the register of a place is one of its registers
in_place : (p : Placement) (place : Place) (r : Reg) → place_register (placed_place p place) ≡ Some r
    → IsMember r (place_registers p place)
in_place p (Place.Reg q) r is = inl (sym (ap (λ o. elim o [ None ↦ r | Some h ↦ h ]) is))
in_place p (Place.Operand k) r is = in_spot k (spot_of p k) r is

no_memory_spot : (k : ℕ) (spot : Spot) → is_some (place_register (spot_place k spot)) ≡ true
    → is_memory_spot spot ≡ false
no_memory_spot k (Spot.Register q) is = refl
no_memory_spot k Spot.Pair is = refl
no_memory_spot k (Spot.Memory form) is = cc
no_memory_spot k (Spot.Number n) is = refl

-- a place in a register is no address
no_memory : (p : Placement) (place : Place) → is_some (place_register (placed_place p place)) ≡ true
    → is_memory_place p place ≡ false
no_memory p (Place.Reg r) is = refl
no_memory p (Place.Operand k) is = no_memory_spot k (spot_of p k) is

member_behind : (r : Reg) (front back : List Reg) → IsMember r back → IsMember r (front ++ back)
member_behind r [] back is = is
member_behind r (q ∷ front) back is = inr (member_behind r front back is)

numbered_member : (r : Reg) (rs : List Reg) → is_numbered (reg_number r) rs ≡ true → IsMember r rs
numbered_member r [] is = cc
numbered_member r (q ∷ rs) is = elim (or_cases _ _ is) [
  | inl here ↦ inl (sym (same_reg q r (eqb-true (reg_number q) (reg_number r) here)))
  | inr later ↦ inr (numbered_member r rs later)
]

in_address : (p : Placement) (place : Place) (r : Reg) → is_numbered (reg_number r) (address_under p place) ≡ true
    → IsMember r (place_registers p place)
in_address p (Place.Reg q) r is = cc
in_address p (Place.Operand k) r is = member_behind r (value_registers (spot_of p k))
    (address_registers (spot_of p k)) (numbered_member r (address_registers (spot_of p k)) is)

-- ---- all places

module _ (i : Interface) (s : Shape) (p : Placement) (allowed : IsAllowed i s p) (shares : ℕ → ℕ → Bool)
    (tells : TellsSharing i s shares) where
  abbrev x : Placed
  x = placed_by i s p

  -- a place that has a register's number has the register
  has_register : (d : ℕ) (r : Reg) (own : Option Reg) → register_under p d ≡ own
      → (if is_some own then reg_number r == number_or own else is_numbered (reg_number r)
      (address_under p (place_at d))) ≡ true
      → IsMember r (place_registers p (place_at d))
  has_register d r None is has = in_address p (place_at d) r has
  has_register d r (Some q) is has = in_place p (place_at d) r
      (is ∙ ap Some (sym (same_reg r q (eqb-true (reg_number r) (reg_number q) has))))

  told : (u d : ℕ) (r : Reg) → is_place i s u ≡ true → register_under p u ≡ Some r → x.has d (reg_number r) ≡ true
      → shares u d ≡ true
  told u d r is at has =
      let parts = and_parts _ _ has in
      (tells u d).1 (record {
        first = is;
        second = parts.0;
        at = p;
        shared = record {
          allowed = allowed;
          register = r;
          in_first = in_place p
              (place_at u) r at;
          in_second = has_register d r (register_under p d) refl parts.1;
        };
      })

  by_register : (u d : ℕ) (own : Option Reg) → register_under p u ≡ own → is_some own ≡ true → is_place i s u ≡ true
      → x.has d (number_or own) ≡ true → shares u d ≡ true
  by_register u d None is there at has = cc
  by_register u d (Some r) is there at has = told u d r at is has

  -- the one register of a place in a register
  module _ (u : ℕ) (is : x.in_register u ≡ true) where
    there : is_place i s u ≡ true
    there = (and_parts _ _ is).0

    named : is_some (register_under p u) ≡ true
    named = (and_parts _ _ is).1

    number : x.register_of u ≡ number_or (register_under p u)
    number = rw there refl

    has_itself : x.has u (x.register_of u) ≡ true
    has_itself = rw (there, named) (eq-eqb _ _ refl)

    has_alone : (q : ℕ) → x.has u q ≡ true → q ≡ x.register_of u
    has_alone q has = eqb-true q (number_or (register_under p u)) (rw (there, named) at has) ∙ sym number

    shares_told : (d : ℕ) → x.has d (x.register_of u) ≡ true → shares u d ≡ true
    shares_told d has = by_register u d (register_under p u) refl named there (subst (λ q. x.has d q ≡ true) number has)

  pub are_placed : ArePlaced x shares
  are_placed = record {
    itself = has_itself;
    alone = λ u q is has. has_alone u is q has;
    apart = λ u is. and_right _ _ (no_memory p (place_at u) (and_parts _ _ is).1);
    told = λ u d is has. shares_told u is d has;
  }
