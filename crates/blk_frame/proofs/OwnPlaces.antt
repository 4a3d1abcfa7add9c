-- A place that an operand has of its own is a place of the shape, and so is its own address.
use Rattle.std.proofs.Common.{◌≡◌, ℕ, ◌+◌, ◌-◌, ◌==◌, ◌&&◌, nat_lt, Bool, true, false, Option, None, Some, is_none, is_some, slice_get, refl, ap, ◌∙◌, arith}
use Rattle.std.proofs.lemmas.Bool.{eq-eqb, eqb-true, and_from, and_parts, or_left, or_right}
use Rattle.asm_core.specs.Company.{is_pair_alone, register_places, places_by, places_of}
use Rattle.asm_core.specs.Placement.{tie_root}
use Rattle.asm_core.specs.Reading.Facts.{fixed_register, alternative_at}
use Rattle.asm_core.specs.declared.reg.Reg.{Reg}
use Rattle.asm_core.specs.declared.interface.AltIface.{AltIface}
use Rattle.asm_core.specs.declared.interface.OperandIface.{OperandIface}
use Rattle.asm_core.specs.declared.interface.Interface.{Interface}
use Rattle.asm_core.specs.declared.shape.Kind.{Kind}
use Rattle.asm_core.specs.declared.shape.Shape.{Shape}
use Rattle.asm_core.specs.declared.sym.Place.{Place}
use Rattle.asm_core.specs.declared.sym.Arg.{Arg}
use Rattle.asm_core.proofs.ReadingLaws.PlacesThere.{is_memory_kind, is_free, has_own_place, has_own_address, is_place_own, is_base_own, is_index_own, is_arg_own}
use Rattle.blk_deps.specs.Operands.{in_register, in_memory, is_own, is_root, has_own_register, has_address, is_operand_place, is_place}
use Rattle.blk_frame.specs.Lines.{NamesPlace, index_of, NamesPlaces}

-- operand k's place has the number 7 + k
numbered : (i : Interface) (s : Shape) (k : ℕ) → is_operand_place i s k ≡ true → is_place i s (7 + k) ≡ true
numbered i s k is =
    let back : 7 + k - 7 ≡ k = omega arith in
    or_right (nat_lt (7 + k) 7) (is_operand_place i s (7 + k - 7)) (ap (is_operand_place i s) back ∙ is)

-- letters that fix no register don't allow the pair alone
not_pair_alone : (alt : AltIface) → is_none (fixed_register alt) ≡ true → is_pair_alone alt ≡ false
not_pair_alone alt free = by alt.pair (alt.regs.0 == 0) refl refl
  where
    by : (pair none : Bool) → alt.pair ≡ pair → (alt.regs.0 == 0) ≡ none → (alt.pair && (alt.regs.0 == 0)) ≡ false
    by false none e f = rw e refl
    by true false e f = rw (e, f) refl
    by true true e f = let fixed : false ≡ true = rw (e, f) at free in cc

own_register : (k : ℕ) (alt : AltIface) → is_none (fixed_register alt) ≡ true → is_own k (register_places k alt) ≡ true
own_register k alt free = by (fixed_register alt) refl
  where
    by : (fixed : Option Reg) → fixed_register alt ≡ fixed → is_own k (register_places k alt) ≡ true
    by None e = rw (not_pair_alone alt free, e) (eq-eqb k k refl)
    by (Some r) e = let gone : false ≡ true = rw e at free in cc

-- an operand that is free in registers is in a register of its own
own_by : (k : ℕ) (o : Option OperandIface) (alt : Option AltIface) (kind : Option Kind) → is_free o alt kind ≡ true
    → (is_some o ≡ true) × ((kind ≡ Some Kind.Register) × (is_own k (places_by k alt kind) ≡ true))
own_by k (Some o) (Some alt) (Some Kind.Register) free = (refl, (refl, own_register k alt free))
own_by k (Some o) (Some alt) (Some Kind.Memory) free = cc
own_by k (Some o) (Some alt) (Some Kind.Number) free = cc
own_by k (Some o) (Some alt) None free = cc
own_by k (Some o) None kind free = cc
own_by k None alt kind free = cc

in_memory_by : (kind : Option Kind) → is_memory_kind kind ≡ true → kind ≡ Some Kind.Memory
in_memory_by (Some Kind.Memory) is = refl
in_memory_by (Some Kind.Register) is = cc
in_memory_by (Some Kind.Number) is = cc
in_memory_by None is = cc

module _ (i : Interface) (s : Shape) (k : ℕ) where
  pub own_place : has_own_place i s k ≡ true → is_place i s (7 + k) ≡ true
  unfolding places_of
  own_place own =
      let parts = and_parts (tie_root i s k == k) _ own in
      let root = eqb-true (tie_root i s k) k parts.0 in
      let by = own_by k (slice_get i.operands k) (alternative_at (slice_get i.operands k) s.alternative)
      (slice_get s.kinds k) parts.1 in
      let is : is_own k (places_of i s k) ≡ true = rw root by.1.1 in
      let in_one : in_register s k ≡ true = rw by.1.0 refl in
      let there : has_own_register i s k ≡ true = and_from (in_register s k && is_root i s k) _
      (and_from (in_register s k) (is_root i s k) in_one parts.0) is in
      numbered i s k (and_from (is_some (slice_get i.operands k)) _ by.0
      (or_left (has_own_register i s k) (has_address i s k) there))

  pub own_address : has_own_address i s k ≡ true → is_place i s (7 + k) ≡ true
  own_address own =
      let parts = and_parts (tie_root i s k == k) _ own in
      let there = and_parts (is_some (slice_get i.operands k)) _ parts.1 in
      let in_one : in_memory s k ≡ true = rw (in_memory_by (slice_get s.kinds k) there.1) refl in
      numbered i s k (and_from (is_some (slice_get i.operands k)) _ there.0
      (or_right (has_own_register i s k) (has_address i s k)
      (and_from (in_memory s k) (is_root i s k) in_one parts.0)))

module _ (i : Interface) (s : Shape) where
  names_place : (place : Place) → is_place_own i s place ≡ true → NamesPlace i s (Some place)
  names_place (Place.Reg Reg.Eax) own = refl
  names_place (Place.Reg Reg.Ebx) own = refl
  names_place (Place.Reg Reg.Ecx) own = refl
  names_place (Place.Reg Reg.Edx) own = refl
  names_place (Place.Reg Reg.Esi) own = refl
  names_place (Place.Reg Reg.Edi) own = refl
  names_place (Place.Reg Reg.Ebp) own = refl
  names_place (Place.Operand k) own = own_place i s k own

  names_base : (base : Option Place) → is_base_own i s base ≡ true → NamesPlace i s base
  names_base None own = tt
  names_base (Some place) own = names_place place own

  names_index : (index : Option (Place × ℕ)) → is_index_own i s index ≡ true → NamesPlace i s (index_of index)
  names_index None own = tt
  names_index (Some x) own = names_place x.0 own

  -- the places that an operand names are places of the shape where they are its operands' own
  pub names_places : (arg : Arg) → is_arg_own i s arg ≡ true → NamesPlaces i s arg
  names_places (Arg.Register place slice) own = names_place place own
  names_places (Arg.Memory k) own = own_address i s k own
  names_places (Arg.Address d base index) own =
      let parts = and_parts (is_base_own i s base) (is_index_own i s index) own in
      (names_base base parts.0, names_index index parts.1)
  names_places (Arg.Number n) own = tt
  names_places (Arg.Hole k) own = tt
  names_places (Arg.Label n) own = tt
