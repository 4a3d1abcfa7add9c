-- What the writes of a line do to the world, as it is placed.
use Rattle.std.proofs.Common.{◌≡◌, ℕ, ◌+◌, ◌-◌, ◌||◌, Bool, true, false, [], Option, None, Some, refl, sym, ap, subst}
use Rattle.std.proofs.lemmas.Bool.{lt-ltb}
use Rattle.asm_core.specs.Entries.{register_arg_of}
use Rattle.asm_core.specs.Reg.{reg_number}
use Rattle.asm_core.specs.Reading.Placed.{placed_place, spot_form, operand_under, placed_disp, placed_base, placed_index}
use Rattle.asm_core.specs.Reading.Text.{memory_arg, number_arg, address_arg}
use Rattle.asm_core.specs.Placement.{spot_of}
use Rattle.asm_core.specs.RowLaws.{Component, operand_byte}
use Rattle.asm_core.specs.declared.reg.Reg.{Reg}
use Rattle.asm_core.specs.declared.reg.Slice.{Slice}
use Rattle.asm_core.specs.declared.sym.Disp.{Disp}
use Rattle.asm_core.specs.declared.sym.Place.{Place}
use Rattle.asm_core.specs.declared.sym.Arg.{Arg}
use Rattle.asm_core.specs.declared.row.By.{By}
use Rattle.asm_core.specs.declared.row.Written.{Written}
use Rattle.asm_core.specs.declared.row.Write.{Write}
use Rattle.asm_core.specs.declared.shape.Shape.{Shape}
use Rattle.asm_core.specs.declared.interface.Interface.{Interface}
use Rattle.asm_core.specs.declared.inst.InstArg.{InstArg}
use Rattle.asm_core.specs.declared.placement.Form.{Form}
use Rattle.asm_core.specs.declared.placement.Placement.{Placement}
use Rattle.asm_core.specs.declared.machine.Machine.{Machine}
use Rattle.asm_core.specs.WellFormed.{IsInterface}
use Rattle.asm_core.proofs.MachineLaws.{reg_number_small}
use Rattle.blk_deps.specs.Cells.{place_number}
use Rattle.blk_deps.specs.Operands.{is_place, is_operand_place}
use Rattle.blk_deps.specs.Line.{puts_to, put_store}
use Rattle.blk_frame.specs.World.{Placed, World, after_puts, AreWritable}
use Rattle.blk_frame.specs.Shown.{shown, IsSeen, placed_by}
use Rattle.blk_frame.proofs.Places.{lies_in}
use Rattle.blk_frame.proofs.OpWrites.{WritesWell, register_writes}

-- what a register operand of a placed line is: a place of the shape, in a register
abbrev pub IsThere : Interface → Shape → Placement → Arg → Type 0
IsThere i s p (Arg.Register place slice) = (is_place i s (place_number place) ≡ true)
    × ((r : Reg) × (placed_place p place ≡ Place.Reg r))
IsThere i s p arg = Unit {0}

module _ (i : Interface) (s : Shape) (p : Placement) (interface : IsInterface i) (m : Machine) (depth : ℕ) where
  abbrev pub x : Placed
  x = placed_by i s p

  -- ---- memory isn't shown

  abbrev IsElsewhere : Option InstArg → Type 0
  IsElsewhere (Some (InstArg.Register r slice)) = ⊥
  IsElsewhere a = Unit {0}

  unseen_byte : (a : Option InstArg) → IsElsewhere a → (o : ℕ) (c : Component) → operand_byte a o m ≡ Some c
      → IsSeen c → ⊥
  unseen_byte None is o c e seen = cc
  unseen_byte (Some (InstArg.Number n)) is o c e seen = cc
  unseen_byte (Some (InstArg.Label n)) is o c e seen = cc
  unseen_byte (Some (InstArg.Register r slice)) is o c e seen = is
  unseen_byte (Some (InstArg.Address form k)) is o c e seen = subst IsSeen
      (sym (ap (λ q. elim q [ None ↦ c | Some h ↦ h ]) e)) seen

  memory_elsewhere : (k : ℕ) (f : Option Form) → IsElsewhere (memory_arg k f)
  memory_elsewhere k None = tt
  memory_elsewhere k (Some form) = tt

  number_elsewhere : (d : Disp) → IsElsewhere (number_arg d)
  number_elsewhere (Disp.Number n) = tt
  number_elsewhere (Disp.Hole k) = tt

  address_elsewhere : (d : Disp) (b : Option Place) (n : Option (Place × ℕ)) → IsElsewhere (address_arg d b n)
  address_elsewhere (Disp.Number n) b x = tt
  address_elsewhere (Disp.Hole k) b x = tt

  module _ (hand first count : ℕ) (by : By) where
    abbrev to_arg : Arg → Write
    to_arg arg = record { to = Written.Arg arg; first = first; count = count; by = by }

    nothing_writes : (arg : Arg) → puts_to i s depth hand (to_arg arg) (Written.Arg arg) ≡ []
        → IsElsewhere (operand_under p arg) → WritesWell i s p x m depth hand (to_arg arg)
    nothing_writes arg none is = record {
      writable = subst (AreWritable x) (sym none) tt;
      elsewhere = λ v c seen untold. ap (λ l. shown (after_puts x l v) c) none;
      at = λ given v c o holds seen lt told. absurd (unseen_byte (operand_under p arg) is (first + o) c told seen);
    }

    store_there : (k : ℕ) (b : Bool) → is_place i s (7 + k) ≡ b
        → AreWritable x (put_store i s k (to_arg (Arg.Memory k)))
    store_there k true e = rw e (tt, tt)
    store_there k false e = rw e tt

    store_kept : (k : ℕ) (b : Bool) → is_place i s (7 + k) ≡ b → (v : World)
        → after_puts x (put_store i s k (to_arg (Arg.Memory k))) v ≡ v
    store_kept k true e v = rw e refl
    store_kept k false e v = rw e refl

    pub arg_writes : (arg : Arg) → IsThere i s p arg → WritesWell i s p x m depth hand (to_arg arg)
    arg_writes (Arg.Register place slice) there = register_writes i s p x m depth place slice there.1.0 there.0
        there.1.1 (lies_in i s p interface place there.1.0 there.0 there.1.1) hand first count by
    arg_writes (Arg.Memory k) there = record {
      writable = store_there k _ refl;
      elsewhere = λ v c seen untold. ap (λ w. shown w c) (store_kept k _ refl v);
      at = λ given v c o holds seen lt told. absurd
          (unseen_byte (operand_under p (Arg.Memory k)) (memory_elsewhere k (spot_form (spot_of p k)))
          (first + o) c told seen);
    }
    arg_writes (Arg.Number n) there = nothing_writes (Arg.Number n) refl tt
    arg_writes (Arg.Hole k) there = nothing_writes (Arg.Hole k) refl (number_elsewhere (placed_disp p (Disp.Hole k)))
    arg_writes (Arg.Label n) there = nothing_writes (Arg.Label n) refl tt
    arg_writes (Arg.Address d b n) there = nothing_writes (Arg.Address d b n) refl
        (address_elsewhere (placed_disp p d) (placed_base p b) (placed_index p n))

    pub register_there : (r : Reg) (slice : Slice) → IsThere i s p (register_arg_of r slice)
    register_there r slice = (
      ap (λ b. b || is_operand_place i s (reg_number r - 7))
          (lt-ltb (reg_number r) 7 (reg_number_small r)),
      (r, refl),
    )

  pub pop_writes : (hand : ℕ) (by : By) → WritesWell i s p x m depth hand
      (record { to = Written.Pop; first = 0; count = 0; by = by })
  pop_writes hand by = record {
    writable = tt;
    elsewhere = λ v c seen untold. refl;
    at = λ given v c o holds seen lt
        told. cc;
  }
