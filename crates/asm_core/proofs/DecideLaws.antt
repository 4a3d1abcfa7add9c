-- What a write names decides what is written, whatever kinds the operands have at two placements.
use Rattle.std.proofs.Common.{◌≡◌, ℕ, ◌+◌, ◌*◌, ◌%◌, ◌^◌, List, slice_index, Option, None, Some, ap, sym, subst, ◌∙◌, ◌≤◌, length}
use Rattle.asm_core.specs.Memory.{address_of}
use Rattle.asm_core.specs.MicroOps.{Stepped, first_of, bytes_named, values_of, row_ended}
use Rattle.asm_core.specs.Reading.Placed.{operand_under, inst_under}
use Rattle.asm_core.specs.Entries.{known_in}
use Rattle.asm_core.specs.RowLaws.{HoldsAfter, Component, nth_byte, operand_byte, written_byte, held, LeavesValues}
use Rattle.asm_core.specs.Steps.{IsAfter, Stand, reads_at, IsDone, AgreesOnWrites}
use Rattle.asm_core.proofs.FactLaws.{names_decide, reads_known}
use Rattle.asm_core.proofs.CopyLaws.{leaves_values}
use Rattle.asm_core.specs.declared.inst.InstArg.{InstArg}
use Rattle.asm_core.specs.declared.sym.Sym.{Sym}
use Rattle.asm_core.specs.declared.placement.Placement.{Placement}
use Rattle.asm_core.specs.declared.micro_op.MicroOp.{MicroOp}
use Rattle.asm_core.specs.declared.row.Written.{Written}
use Rattle.asm_core.specs.declared.machine.Machine.{Machine}

-- what holds after a step holds of the state after it
pub holds_of : (P : Machine → Type 0) (step : Stepped) (after : Machine) → HoldsAfter P step → IsAfter step after → P after
holds_of P (Stepped.Moved next) after h is = subst P (sym is) h
holds_of P (Stepped.MovedOutside next) after h is = subst P (sym is) h
holds_of P Stepped.Ended after h is = absurd h
holds_of P (Stepped.Faulted fault) after h is = absurd is

-- a byte of an operand or of the scratch is held as it is
operand_held : (x : Option InstArg) (m : Machine) (o v : ℕ) (c : Component) → operand_byte x o m ≡ Some c → held c v ≡ v
operand_held (Some (InstArg.Register r slice)) m o v c is = let same : Component.RegisterByte r (first_of (bytes_named slice) + o) ≡ c = cc in ap (λ x. held x v) (sym same)
operand_held (Some (InstArg.Address form k)) m o v c is = let same : Component.MemoryByte ((address_of form m + o) % 2 ^ 32) ≡ c = cc in ap (λ x. held x v) (sym same)
operand_held (Some (InstArg.Number n)) m o v c is = cc
operand_held (Some (InstArg.Label n)) m o v c is = cc
operand_held None m o v c is = cc

scratch_held : (n o v : ℕ) (c : Component) → Some (Component.ScratchByte (n + o)) ≡ Some c → held c v ≡ v
scratch_held n o v c is = let same : Component.ScratchByte (n + o) ≡ c = cc in ap (λ x. held x v) (sym same)

-- both components in which a byte of one write is hold a value alike
held_alike : (p q : Placement) (m n : Machine) (to : Written) (o v : ℕ) (c d : Component) → written_byte p m to o ≡ Some c → written_byte q n to o ≡ Some d → held c v ≡ held d v
held_alike p q m n (Written.Flag f) o v c d is_c is_d = let same : c ≡ d = cc in ap (λ x. held x v) same
held_alike p q m n (Written.Arg arg) o v c d is_c is_d = operand_held (operand_under p arg) m o v c is_c ∙ sym (operand_held (operand_under q arg) n o v d is_d)
held_alike p q m n Written.Push o v c d is_c is_d = scratch_held (4 * m.scratch_top) o v c is_c ∙ sym (scratch_held (4 * n.scratch_top) o v d is_d)
held_alike p q m n Written.Pop o v c d is_c is_d = cc

-- the second law, which leaves aside what is written again, and the sixth
pub agrees_on_writes : (row : List MicroOp) (s : Sym) (x y : Stand) → length s.args ≤ 3 → IsDone row s x → IsDone row s y → AgreesOnWrites row s x y
agrees_on_writes row s x y few done_x done_y k o w c d last_x last_y agrees =
    left x done_x k o w c last_x
    ∙ ap (λ v. held c (nth_byte o v)) ((names_decide row s.width (known_in s)).values (reads_at s x) (reads_at s y) k ((reads_known x.at s few).each x.choice x.words x.before) ((reads_known y.at s few).each y.choice y.words y.before) agrees)
    ∙ held_alike x.at y.at x.before y.before w.to (w.first + o) (nth_byte o (slice_index (values_of s.width (reads_at s y) row) k)) c d last_x.here last_y.here
    ∙ sym (left y done_y k o w d last_y)
  where
    left : (z : Stand) → IsDone row s z → LeavesValues z.at s row (values_of s.width (reads_at s z) row) z.before z.after
    left z done =
        holds_of (LeavesValues z.at s row (values_of s.width (reads_at s z) row) z.before) (row_ended row (inst_under z.at s) z.goal z.choice z.words z.before) z.after
        (leaves_values z.at s z.before row z.goal z.choice z.words done.is_machine done.fits done.goes_on) done.step
