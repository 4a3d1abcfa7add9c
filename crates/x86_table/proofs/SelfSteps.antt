-- Where both operands are one register, the row that tells names steps as the line's row does.
use Rattle.std.proofs.Common.{◌≡◌, ℕ, ◌==◌, ◌&&◌, List, [], ◌∷◌, length, slice_get, Bool, true, false, if◌then◌else◌, Option, None, Some, refl, ap, ap₂, sym, subst, ◌∙◌}
use Rattle.std.proofs.lemmas.Bool.{and_parts, eqb-true}
use Rattle.asm_core.specs.Entries.{slice_number}
use Rattle.asm_core.specs.MicroOps.{values_of, read_in, ended_by, row_ended}
use Rattle.asm_core.specs.Reading.Placed.{placed_place, operand_at, inst_under}
use Rattle.asm_core.specs.Reading.Text.{register_arg}
use Rattle.asm_core.specs.Reg.{reg_number}
use Rattle.asm_core.specs.RowTerms.{repeated}
use Rattle.asm_core.specs.Rows.{line_row, entry_row, is_zero_count, same_place, same_register}
use Rattle.asm_core.specs.Table.{row_of, is_shift, self_row}
use Rattle.asm_core.specs.Table.Arithmetic.{xor_row, xor_self_row, sub_row, sub_self_row, sbb_row, sbb_self_row}
use Rattle.asm_core.specs.Table.Bits.{no_shift_row}
use Rattle.asm_core.proofs.RegisterLaws.{same_reg}
use Rattle.x86_rows.proofs.SelfRows.{xor_itself, sub_itself, sbb_itself}
use Rattle.asm_core.specs.declared.reg.Slice.{Slice}
use Rattle.asm_core.specs.declared.inst.Op.{Op}
use Rattle.asm_core.specs.declared.inst.Inst.{Inst}
use Rattle.asm_core.specs.declared.inst.InstArg.{InstArg}
use Rattle.asm_core.specs.declared.inst.Repeat.{Repeat}
use Rattle.asm_core.specs.declared.sym.Arg.{Arg}
use Rattle.asm_core.specs.declared.sym.Place.{Place}
use Rattle.asm_core.specs.declared.sym.Sym.{Sym}
use Rattle.asm_core.specs.declared.micro_op.MicroOp.{MicroOp}
use Rattle.asm_core.specs.declared.machine.Machine.{Machine}
use Rattle.asm_core.specs.declared.placement.Placement.{Placement}

-- ---- a row of operations on one operand

-- an instruction both of whose first operands are x
abbrev twice : Inst → Option InstArg → Option InstArg → Inst
twice i x z = record i { args = x ∷ x ∷ z ∷ [] }

-- a register, or nothing
abbrev IsRegister : Option InstArg → Type 0
IsRegister None = Unit {0}
IsRegister (Some (InstArg.Register r slice)) = Unit {0}
IsRegister x = ⊥

module _ (i : Inst) (z : Option InstArg) (goal : ℕ) (vs : List ℕ) (m : Machine) where
  xor_ends : (x : Option InstArg) → IsRegister x → ended_by xor_self_row (twice i x z) goal vs m ≡ ended_by xor_row (twice i x z) goal vs m
  xor_ends None is = refl
  xor_ends (Some (InstArg.Register r slice)) is = refl
  xor_ends x is = absurd is

  sub_ends : (x : Option InstArg) → IsRegister x → ended_by sub_self_row (twice i x z) goal vs m ≡ ended_by sub_row (twice i x z) goal vs m
  sub_ends None is = refl
  sub_ends (Some (InstArg.Register r slice)) is = refl
  sub_ends x is = absurd is

  sbb_ends : (x : Option InstArg) → IsRegister x → ended_by sbb_self_row (twice i x z) goal vs m ≡ ended_by sbb_row (twice i x z) goal vs m
  sbb_ends None is = refl
  sbb_ends (Some (InstArg.Register r slice)) is = refl
  sbb_ends x is = absurd is

-- the same step
self_ends : (op : Op) (n : ℕ) (i : Inst) (x z : Option InstArg) → IsRegister x → (goal choice : ℕ) (words : List ℕ) (m : Machine)
    → row_ended (self_row op (row_of op i.width n)) (twice i x z) goal choice words m ≡ row_ended (row_of op i.width n) (twice i x z) goal choice words m
self_ends Op.Xor n i x z is goal choice words m =
    ap (λ vs. ended_by xor_self_row (twice i x z) goal vs m) (sym (xor_itself i.width (read_in (twice i x z) choice words m) refl))
    ∙ xor_ends i z goal (values_of i.width (read_in (twice i x z) choice words m) xor_row) m x is
self_ends Op.Sub n i x z is goal choice words m =
    ap (λ vs. ended_by sub_self_row (twice i x z) goal vs m) (sym (sub_itself i.width (read_in (twice i x z) choice words m) refl))
    ∙ sub_ends i z goal (values_of i.width (read_in (twice i x z) choice words m) sub_row) m x is
self_ends Op.Sbb n i x z is goal choice words m =
    ap (λ vs. ended_by sbb_self_row (twice i x z) goal vs m) (sym (sbb_itself i.width (read_in (twice i x z) choice words m) refl))
    ∙ sbb_ends i z goal (values_of i.width (read_in (twice i x z) choice words m) sbb_row) m x is
self_ends op n i x z is goal choice words m = refl

-- ---- a line

same_slice : (a b : Slice) → (slice_number a == slice_number b) ≡ true → a ≡ b
same_slice Slice.Low8 Slice.Low8 e = refl
same_slice Slice.High8 Slice.High8 e = refl
same_slice Slice.Low16 Slice.Low16 e = refl
same_slice Slice.All Slice.All e = refl
same_slice a b e = cc

same_placed : (p : Placement) (a b : Place) → same_place a b ≡ true → placed_place p a ≡ placed_place p b
same_placed p (Place.Reg r) (Place.Reg q) e = ap Place.Reg (same_reg r q (eqb-true (reg_number r) (reg_number q) e))
same_placed p (Place.Operand j) (Place.Operand k) e = ap (λ n. placed_place p (Place.Operand n)) (eqb-true j k e)
same_placed p a b e = cc

is_register : (place : Place) (slice : Slice) → IsRegister (register_arg place slice)
is_register (Place.Reg r) slice = tt
is_register (Place.Operand k) slice = tt

-- the entries' row of a line, given its first two operands and the row of its steps
abbrev told_by : Sym → Option Arg → Option Arg → List MicroOp → List MicroOp
told_by s a b row = if is_shift s.op && is_zero_count a then no_shift_row (length s.args) else if same_register a b then self_row s.op row else row

pub no_count : (t : Bool) → (t && false) ≡ false
no_count true = refl
no_count false = refl

module _ (p : Placement) (s : Sym) (goal choice : ℕ) (words : List ℕ) (m : Machine) where
  abbrev placed : Option Arg → Option Arg → Inst
  placed a b = record (inst_under p s) { args = operand_at p a ∷ operand_at p b ∷ operand_at p (slice_get s.args 2) ∷ [] }

  abbrev plain : List MicroOp
  plain = row_of s.op s.width (length s.args)

  one_register : (a b : Option Arg) → same_register a b ≡ true → row_ended (told_by s a b plain) (placed a b) goal choice words m ≡ row_ended plain (placed a b) goal choice words m
  one_register (Some (Arg.Register first slice)) (Some (Arg.Register second other)) e =
      ap₂ (λ shift self. row_ended (if shift then no_shift_row (length s.args) else if self then self_row s.op plain else plain) (placed (Some (Arg.Register first slice)) (Some (Arg.Register second other))) goal choice words m) (no_count (is_shift s.op)) e
      ∙ subst (λ x. row_ended (self_row s.op plain) (record (inst_under p s) { args = operand_at p (Some (Arg.Register first slice)) ∷ x ∷ operand_at p (slice_get s.args 2) ∷ [] }) goal choice words m
      ≡ row_ended plain (record (inst_under p s) { args = operand_at p (Some (Arg.Register first slice)) ∷ x ∷ operand_at p (slice_get s.args 2) ∷ [] }) goal choice words m)
      (ap₂ register_arg (same_placed p first second parts.0) (same_slice slice other parts.1))
      (self_ends s.op (length s.args) (inst_under p s) (register_arg (placed_place p first) slice) (operand_at p (slice_get s.args 2)) (is_register (placed_place p first) slice) goal choice words m)
    where
      parts : (same_place first second ≡ true) × ((slice_number slice == slice_number other) ≡ true)
      parts = and_parts (same_place first second) (slice_number slice == slice_number other) e
  one_register a b e = cc

pub self_steps : (p : Placement) (s : Sym) → s.repeat ≡ Repeat.No → same_register (slice_get s.args 0) (slice_get s.args 1) ≡ true → (goal choice : ℕ) (words : List ℕ) (m : Machine)
    → row_ended (entry_row s) (inst_under p s) goal choice words m ≡ row_ended (line_row s) (inst_under p s) goal choice words m
self_steps p s no_prefix same goal choice words m =
    subst (λ r. row_ended (told_by s (slice_get s.args 0) (slice_get s.args 1) (repeated r (row_of s.op s.width (length s.args)))) (inst_under p s) goal choice words m ≡ row_ended (repeated r (row_of s.op s.width (length s.args))) (inst_under p s) goal choice words m)
    (sym no_prefix) (one_register p s goal choice words m (slice_get s.args 0) (slice_get s.args 1) same)
