-- Which rules are broken by what is used, and which flags a condition names.
use Rattle.std.proofs.Common.{◌≡◌, ℕ, ◌==◌, ◌&&◌, List, [], ◌∷◌, map, Bool, true, false, None, refl}
use Rattle.asm_core.specs.Reg.{no_regs}
use Rattle.asm_core.specs.Company.{places_of}
use Rattle.asm_core.specs.Entries.{origins}
use Rattle.asm_core.specs.declared.reg.Reg.{Reg}
use Rattle.asm_core.specs.declared.flag.Flag.{Flag}
use Rattle.asm_core.specs.declared.cond.Cond.{Cond}
use Rattle.asm_core.specs.declared.inst.Op.{Op}
use Rattle.asm_core.specs.declared.inst.Width.{Width}
use Rattle.asm_core.specs.declared.inst.Repeat.{Repeat}
use Rattle.asm_core.specs.declared.sym.Arg.{Arg}
use Rattle.asm_core.specs.declared.sym.Sym.{Sym}
use Rattle.asm_core.specs.declared.row.Source.{Source}
use Rattle.asm_core.specs.declared.shape.Kind.TheVariants.{Register}
use Rattle.asm_core.specs.declared.shape.Shape.{Shape}
use Rattle.asm_core.specs.declared.finding.Cell.{Cell}
use Rattle.asm_core.specs.declared.interface.Role.{Role}
use Rattle.asm_core.specs.declared.interface.AltIface.{AltIface}
use Rattle.asm_core.specs.declared.interface.OperandIface.{OperandIface}
use Rattle.asm_core.specs.declared.interface.Interface.{Interface}
use Rattle.blk_deps.specs.Line.{uses_in}
use Rattle.blk_deps.specs.Rules.{Used, condition_flags, breaks_r1, breaks_r2, breaks_r3, breaks_u3}
use Rattle.blk_deps.specs.declared.fact.Provenance.TheVariants.{EntryOf, Undefined}
use Rattle.blk_deps.specs.declared.fact.Property.TheVariants.{ComesFrom, Pair}

-- ---- conditions

abbrev jump : Cond → Sym
jump c = record { op = Op.J c; width = Width.L; args = Arg.Label 0 ∷ []; repeat = Repeat.No; lock = false; place = 0 }

-- A condition names the flags that a jump by it uses.
used_by_jump : (c : Cond) → uses_in (jump c) ≡ map Source.Flag (condition_flags c)
unfolding origins
used_by_jump Cond.O = refl
used_by_jump Cond.No = refl
used_by_jump Cond.B = refl
used_by_jump Cond.Ae = refl
used_by_jump Cond.E = refl
used_by_jump Cond.Ne = refl
used_by_jump Cond.Be = refl
used_by_jump Cond.A = refl
used_by_jump Cond.S = refl
used_by_jump Cond.Ns = refl
used_by_jump Cond.P = refl
used_by_jump Cond.Np = refl
used_by_jump Cond.L = refl
used_by_jump Cond.Ge = refl
used_by_jump Cond.Le = refl
used_by_jump Cond.G = refl

-- ---- an output and an input of one byte, anywhere in registers: places 7 and 8

abbrev anywhere : AltIface
anywhere = record { early = false; tied = None; regs = record { 0 = 127 }; pair = false; mem = false; numbers = None }

abbrev operand : Role → OperandIface
operand role = record { role = role; size = 1; pointer = false; known = None; flag = None; alts = anywhere ∷ [] }

abbrev bytes : Interface
bytes = record { operands = operand Role.Out ∷ operand Role.In ∷ []; clobbers = no_regs; cc = false; memory = false }

abbrev both : Shape
both = record { alternative = 0; kinds = Register ∷ Register ∷ [] }

-- what comes from the value of a cell at the entry
abbrev from : ℕ → Used
from c (ComesFrom (EntryOf e)) = e == c
from c property = false

-- what was read from the input after the output was written
abbrev overwritten : Used
overwritten (Pair d u) = d == 7 && u == 8
overwritten property = false

abbrev undefined : Used
undefined (ComesFrom Undefined) = true
undefined property = false

-- the carry flag isn't declared, nor is ecx; ebx isn't used
carry : breaks_r1 bytes both (Cell.Flag Flag.Cf) (from 148) ≡ true
unfolding places_of
carry = refl

register : breaks_r1 bytes both (Cell.Reg Reg.Ecx) (from 9) ≡ true
unfolding places_of
register = refl

other_register : breaks_r1 bytes both (Cell.Reg Reg.Ebx) (from 9) ≡ false
unfolding places_of
other_register = refl

-- byte 0 of the output's register is its old value; byte 1 lies above it, as byte 1 of the input's does
old_value : breaks_r2 bytes both (Cell.Operand 0) (from 28) ≡ true
unfolding places_of
old_value = refl

no_old_value : breaks_r2 bytes both (Cell.Operand 0) (from 29) ≡ false
unfolding places_of
no_old_value = refl

above_output : breaks_r3 bytes both (Cell.Operand 0) (from 29) ≡ true
unfolding places_of
above_output = refl

above_input : breaks_r3 bytes both (Cell.Operand 1) (from 33) ≡ true
unfolding places_of
above_input = refl

within_input : breaks_r3 bytes both (Cell.Operand 1) (from 32) ≡ false
unfolding places_of
within_input = refl

undefined_bits : breaks_r3 bytes both Cell.Nothing undefined ≡ true
unfolding places_of
undefined_bits = refl

-- the first name is of the place that was written
hit : breaks_u3 bytes both (Cell.Operand 0) (Cell.Operand 1) overwritten ≡ true
unfolding places_of
hit = refl

not_hit : breaks_u3 bytes both (Cell.Operand 1) (Cell.Operand 0) overwritten ≡ false
unfolding places_of
not_hit = refl
