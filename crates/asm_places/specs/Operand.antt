-- Operands in a shape, and the operands that a class stands for.
use Rattle.std.specs.Prelude.{ℕ, ◌==◌, ◌&&◌, ◌||◌, Bool, false, Option, None, Some, length, slice_get}
use Rattle.std.specs.Int.{bit_at}
use Rattle.register_search.specs.Table.{some_below}
use Rattle.asm_core.specs.Reg.{reg_number}
use Rattle.asm_core.specs.Placement.{tie_root, is_input}
use Rattle.asm_core.specs.declared.reg.Reg.{Reg}
use Rattle.asm_core.specs.declared.reg.RegSet.{RegSet}
use Rattle.asm_core.specs.declared.shape.Kind.{Kind}
use Rattle.asm_core.specs.declared.shape.Shape.{Shape}
use Rattle.asm_core.specs.declared.interface.AltIface.{AltIface}
use Rattle.asm_core.specs.declared.interface.OperandIface.{OperandIface}
use Rattle.asm_core.specs.declared.interface.Interface.{Interface}
use Rattle.asm_places.specs.declared.operand.ShapedOperand.{ShapedOperand}

-- operand k with what its alternative allows and its kind
abbrev pub shaped : OperandIface → Option AltIface → Option Kind → Option ShapedOperand
shaped o None kind = None
shaped o (Some alt) None = None
shaped o (Some alt) (Some kind) = Some (record { role = o.role; known = o.known; allowed = alt; kind = kind })

abbrev pub shaped_at : Option OperandIface → Shape → ℕ → Option ShapedOperand
shaped_at None s k = None
shaped_at (Some o) s k = shaped o (slice_get o.alts s.alternative) (slice_get s.kinds k)

abbrev pub operand_in : Interface → Shape → ℕ → Option ShapedOperand
operand_in i s k = shaped_at (slice_get i.operands k) s k

-- operand k is an input
abbrev pub is_input_at : Option OperandIface → Bool
is_input_at None = false
is_input_at (Some o) = is_input o.role

-- operand t is an input, and is k or tied to k
abbrev pub is_input_to : Interface → Shape → ℕ → ℕ → Bool
is_input_to i s k t = is_input_at (slice_get i.operands t) && tie_root i s t == k

-- operand k is an input, or one is tied to it
abbrev pub holds_input : Interface → Shape → ℕ → Bool
holds_input i s k = some_below (length i.operands) (is_input_to i s k)

-- the register of that number is in the set
abbrev pub has_register : RegSet → ℕ → Bool
has_register set number = bit_at set.0 number == 1

-- the choice takes the register
abbrev pub takes : ℕ → Reg → Bool
takes choice r = choice == reg_number r || (choice == 7 && (reg_number r == 0 || reg_number r == 3))
