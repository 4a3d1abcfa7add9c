-- Texts of operands and of a body, worked out by hand from the grammar.
use Rattle.std.proofs.Common.{◌≡◌, ℕ, pos, List, [], ◌∷◌, ◌++◌, map, false, Option, None, Some, Ok, Err, codes, refl}
use Rattle.asm_core.specs.Reg.{all_regs, no_regs}
use Rattle.asm_core.specs.Expansion.{with_origin, expansion_with}
use Rattle.asm_core.specs.Reading.Names.{names}
use Rattle.asm_core.specs.Reading.Chosen.{choice_of}
use Rattle.asm_core.specs.Reading.Cut.{begun}
use Rattle.asm_core.specs.Reading.Written.{number_of, magnitude_of}
use Rattle.asm_core.specs.Reading.Operands.{operand_of, operands_of, operands_in, written_operand, disp_in, place_in, scale_in, base_in, index_in, between, enclosed, front_disp, address_at, address_of, ended, trimmed}
use Rattle.asm_core.specs.Reading.Facts.{facts_of}
use Rattle.asm_core.specs.Reading.Text.{leaf_read, form_read, runs_of, text_inst}
use Rattle.asm_core.specs.Reading.Line.{line_of, line_at}
use Rattle.asm_core.specs.Reading.UnderShape.{body_text, body_reading}
use Rattle.asm_core.proofs.ReadingLaws.AsWritten.{said, given, written}
use Rattle.asm_core.specs.declared.reg.Reg.{Reg}
use Rattle.asm_core.specs.declared.reg.Slice.{Slice}
use Rattle.asm_core.specs.declared.piece.Modifier.{Modifier}
use Rattle.asm_core.specs.declared.piece.Piece.{Piece}
use Rattle.asm_core.specs.declared.placement.Base.{Base}
use Rattle.asm_core.specs.declared.placement.Spot.{Spot}
use Rattle.asm_core.specs.declared.placement.Placement.{Placement}
use Rattle.asm_core.specs.declared.shape.Kind.{Kind}
use Rattle.asm_core.specs.declared.shape.Shape.{Shape}
use Rattle.asm_core.specs.declared.interface.Role.{Role}
use Rattle.asm_core.specs.declared.interface.AltIface.{AltIface}
use Rattle.asm_core.specs.declared.interface.OperandIface.{OperandIface}
use Rattle.asm_core.specs.declared.interface.Interface.{Interface}
use Rattle.asm_core.specs.declared.inst.Op.{Op}
use Rattle.asm_core.specs.declared.inst.Width.{Width}
use Rattle.asm_core.specs.declared.inst.Repeat.{Repeat}
use Rattle.asm_core.specs.declared.inst.InstArg.{InstArg}
use Rattle.asm_core.specs.declared.reading.OperandFacts.{OperandFacts}

-- no label is defined
abbrev no_goal : List ℕ → Option (Option ℕ)
no_goal text = None

-- operand 2, in memory
abbrev memory : OperandFacts
memory = record { kind = Kind.Memory; size = 4; known = None; fixed = None; has_byte_names = false; root = 2 }

abbrev address : Option InstArg
address = Some (InstArg.Address (record { disp = pos 8; base = Some (Base.Reg Reg.Ebx); index = Some (Reg.Ecx, 4) }) None)

address_written : said no_goal 0 (written (codes "8(%ebx,%ecx,4)")) ≡ address
unfolding begun number_of magnitude_of ended trimmed disp_in place_in scale_in base_in index_in between enclosed front_disp address_at address_of written_operand operand_of
address_written = refl

address_given : said no_goal 0 (given 2 (leaf_read (Some memory) (codes "8(%ebx,%ecx,4)"))) ≡ address
unfolding form_read number_of magnitude_of operand_of
address_given = refl

-- a template may not name esp, which the compiler may take as a base
stack_written : said no_goal 0 (written (codes "8(%esp)")) ≡ None
unfolding begun number_of magnitude_of ended trimmed disp_in place_in scale_in base_in index_in between enclosed front_disp address_at address_of written_operand operand_of
stack_written = refl

stack_given : said no_goal 0 (given 2 (leaf_read (Some memory) (codes "8(%esp)"))) ≡ Some (InstArg.Address (record { disp = pos 8; base = Some Base.Esp; index = None }) None)
unfolding form_read number_of magnitude_of operand_of
stack_given = refl

-- `"=r"(y):"r"(x)`
abbrev any_register : AltIface
any_register = record { early = false; tied = None; regs = all_regs; pair = false; mem = false; numbers = None }

abbrev operand : Role → OperandIface
operand role = record { role = role; size = 4; pointer = false; known = None; flag = None; alts = any_register ∷ [] }

abbrev two : Interface
two = record { operands = operand Role.Out ∷ operand Role.In ∷ []; clobbers = no_regs; cc = false; memory = false }

abbrev registers : Shape
registers = record { alternative = 0; kinds = Kind.Register ∷ Kind.Register ∷ [] }

-- y in edi and x in esi
abbrev placement : Placement
placement = record { spots = Spot.Register Reg.Edi ∷ Spot.Register Reg.Esi ∷ []; count = 2 }

abbrev bytes : List ℕ → List Piece
bytes text = map (λ b. Piece.Byte b 7) text

-- `movl %1,%0`
abbrev move : List Piece
move = bytes (codes "movl ") ++ (Piece.Hole 1 Modifier.Plain 7 ∷ (bytes (codes ",") ++ (Piece.Hole 0 Modifier.Plain 7 ∷ [])))

move_text : body_text two placement 0 move ≡ Ok (with_origin 0 (codes "movl ") ++ (with_origin 2 (codes "%esi") ++ (with_origin 0 (codes ",") ++ with_origin 1 (codes "%edi"))))
unfolding expansion_with
move_text = refl

move_read : text_inst 1 (body_reading names two registers no_goal [] (with_origin 0 (codes "movl ") ++ (with_origin 2 (codes "%esi") ++ (with_origin 0 (codes ",") ++ with_origin 1 (codes "%edi")))))
    ≡ Some (record { op = Op.Mov; width = Width.L; args = Some (InstArg.Register Reg.Esi Slice.All) ∷ Some (InstArg.Register Reg.Edi Slice.All) ∷ None ∷ []; repeat = Repeat.No; lock = false })
unfolding runs_of facts_of form_read begun number_of magnitude_of ended trimmed disp_in place_in scale_in base_in index_in between enclosed front_disp address_at address_of written_operand operand_of operands_in operands_of choice_of line_at line_of
move_read = refl

-- edi has no name for its low byte
no_text : body_text two placement 0 (bytes (codes "incb ") ++ (Piece.Hole 0 Modifier.B 7 ∷ [])) ≡ Err 0
unfolding expansion_with
no_text = refl
