-- What is judged of a statement's instructions under all live shapes at once: that they have a reading, that the shapes agree on it, and
-- that jumps stay in the block. This project's own.
use Rattle.std.specs.Prelude.{◌≡◌, ◌⊎◌, ℕ, ◌+◌, ◌^◌, ◌==◌, ◌<◌, ◌≤◌, ◌&&◌, ◌||◌, nat_lt, length, All, not, bit_and, bit_or, fold, find, map, is_none, option_map, slice_get, slice_index, List, [], ◌∷◌, ◌++◌, Bool, true, false, Option, None, Some, Result, Ok, Err, IsSome, if◌then◌else◌}
use Rattle.std.specs.List.{list_any, list_all}
use Rattle.asm_core.specs.Lists.{count_from, optional_at}
use Rattle.asm_core.specs.Reg.{reg_number}
use Rattle.asm_core.specs.Constraint.{names_of}
use Rattle.asm_core.specs.Pieces.{pieces_of}
use Rattle.asm_core.specs.Placement.{is_output}
use Rattle.asm_core.specs.Shape.{IsLive}
use Rattle.asm_core.specs.Company.{all_places, same_in_register, same_if_there}
use Rattle.asm_core.specs.Reading.Chosen.{same_width}
use Rattle.asm_core.specs.Reading.Names.{names}
use Rattle.asm_core.specs.Reading.Line.{lines_under}
use Rattle.asm_core.specs.Reading.Unasked.{unasked_of}
use Rattle.asm_core.specs.contracts.inst.OpPartialEq.TheImpl as op_equality
use Rattle.asm_core.specs.declared.reg.Reg.{Reg}
use Rattle.asm_core.specs.declared.reg.Reg.TheVariants.{Eax, Ebx, Ecx, Edx, Esi, Edi, Ebp}
use Rattle.asm_core.specs.declared.reg.RegSet.{RegSet}
use Rattle.asm_core.specs.declared.inst.Op.{Op}
use Rattle.asm_core.specs.declared.sym.Sym.{Sym}
use Rattle.asm_core.specs.declared.mark.Mark.{Mark}
use Rattle.asm_core.specs.declared.mark.MarkKind.{MarkKind}
use Rattle.asm_core.specs.declared.piece.Piece.{Piece}
use Rattle.asm_core.specs.declared.piece.PiecesEnd.{PiecesEnd}
use Rattle.asm_core.specs.declared.finding.Rule.{Rule}
use Rattle.asm_core.specs.declared.finding.Cell.{Cell}
use Rattle.asm_core.specs.declared.finding.Finding.{Finding}
use Rattle.asm_core.specs.declared.shape.Shape.{Shape}
use Rattle.asm_core.specs.declared.statement.Parts.{Parts}
use Rattle.asm_core.specs.declared.statement.Body.{Body}
use Rattle.asm_core.specs.declared.interface.OperandIface.{OperandIface}
use Rattle.asm_core.specs.declared.interface.Interface.{Interface}
use Rattle.asm_core.specs.declared.company.Places.{Places}
use Rattle.asm_core.specs.declared.lines.JumpTarget.{JumpTarget}
use Rattle.asm_core.specs.declared.lines.Named.{Named}
use Rattle.asm_core.specs.declared.lines.Graph.{Graph}
use Rattle.asm_core.specs.declared.lines.Lines.{Lines}
use Rattle.asm_core.specs.declared.lines.LinesEnd.{LinesEnd}
use Rattle.blk_flow.specs.Graph.{graph_of}

-- ---- live shapes

-- These are the live ones of the shapes, in their order.
unfoldable pub AreLive : Interface → List Shape → List Shape → Type 0
AreLive i [] live = live ≡ []
AreLive i (s ∷ ss) live = (IsLive i s × (rest : List Shape) × (live ≡ s ∷ rest) × AreLive i ss rest) ⊎ ((IsLive i s → ⊥) × AreLive i ss live)

-- ---- readings

-- what a statement's template gives
abbrev pub parts_pieces : Parts → Result (List Piece) PiecesEnd
parts_pieces parts = pieces_of parts.template (names_of (parts.outputs ++ parts.inputs))

abbrev pub pieces_or_none : Result (List Piece) PiecesEnd → List Piece
pieces_or_none (Ok ps) = ps
pieces_or_none (Err end) = []

abbrev pub pieces_in : Body → List Piece
pieces_in (Body.Parts parts) = pieces_or_none (parts_pieces parts)
pieces_in (Body.Outside mark) = []

abbrev pub with_lines : Result Lines LinesEnd → Result (List Lines) LinesEnd → Result (List Lines) LinesEnd
with_lines (Err end) others = Err end
with_lines (Ok x) (Err end) = Err end
with_lines (Ok x) (Ok xs) = Ok (x ∷ xs)

-- The lines under each shape; none where there are too many.
unfoldable pub readings_under : Interface → List Piece → List Shape → Result (List Lines) LinesEnd
readings_under i ps [] = Ok []
readings_under i ps (s ∷ ss) = with_lines (lines_under names i s ps) (readings_under i ps ss)

abbrev pub FailsReadings : LinesEnd → Result (List Lines) LinesEnd → Type 0
FailsReadings LinesEnd.TooMany read = read ≡ Err LinesEnd.TooMany
FailsReadings LinesEnd.Memory read = Unit {0}

-- what an answer says of them, memory aside
abbrev pub GivesReadings : Result (List Lines) LinesEnd → Result (List Lines) LinesEnd → Type 0
GivesReadings (Ok xs) read = read ≡ Ok xs
GivesReadings (Err end) read = FailsReadings end read

-- what lines keep that are read
pub record IsShort (x : Lines) : Type 0 where
  pub insts : length x.insts ≤ 512
  pub targets : All (λ (t : JumpTarget). t.inst < 512) x.targets

-- ---- the first instruction without a reading, numbered from 0

abbrev pub inst_at : ℕ → Lines → Option Sym
inst_at n x = optional_at x.insts n

abbrev pub has_none : ℕ → Lines → Bool
has_none n x = is_none (inst_at n x)

abbrev pub leaves_out : ℕ → Lines → Bool
leaves_out n x = list_any (λ k. k == n) x.left_out

-- no shape has a reading of it, or some leaves it out
abbrev pub is_unread : List Lines → ℕ → Bool
is_unread xs n = list_all (has_none n) xs || list_any (leaves_out n) xs

abbrev pub instruction_mark : Lines → ℕ → Mark
instruction_mark x n = record { kind = MarkKind.Instruction; place = slice_index x.places n }

unfoldable pub first_unread : List Lines → Option Mark
first_unread [] = None
first_unread (x ∷ xs) = option_map (instruction_mark x) (find (is_unread (x ∷ xs)) (count_from 0 x.insts))

-- ---- what the shapes don't agree on

abbrev pub registers : List Reg
registers = Eax ∷ Ebx ∷ Ecx ∷ Edx ∷ Esi ∷ Edi ∷ Ebp ∷ []

-- To have the same company is an equality, so the first shape is compared with each other one.
abbrev pub register_differs : List (List Places) → Reg → Bool
register_differs [] r = false
register_differs (p ∷ ps) r = list_any (λ (q : List Places). not (same_in_register r p q)) ps

abbrev pub same_of_operand : ℕ → List Places → List Places → Bool
same_of_operand k p q = same_if_there p q (slice_get p k) (slice_get q k)

abbrev pub operand_differs : List (List Places) → ℕ → Bool
operand_differs [] k = false
operand_differs (p ∷ ps) k = list_any (λ (q : List Places). not (same_of_operand k p q)) ps

abbrev pub register_bit : List (List Places) → Reg → ℕ
register_bit ps r = if register_differs ps r then 2 ^ reg_number r else 0

abbrev pub operand_bit : List (List Places) → ℕ → ℕ
operand_bit ps k = if operand_differs ps k then 2 ^ k else 0

-- the registers and the operands whose company differs between two of the shapes, where operands are at these places
unfoldable pub differing : Interface → List (List Places) → Named
differing i ps = record {
  regs = record { 0 = fold (λ bits r. bit_or bits (register_bit ps r)) 0 registers };
  operands = fold (λ bits k. bit_or bits (operand_bit ps k)) 0 (count_from 0 i.operands);
}

abbrev pub output_differs_at : List (List Places) → ℕ → Option OperandIface → Bool
output_differs_at ps k None = false
output_differs_at ps k (Some o) = is_output o.role && operand_differs ps k

-- the company of an output differs
abbrev pub some_output_differs : Interface → List (List Places) → Bool
some_output_differs i ps = list_any (λ k. output_differs_at ps k (slice_get i.operands k)) (count_from 0 i.operands)

-- ---- U1 at an instruction

abbrev pub same_op : Op → Op → Bool
same_op = op_equality.ghosts.eq

-- both are read with one operation and one width, or neither is read
abbrev pub read_alike : Option Sym → Option Sym → Bool
read_alike None None = true
read_alike (Some a) (Some b) = same_op a.op b.op && same_width a.width b.width
read_alike None (Some b) = false
read_alike (Some a) None = false

abbrev pub is_read_twofold : List Lines → ℕ → Bool
is_read_twofold [] n = false
is_read_twofold (x ∷ xs) n = list_any (λ (y : Lines). not (read_alike (inst_at n x) (inst_at n y))) xs

abbrev pub have_common : ℕ → ℕ → Bool
have_common a b = not (bit_and a b == 0)

abbrev pub named_from : Named → Option Named → Bool
named_from d None = false
named_from d (Some named) = have_common d.regs.0 named.regs.0 || have_common d.operands named.operands

abbrev pub unasked_from : RegSet → Option Sym → Bool
unasked_from regs None = false
unasked_from regs (Some s) = have_common regs.0 (unasked_of s).0

-- it names one of them in its text, or uses a register unasked that is one of them
abbrev pub names_one : Named → ℕ → Lines → Bool
names_one d n x = named_from d (slice_get x.named n) || unasked_from d.regs (inst_at n x)

abbrev pub breaks_u1 : Named → List Lines → ℕ → Bool
breaks_u1 d xs n = is_read_twofold xs n || list_any (names_one d n) xs

-- ---- findings

abbrev pub instructions_in : List Lines → List ℕ
instructions_in [] = []
instructions_in (x ∷ xs) = count_from 0 x.insts

-- lines count from 1
abbrev pub line_number : ℕ → ℕ
line_number n = n + 1

abbrev pub end_if : Bool → Option ℕ
end_if b = if b then Some 513 else None

abbrev pub or_end : Option ℕ → Bool → Option ℕ
or_end (Some n) b = Some (line_number n)
or_end None b = end_if b

-- the least line of U1: an instruction's, or the end's where it is an output's
unfoldable pub u1_line : Interface → List (List Places) → List Lines → Option ℕ
u1_line i ps xs = or_end (find (breaks_u1 (differing i ps) xs) (instructions_in xs)) (some_output_differs i ps)

abbrev pub is_lost : JumpTarget → Bool
is_lost t = is_none t.goal

-- the first jump to no label
abbrev pub first_lost : Lines → Option ℕ
first_lost x = option_map (λ (t : JumpTarget). line_number t.inst) (find is_lost x.targets)

abbrev pub lesser : Option ℕ → Option ℕ → Option ℕ
lesser None other = other
lesser (Some a) None = Some a
lesser (Some a) (Some b) = if nat_lt b a then Some b else Some a

-- the least line of J1 under any of the shapes
unfoldable pub j1_line : List Lines → Option ℕ
j1_line xs = fold (λ least (x : Lines). lesser least (first_lost x)) None xs

abbrev pub finding_at : Rule → Option ℕ → List Finding
finding_at rule None = []
finding_at rule (Some line) = record { rule = rule; line = line; cell = Cell.Nothing; other = Cell.Nothing } ∷ []

-- U1 and J1, each once
unfoldable pub shape_findings : Interface → List Shape → List Lines → List Finding
shape_findings i live xs = finding_at Rule.U1 (u1_line i (map (all_places i) live) xs) ++ finding_at Rule.J1 (j1_line xs)

-- ---- blocks

-- lines that are all read, whose jumps stay inside, have a block
pub record HasBlock (x : Lines) : Type 0 where
  pub read : All (λ s. IsSome s) x.insts
  pub few : length x.insts ≤ 512
  pub graph : Graph
  pub is_graph : graph_of x ≡ Ok graph
