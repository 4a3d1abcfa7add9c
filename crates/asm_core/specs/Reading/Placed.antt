-- The lines of a template with each operand replaced by what a placement puts there.
use Rattle.std.specs.Prelude.{◌≡◌, ℕ, ◌^◌, ◌<◌, ℤ, pos, negsuc, ◌≤ℤ◌, ◌&&◌, nat_lt, not, Bool, true, List, [], ◌∷◌, map, Option, None, Some, Ok, slice_get}
use Rattle.std.specs.Option.{option_map}
use Rattle.asm_core.specs.Placement.{spot_of, IsAllowed}
use Rattle.asm_core.specs.Expansion.{expansion_of}
use Rattle.asm_core.specs.Reading.Text.{TextCode, code_of_text, register_arg, number_arg, memory_arg, address_arg}
use Rattle.asm_core.specs.declared.reading.Sign.{Sign}
use Rattle.asm_core.specs.declared.reg.Reg.{Reg}
use Rattle.asm_core.specs.declared.sym.Place.{Place}
use Rattle.asm_core.specs.declared.sym.Disp.{Disp}
use Rattle.asm_core.specs.declared.sym.Arg.{Arg}
use Rattle.asm_core.specs.declared.sym.Sym.{Sym}
use Rattle.asm_core.specs.declared.piece.Piece.{Piece}
use Rattle.asm_core.specs.declared.names.NameRow.{NameRow}
use Rattle.asm_core.specs.declared.placement.Form.{Form}
use Rattle.asm_core.specs.declared.placement.Spot.{Spot}
use Rattle.asm_core.specs.declared.placement.Placement.{Placement}
use Rattle.asm_core.specs.declared.shape.Shape.{Shape}
use Rattle.asm_core.specs.declared.interface.Interface.{Interface}
use Rattle.asm_core.specs.declared.inst.InstArg.{InstArg}
use Rattle.asm_core.specs.declared.inst.Inst.{Inst}
use Rattle.asm_core.specs.declared.lines.Lines.{Lines}

-- the register of operand k, and eax for the pair
abbrev pub spot_place : ℕ → Spot → Place
spot_place k (Spot.Register r) = Place.Reg r
spot_place k Spot.Pair = Place.Reg Reg.Eax
spot_place k (Spot.Memory form) = Place.Operand k
spot_place k (Spot.Number n) = Place.Operand k

abbrev pub placed_place : Placement → Place → Place
placed_place p (Place.Reg r) = Place.Reg r
placed_place p (Place.Operand k) = spot_place k (spot_of p k)

abbrev pub spot_disp : ℕ → Spot → Disp
spot_disp k (Spot.Number n) = Disp.Number n
spot_disp k (Spot.Register r) = Disp.Hole k
spot_disp k Spot.Pair = Disp.Hole k
spot_disp k (Spot.Memory form) = Disp.Hole k

abbrev pub placed_disp : Placement → Disp → Disp
placed_disp p (Disp.Number n) = Disp.Number n
placed_disp p (Disp.Hole k) = spot_disp k (spot_of p k)

abbrev pub spot_form : Spot → Option Form
spot_form (Spot.Memory form) = Some form
spot_form (Spot.Register r) = None
spot_form Spot.Pair = None
spot_form (Spot.Number n) = None

abbrev pub placed_base : Placement → Option Place → Option Place
placed_base p None = None
placed_base p (Some place) = Some (placed_place p place)

abbrev pub placed_index : Placement → Option (Place × ℕ) → Option (Place × ℕ)
placed_index p None = None
placed_index p (Some (place, scale)) = Some (placed_place p place, scale)

-- an operand of a line under a placement
abbrev pub operand_under : Placement → Arg → Option InstArg
operand_under p (Arg.Register place slice) = register_arg (placed_place p place) slice
operand_under p (Arg.Number n) = Some (InstArg.Number n)
operand_under p (Arg.Hole k) = number_arg (placed_disp p (Disp.Hole k))
operand_under p (Arg.Memory k) = memory_arg k (spot_form (spot_of p k))
operand_under p (Arg.Address d base index) = address_arg (placed_disp p d) (placed_base p base) (placed_index p index)
operand_under p (Arg.Label n) = Some (InstArg.Label n)

abbrev pub operand_at : Placement → Option Arg → Option InstArg
operand_at p None = None
operand_at p (Some arg) = operand_under p arg

-- the line under a placement
abbrev pub inst_under : Placement → Sym → Inst
inst_under p s = record {
  op = s.op;
  width = s.width;
  args = operand_at p (slice_get s.args 0) ∷ operand_at p (slice_get s.args 1) ∷ operand_at p (slice_get s.args 2) ∷ [];
  repeat = s.repeat;
  lock = s.lock;
}

-- the lines under a placement
abbrev pub code_under : Placement → Lines → TextCode
code_under p lines = record { insts = map (option_map (inst_under p)) lines.insts; labels = lines.labels; targets = lines.targets }

-- no hole and no `%=` stands directly beside another
abbrev pub is_apart : List ℕ → Bool
is_apart [] = true
is_apart (c ∷ cs) = not (nat_lt c 2 && nat_lt (first_or_two cs) 2) && is_apart cs
  where
    first_or_two : List ℕ → ℕ
    first_or_two [] = 2
    first_or_two (d ∷ ds) = d

-- a number that an instruction can hold: from -2^31 to 2^32 - 1
pub record IsWordNumber (n : ℤ) : Type 0 where
  pub low : negsuc 2147483647 ≤ℤ n
  pub high : n ≤ℤ pos 4294967295

-- Under every allowed placement that gives each operand a name, the lines say what the text says.
pub record ReadsWhole (rows : List NameRow) (i : Interface) (s : Shape) (ps : List Piece) (lines : Lines) : Type 0 where
  pub each : (p : Placement) (unique : ℕ) (text : List Sign) → IsAllowed i s p → unique < 2 ^ 32 → expansion_of i p unique ps ≡ Ok text
      → code_of_text rows i s text ≡ code_under p lines
