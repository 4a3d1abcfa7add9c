-- Which instructions have a reading under a shape. What is clobbered and what lies apart from what is left aside, so that a
-- clobber or an early mark that is added changes no reading (this project's own rule).
use Rattle.std.specs.Prelude.{◌≡◌, ◌↔◌, ℕ, List, [], ◌∷◌, length, map, false, IsTrue, is_some, Option, None, Some, Result, Ok, slice_get}
use Rattle.std.specs.Option.{option_map}
use Rattle.asm_core.specs.Reg.{IsIn}
use Rattle.asm_core.specs.Lists.{IsMember, optional_at}
use Rattle.asm_core.specs.Comments.{uncommented}
use Rattle.asm_core.specs.Pieces.{piece_code}
use Rattle.asm_core.specs.Placement.{spot_of, tie_root, IsForm, IsNumber, HasOperand}
use Rattle.asm_core.specs.Expansion.{expansion_with}
use Rattle.asm_core.specs.Reading.Cut.{Raw, raws_of, labels_from, instruction_count}
use Rattle.asm_core.specs.Shape.{shapes_of}
use Rattle.asm_core.specs.Reading.Facts.{facts_of}
use Rattle.asm_core.specs.Reading.Line.{goal_of, line_of, line_read}
use Rattle.asm_core.specs.Reading.Text.{runs_of, atom_of_run, text_inst}
use Rattle.asm_core.specs.Reading.Placed.{inst_under}
use Rattle.asm_core.specs.declared.names.Prefix.{Prefix}
use Rattle.asm_core.specs.declared.names.NameRow.{NameRow}
use Rattle.asm_core.specs.declared.sym.Sym.{Sym}
use Rattle.asm_core.specs.declared.piece.Piece.{Piece}
use Rattle.asm_core.specs.declared.lines.Lines.{Lines}
use Rattle.asm_core.specs.declared.shape.Kind.{Kind}
use Rattle.asm_core.specs.declared.shape.Shape.{Shape}
use Rattle.asm_core.specs.declared.interface.AltIface.{AltIface}
use Rattle.asm_core.specs.declared.interface.OperandIface.{OperandIface}
use Rattle.asm_core.specs.declared.interface.Interface.{Interface}
use Rattle.asm_core.specs.declared.placement.Spot.{Spot}
use Rattle.asm_core.specs.declared.placement.Placement.{Placement}
use Rattle.asm_core.specs.declared.reading.Reading.{Reading}
use Rattle.asm_core.specs.declared.reading.Sign.{Sign}

-- the letters of the alternative let an operand of this kind be here
abbrev pub LettersFit : OperandIface → AltIface → Kind → Spot → Type 0
LettersFit o alt Kind.Register (Spot.Register r) = IsIn alt.regs r
LettersFit o alt Kind.Register Spot.Pair = IsTrue alt.pair
LettersFit o alt Kind.Memory (Spot.Memory form) = IsForm form
LettersFit o alt Kind.Number (Spot.Number n) = IsNumber alt.numbers o.known n
LettersFit o alt kind spot = ⊥

-- a placement of the shape by letters, ties and numbers alone
pub record IsLettered (i : Interface) (s : Shape) (p : Placement) : Type 0 where
  pub count : p.count ≡ length i.operands
  pub fits : (k : ℕ) (o : OperandIface) (alt : AltIface) (kind : Kind) → HasOperand i s k o alt kind → alt.tied ≡ None → LettersFit o alt kind (spot_of p k)
  pub ties : (k : ℕ) → spot_of p k ≡ spot_of p (tie_root i s k)

-- the text of an instruction's body under a placement, if each of its operands has a name there
abbrev pub body_text : Interface → Placement → ℕ → List Piece → Result (List Sign) ℕ
body_text i p unique body = expansion_with i p unique body (map (λ x. false) body)

-- what that text says, behind these prefixes; `goal` tells the goal of a label
abbrev pub body_reading : List NameRow → Interface → Shape → (List ℕ → Option (Option ℕ)) → List Prefix → List Sign → Reading
body_reading rows i s goal before text = line_of rows goal before 0 (map (atom_of_run (facts_of i s)) (runs_of text))

-- a placement of the shape that gives each operand of the body a name
pub record HasNames (i : Interface) (s : Shape) (body : List Piece) : Type 0 where
  pub placement : Placement
  pub is_lettered : IsLettered i s placement
  pub text : List Sign
  pub is_text : body_text i placement 0 body ≡ Ok text

-- Some placement gives each operand of the body a name, and the text under each that does is an instruction. One that is left
-- out of the table of names is none.
pub record HasReading (rows : List NameRow) (i : Interface) (s : Shape) (goal : List ℕ → Option (Option ℕ)) (before : List Prefix) (body : List Piece) : Type 0 where
  pub some : HasNames i s body
  pub each : (p : Placement) (unique : ℕ) (text : List Sign) → IsLettered i s p → body_text i p unique body ≡ Ok text → IsTrue (is_some (line_read (body_reading rows i s goal before text)))

-- Under each shape of the interface the instruction is there exactly where its body has a reading; and it says what each text of
-- the body says. `count` is the number that a label has that isn't there.
pub record IsReading (rows : List NameRow) (i : Interface) (s : Shape) (count : ℕ) (goal : List ℕ → Option (Option ℕ)) (before : List Prefix) (body : List Piece) (inst : Option Sym) : Type 0 where
  pub exact : IsMember s (shapes_of i) → IsTrue (is_some inst) ↔ HasReading rows i s goal before body
  pub placed : (p : Placement) (unique : ℕ) (text : List Sign) → IsLettered i s p → body_text i p unique body ≡ Ok text → text_inst count (body_reading rows i s goal before text) ≡ option_map (inst_under p) inst

-- the statements of a template
abbrev pub statements_of : List Piece → List (Raw Piece)
statements_of ps = raws_of piece_code (uncommented piece_code ps)

-- the instructions among statements
abbrev pub instructions_of : {X : Type 0} → List (Raw X) → List (Raw X)
instructions_of [] = []
instructions_of (Raw.Named name ∷ raws) = instructions_of raws
instructions_of (Raw.Dead from ∷ raws) = Raw.Dead from ∷ instructions_of raws
instructions_of (Raw.Live before from body ∷ raws) = Raw.Live before from body ∷ instructions_of raws

-- what instruction n of a template is read as; a label is none
abbrev pub IsReadAs : List NameRow → Interface → Shape → List (Raw Piece) → ℕ → Raw Piece → Option Sym → Type 0
IsReadAs rows i s raws n (Raw.Named name) inst = ⊥
IsReadAs rows i s raws n (Raw.Dead from) inst = inst ≡ None
IsReadAs rows i s raws n (Raw.Live before from body) inst = IsReading rows i s (instruction_count raws) (goal_of (labels_from 0 raws) n) before body inst

-- Under a shape the lines have an instruction exactly where the template has one with a reading.
pub record ReadsExactly (rows : List NameRow) (i : Interface) (s : Shape) (ps : List Piece) (lines : Lines) : Type 0 where
  pub each : (n : ℕ) (raw : Raw Piece) → slice_get (instructions_of (statements_of ps)) n ≡ Some raw → IsReadAs rows i s (statements_of ps) n raw (optional_at lines.insts n)
