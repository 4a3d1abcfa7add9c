-- How a template's text under a placement is read. A byte of the template is read as the assembler reads it. A run of bytes that
-- one operand gave is one element, and means what its bytes say: a register's name, a number, an address, by the kind of the
-- operand. Only the number of a memory operand, and whether `%cl` may be a count, look at the operand itself. The number
-- that `%=` gave is one element whatever its digits are.
use Rattle.std.specs.Prelude.{ℕ, zero, suc, ◌==◌, ◌&&◌, max, ℤ, pos, List, [], ◌∷◌, length, map, drop, slice_index, slice_get, unwrap_or, Option, None, Some, if◌then◌else◌}
use Rattle.std.specs.Option.{option_map}
use Rattle.std.specs.List.{slice_split}
use Rattle.asm_core.specs.Comments.{uncommented}
use Rattle.asm_core.specs.Reading.Cut.{Raw, raws_of, instruction_count}
use Rattle.asm_core.specs.Reading.Written.{register_named, number_of}
use Rattle.asm_core.specs.Reading.Operands.{atom_code}
use Rattle.asm_core.specs.Reading.Facts.{facts_of, is_fixed_cl}
use Rattle.asm_core.specs.Reading.Line.{line_read, readings_of, labels_of, targets_from}
use Rattle.asm_core.specs.declared.reading.Line.{Line}
use Rattle.asm_core.specs.declared.reading.Reading.{Reading}
use Rattle.asm_core.specs.declared.reg.Reg.{Reg}
use Rattle.asm_core.specs.declared.reg.Slice.{Slice}
use Rattle.asm_core.specs.declared.sym.Place.{Place}
use Rattle.asm_core.specs.declared.sym.Disp.{Disp}
use Rattle.asm_core.specs.declared.piece.Modifier.{Modifier}
use Rattle.asm_core.specs.declared.piece.Piece.{Piece}
use Rattle.asm_core.specs.declared.names.NameRow.{NameRow}
use Rattle.asm_core.specs.declared.placement.Base.{Base}
use Rattle.asm_core.specs.declared.placement.Form.{Form}
use Rattle.asm_core.specs.declared.shape.Kind.{Kind}
use Rattle.asm_core.specs.declared.shape.Shape.{Shape}
use Rattle.asm_core.specs.declared.interface.Interface.{Interface}
use Rattle.asm_core.specs.declared.inst.InstArg.{InstArg}
use Rattle.asm_core.specs.declared.inst.Inst.{Inst}
use Rattle.asm_core.specs.declared.reading.OperandFacts.{OperandFacts}
use Rattle.asm_core.specs.declared.reading.Sign.{Sign}
use Rattle.asm_core.specs.declared.reading.Leaf.{Leaf}
use Rattle.asm_core.specs.declared.reading.Leaf.TheVariants as leaves
use Rattle.asm_core.specs.declared.reading.Atom.{Atom}
use Rattle.asm_core.specs.declared.reading.LineOperand.{LineOperand}
use Rattle.asm_core.specs.declared.lines.Label.{Label}
use Rattle.asm_core.specs.declared.lines.JumpTarget.{JumpTarget}

-- a byte of the template, or a run of bytes that an operand or `%=` gave
pub data Run : Type 0 where
  Byte : (byte : ℕ) → Run
  Given : (origin : ℕ) → (text : List ℕ) → Run

-- a sign before runs: it joins the first where that has its origin
abbrev pub onto_runs : ℕ → ℕ → List Run → List Run
onto_runs byte origin [] = Run.Given origin (byte ∷ []) ∷ []
onto_runs byte origin (Run.Byte b ∷ runs) = Run.Given origin (byte ∷ []) ∷ Run.Byte b ∷ runs
onto_runs byte origin (Run.Given o text ∷ runs) =
    if o == origin then Run.Given o (byte ∷ text) ∷ runs else Run.Given origin (byte ∷ []) ∷ Run.Given o text ∷ runs

-- the template's bytes, and maximal runs of one other origin
unfoldable pub runs_of : List Sign → List Run
runs_of [] = []
runs_of (s ∷ signs) = elim s.origin [ zero ↦ Run.Byte s.byte ∷ runs_of signs | suc o ↦ onto_runs s.byte (suc o) (runs_of signs) ]

-- the code of a sign among comments: that of the piece that it comes from
abbrev pub sign_code : Sign → ℕ
sign_code s = code s.origin
  where
    code : ℕ → ℕ
    code zero = max s.byte 2
    code (suc o) = if o == 254 then 1 else 0

-- a register's place in a text: behind its `%`
abbrev register_in : List ℕ → Option (Reg × Slice)
register_in text = register_named (drop 1 text)

abbrev pub read_register : OperandFacts → Option (Reg × Slice) → Leaf
read_register fact None = leaves.Nameless
read_register fact (Some r) = leaves.Register (Place.Reg r.0) r.1 (is_fixed_cl fact.fixed r.1)

abbrev number_or_zero : Option ℤ → ℤ
number_or_zero n = unwrap_or n (pos 0)

-- with `$` an immediate
abbrev pub read_number : OperandFacts → List ℕ → Leaf
read_number fact text =
    if slice_index text 0 == 36 then leaves.Immediate (Disp.Number (number_or_zero (number_of (drop 1 text))))
    else leaves.Bare (Disp.Number (number_or_zero (number_of text))) fact.known

abbrev base_of : Option (Reg × Slice) → Option Base
base_of None = None
base_of (Some r) = Some (Base.Reg r.0)

-- `%esp` may be a base here
abbrev pub base_in : List ℕ → Option Base
base_in text = if length text == 0 then None else if slice_index text 2 == 115 && (slice_index text 3 == 112) then Some Base.Esp else base_of (register_in text)

abbrev scale_or_one : Option ℤ → ℕ
scale_or_one (Some (pos n)) = n
scale_or_one n = 1

abbrev index_of : Option (Reg × Slice) → Option ℤ → Option (Reg × ℕ)
index_of None scale = None
index_of (Some r) scale = Some (r.0, scale_or_one scale)

abbrev pub index_in : List (List ℕ) → Option (Reg × ℕ)
index_in [] = None
index_in (index ∷ []) = index_of (register_in index) None
index_in (index ∷ scale ∷ rest) = index_of (register_in index) (number_of scale)

abbrev pub form_with : ℤ → List (List ℕ) → Form
form_with disp [] = record { disp = disp; base = None; index = None }
form_with disp (base ∷ rest) = record { disp = disp; base = base_in base; index = index_in rest }

abbrev up_to : ℕ → List ℕ → List (List ℕ)
up_to c text = slice_split (λ x. x == c) text

abbrev first_part : List (List ℕ) → List ℕ
first_part [] = []
first_part (p ∷ ps) = p

abbrev pub form_parts : List (List ℕ) → Form
form_parts [] = form_with (pos 0) []
form_parts (disp ∷ []) = form_with (number_or_zero (number_of disp)) []
form_parts (disp ∷ inner ∷ rest) = form_with (number_or_zero (number_of disp)) (up_to 44 (first_part (up_to 41 inner)))

-- the parts of an address, cut at `(`, at `)` and at commas
unfoldable pub form_read : List ℕ → Form
form_read text = form_parts (up_to 40 text)

-- what the bytes that an operand gave say, by its kind
abbrev pub read_by : Kind → OperandFacts → List ℕ → Leaf
read_by Kind.Register fact text = read_register fact (register_in text)
read_by Kind.Number fact text = read_number fact text
read_by Kind.Memory fact text = leaves.Memory fact.root (Some (form_read text))

abbrev pub leaf_read : Option OperandFacts → List ℕ → Leaf
leaf_read None text = leaves.Nameless
leaf_read (Some fact) text = read_by fact.kind fact text

abbrev pub atom_with : Piece → Leaf → Atom
atom_with p leaf = record { piece = p; leaf = leaf }

-- the operand that a run of that origin comes from
abbrev pub operand_from : ℕ → ℕ
operand_from zero = 0
operand_from (suc k) = k

-- a run as an element of a line
abbrev pub atom_of_run : (ℕ → Option OperandFacts) → Run → Atom
atom_of_run facts (Run.Byte b) = atom_with (Piece.Byte b 0) leaves.Nothing
atom_of_run facts (Run.Given o text) =
    if operand_from o == 254 then atom_with (Piece.Unique 0) leaves.Nothing else atom_with (Piece.Hole (operand_from o) Modifier.Plain 0) (leaf_read (facts (operand_from o)) text)

-- the statements of a text
unfoldable pub text_raws : Interface → Shape → List Sign → List (Raw Atom)
text_raws i s signs = raws_of atom_code (map (atom_of_run (facts_of i s)) (runs_of (uncommented sign_code signs)))

abbrev pub register_arg : Place → Slice → Option InstArg
register_arg (Place.Reg r) slice = Some (InstArg.Register r slice)
register_arg (Place.Operand k) slice = None

abbrev pub number_arg : Disp → Option InstArg
number_arg (Disp.Number n) = Some (InstArg.Number n)
number_arg (Disp.Hole k) = None

abbrev pub memory_arg : ℕ → Option Form → Option InstArg
memory_arg k None = None
memory_arg k (Some form) = Some (InstArg.Address form (Some k))

abbrev pub base_arg : Option Place → Option Base
base_arg None = None
base_arg (Some (Place.Reg r)) = Some (Base.Reg r)
base_arg (Some (Place.Operand k)) = None

abbrev pub index_arg : Option (Place × ℕ) → Option (Reg × ℕ)
index_arg None = None
index_arg (Some (Place.Reg r, scale)) = Some (r, scale)
index_arg (Some (Place.Operand k, scale)) = None

abbrev pub address_arg : Disp → Option Place → Option (Place × ℕ) → Option InstArg
address_arg (Disp.Number n) base index = Some (InstArg.Address (record { disp = n; base = base_arg base; index = index_arg index }) None)
address_arg (Disp.Hole k) base index = None

-- an operand of a text; `count` is the number that a label has that isn't there
abbrev pub inst_arg_of : ℕ → LineOperand → Option InstArg
inst_arg_of count (LineOperand.Register place slice is_count) = register_arg place slice
inst_arg_of count (LineOperand.Immediate d) = number_arg d
inst_arg_of count (LineOperand.Memory k form) = memory_arg k form
inst_arg_of count (LineOperand.Address d base index) = address_arg d base index
inst_arg_of count (LineOperand.Label goal) = Some (InstArg.Label (unwrap_or goal count))

abbrev pub inst_arg_at : ℕ → Option LineOperand → Option InstArg
inst_arg_at count None = None
inst_arg_at count (Some o) = inst_arg_of count o

abbrev pub inst_of : ℕ → Line → Inst
inst_of count l = record {
  op = l.op;
  width = l.width;
  args = inst_arg_at count (slice_get l.operands 0) ∷ inst_arg_at count (slice_get l.operands 1) ∷ inst_arg_at count (slice_get l.operands 2) ∷ [];
  repeat = l.repeat;
  lock = l.lock;
}

-- the instructions of a text, each None where it has no reading
pub record TextCode : Type 0 where
  pub insts : List (Option Inst)
  pub labels : List Label
  pub targets : List JumpTarget

abbrev pub text_inst : ℕ → Reading → Option Inst
text_inst count r = option_map (inst_of count) (line_read r)

abbrev pub text_with : List (Raw Atom) → List Reading → TextCode
text_with raws readings = record { insts = map (text_inst (instruction_count raws)) readings; labels = labels_of raws; targets = targets_from 0 readings }

-- What the text says under a shape.
abbrev pub code_of_text : List NameRow → Interface → Shape → List Sign → TextCode
code_of_text rows i s signs = let raws = text_raws i s signs in text_with raws (readings_of rows raws)
