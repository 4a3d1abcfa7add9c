-- What a statement tells the compiler of its operands and of what it changes (GCC manual, "Extended Asm" and "Constraints"),
-- in this project's tables. Where it lies outside them its first mark stands in place of that, and where it is malformed the
-- findings of the rule K2. Marks count by their kind before their place: clobbers, operands, constraints, the template.
use Rattle.std.specs.Prelude.{ℕ, ◌^◌, ◌==◌, ◌||◌, bit_or, ℤ, pos, negsuc, int_lt, List, [], ◌∷◌, ◌++◌, map, fold, find, replicate, Bool, true, false, not, is_some, Option, None, Some, option_map, Result, Ok, Err, if◌then◌else◌}
use Rattle.std.specs.List.{list_any}
use Rattle.std.specs.Int.{int_min, int_max}
use Rattle.asm_core.specs.Lists.{optional_at}
use Rattle.asm_core.specs.Reg.{reg_number, no_regs}
use Rattle.asm_core.specs.Constraint.{names_of, constrained_operands}
use Rattle.asm_core.specs.Clobber.{is_unknown, is_cc, is_memory, clobbered_registers}
use Rattle.asm_core.specs.Size.{is_letter_for, is_pair_letter, is_operand_outside, sizes_of}
use Rattle.asm_core.specs.Malformed.{is_early, is_constraint_outside, malformed_findings, alternative_count}
use Rattle.asm_core.specs.Pieces.{Scan, Outside, Scanned, scan_of}
use Rattle.asm_core.specs.declared.shape.Kind.{Kind}
use Rattle.asm_core.specs.declared.reg.RegSet.{RegSet}
use Rattle.asm_core.specs.declared.mark.Mark.{Mark}
use Rattle.asm_core.specs.declared.mark.MarkKind.{MarkKind}
use Rattle.asm_core.specs.declared.finding.Finding.{Finding}
use Rattle.asm_core.specs.declared.operand.Operand.{Operand}
use Rattle.asm_core.specs.declared.statement.Parts.{Parts}
use Rattle.asm_core.specs.declared.statement.Quoted.{Quoted}
use Rattle.asm_core.specs.declared.interface.AltIface.{AltIface}
use Rattle.asm_core.specs.declared.interface.OperandIface.{OperandIface}
use Rattle.asm_core.specs.declared.interface.Interface.{Interface}
use Rattle.asm_core.specs.declared.interface.IfaceEnd.{IfaceEnd}
use Rattle.asm_core.specs.declared.constraint.Letter.{Letter}
use Rattle.asm_core.specs.declared.constraint.Letter.TheVariants.{One, ByteRegister, AnyRegister, Number, WordShift, LongShift, SignedByte, AddressShift, UnsignedByte, General}
use Rattle.asm_core.specs.declared.constraint.Symbol.{Symbol}
use Rattle.asm_core.specs.declared.constraint.Symbol.TheVariants as symbols
use Rattle.asm_core.specs.declared.constraint.ConstrainedOperand.{ConstrainedOperand}

-- ---- registers

-- the registers of a letter, as bits in their order
abbrev pub letter_bits : Letter → ℕ
letter_bits (One r) = 2 ^ reg_number r
letter_bits ByteRegister = 15
letter_bits AnyRegister = 127
letter_bits General = 127
letter_bits _ = 0

abbrev pub symbol_bits : Symbol → ℕ
symbol_bits (symbols.Letter letter) = letter_bits letter
symbol_bits _ = 0

unfoldable pub registers_of : List Symbol → RegSet
registers_of alternative = record { 0 = fold (λ bits s. bit_or bits (symbol_bits s)) 0 alternative }

-- ---- numbers

abbrev pub letter_range : Letter → Option (ℤ × ℤ)
letter_range Number = Some (negsuc 2147483647, pos 2147483647)
letter_range WordShift = Some (pos 0, pos 31)
letter_range LongShift = Some (pos 0, pos 63)
letter_range SignedByte = Some (negsuc 127, pos 127)
letter_range AddressShift = Some (pos 0, pos 3)
letter_range UnsignedByte = Some (pos 0, pos 255)
letter_range General = Some (negsuc 2147483647, pos 2147483647)
letter_range _ = None

abbrev pub symbol_range : Symbol → Option (ℤ × ℤ)
symbol_range (symbols.Letter letter) = letter_range letter
symbol_range _ = None

-- the least range with all numbers of both
abbrev pub joined : Option (ℤ × ℤ) → Option (ℤ × ℤ) → Option (ℤ × ℤ)
joined None other = other
joined (Some r) None = Some r
joined (Some r) (Some q) = Some (int_min r.0 q.0, int_max r.1 q.1)

-- the ranges of several letters form one range
unfoldable pub range_of : List Symbol → Option (ℤ × ℤ)
range_of alternative = fold (λ range s. joined range (symbol_range s)) None alternative

-- the signed numbers of a size: no number stands for an operand of more than 4 bytes
abbrev pub numbers_of_size : ℕ → ℤ × ℤ
numbers_of_size size =
    if size == 1 then (negsuc 127, pos 127) else if size == 2 then (negsuc 32767, pos 32767) else (negsuc 2147483647, pos 2147483647)

-- the numbers of a range that the size has
abbrev pub cut_to : ℤ × ℤ → ℤ × ℤ → ℤ × ℤ
cut_to whole range = (int_max range.0 whole.0, int_min range.1 whole.1)

-- a known number is in the range
abbrev pub has_known : Option ℤ → ℤ × ℤ → Bool
has_known None range = true
has_known (Some n) range = not (int_lt n range.0 || int_lt range.1 n)

abbrev pub kept_range : Option ℤ → ℤ × ℤ → Option (ℤ × ℤ)
kept_range known range = if has_known known range then Some range else None

abbrev pub range_in : ℕ → Option ℤ → Option (ℤ × ℤ) → Option (ℤ × ℤ)
range_in size known None = None
range_in size known (Some range) = kept_range known (cut_to (numbers_of_size size) range)

-- Numbers are dropped for outputs, and where the known value is out of their range.
unfoldable pub numbers_of : Bool → ℕ → Option ℤ → List Symbol → Option (ℤ × ℤ)
numbers_of output size known alternative = if output then None else range_in size known (range_of alternative)

-- ---- operands

abbrev pub symbol_tie : Symbol → Option ℕ
symbol_tie (symbols.Tie output) = output
symbol_tie _ = None

abbrev pub tie_in : Option Symbol → Option ℕ
tie_in None = None
tie_in (Some s) = symbol_tie s

abbrev pub is_tied_symbol : Symbol → Bool
is_tied_symbol s = is_some (symbol_tie s)

-- the output that a tie names
unfoldable pub tie_of : List Symbol → Option ℕ
tie_of alternative = tie_in (find is_tied_symbol alternative)

unfoldable pub alternative_of : Bool → ℕ → Option ℤ → List Symbol → AltIface
alternative_of output size known alternative = record {
  early = list_any is_early alternative;
  tied = tie_of alternative;
  regs = registers_of alternative;
  pair = list_any is_pair_letter alternative;
  mem = list_any (is_letter_for output Kind.Memory) alternative;
  numbers = numbers_of output size known alternative;
}

-- a flag output has no place: it stands for the number 0
abbrev pub flag_alternative : AltIface
flag_alternative = record { early = false; tied = None; regs = no_regs; pair = false; mem = false; numbers = Some (pos 0, pos 0) }

abbrev pub size_or_zero : Option ℕ → ℕ
size_or_zero None = 0
size_or_zero (Some size) = size

abbrev pub is_pointer : Option Operand → Bool
is_pointer None = false
is_pointer (Some typed) = typed.pointer

abbrev pub known_in : Option Operand → Option ℤ
known_in None = None
known_in (Some typed) = typed.known

abbrev pub flag_operand : ℕ → ℕ → ConstrainedOperand → OperandIface
flag_operand count size w = record {
  role = w.role;
  size = size;
  pointer = is_pointer w.typed;
  known = Some (pos 0);
  flag = w.flag;
  alts = replicate count flag_alternative;
}

abbrev pub placed_operand : ℕ → ConstrainedOperand → OperandIface
placed_operand size w = record {
  role = w.role;
  size = size;
  pointer = is_pointer w.typed;
  known = known_in w.typed;
  flag = None;
  alts = map (alternative_of w.output size (known_in w.typed)) w.alternatives;
}

-- an operand of a statement of so many alternatives, whose operands have these sizes
unfoldable pub operand_of : ℕ → List (Option ℕ) → ConstrainedOperand → OperandIface
operand_of count sizes w =
    if is_some w.flag then flag_operand count (size_or_zero (optional_at sizes w.number)) w else placed_operand (size_or_zero (optional_at sizes w.number)) w

-- the statement has a flag output
abbrev pub is_flag : ConstrainedOperand → Bool
is_flag w = is_some w.flag

abbrev pub has_flag_output : List ConstrainedOperand → Bool
has_flag_output ws = list_any is_flag ws

-- The flags count as changed where the clobber list says so, where the strict rule isn't asked for, and where some output
-- takes them.
unfoldable pub made_of : Bool → List Quoted → List ConstrainedOperand → Interface
made_of strict clobbers ws = record {
  operands = map (operand_of (alternative_count ws) (sizes_of ws)) ws;
  clobbers = clobbered_registers clobbers;
  cc = list_any is_cc clobbers || (not strict || has_flag_output ws);
  memory = list_any is_memory clobbers;
}

-- ---- marks

abbrev pub mark_at : MarkKind → ℕ → Mark
mark_at kind place = record { kind = kind; place = place }

abbrev pub clobber_mark : Quoted → Mark
clobber_mark clobber = mark_at MarkKind.Clobber clobber.span.from

abbrev pub operand_mark : ConstrainedOperand → Mark
operand_mark w = mark_at MarkKind.Operand w.expression

abbrev pub constraint_mark : ConstrainedOperand → Mark
constraint_mark w = mark_at MarkKind.Constraint w.constraint

unfoldable pub first_clobber_mark : List Quoted → Option Mark
first_clobber_mark clobbers = option_map clobber_mark (find is_unknown clobbers)

unfoldable pub first_operand_mark : List ConstrainedOperand → Option Mark
first_operand_mark ws = option_map operand_mark (find (is_operand_outside ws (sizes_of ws)) ws)

unfoldable pub first_constraint_mark : List ConstrainedOperand → Option Mark
first_constraint_mark ws = option_map constraint_mark (find (is_constraint_outside ws) ws)

abbrev pub or_else : Option Mark → Option Mark → Option Mark
or_else None other = other
or_else (Some mark) other = Some mark

-- the first mark but for the template's
abbrev pub first_mark : List Quoted → List ConstrainedOperand → Option Mark
first_mark clobbers ws = or_else (first_clobber_mark clobbers) (or_else (first_operand_mark ws) (first_constraint_mark ws))

-- what was found wrong with the template's literals stands before what is wrong with its forms
abbrev pub template_scan : Option ℕ → Scan → Scan
template_scan None scan = scan
template_scan (Some place) scan = Outside place

-- ---- the whole

-- a statement of which all lies in the tables
abbrev pub unless_malformed : Interface → List Finding → Result Interface IfaceEnd
unless_malformed i [] = Ok i
unless_malformed i (f ∷ fs) = Err (IfaceEnd.Broken (f ∷ fs))

abbrev pub scanned_interface : Parts → Bool → List ConstrainedOperand → List (Option (List ℕ)) → Scan → Result Interface IfaceEnd
scanned_interface parts strict ws names (Outside place) = Err (IfaceEnd.Outside (mark_at MarkKind.Template place))
scanned_interface parts strict ws names (Scanned pieces missing) =
    unless_malformed (made_of strict parts.clobbers ws) (malformed_findings ws names parts.clobbers pieces missing)

abbrev pub unless_marked : Option Mark → Result Interface IfaceEnd → Result Interface IfaceEnd
unless_marked None rest = rest
unless_marked (Some mark) rest = Err (IfaceEnd.Outside mark)

abbrev pub interface_in : Parts → Bool → List ConstrainedOperand → List (Option (List ℕ)) → Result Interface IfaceEnd
interface_in parts strict ws names =
    unless_marked (first_mark parts.clobbers ws) (scanned_interface parts strict ws names (template_scan parts.bad_template (scan_of parts.template names)))

-- the interface of a statement with operands of these types; `strict` says that the flags are changed only where it says so
unfoldable pub interface_of : Parts → List (Option Operand) → Bool → Result Interface IfaceEnd
interface_of parts types strict = interface_in parts strict (constrained_operands parts types) (names_of (parts.outputs ++ parts.inputs))
