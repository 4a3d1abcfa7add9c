-- Interfaces of statements, worked out by hand from the rules.
use Rattle.std.proofs.Common.{◌≡◌, ℕ, ◌+◌, ◌*◌, ℤ, pos, negsuc, List, [], ◌∷◌, map, length, true, false, codes, Option, None, Some, Result, Ok, Err, refl}
use Rattle.asm_core.specs.Reg.{no_regs}
use Rattle.asm_core.specs.Interface.{interface_of, first_clobber_mark, first_operand_mark, first_constraint_mark, made_of, operand_of, alternative_of, flag_alternative, tie_of, registers_of, numbers_of, range_of}
use Rattle.asm_core.specs.Constraint.{constrained_operands, constrained_from, constrained_operand, alternatives_in, symbols_from, symbol_at, byte_symbol, letter_of, output_numbered, output_named, flag_of, flag_spelt}
use Rattle.asm_core.specs.Clobber.{is_unknown, register_named, is_clobbered, clobbered_registers}
use Rattle.asm_core.specs.Size.{is_operand_outside, sizes_of, size_of, operand_allows, alternative_allows, tie_allows, is_broken_pair, is_broken_word, is_ambiguous, is_wide_output, may_be_written_alone, has_tied_input, is_mismatched}
use Rattle.asm_core.specs.Malformed.{is_constraint_outside, malformed_findings, is_malformed, is_odd_one, alternative_count, repeats_name, is_only_letter, is_clobbered_operand, is_named_flag}
use Rattle.asm_core.specs.TemplateForms.{forms_from}
use Rattle.asm_core.specs.Pieces.{first_outside}
use Rattle.asm_core.proofs.Examples.Shapes.{any_register}
use Rattle.asm_core.specs.declared.cond.Cond.{Cond}
use Rattle.asm_core.specs.declared.mark.MarkKind.{MarkKind}
use Rattle.asm_core.specs.declared.finding.Rule.{Rule}
use Rattle.asm_core.specs.declared.finding.Cell.{Cell}
use Rattle.asm_core.specs.declared.finding.Finding.{Finding}
use Rattle.asm_core.specs.declared.operand.Operand.{Operand}
use Rattle.asm_core.specs.declared.span.Span.{Span}
use Rattle.asm_core.specs.declared.statement.Quoted.{Quoted}
use Rattle.asm_core.specs.declared.statement.Part.{Part}
use Rattle.asm_core.specs.declared.statement.Parts.{Parts}
use Rattle.asm_core.specs.declared.interface.Role.{Role}
use Rattle.asm_core.specs.declared.interface.AltIface.{AltIface}
use Rattle.asm_core.specs.declared.interface.OperandIface.{OperandIface}
use Rattle.asm_core.specs.declared.interface.Interface.{Interface}
use Rattle.asm_core.specs.declared.interface.IfaceEnd.{IfaceEnd}

-- ---- statements: operand k's constraint is at 10 * k + 100, its expression 5 further, clobber k at 10 * k + 500

abbrev from_to : ℕ → Span
from_to from = record { from = from; to = from }

abbrev quoted : ℕ → List ℕ → Quoted
quoted from bytes = record { bytes = bytes; at = []; span = from_to from }

abbrev part : ℕ → List ℕ → Part
part from text = record { name = None; constraint = quoted from text; expr = record { from = from + 5; to = from + 6 } }

abbrev of_size : ℕ → Option Operand
of_size size = Some (record { own = Some size; value = Some size; pointer = false; known = None })

abbrev known : ℕ → ℤ → Option Operand
known size n = Some (record { own = Some size; value = Some size; pointer = false; known = Some n })

abbrev outputs_from : ℕ → List (List ℕ) → List Part
outputs_from from [] = []
outputs_from from (text ∷ texts) = part from text ∷ outputs_from (from + 10) texts

abbrev clobbers_from : ℕ → List (List ℕ) → List Quoted
clobbers_from from [] = []
clobbers_from from (text ∷ texts) = quoted from text ∷ clobbers_from (from + 10) texts

-- a statement with an empty template, these outputs, inputs and clobbers
abbrev statement : List (List ℕ) → List (List ℕ) → List (List ℕ) → Parts
statement outputs inputs clobbers = record {
  template = quoted 50 [];
  outputs = outputs_from 100 outputs;
  inputs = outputs_from (100 + 10 * length outputs) inputs;
  clobbers = clobbers_from 500 clobbers;
  colons = 3;
  last = 900;
  bad_template = None;
}

abbrev loose : Parts → List (Option Operand) → Result Interface IfaceEnd
loose parts types = interface_of parts types false

-- ---- what an answer says, in short

abbrev nothing : AltIface
nothing = record any_register { regs = no_regs }

abbrev registers : ℕ → AltIface
registers bits = record nothing { regs = record { 0 = bits } }

abbrev numbers : ℤ → ℤ → AltIface
numbers low high = record nothing { numbers = Some (low, high) }

abbrev operand : Role → ℕ → List AltIface → OperandIface
operand role size alts = record { role = role; size = size; pointer = false; known = None; flag = None; alts = alts }

abbrev known_operand : ℕ → ℤ → List AltIface → OperandIface
known_operand size n alts = record { role = Role.In; size = size; pointer = false; known = Some n; flag = None; alts = alts }

abbrev interface : List OperandIface → Result Interface IfaceEnd
interface operands = Ok (record { operands = operands; clobbers = no_regs; cc = true; memory = false })

abbrev outside : MarkKind → ℕ → Result Interface IfaceEnd
outside kind place = Err (IfaceEnd.Outside (record { kind = kind; place = place }))

abbrev malformed : Cell → Finding
malformed cell = record { rule = Rule.K2; line = 0; cell = cell; other = Cell.Nothing }

abbrev broken : List Cell → Result Interface IfaceEnd
broken cells = Err (IfaceEnd.Broken (map malformed cells))

-- each letter, for a value of 4 bytes
letters :
    loose (statement ([]) (codes "a" ∷ []) ([])) (of_size 4 ∷ [])
    ∷ loose (statement ([]) (codes "b" ∷ []) ([])) (of_size 4 ∷ [])
    ∷ loose (statement ([]) (codes "c" ∷ []) ([])) (of_size 4 ∷ [])
    ∷ loose (statement ([]) (codes "d" ∷ []) ([])) (of_size 4 ∷ [])
    ∷ loose (statement ([]) (codes "S" ∷ []) ([])) (of_size 4 ∷ [])
    ∷ loose (statement ([]) (codes "D" ∷ []) ([])) (of_size 4 ∷ [])
    ∷ loose (statement ([]) (codes "q" ∷ []) ([])) (of_size 4 ∷ [])
    ∷ loose (statement ([]) (codes "Q" ∷ []) ([])) (of_size 4 ∷ [])
    ∷ loose (statement ([]) (codes "r" ∷ []) ([])) (of_size 4 ∷ [])
    ∷ loose (statement ([]) (codes "m" ∷ []) ([])) (of_size 4 ∷ [])
    ∷ loose (statement ([]) (codes "i" ∷ []) ([])) (of_size 4 ∷ [])
    ∷ loose (statement ([]) (codes "n" ∷ []) ([])) (of_size 4 ∷ [])
    ∷ loose (statement ([]) (codes "I" ∷ []) ([])) (of_size 4 ∷ [])
    ∷ loose (statement ([]) (codes "J" ∷ []) ([])) (of_size 4 ∷ [])
    ∷ loose (statement ([]) (codes "K" ∷ []) ([])) (of_size 4 ∷ [])
    ∷ loose (statement ([]) (codes "M" ∷ []) ([])) (of_size 4 ∷ [])
    ∷ loose (statement ([]) (codes "N" ∷ []) ([])) (of_size 4 ∷ [])
    ∷ loose (statement ([]) (codes "g" ∷ []) ([])) (of_size 4 ∷ [])
    ∷ loose (statement ([]) (codes "KN" ∷ []) ([])) (of_size 4 ∷ [])
    ∷ []
    ≡ interface (operand Role.In 4 (registers 1 ∷ []) ∷ [])
    ∷ interface (operand Role.In 4 (registers 2 ∷ []) ∷ [])
    ∷ interface (operand Role.In 4 (registers 4 ∷ []) ∷ [])
    ∷ interface (operand Role.In 4 (registers 8 ∷ []) ∷ [])
    ∷ interface (operand Role.In 4 (registers 16 ∷ []) ∷ [])
    ∷ interface (operand Role.In 4 (registers 32 ∷ []) ∷ [])
    ∷ interface (operand Role.In 4 (registers 15 ∷ []) ∷ [])
    ∷ interface (operand Role.In 4 (registers 15 ∷ []) ∷ [])
    ∷ interface (operand Role.In 4 (any_register ∷ []) ∷ [])
    ∷ interface (operand Role.In 4 (record nothing { mem = true } ∷ []) ∷ [])
    ∷ interface (operand Role.In 4 (numbers (negsuc 2147483647) (pos 2147483647) ∷ []) ∷ [])
    ∷ interface (operand Role.In 4 (numbers (negsuc 2147483647) (pos 2147483647) ∷ []) ∷ [])
    ∷ interface (operand Role.In 4 (numbers (pos 0) (pos 31) ∷ []) ∷ [])
    ∷ interface (operand Role.In 4 (numbers (pos 0) (pos 63) ∷ []) ∷ [])
    ∷ interface (operand Role.In 4 (numbers (negsuc 127) (pos 127) ∷ []) ∷ [])
    ∷ interface (operand Role.In 4 (numbers (pos 0) (pos 3) ∷ []) ∷ [])
    ∷ interface (operand Role.In 4 (numbers (pos 0) (pos 255) ∷ []) ∷ [])
    ∷ interface (operand Role.In 4 (record any_register { mem = true; numbers = Some (negsuc 2147483647, pos 2147483647) } ∷ []) ∷ [])
    ∷ interface (operand Role.In 4 (numbers (negsuc 127) (pos 255) ∷ []) ∷ [])
    ∷ []
unfolding interface_of constrained_operands constrained_from constrained_operand alternatives_in symbols_from
    symbol_at byte_symbol letter_of output_numbered output_named flag_of flag_spelt first_clobber_mark
    first_operand_mark first_constraint_mark is_unknown register_named is_operand_outside sizes_of size_of
    operand_allows alternative_allows tie_allows is_broken_pair is_broken_word is_ambiguous is_wide_output
    may_be_written_alone has_tied_input is_mismatched is_constraint_outside malformed_findings is_malformed is_odd_one
    alternative_count repeats_name is_only_letter is_clobbered_operand is_clobbered is_named_flag made_of operand_of
    alternative_of tie_of registers_of numbers_of range_of clobbered_registers forms_from first_outside
letters = refl

-- other sizes: ranges are cut to them, `A` wants 8 bytes, the others 1, 2 or 4
letters_of_sizes :
    loose (statement ([]) (codes "i" ∷ []) ([])) (of_size 1 ∷ [])
    ∷ loose (statement ([]) (codes "N" ∷ []) ([])) (of_size 1 ∷ [])
    ∷ loose (statement ([]) (codes "J" ∷ []) ([])) (of_size 1 ∷ [])
    ∷ loose (statement ([]) (codes "i" ∷ []) ([])) (of_size 2 ∷ [])
    ∷ loose (statement ([]) (codes "N" ∷ []) ([])) (of_size 2 ∷ [])
    ∷ loose (statement ([]) (codes "q" ∷ []) ([])) (of_size 1 ∷ [])
    ∷ loose (statement ([]) (codes "A" ∷ []) ([])) (of_size 8 ∷ [])
    ∷ loose (statement ([]) (codes "m" ∷ []) ([])) (of_size 8 ∷ [])
    ∷ loose (statement ([]) (codes "A" ∷ []) ([])) (of_size 4 ∷ [])
    ∷ loose (statement ([]) (codes "r" ∷ []) ([])) (of_size 8 ∷ [])
    ∷ loose (statement ([]) (codes "i" ∷ []) ([])) (of_size 8 ∷ [])
    ∷ loose (statement ([]) (codes "r" ∷ []) ([])) (of_size 3 ∷ [])
    ∷ []
    ≡ interface (operand Role.In 1 (numbers (negsuc 127) (pos 127) ∷ []) ∷ [])
    ∷ interface (operand Role.In 1 (numbers (pos 0) (pos 127) ∷ []) ∷ [])
    ∷ interface (operand Role.In 1 (numbers (pos 0) (pos 63) ∷ []) ∷ [])
    ∷ interface (operand Role.In 2 (numbers (negsuc 32767) (pos 32767) ∷ []) ∷ [])
    ∷ interface (operand Role.In 2 (numbers (pos 0) (pos 255) ∷ []) ∷ [])
    ∷ interface (operand Role.In 1 (registers 15 ∷ []) ∷ [])
    ∷ interface (operand Role.In 8 (record nothing { pair = true } ∷ []) ∷ [])
    ∷ interface (operand Role.In 8 (record nothing { mem = true } ∷ []) ∷ [])
    ∷ outside MarkKind.Operand 105
    ∷ outside MarkKind.Operand 105
    ∷ outside MarkKind.Operand 105
    ∷ outside MarkKind.Operand 105
    ∷ []
unfolding interface_of constrained_operands constrained_from constrained_operand alternatives_in symbols_from
    symbol_at byte_symbol letter_of output_numbered output_named flag_of flag_spelt first_clobber_mark
    first_operand_mark first_constraint_mark is_unknown register_named is_operand_outside sizes_of size_of
    operand_allows alternative_allows tie_allows is_broken_pair is_broken_word is_ambiguous is_wide_output
    may_be_written_alone has_tied_input is_mismatched is_constraint_outside malformed_findings is_malformed is_odd_one
    alternative_count repeats_name is_only_letter is_clobbered_operand is_clobbered is_named_flag made_of operand_of
    alternative_of tie_of registers_of numbers_of range_of clobbered_registers forms_from first_outside
letters_of_sizes = refl

-- a known number in its range, and one out of it, whose range is dropped
known_numbers :
    loose (statement ([]) (codes "I" ∷ []) ([])) (known 4 (pos 31) ∷ [])
    ∷ loose (statement ([]) (codes "rI" ∷ []) ([])) (known 4 (pos 32) ∷ [])
    ∷ loose (statement ([]) (codes "rI,K" ∷ []) ([])) (known 4 (negsuc 0) ∷ [])
    ∷ loose (statement ([]) (codes "N" ∷ []) ([])) (known 1 (negsuc 0) ∷ [])
    ∷ []
    ≡ interface (known_operand 4 (pos 31) (numbers (pos 0) (pos 31) ∷ []) ∷ [])
    ∷ interface (known_operand 4 (pos 32) (any_register ∷ []) ∷ [])
    ∷ interface (known_operand 4 (negsuc 0) (any_register ∷ numbers (negsuc 127) (pos 127) ∷ []) ∷ [])
    ∷ interface (known_operand 1 (negsuc 0) (nothing ∷ []) ∷ [])
    ∷ []
unfolding interface_of constrained_operands constrained_from constrained_operand alternatives_in symbols_from
    symbol_at byte_symbol letter_of output_numbered output_named flag_of flag_spelt first_clobber_mark
    first_operand_mark first_constraint_mark is_unknown register_named is_operand_outside sizes_of size_of
    operand_allows alternative_allows tie_allows is_broken_pair is_broken_word is_ambiguous is_wide_output
    may_be_written_alone has_tied_input is_mismatched is_constraint_outside malformed_findings is_malformed is_odd_one
    alternative_count repeats_name is_only_letter is_clobbered_operand is_clobbered is_named_flag made_of operand_of
    alternative_of tie_of registers_of numbers_of range_of clobbered_registers forms_from first_outside
known_numbers = refl

-- flag outputs, of which `pe` is no spelling and to which nothing can be tied
flag_outputs :
    loose (statement (codes "=@ccz" ∷ []) ([]) ([])) (of_size 1 ∷ [])
    ∷ loose (statement (codes "=@cce" ∷ []) (codes "r,m" ∷ []) ([])) (of_size 1 ∷ of_size 4 ∷ [])
    ∷ loose (statement (codes "=@ccpe" ∷ []) ([]) ([])) (of_size 1 ∷ [])
    ∷ loose (statement (codes "=@ccz" ∷ []) (codes "0" ∷ []) ([])) (of_size 1 ∷ of_size 1 ∷ [])
    ∷ loose (statement (codes "=@ccz" ∷ []) ([]) ([])) (of_size 8 ∷ [])
    ∷ loose (statement (codes "+@ccz" ∷ []) ([]) ([])) (of_size 1 ∷ [])
    ∷ []
    ≡ interface (record { role = Role.Out; size = 1; pointer = false; known = Some (pos 0); flag = Some Cond.E; alts = flag_alternative ∷ [] } ∷ [])
    ∷ interface (record { role = Role.Out; size = 1; pointer = false; known = Some (pos 0); flag = Some Cond.E; alts = flag_alternative ∷ flag_alternative ∷ [] } ∷ operand Role.In 4 (any_register ∷ record nothing { mem = true } ∷ []) ∷ [])
    ∷ outside MarkKind.Constraint 100
    ∷ outside MarkKind.Constraint 110
    ∷ outside MarkKind.Operand 105
    ∷ outside MarkKind.Constraint 100
    ∷ []
unfolding interface_of constrained_operands constrained_from constrained_operand alternatives_in symbols_from
    symbol_at byte_symbol letter_of output_numbered output_named flag_of flag_spelt first_clobber_mark
    first_operand_mark first_constraint_mark is_unknown register_named is_operand_outside sizes_of size_of
    operand_allows alternative_allows tie_allows is_broken_pair is_broken_word is_ambiguous is_wide_output
    may_be_written_alone has_tied_input is_mismatched is_constraint_outside malformed_findings is_malformed is_odd_one
    alternative_count repeats_name is_only_letter is_clobbered_operand is_clobbered is_named_flag made_of operand_of
    alternative_of tie_of registers_of numbers_of range_of clobbered_registers forms_from first_outside
flag_outputs = refl

-- ties, by numbers and in one alternative
ties :
    loose (statement (codes "=r" ∷ []) (codes "0" ∷ []) ([])) (of_size 4 ∷ of_size 4 ∷ [])
    ∷ loose (statement (codes "=&a,m" ∷ []) (codes "00,r" ∷ []) ([])) (of_size 4 ∷ of_size 4 ∷ [])
    ∷ loose (statement (codes "=r" ∷ []) (codes "0" ∷ []) ([])) (of_size 4 ∷ of_size 2 ∷ [])
    ∷ []
    ≡ interface (operand Role.Out 4 (any_register ∷ []) ∷ operand Role.In 4 (record nothing { tied = Some 0 } ∷ []) ∷ [])
    ∷ interface (operand Role.Out 4 (record (registers 1) { early = true } ∷ record nothing { mem = true } ∷ []) ∷ operand Role.In 4 (record nothing { tied = Some 0 } ∷ any_register ∷ []) ∷ [])
    ∷ outside MarkKind.Operand 115
    ∷ []
unfolding interface_of constrained_operands constrained_from constrained_operand alternatives_in symbols_from
    symbol_at byte_symbol letter_of output_numbered output_named flag_of flag_spelt first_clobber_mark
    first_operand_mark first_constraint_mark is_unknown register_named is_operand_outside sizes_of size_of
    operand_allows alternative_allows tie_allows is_broken_pair is_broken_word is_ambiguous is_wide_output
    may_be_written_alone has_tied_input is_mismatched is_constraint_outside malformed_findings is_malformed is_odd_one
    alternative_count repeats_name is_only_letter is_clobbered_operand is_clobbered is_named_flag made_of operand_of
    alternative_of tie_of registers_of numbers_of range_of clobbered_registers forms_from first_outside
ties = refl

-- each case of K2 but for names and the template's, and two at once in their order
malformed_interfaces :
    loose (statement (codes "r" ∷ []) ([]) ([])) (of_size 4 ∷ [])
    ∷ loose (statement ([]) (codes "+r" ∷ []) ([])) (of_size 4 ∷ [])
    ∷ loose (statement ([]) (codes "&r" ∷ []) ([])) (of_size 4 ∷ [])
    ∷ loose (statement (codes "=r" ∷ []) (codes "r,m" ∷ codes "m" ∷ []) ([])) (of_size 4 ∷ of_size 4 ∷ of_size 4 ∷ [])
    ∷ loose (statement (codes "=r" ∷ []) (codes "1" ∷ []) ([])) (of_size 4 ∷ of_size 4 ∷ [])
    ∷ loose (statement (codes "=r" ∷ codes "=0" ∷ []) ([]) ([])) (of_size 4 ∷ of_size 4 ∷ [])
    ∷ loose (statement (codes "=r" ∷ []) (codes "[x]" ∷ []) ([])) (of_size 4 ∷ of_size 4 ∷ [])
    ∷ loose (statement (codes "=a" ∷ []) (codes "m" ∷ []) (codes "eax" ∷ [])) (of_size 4 ∷ of_size 4 ∷ [])
    ∷ loose (statement ([]) (codes "b,&bb" ∷ []) (codes "cc" ∷ codes "%bl" ∷ [])) (of_size 4 ∷ [])
    ∷ loose (statement ([]) (codes "b,r" ∷ []) (codes "ebx" ∷ [])) (of_size 4 ∷ [])
    ∷ loose (statement (codes "r" ∷ []) (codes "=r" ∷ []) ([])) (of_size 4 ∷ of_size 4 ∷ [])
    ∷ []
    ≡ broken (Cell.Operand 0 ∷ [])
    ∷ broken (Cell.Operand 0 ∷ [])
    ∷ broken (Cell.Operand 0 ∷ [])
    ∷ broken (Cell.Operand 1 ∷ [])
    ∷ broken (Cell.Operand 1 ∷ [])
    ∷ broken (Cell.Operand 1 ∷ [])
    ∷ broken (Cell.Operand 1 ∷ [])
    ∷ broken (Cell.Operand 0 ∷ [])
    ∷ broken (Cell.Operand 0 ∷ [])
    ∷ Ok (record { operands = operand Role.In 4 (registers 2 ∷ any_register ∷ []) ∷ []; clobbers = record { 0 = 2 }; cc = true; memory = false })
    ∷ broken (Cell.Operand 0 ∷ Cell.Operand 1 ∷ [])
    ∷ []
unfolding interface_of constrained_operands constrained_from constrained_operand alternatives_in symbols_from
    symbol_at byte_symbol letter_of output_numbered output_named flag_of flag_spelt first_clobber_mark
    first_operand_mark first_constraint_mark is_unknown register_named is_operand_outside sizes_of size_of
    operand_allows alternative_allows tie_allows is_broken_pair is_broken_word is_ambiguous is_wide_output
    may_be_written_alone has_tied_input is_mismatched is_constraint_outside malformed_findings is_malformed is_odd_one
    alternative_count repeats_name is_only_letter is_clobbered_operand is_clobbered is_named_flag made_of operand_of
    alternative_of tie_of registers_of numbers_of range_of clobbered_registers forms_from first_outside
malformed_interfaces = refl

-- each case in which an operand lies outside the tables
sizes :
    loose (statement ([]) (codes "m" ∷ []) ([])) (None ∷ [])
    ∷ loose (statement ([]) (codes "r" ∷ []) ([])) (Some (record { own = Some 12; value = None; pointer = false; known = None }) ∷ [])
    ∷ loose (statement ([]) (codes "m" ∷ []) ([])) (Some (record { own = Some 12; value = None; pointer = false; known = None }) ∷ [])
    ∷ loose (statement ([]) (codes "rm" ∷ []) ([])) (Some (record { own = Some 8; value = Some 4; pointer = true; known = None }) ∷ [])
    ∷ loose (statement ([]) (codes "m" ∷ []) ([])) (Some (record { own = Some 8; value = Some 4; pointer = true; known = None }) ∷ [])
    ∷ loose (statement (codes "=im" ∷ []) ([]) ([])) (Some (record { own = Some 8; value = Some 4; pointer = true; known = None }) ∷ [])
    ∷ loose (statement ([]) (codes "m" ∷ []) ([])) (of_size 0 ∷ [])
    ∷ loose (statement ([]) (codes "m" ∷ []) ([])) (of_size 65537 ∷ [])
    ∷ loose (statement (codes "=m" ∷ []) ([]) ([])) (of_size 65 ∷ [])
    ∷ loose (statement (codes "=m" ∷ []) (codes "0" ∷ []) ([])) (of_size 65 ∷ of_size 65 ∷ [])
    ∷ loose (statement (codes "+m" ∷ []) ([]) ([])) (of_size 65 ∷ [])
    ∷ []
    ≡ outside MarkKind.Operand 105
    ∷ outside MarkKind.Operand 105
    ∷ interface (operand Role.In 12 (record nothing { mem = true } ∷ []) ∷ [])
    ∷ outside MarkKind.Operand 105
    ∷ interface (record (operand Role.In 8 (record nothing { mem = true } ∷ [])) { pointer = true } ∷ [])
    ∷ interface (record (operand Role.Out 8 (record nothing { mem = true } ∷ [])) { pointer = true } ∷ [])
    ∷ outside MarkKind.Operand 105
    ∷ outside MarkKind.Operand 105
    ∷ outside MarkKind.Operand 105
    ∷ interface (operand Role.Out 65 (record nothing { mem = true } ∷ []) ∷ operand Role.In 65 (record nothing { tied = Some 0 } ∷ []) ∷ [])
    ∷ interface (operand Role.InOut 65 (record nothing { mem = true } ∷ []) ∷ [])
    ∷ []
unfolding interface_of constrained_operands constrained_from constrained_operand alternatives_in symbols_from
    symbol_at byte_symbol letter_of output_numbered output_named flag_of flag_spelt first_clobber_mark
    first_operand_mark first_constraint_mark is_unknown register_named is_operand_outside sizes_of size_of
    operand_allows alternative_allows tie_allows is_broken_pair is_broken_word is_ambiguous is_wide_output
    may_be_written_alone has_tied_input is_mismatched is_constraint_outside malformed_findings is_malformed is_odd_one
    alternative_count repeats_name is_only_letter is_clobbered_operand is_clobbered is_named_flag made_of operand_of
    alternative_of tie_of registers_of numbers_of range_of clobbered_registers forms_from first_outside
sizes = refl

-- marks by their kind, then by their place
marks :
    loose (statement (codes "=x" ∷ []) (codes "r" ∷ codes "r" ∷ []) (codes "esp" ∷ [])) (of_size 4 ∷ of_size 8 ∷ of_size 8 ∷ [])
    ∷ loose (statement (codes "=x" ∷ []) (codes "r" ∷ codes "r" ∷ []) (codes "sil" ∷ [])) (of_size 4 ∷ of_size 8 ∷ of_size 8 ∷ [])
    ∷ loose (statement (codes "=x" ∷ []) (codes "r" ∷ codes "r" ∷ []) (codes "cc" ∷ [])) (of_size 4 ∷ of_size 8 ∷ of_size 8 ∷ [])
    ∷ loose (statement (codes "=r=" ∷ codes "=r+" ∷ []) (codes "x" ∷ []) ([])) (of_size 4 ∷ of_size 4 ∷ of_size 4 ∷ [])
    ∷ loose (statement (codes "=r" ∷ []) (codes "00r" ∷ []) ([])) (of_size 4 ∷ of_size 4 ∷ [])
    ∷ loose (statement (codes "=r" ∷ []) (codes "[0" ∷ []) ([])) (of_size 4 ∷ of_size 4 ∷ [])
    ∷ loose (statement (codes "+r" ∷ []) (codes "0" ∷ []) ([])) (of_size 4 ∷ of_size 4 ∷ [])
    ∷ loose (statement ([]) (codes "" ∷ []) ([])) (of_size 4 ∷ [])
    ∷ loose (statement (codes "=r,r" ∷ []) (codes "r," ∷ []) ([])) (of_size 4 ∷ of_size 4 ∷ [])
    ∷ loose (statement (codes "=&" ∷ []) ([]) ([])) (of_size 4 ∷ [])
    ∷ []
    ≡ outside MarkKind.Clobber 500
    ∷ outside MarkKind.Clobber 500
    ∷ outside MarkKind.Operand 115
    ∷ outside MarkKind.Constraint 100
    ∷ outside MarkKind.Constraint 110
    ∷ outside MarkKind.Constraint 110
    ∷ outside MarkKind.Constraint 110
    ∷ outside MarkKind.Constraint 100
    ∷ outside MarkKind.Constraint 110
    ∷ outside MarkKind.Constraint 100
    ∷ []
unfolding interface_of constrained_operands constrained_from constrained_operand alternatives_in symbols_from
    symbol_at byte_symbol letter_of output_numbered output_named flag_of flag_spelt first_clobber_mark
    first_operand_mark first_constraint_mark is_unknown register_named is_operand_outside sizes_of size_of
    operand_allows alternative_allows tie_allows is_broken_pair is_broken_word is_ambiguous is_wide_output
    may_be_written_alone has_tied_input is_mismatched is_constraint_outside malformed_findings is_malformed is_odd_one
    alternative_count repeats_name is_only_letter is_clobbered_operand is_clobbered is_named_flag made_of operand_of
    alternative_of tie_of registers_of numbers_of range_of clobbered_registers forms_from first_outside
marks = refl
