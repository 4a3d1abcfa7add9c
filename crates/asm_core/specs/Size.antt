-- The size of an operand, and when an operand lies outside this project's tables. The kinds and sizes are those of the GCC
-- manual ("Simple Constraints", "Machine Constraints" for x86); what is left out is this project's own choice.
use Rattle.std.specs.Prelude.{ℕ, ◌==◌, ◌&&◌, ◌||◌, nat_lt, List, [], map, Bool, true, false, not, is_some, Option, None, Some, slice_get, if◌then◌else◌}
use Rattle.std.specs.List.{list_any, enumerate_from}
use Rattle.asm_core.specs.Lists.{optional_at}
use Rattle.asm_core.specs.Constraint.{all_symbols}
use Rattle.asm_core.specs.declared.shape.Kind.{Kind}
use Rattle.asm_core.specs.declared.interface.Role.{Role}
use Rattle.asm_core.specs.declared.constraint.Letter.{Letter}
use Rattle.asm_core.specs.declared.constraint.Letter.TheVariants.{One, Pair, ByteRegister, AnyRegister, Memory, Number, WordShift, LongShift, SignedByte, AddressShift, UnsignedByte, General}
use Rattle.asm_core.specs.declared.constraint.Symbol.{Symbol}
use Rattle.asm_core.specs.declared.constraint.Symbol.TheVariants as symbols
use Rattle.asm_core.specs.declared.constraint.ConstrainedOperand.{ConstrainedOperand}
use Rattle.asm_core.specs.declared.operand.Operand.{Operand}

abbrev pub is_register_kind : Kind → Bool
is_register_kind Kind.Register = true
is_register_kind Kind.Memory = false
is_register_kind Kind.Number = false

abbrev pub is_memory_kind : Kind → Bool
is_memory_kind Kind.Register = false
is_memory_kind Kind.Memory = true
is_memory_kind Kind.Number = false

abbrev pub is_number_kind : Kind → Bool
is_number_kind Kind.Register = false
is_number_kind Kind.Memory = false
is_number_kind Kind.Number = true

-- the letter allows the kind
abbrev pub letter_allows : Kind → Letter → Bool
letter_allows kind (One r) = is_register_kind kind
letter_allows kind Pair = is_register_kind kind
letter_allows kind ByteRegister = is_register_kind kind
letter_allows kind AnyRegister = is_register_kind kind
letter_allows kind Memory = is_memory_kind kind
letter_allows kind Number = is_number_kind kind
letter_allows kind WordShift = is_number_kind kind
letter_allows kind LongShift = is_number_kind kind
letter_allows kind SignedByte = is_number_kind kind
letter_allows kind AddressShift = is_number_kind kind
letter_allows kind UnsignedByte = is_number_kind kind
letter_allows kind General = true

-- The symbol is a letter that allows the kind. In an output no letter allows a number: an output can be in none.
abbrev pub is_letter_for : Bool → Kind → Symbol → Bool
is_letter_for output kind (symbols.Letter letter) = letter_allows kind letter && not (output && is_number_kind kind)
is_letter_for output kind symbols.Early = false
is_letter_for output kind (symbols.Tie number) = false
is_letter_for output kind symbols.Sign = false
is_letter_for output kind symbols.Other = false

abbrev pub is_pair_letter : Symbol → Bool
is_pair_letter (symbols.Letter Pair) = true
is_pair_letter _ = false

abbrev pub symbols_or_none : Option (List Symbol) → List Symbol
symbols_or_none None = []
symbols_or_none (Some alternative) = alternative

-- nothing where there is no such alternative
abbrev pub alternative_at : ConstrainedOperand → ℕ → List Symbol
alternative_at w a = symbols_or_none (slice_get w.alternatives a)

abbrev pub ties_to : ℕ → Symbol → Bool
ties_to number (symbols.Letter letter) = false
ties_to number symbols.Early = false
ties_to number (symbols.Tie None) = false
ties_to number (symbols.Tie (Some output)) = output == number
ties_to number symbols.Sign = false
ties_to number symbols.Other = false

-- a tie of these symbols names the operand, whose letters allow the kind in that alternative
unfoldable pub tie_allows : Kind → ℕ → List Symbol → ConstrainedOperand → Bool
tie_allows kind a alternative w = list_any (ties_to w.number) alternative && list_any (is_letter_for w.output kind) (alternative_at w a)

-- A tie allows what the letters of its output allow in that alternative, and nothing where it names no output.
unfoldable pub alternative_allows : List ConstrainedOperand → Bool → Kind → ℕ → List Symbol → Bool
alternative_allows ws output kind a alternative = list_any (is_letter_for output kind) alternative || list_any (tie_allows kind a alternative) ws

-- some alternative allows the kind
unfoldable pub operand_allows : List ConstrainedOperand → Kind → ConstrainedOperand → Bool
operand_allows ws kind w = list_any (λ (x : ℕ × List Symbol). alternative_allows ws w.output kind x.0 x.1) (enumerate_from 0 w.alternatives)

abbrev pub allows_memory : List ConstrainedOperand → ConstrainedOperand → Bool
allows_memory ws w = operand_allows ws Kind.Memory w

abbrev pub allows_another : List ConstrainedOperand → ConstrainedOperand → Bool
allows_another ws w = operand_allows ws Kind.Register w || operand_allows ws Kind.Number w

-- Where memory and nothing else is allowed the operand has the size of its expression's own type, else that of its value.
abbrev pub size_of_typed : Bool → Option Operand → Option ℕ
size_of_typed memory_alone None = None
size_of_typed memory_alone (Some typed) = if memory_alone then typed.own else typed.value

unfoldable pub size_of : List ConstrainedOperand → ConstrainedOperand → Option ℕ
size_of ws w = size_of_typed (allows_memory ws w && not (allows_another ws w)) w.typed

-- ---- the conditions, where the operand has this size

abbrev pub is_word_size : ℕ → Bool
is_word_size size = size == 1 || (size == 2 || size == 4)

-- `A` is among the letters, and the size isn't 8
unfoldable pub is_broken_pair : ConstrainedOperand → ℕ → Bool
is_broken_pair w size = not (size == 8) && list_any is_pair_letter (all_symbols w)

-- a letter other than `A` that allows a register or a number
abbrev pub is_word_letter : Bool → Symbol → Bool
is_word_letter output s = not (is_pair_letter s) && (is_letter_for output Kind.Register s || is_letter_for output Kind.Number s)

-- such a letter is there, or the operand is a flag output, and the size isn't 1, 2 or 4
unfoldable pub is_broken_word : ConstrainedOperand → ℕ → Bool
is_broken_word w size = not (is_word_size size) && (is_some w.flag || list_any (is_word_letter w.output) (all_symbols w))

abbrev pub is_same_size : Option ℕ → Option ℕ → Bool
is_same_size None None = true
is_same_size None (Some n) = false
is_same_size (Some m) None = false
is_same_size (Some m) (Some n) = m == n

abbrev pub changes_size : Option Operand → Bool
changes_size None = false
changes_size (Some typed) = not (is_same_size typed.own typed.value)

-- memory and another kind are both allowed, and the expression's own type and its value differ in size
unfoldable pub is_ambiguous : List ConstrainedOperand → ConstrainedOperand → Bool
is_ambiguous ws w = changes_size w.typed && (allows_memory ws w && allows_another ws w)

abbrev pub is_out_of_range : ℕ → Bool
is_out_of_range size = size == 0 || nat_lt 65536 size

abbrev pub is_tied_input : ℕ → ℕ → ConstrainedOperand → Bool
is_tied_input number a w = not w.output && list_any (ties_to number) (alternative_at w a)

abbrev pub is_output_alone : Role → Bool
is_output_alone Role.Out = true
is_output_alone Role.InOut = false
is_output_alone Role.In = false

-- an input is tied to the operand of that number in that alternative
unfoldable pub has_tied_input : List ConstrainedOperand → ℕ → ℕ → Bool
has_tied_input ws number a = list_any (is_tied_input number a) ws

-- an alternative lets the operand be in memory and ties no input to it
abbrev pub lets_write_alone : List ConstrainedOperand → ℕ → ℕ → List Symbol → Bool
lets_write_alone ws number a alternative = alternative_allows ws true Kind.Memory a alternative && not (has_tied_input ws number a)

unfoldable pub may_be_written_alone : List ConstrainedOperand → ConstrainedOperand → Bool
may_be_written_alone ws w = list_any (λ (x : ℕ × List Symbol). lets_write_alone ws w.number x.0 x.1) (enumerate_from 0 w.alternatives)

-- an output alone, of more than 64 bytes, may be in memory
unfoldable pub is_wide_output : List ConstrainedOperand → ConstrainedOperand → ℕ → Bool
is_wide_output ws w size = nat_lt 64 size && (is_output_alone w.role && may_be_written_alone ws w)

-- the operand is an output of another size that a tie of the operand w names
abbrev pub is_mismatched_output : List (Option ℕ) → ℕ → ConstrainedOperand → ConstrainedOperand → Bool
is_mismatched_output sizes size w output = not (is_same_size (optional_at sizes output.number) (Some size)) && list_any (ties_to output.number) (all_symbols w)

-- an input is tied to an output of another size
unfoldable pub is_mismatched : List ConstrainedOperand → List (Option ℕ) → ConstrainedOperand → ℕ → Bool
is_mismatched ws sizes w size = not w.output && list_any (is_mismatched_output sizes size w) ws

abbrev pub is_size_outside : List ConstrainedOperand → List (Option ℕ) → ConstrainedOperand → ℕ → Bool
is_size_outside ws sizes w size =
    is_broken_pair w size || (is_broken_word w size || (is_ambiguous ws w || (is_out_of_range size || (is_wide_output ws w size || is_mismatched ws sizes w size))))

abbrev pub is_sized_outside : List ConstrainedOperand → List (Option ℕ) → ConstrainedOperand → Option ℕ → Bool
is_sized_outside ws sizes w None = true
is_sized_outside ws sizes w (Some size) = is_size_outside ws sizes w size

-- The expression has no type, the type has no such size, or one of the conditions holds; `sizes` are those of all operands.
unfoldable pub is_operand_outside : List ConstrainedOperand → List (Option ℕ) → ConstrainedOperand → Bool
is_operand_outside ws sizes w = is_sized_outside ws sizes w (optional_at sizes w.number)

unfoldable pub sizes_of : List ConstrainedOperand → List (Option ℕ)
sizes_of ws = map (size_of ws) ws
