-- Constraints that lie outside this project's tables, and the rule K2: a malformed interface. Both are this project's own;
-- gcc refuses most of what K2 names.
use Rattle.std.specs.Prelude.{ℕ, ◌==◌, ◌&&◌, ◌||◌, nat_lt, List, [], ◌∷◌, ◌++◌, map, filter, find, take, length, count_by, Bool, true, false, not, is_some, is_none, Option, None, Some, slice_get}
use Rattle.std.specs.List.{list_any, list_all}
use Rattle.asm_core.specs.Reg.{reg_number}
use Rattle.asm_core.specs.Lists.{optional_at}
use Rattle.asm_core.specs.Constraint.{has_name, is_signed, all_symbols}
use Rattle.asm_core.specs.Clobber.{is_clobbered}
use Rattle.asm_core.specs.declared.reg.Reg.{Reg}
use Rattle.asm_core.specs.declared.finding.Rule.{Rule}
use Rattle.asm_core.specs.declared.finding.Cell.{Cell}
use Rattle.asm_core.specs.declared.finding.Finding.{Finding}
use Rattle.asm_core.specs.declared.interface.Role.{Role}
use Rattle.asm_core.specs.declared.piece.Piece.{Piece}
use Rattle.asm_core.specs.declared.constraint.Letter.TheVariants.{One}
use Rattle.asm_core.specs.declared.constraint.Symbol.{Symbol}
use Rattle.asm_core.specs.declared.constraint.Symbol.TheVariants as symbols
use Rattle.asm_core.specs.declared.constraint.ConstrainedOperand.{ConstrainedOperand}
use Rattle.asm_core.specs.declared.statement.Quoted.{Quoted}

abbrev pub is_letter : Symbol → Bool
is_letter (symbols.Letter letter) = true
is_letter _ = false

abbrev pub is_early : Symbol → Bool
is_early symbols.Early = true
is_early _ = false

abbrev pub is_tie : Symbol → Bool
is_tie (symbols.Tie output) = true
is_tie _ = false

abbrev pub is_sign : Symbol → Bool
is_sign symbols.Sign = true
is_sign _ = false

abbrev pub is_other : Symbol → Bool
is_other symbols.Other = true
is_other _ = false

-- ---- constraints outside the tables

abbrev pub has_other : ConstrainedOperand → Bool
has_other w = list_any is_other (all_symbols w)

-- a sign stands behind that of the beginning
abbrev pub has_second_sign : ConstrainedOperand → Bool
has_second_sign w = is_signed w.role && list_any is_sign (all_symbols w)

-- two ties, equal ones too
abbrev pub has_two_ties : List Symbol → Bool
has_two_ties alternative = nat_lt 1 (count_by is_tie alternative)

abbrev pub mixes_tie : List Symbol → Bool
mixes_tie alternative = list_any is_tie alternative && list_any is_letter alternative

-- No letter and no tie: gcc lets such an operand be anywhere, which no alternative here can say.
abbrev pub says_nothing : List Symbol → Bool
says_nothing alternative = not (list_any is_tie alternative || list_any is_letter alternative)

abbrev pub is_read_role : Role → Bool
is_read_role Role.Out = false
is_read_role Role.InOut = true
is_read_role Role.In = false

-- an output that no input can be tied to: it begins with `+`, or is a flag output
abbrev pub takes_no_tie : Option ConstrainedOperand → Bool
takes_no_tie None = false
takes_no_tie (Some w) = is_read_role w.role || is_some w.flag

abbrev pub is_bad_tie : List ConstrainedOperand → Symbol → Bool
is_bad_tie ws (symbols.Letter letter) = false
is_bad_tie ws symbols.Early = false
is_bad_tie ws (symbols.Tie None) = false
is_bad_tie ws (symbols.Tie (Some output)) = takes_no_tie (slice_get ws output)
is_bad_tie ws symbols.Sign = false
is_bad_tie ws symbols.Other = false

abbrev pub has_bad_tie : List ConstrainedOperand → ConstrainedOperand → Bool
has_bad_tie ws w = list_any (is_bad_tie ws) (all_symbols w)

unfoldable pub is_constraint_outside : List ConstrainedOperand → ConstrainedOperand → Bool
is_constraint_outside ws w =
    has_other w || (has_second_sign w || (list_any says_nothing w.alternatives
    || (list_any has_two_ties w.alternatives || (list_any mixes_tie w.alternatives || has_bad_tie ws w))))

-- ---- the cases of K2 that name an operand

-- an output begins with neither `=` nor `+`
abbrev pub is_unsigned_output : ConstrainedOperand → Bool
is_unsigned_output w = w.output && not (is_signed w.role)

abbrev pub is_output_mark : Symbol → Bool
is_output_mark s = is_sign s || is_early s

-- an input has `=`, `+` or `&`
abbrev pub is_marked_input : ConstrainedOperand → Bool
is_marked_input w = not w.output && list_any is_output_mark (all_symbols w)

abbrev pub has_own_alternatives : ConstrainedOperand → Bool
has_own_alternatives w = is_none w.flag

abbrev pub count_of : Option ConstrainedOperand → ℕ
count_of None = 1
count_of (Some w) = length w.alternatives

-- how many alternatives the first operand has that isn't a flag output; without one there is one
unfoldable pub alternative_count : List ConstrainedOperand → ℕ
alternative_count ws = count_of (find has_own_alternatives ws)

-- it is no flag output, and has another count than the first of those
abbrev pub differs_in_count : ℕ → ConstrainedOperand → Bool
differs_in_count count w = has_own_alternatives w && not (length w.alternatives == count)

abbrev pub is_numbered : ℕ → Option ConstrainedOperand → Bool
is_numbered number None = false
is_numbered number (Some w) = w.number == number

-- the counts of alternatives differ, here for the first time
unfoldable pub is_odd_one : List ConstrainedOperand → ConstrainedOperand → Bool
is_odd_one ws w = is_numbered w.number (find (differs_in_count (alternative_count ws)) ws)

abbrev pub is_stray_tie : Bool → Symbol → Bool
is_stray_tie output (symbols.Letter letter) = false
is_stray_tie output symbols.Early = false
is_stray_tie output (symbols.Tie None) = true
is_stray_tie output (symbols.Tie (Some number)) = output
is_stray_tie output symbols.Sign = false
is_stray_tie output symbols.Other = false

-- a tie names no output, or stands in an output
abbrev pub has_stray_tie : ConstrainedOperand → Bool
has_stray_tie w = list_any (is_stray_tie w.output) (all_symbols w)

abbrev pub is_named_before : List (Option (List ℕ)) → Option (List ℕ) → Bool
is_named_before before None = false
is_named_before before (Some name) = list_any (has_name name) before

-- an operand before it has its name
unfoldable pub repeats_name : List (Option (List ℕ)) → ℕ → Bool
repeats_name names number = is_named_before (take number names) (optional_at names number)

abbrev pub is_letter_of : Reg → Symbol → Bool
is_letter_of r (symbols.Letter (One q)) = reg_number r == reg_number q
is_letter_of r _ = false

abbrev pub is_early_or_letter_of : Reg → Symbol → Bool
is_early_or_letter_of r s = is_early s || is_letter_of r s

-- the letter of that register, perhaps more than once, and nothing else but `&`
unfoldable pub is_only_letter : Reg → List Symbol → Bool
is_only_letter r alternative = list_any (is_letter_of r) alternative && list_all (is_early_or_letter_of r) alternative

-- the register is clobbered, and its letter stands alone in every alternative of the operand
abbrev pub is_clobbered_place : List Quoted → ConstrainedOperand → Reg → Bool
is_clobbered_place clobbers w r = is_clobbered clobbers r && (has_own_alternatives w && list_all (is_only_letter r) w.alternatives)

-- The registers that have a letter of their own.
abbrev pub lettered_registers : List Reg
lettered_registers = Reg.Eax ∷ Reg.Ebx ∷ Reg.Ecx ∷ Reg.Edx ∷ Reg.Esi ∷ Reg.Edi ∷ []

-- one register's letter alone in every alternative, and that register is clobbered
unfoldable pub is_clobbered_operand : List Quoted → ConstrainedOperand → Bool
is_clobbered_operand clobbers w = list_any (is_clobbered_place clobbers w) lettered_registers

abbrev pub is_hole_of : ℕ → Piece → Bool
is_hole_of number (Piece.Byte b place) = false
is_hole_of number (Piece.Hole operand modifier place) = operand == number
is_hole_of number (Piece.Unique place) = false

-- the template names a flag output, be it in a comment
unfoldable pub is_named_flag : List Piece → ConstrainedOperand → Bool
is_named_flag pieces w = is_some w.flag && list_any (is_hole_of w.number) pieces

unfoldable pub is_malformed : List ConstrainedOperand → List (Option (List ℕ)) → List Quoted → List Piece → ConstrainedOperand → Bool
is_malformed ws names clobbers pieces w =
    is_unsigned_output w || (is_marked_input w || (is_odd_one ws w || (has_stray_tie w
    || (repeats_name names w.number || (is_clobbered_operand clobbers w || is_named_flag pieces w)))))

-- ---- the findings

abbrev pub malformed_at : Cell → Finding
malformed_at cell = record { rule = Rule.K2; line = 0; cell = cell; other = Cell.Nothing }

abbrev pub malformed_operand : ConstrainedOperand → Finding
malformed_operand w = malformed_at (Cell.Operand w.number)

-- the template names an operand that isn't there
abbrev pub missing_findings : Bool → List Finding
missing_findings true = malformed_at Cell.Nothing ∷ []
missing_findings false = []

-- the malformed operands upwards, each once, and then what names no operand
unfoldable pub malformed_findings : List ConstrainedOperand → List (Option (List ℕ)) → List Quoted → List Piece → Bool → List Finding
malformed_findings ws names clobbers pieces missing =
    map malformed_operand (filter (is_malformed ws names clobbers pieces) ws) ++ missing_findings missing
