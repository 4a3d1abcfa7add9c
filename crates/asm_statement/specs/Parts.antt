-- What stands between the parentheses of an asm statement (GCC manual, "Extended Asm").
use Rattle.std.specs.Prelude.{ℕ, Bool, true, false, List, [], ◌+◌, ◌-◌, ◌==◌, ◌&&◌, nat_lt, nat_le, if◌then◌else◌, Option, Some, None, Result, Ok, Err, length, drop, slice_range}
use Rattle.c_tokens.specs.declared.token.Token.{Token}
use Rattle.asm_core.specs.Parts.{operand_count}
use Rattle.asm_core.specs.declared.span.Span.{Span}
use Rattle.asm_core.specs.declared.statement.Part.{Part}
use Rattle.asm_core.specs.declared.statement.Parts.{Parts}
use Rattle.c_literals.specs.declared.raw.Raw.{Raw}
use Rattle.asm_statement.specs.declared.list.Operands.{Operands}
use Rattle.asm_statement.specs.declared.list.Clobbers.{Clobbers}
use Rattle.asm_statement.specs.declared.parts.Template.{Template}
use Rattle.asm_statement.specs.Classes.{is_close_paren, is_colon, ends_list}
use Rattle.asm_statement.specs.Source.{class_at, end_at, span_of}
use Rattle.asm_statement.specs.Literals.{quoted}
use Rattle.asm_statement.specs.Templates.{template_of}
use Rattle.asm_statement.specs.Operands.{literals_end_at, operands_from, clobbers_from}

abbrev pub operands_at : List ℕ → List Token → ℕ → Option Operands
operands_at text ts i = if ends_list (class_at text ts i) then Some (record { list = []; end = i }) else operands_from text ts i i (drop i ts)

abbrev pub clobbers_at : List ℕ → List Token → ℕ → Option Clobbers
clobbers_at text ts i = if ends_list (class_at text ts i) then Some (record { list = []; end = i }) else clobbers_from text ts i i (drop i ts)

-- the list behind a colon, if one stands there
unfoldable pub operand_section : List ℕ → List Token → ℕ → Option Operands
operand_section text ts i = if is_colon (class_at text ts i) then operands_at text ts (i + 1) else Some (record { list = []; end = i })

unfoldable pub clobber_section : List ℕ → List Token → ℕ → Option Clobbers
clobber_section text ts i = if is_colon (class_at text ts i) then clobbers_at text ts (i + 1) else Some (record { list = []; end = i })

-- The template's bytes. Where a form in it is in no table it has none, and that form's offset is kept.
abbrev pub template_read : Span → Result (List Raw) ℕ → Template
template_read span (Ok raws) = record { quoted = quoted raws span; bad = None }
template_read span (Err o) = record { quoted = quoted [] span; bad = Some o }

unfoldable pub template_at : List ℕ → List Token → ℕ → ℕ → Template
template_at text ts first end = template_read (span_of ts first (end - 1)) (template_of text (slice_range ts first end))

abbrev pub one_if : Bool → ℕ
one_if true = 1
one_if false = 0

abbrev pub colons_of : List ℕ → List Token → Operands → Operands → ℕ
colons_of text ts outputs inputs = 1 + one_if (is_colon (class_at text ts outputs.end)) + one_if (is_colon (class_at text ts inputs.end))

abbrev pub parts_of : List ℕ → List Token → Template → Operands → Operands → Clobbers → Parts
parts_of text ts template outputs inputs clobbers = record {
  template = template.quoted;
  outputs = outputs.list;
  inputs = inputs.list;
  clobbers = clobbers.list;
  colons = colons_of text ts outputs inputs;
  last = end_at ts (clobbers.end - 1);
  bad_template = template.bad;
}

abbrev pub behind_clobbers : List ℕ → List Token → Template → Operands → Operands → Option Clobbers → Option Parts
behind_clobbers text ts template outputs inputs None = None
behind_clobbers text ts template outputs inputs (Some clobbers) =
    if is_close_paren (class_at text ts clobbers.end) && nat_le (operand_count outputs.list inputs.list) 30
    then Some (parts_of text ts template outputs inputs clobbers)
    else None

abbrev pub behind_inputs : List ℕ → List Token → Template → Operands → Option Operands → Option Parts
behind_inputs text ts template outputs None = None
behind_inputs text ts template outputs (Some inputs) = behind_clobbers text ts template outputs inputs (clobber_section text ts inputs.end)

abbrev pub behind_outputs : List ℕ → List Token → Template → Option Operands → Option Parts
behind_outputs text ts template None = None
behind_outputs text ts template (Some outputs) = behind_inputs text ts template outputs (operand_section text ts outputs.end)

abbrev pub behind_template : List ℕ → List Token → ℕ → ℕ → Option Parts
behind_template text ts first end =
    if nat_lt first end && is_colon (class_at text ts end)
    then behind_outputs text ts (template_at text ts first end) (operand_section text ts end)
    else None

-- The parts from the index behind the opening parenthesis on: the template, one to three colons with their lists, the
-- closing parenthesis, and at most 30 operands. None is another form.
unfoldable pub parts_at : List ℕ → List Token → ℕ → Option Parts
parts_at text ts first = behind_template text ts first (literals_end_at true text ts first)
