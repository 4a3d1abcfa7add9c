-- Each statement's parts keep what `IsParts` says.
use Rattle.std.proofs.Common.{◌≡◌, ℕ, ◌+◌, ◌-◌, nat_le, nat_lt, ◌&&◌, Bool, true, false, List, [], ◌∷◌, length, slice_range, Option, Some, None, Result, Ok, Err, IfOk, All, if◌then◌else◌, refl, sym, ◌∙◌, subst}
use Rattle.std.proofs.lemmas.Bool.{leb-true}
use Rattle.std.proofs.lemmas.List.{length-map}
use Rattle.std.proofs.lemmas.List.Elements.{All-nil, All-cons}
use Rattle.c_tokens.specs.declared.token.Token.{Token}
use Rattle.asm_core.specs.declared.span.Span.{Span}
use Rattle.asm_core.specs.declared.statement.Parts.{Parts}
use Rattle.asm_core.specs.declared.statement.Body.{Body}
use Rattle.asm_core.specs.declared.statement.Statement.{Statement}
use Rattle.asm_core.specs.declared.memory.Memory.{Memory}
use Rattle.asm_core.specs.Parts.{operand_count, IsParts, IsBody}
use Rattle.c_literals.specs.declared.raw.Raw.{Raw}
use Rattle.asm_statement.specs.declared.beginning.Beginning.{Beginning}
use Rattle.asm_statement.specs.declared.list.Operands.{Operands}
use Rattle.asm_statement.specs.declared.list.Clobbers.{Clobbers}
use Rattle.asm_statement.specs.declared.parts.Template.{Template}
use Rattle.asm_statement.specs.Classes.{is_open_paren, is_close_paren, is_colon}
use Rattle.asm_statement.specs.Source.{class_at, span_of}
use Rattle.asm_statement.specs.Templates.{template_of}
use Rattle.asm_statement.specs.Beginnings.{beginnings_of}
use Rattle.asm_statement.specs.Parts.{template_read, operand_section, clobber_section, template_at, parts_of, behind_clobbers, behind_inputs, behind_outputs, behind_template, parts_at}
use Rattle.asm_statement.specs.Operands.{literals_end_at}
use Rattle.asm_statement.specs.Statements.{close_of, is_nested, outside, formed, body_behind, behind_words, body_of, statement_at, first_of, statements_from, statements_of}

-- the bytes of a template and their offsets come from one list
abbrev IsPlaced : Template → Type 0
IsPlaced template = length template.quoted.at ≡ length template.quoted.bytes

placed : (span : Span) (r : Result (List Raw) ℕ) → IsPlaced (template_read span r)
placed span (Ok raws) = length-map raws (λ (x : Raw). x.at) ∙ sym (length-map raws (λ (x : Raw). x.byte))
placed span (Err o) = refl

AreParts : Option Parts → Type 0
AreParts None = Unit {0}
AreParts (Some parts) = IsParts parts

guarded : (a b : Bool) (parts : Parts) → (b ≡ true → IsParts parts) → AreParts (if a && b then Some parts else None)
unfolding AreParts
guarded true true parts h = h refl
guarded true false parts h = tt
guarded false b parts h = tt

kept : (b : Bool) (o : Option Parts) → AreParts o → AreParts (if b then o else None)
unfolding AreParts
kept true o h = h
kept false o h = tt

module _ (text : List ℕ) (ts : List Token) where
  clobbers_kept : (template : Template) (outputs inputs : Operands) (clobbers : Option Clobbers) → IsPlaced template → AreParts (behind_clobbers text ts template outputs inputs clobbers)
  unfolding AreParts
  clobbers_kept template outputs inputs None h = tt
  clobbers_kept template outputs inputs (Some clobbers) h =
      guarded (is_close_paren (class_at text ts clobbers.end)) (nat_le (operand_count outputs.list inputs.list) 30) (parts_of text ts template outputs inputs clobbers)
      (λ e. record { few = leb-true (operand_count outputs.list inputs.list) 30 e; placed = h })

  inputs_kept : (template : Template) (outputs : Operands) (inputs : Option Operands) → IsPlaced template → AreParts (behind_inputs text ts template outputs inputs)
  unfolding AreParts
  inputs_kept template outputs None h = tt
  inputs_kept template outputs (Some inputs) h = clobbers_kept template outputs inputs (clobber_section text ts inputs.end) h

  outputs_kept : (template : Template) (outputs : Option Operands) → IsPlaced template → AreParts (behind_outputs text ts template outputs)
  unfolding AreParts
  outputs_kept template None h = tt
  outputs_kept template (Some outputs) h = inputs_kept template outputs (operand_section text ts outputs.end) h

  template_placed : (first end : ℕ) → IsPlaced (template_at text ts first end)
  unfolding template_at
  template_placed first end = placed (span_of ts first (end - 1)) (template_of text (slice_range ts first end))

  parts_kept : (first : ℕ) → AreParts (parts_at text ts first)
  unfolding parts_at
  parts_kept first =
      let end = literals_end_at true text ts first in
      kept (nat_lt first end && is_colon (class_at text ts end)) (behind_outputs text ts (template_at text ts first end) (operand_section text ts end))
      (outputs_kept (template_at text ts first end) (operand_section text ts end) (template_placed first end))

  formed_kept : (keyword : ℕ) (parts : Option Parts) → AreParts parts → IsBody (formed ts keyword parts)
  unfolding AreParts
  formed_kept keyword None h = tt
  formed_kept keyword (Some parts) h = h

  either_kept : (b : Bool) (x y : Body) → IsBody x → IsBody y → IsBody (if b then x else y)
  either_kept true x y h k = h
  either_kept false x y h k = k

  body_kept : (b : Beginning) (next close : Option ℕ) → IsBody (body_of text ts b next close)
  unfolding body_of
  body_kept b next close =
      either_kept (is_nested next close) (outside ts b.at) _ tt
      (either_kept (b.in_block && b.covered) _ (outside ts b.at)
      (either_kept (is_open_paren (class_at text ts (behind_words false text ts b.at))) _ (outside ts b.at)
      (formed_kept b.at (parts_at text ts (behind_words false text ts b.at + 1)) (parts_kept (behind_words false text ts b.at + 1))) tt) tt)

  kept_from : (bs : List Beginning) → All (λ (s : Statement). IsBody s.body) (statements_from text ts bs)
  unfolding statements_from statement_at
  kept_from [] = All-nil (λ (s : Statement). IsBody s.body)
  kept_from (b ∷ bs) = All-cons (λ (s : Statement). IsBody s.body) (statement_at text ts b (first_of bs)) (statements_from text ts bs) (body_kept b (first_of bs) (close_of text ts b.at)) (kept_from bs)

  statements_kept : All (λ (s : Statement). IsBody s.body) (statements_of text ts)
  statements_kept = kept_from (beginnings_of text ts)

-- so has no list of them
pub all_kept : (text : List ℕ) (ts : List Token) (ss : List Statement) → ss ≡ statements_of text ts → All (λ (s : Statement). IsBody s.body) ss
all_kept text ts ss is = subst (All (λ (s : Statement). IsBody s.body)) (sym is) (statements_kept text ts)

pub all_kept_in : (text : List ℕ) (ts : List Token) (r : Result (List Statement) Memory) → IfOk r (λ ss. ss ≡ statements_of text ts) → IfOk r (All (λ (s : Statement). IsBody s.body))
all_kept_in text ts (Ok ss) is = all_kept text ts ss is
all_kept_in text ts (Err e) is = tt
