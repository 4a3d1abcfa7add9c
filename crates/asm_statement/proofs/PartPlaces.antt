-- The parts of a statement stand in order between its parentheses, and these match.
use Rattle.std.proofs.Common.{◌≡◌, ℕ, ◌+◌, ◌-◌, ◌<◌, ◌≤◌, Bool, true, false, List, [], ◌∷◌, ◌++◌, ◌&&◌, length, drop, refl, sym, ap, ◌∙◌, subst, arith, nat_lt, nat_le, Option, Some, None, if◌then◌else◌}
use Rattle.std.proofs.lemmas.Bool.{and_parts, ltb-true}
use Rattle.c_tokens.specs.declared.token.Token.{Token}
use Rattle.c_tokens.specs.Cut.{IsOrdered}
use Rattle.asm_core.specs.Parts.{operand_count}
use Rattle.asm_core.specs.declared.span.Span.{Span}
use Rattle.asm_core.specs.declared.statement.Quoted.{Quoted}
use Rattle.asm_core.specs.declared.statement.Part.{Part}
use Rattle.asm_core.specs.declared.statement.Parts.{Parts}
use Rattle.asm_statement.specs.declared.list.Operands.{Operands}
use Rattle.asm_statement.specs.declared.list.Clobbers.{Clobbers}
use Rattle.asm_statement.specs.declared.parts.Template.{Template}
use Rattle.asm_statement.specs.Classes.{is_close_paren, is_colon, ends_list}
use Rattle.asm_statement.specs.Source.{class_at, start_at, end_at}
use Rattle.asm_statement.specs.Operands.{literals_end_at, operands_from, clobbers_from}
use Rattle.asm_statement.specs.Parts.{operands_at, clobbers_at, operand_section, clobber_section, template_at, behind_clobbers, behind_inputs, behind_outputs, parts_at}
use Rattle.asm_statement.specs.Laws.{IsPlaced, IsNamePlaced, ArePartsPlaced, AreClobbersPlaced, IsPartPlaced, AreApartParts}
use Rattle.asm_statement.proofs.ClosingLaws.{class_there, Passes}
use Rattle.asm_statement.proofs.SpanLaws.{here, behind, IsUpTo, before, further, template_placed, template_span}
use Rattle.asm_statement.proofs.ListPlaces.{colon_quiet, if_some, same_some, none_some, quiet_passed, literals_read, ReadsParts, operands_read}
use Rattle.asm_statement.proofs.ClobberPlaces.{ReadsClobbers, clobbers_read}

quoted_lower : (a b z : ℕ) (q : Quoted) → a ≤ b → IsPlaced b q z → IsPlaced a q z
quoted_lower a b z q le placed = record {
  many = placed.many;
  behind = (let low = placed.behind in omega (arith, le, low));
  rising = placed.rising;
  before = placed.before;
}

name_lower : (a b z : ℕ) (name : Option Quoted) → a ≤ b → IsNamePlaced b name z → IsNamePlaced a name z
name_lower a b z None le placed = omega (arith, le, placed)
name_lower a b z (Some q) le placed = quoted_lower a b z q le placed

part_lower : (a b : ℕ) (p : Part) → a ≤ b → IsPartPlaced b p → IsPartPlaced a p
part_lower a b p le placed = record {
  name = name_lower a b p.constraint.span.from p.name le placed.name;
  constraint = quoted_lower a b p.expr.from p.constraint le placed.constraint;
  expr = placed.expr;
}

joined : (a b c : ℕ) (ps qs : List Part) → ArePartsPlaced a ps b → ArePartsPlaced b qs c
    → ArePartsPlaced a (ps ++ qs) c
joined a b c [] [] low placed = omega (arith, low, placed)
joined a b c [] (q ∷ qs) low placed = (part_lower a b q low placed.0, placed.1)
joined a b c (p ∷ ps) qs placed more = (placed.0, joined p.expr.to b c ps qs placed.1 more)

module _ (text : List ℕ) (ts : List Token) (n : ℕ) (ordered : IsOrdered 0 ts n) where
  abbrev Up : ℕ → ℕ → Type 0
  Up z e = IsUpTo text ts n ordered z e

  abbrev Over : ℕ → ℕ → Type 0
  Over i j = Passes text ts i j

  passed : (i j k : ℕ) → Over i j → Over j k → Over i k
  passed i j k p q = λ d. p d ∙ q d

  abbrev Reads : ℕ → ℕ → Operands → Type 0
  Reads a i r = ReadsParts text ts n ordered a i r

  abbrev Clobbered : ℕ → ℕ → Clobbers → Type 0
  Clobbered a i r = ReadsClobbers text ts n ordered a i r

  -- ---- what stands behind a colon

  none_read : (a i : ℕ) → Up a i → Reads a i (record { list = []; end = i })
  none_read a i up = record { last = a; placed = omega arith; up = up; low = omega arith; over = λ d. refl }

  list_read : (a i : ℕ) (r : Operands) → Up a i → operands_at text ts i ≡ Some r → Reads a i r
  list_read a i r up e = by_end (ends_list (class_at text ts i)) e
    where
      by_end : (b : Bool)
          → (if b then Some (record { list = []; end = i }) else operands_from text ts i i (drop i ts)) ≡ Some r
          → Reads a i r
      by_end true e = subst (Reads a i) (same_some _ r e) (none_read a i up)
      by_end false e = operands_read text ts n ordered (drop i ts) i i a r e (omega arith) up

  section_read : (a i : ℕ) (r : Operands) → Up a i → operand_section text ts i ≡ Some r → Reads a i r
  unfolding operand_section
  section_read a i r up e = by_colon (is_colon (class_at text ts i)) refl e
    where
      by_colon : (b : Bool) → is_colon (class_at text ts i) ≡ b
          → (if b then operands_at text ts (i + 1) else Some (record { list = []; end = i })) ≡ Some r → Reads a i r
      by_colon false _ e = subst (Reads a i) (same_some _ r e) (none_read a i up)
      by_colon true colon e =
          let there : i < length ts = class_there text ts is_colon refl i colon in
          let rest = list_read a (i + 1) r (further text ts n ordered a i (i + 1) up (omega arith) (omega
          (arith, there))) e in
          record {
            last = rest.last;
            placed = rest.placed;
            up = rest.up;
            low = (let l = rest.low in omega (arith, l));
            over = passed i (i + 1) r.end (quiet_passed text ts n ordered i there (colon_quiet
                (class_at text ts i) colon)) rest.over;
          }

  no_clobber : (a i : ℕ) → Up a i → Clobbered a i (record { list = []; end = i })
  no_clobber a i up = record { last = a; placed = omega arith; up = up; low = omega arith; over = λ d. refl }

  clobbers_listed : (a i : ℕ) (r : Clobbers) → Up a i → clobbers_at text ts i ≡ Some r → Clobbered a i r
  clobbers_listed a i r up e = by_end (ends_list (class_at text ts i)) e
    where
      by_end : (b : Bool)
          → (if b then Some (record { list = []; end = i }) else clobbers_from text ts i i (drop i ts)) ≡ Some r
          → Clobbered a i r
      by_end true e = subst (Clobbered a i) (same_some _ r e) (no_clobber a i up)
      by_end false e = clobbers_read text ts n ordered (drop i ts) i i a r e (omega arith) up

  clobbers_behind : (a i : ℕ) (r : Clobbers) → Up a i → clobber_section text ts i ≡ Some r → Clobbered a i r
  unfolding clobber_section
  clobbers_behind a i r up e = by_colon (is_colon (class_at text ts i)) refl e
    where
      by_colon : (b : Bool) → is_colon (class_at text ts i) ≡ b
          → (if b then clobbers_at text ts (i + 1) else Some (record { list = []; end = i })) ≡ Some r
          → Clobbered a i r
      by_colon false _ e = subst (Clobbered a i) (same_some _ r e) (no_clobber a i up)
      by_colon true colon e =
          let there : i < length ts = class_there text ts is_colon refl i colon in
          let rest = clobbers_listed a (i + 1) r (further text ts n ordered a i (i + 1) up (omega arith) (omega
          (arith, there))) e in
          record {
            last = rest.last;
            placed = rest.placed;
            up = rest.up;
            low = (let l = rest.low in omega (arith, l));
            over = passed i (i + 1) r.end (quiet_passed text ts n ordered i there (colon_quiet
                (class_at text ts i) colon)) rest.over;
          }

  -- ---- the parts

  -- the parts stand behind the offset `a` and from the index `first` on, up to a closing parenthesis
  pub record ReadsAll (a first : ℕ) (parts : Parts) : Type 0 where
    pub close : ℕ
    pub closes : is_close_paren (class_at text ts close) ≡ true
    pub placed : AreApartParts a parts (end_at ts close)
    pub over : Over first close

  all_read : (a first end : ℕ) (t : Template) (outputs inputs : Operands) (o : Option Clobbers) (parts : Parts)
      → IsPlaced a t.quoted t.quoted.span.to → Over first end
      → (outs : Reads t.quoted.span.to end outputs) → (ins : Reads outs.last outputs.end inputs)
      → clobber_section text ts inputs.end ≡ o → behind_clobbers text ts t outputs inputs o ≡ Some parts
      → ReadsAll a first parts
  all_read a first end t outputs inputs None parts template over outs ins is e = absurd (none_some parts e)
  all_read a first end t outputs inputs (Some clobbers) parts template over outs ins is e =
      let test = if_some (is_close_paren (class_at text ts clobbers.end) && nat_le
      (operand_count outputs.list inputs.list) 30) _ parts e in
      let both = and_parts (is_close_paren (class_at text ts clobbers.end)) (nat_le
      (operand_count outputs.list inputs.list) 30) test.0 in
      let there : clobbers.end < length ts = class_there text ts is_close_paren refl clobbers.end both.0 in
      let behind_them = clobbers_behind ins.last inputs.end clobbers ins.up is in
      let up = behind_them.up in
      let some = up.some in
      let low = up.low in
      let next = behind text ts n ordered (clobbers.end - 1) clobbers.end (omega (arith, some)) there in
      let last = here text ts n ordered clobbers.end there in
      subst (ReadsAll a first) (same_some _ parts test.1) (record {
        close = clobbers.end;
        closes = both.0;
        placed = record {
          template = template;
          between = ins.last;
          operands = joined t.quoted.span.to outs.last ins.last outputs.list inputs.list outs.placed ins.placed;
          clobbers = up_to ins.last behind_them.last (end_at ts
              (clobbers.end - 1)) clobbers.list low behind_them.placed;
          last = (let long = last.0 in omega (arith, next, long));
        };
        over = passed first end clobbers.end over (passed end outputs.end clobbers.end outs.over
            (passed outputs.end inputs.end clobbers.end ins.over behind_them.over));
      })
    where
      up_to : (a b c : ℕ) (qs : List Quoted) → b ≤ c → AreClobbersPlaced a qs b → AreClobbersPlaced a qs c
      up_to a b c [] le placed = omega (arith, le, placed)
      up_to a b c (q ∷ qs) le placed = (placed.0, up_to q.span.to b c qs le placed.1)

  inputs_read : (a first end : ℕ) (t : Template) (outputs : Operands) (o : Option Operands) (parts : Parts)
      → IsPlaced a t.quoted t.quoted.span.to → Over first end → Reads t.quoted.span.to end outputs
      → operand_section text ts outputs.end ≡ o → behind_inputs text ts t outputs o ≡ Some parts
      → ReadsAll a first parts
  inputs_read a first end t outputs None parts template over outs is e = absurd (none_some parts e)
  inputs_read a first end t outputs (Some inputs) parts template over outs is e =
      all_read a first end t outputs inputs (clobber_section text ts inputs.end) parts template over outs
      (section_read outs.last outputs.end inputs outs.up is) refl e

  outputs_read : (a first end : ℕ) (t : Template) (o : Option Operands) (parts : Parts)
      → IsPlaced a t.quoted t.quoted.span.to → Up t.quoted.span.to end → Over first end
      → operand_section text ts end ≡ o → behind_outputs text ts t o ≡ Some parts → ReadsAll a first parts
  outputs_read a first end t None parts template up over is e = absurd (none_some parts e)
  outputs_read a first end t (Some outputs) parts template up over is e =
      inputs_read a first end t outputs (operand_section text ts outputs.end) parts template over
      (section_read t.quoted.span.to end outputs up is) refl e

  pub parts_read : (a first : ℕ) (parts : Parts) → Up a first → parts_at text ts first ≡ Some parts
      → ReadsAll a first parts
  unfolding parts_at
  parts_read a first parts up e =
      let end = literals_end_at true text ts first in
      let test = if_some (nat_lt first end && is_colon (class_at text ts end)) _ parts e in
      let both = and_parts (nat_lt first end) (is_colon (class_at text ts end)) test.0 in
      let some : first < end = ltb-true first end both.0 in
      let literals = literals_read text ts n ordered true first end refl some in
      let within = literals.within in
      let t = template_at text ts first end in
      let low : a ≤ start_at ts first = before text ts n ordered a first first up (omega arith) (omega
      (arith, some, within)) in
      let placed = template_placed text ts n ordered a first end some within low in
      let span = template_span text ts n ordered first end in
      let ends : end_at ts (end - 1) ≡ t.quoted.span.to = sym (ap (λ (s : Span). s.to) span) in
      outputs_read a first end t (operand_section text ts end) parts
      (subst (λ z. IsPlaced a t.quoted z) ends placed)
      (subst (λ z. Up z end) ends (record { some = omega (arith, some); within = within; low = omega arith }))
      literals.over refl test.1
