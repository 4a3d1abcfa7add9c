-- Each edit of a statement has one of the stated forms.
use Rattle.std.proofs.Common.{◌≡◌, ◌⊎◌, inl, inr, ℕ, zero, suc, ◌+◌, List, [], ◌∷◌, ◌++◌, drop, codes, ◌&&◌, ◌||◌, not, Bool, true, false, Some, slice_get, Result, Ok, Err, refl, sym, ap, subst, ◌∙◌, arith}
use Rattle.std.specs.List.{All}
use Rattle.std.specs.Result.{IfOk}
use Rattle.std.proofs.lemmas.Bool.{false≢true, and_parts, or_cases, not-true}
use Rattle.std.proofs.lemmas.List.Elements.{All-nil, All-cons, All-append, All-weaker}
use Rattle.std.proofs.lemmas.List.Sums.{fold_more}
use Rattle.std.proofs.lemmas.Option.{slice_get_within, get_or_from_slice_get}
use Rattle.asm_core.specs.Constraint.{is_comma}
use Rattle.asm_core.specs.declared.edit.Edit.{Edit}
use Rattle.asm_core.specs.declared.memory.Memory.{Memory}
use Rattle.asm_core.specs.declared.statement.Quoted.{Quoted}
use Rattle.asm_core.specs.declared.statement.Part.{Part}
use Rattle.asm_core.specs.declared.statement.Parts.{Parts}
use Rattle.asm_core.specs.declared.statement.Body.{Body}
use Rattle.blk_patch.specs.Suggested.{is_inside_after}
use Rattle.blk_patch.specs.Edits.{change_of, change_at, edit_at, edit_if, is_equals, is_letter_r, is_early, asks_plus, asks_byte, asks_early, byte_edits, position_after, edits_from, beginning, constraint_edits, operand_edits, clobber_text, insertion_of, edits_of, edits_in}
use Rattle.blk_patch.specs.EditForms.{is_inside_at, IsByte, IsConstraintEdit, IsPatchEdit, ArePatchEdits}
use Rattle.blk_patch.specs.declared.item.Item.{Item}
use Rattle.blk_patch.specs.declared.constraint.Change.{Change}
use Rattle.blk_patch.specs.declared.constraint.Position.{Position}

-- ---- what is left of a list

at_front : {X : Type 0} (xs rest : List X) (n : ℕ) (x : X) → x ∷ rest ≡ drop n xs → slice_get xs n ≡ Some x
at_front [] rest zero x e = cc
at_front [] rest (suc n) x e = cc
at_front (y ∷ ys) rest zero x e = cc
at_front (y ∷ ys) rest (suc n) x e = at_front ys rest n x e

behind_it : {X : Type 0} (xs rest : List X) (n : ℕ) (x : X) → x ∷ rest ≡ drop n xs → rest ≡ drop (suc n) xs
behind_it [] rest zero x e = cc
behind_it [] rest (suc n) x e = cc
behind_it (y ∷ ys) rest zero x e = cc
behind_it (y ∷ ys) rest (suc n) x e = behind_it ys rest n x e

behind_front : {X : Type 0} (xs rest : List X) (n : ℕ) (x : X) → x ∷ rest ≡ drop n xs → rest ≡ drop (n + 1) xs
behind_front xs rest n x e =
    let next : suc n ≡ n + 1 = omega arith in
    behind_it xs rest n x e ∙ ap (λ k. drop k xs) next

-- ---- what is asked of a byte

module _ (change : Change) (position : Position) (b : ℕ) where
  pub asked_plus : asks_plus change position b ≡ true → (position.first ≡ true) × (is_equals b ≡ true)
  asked_plus asked =
      and_parts position.first (is_equals b) (and_parts (position.first && is_equals b) change.plus asked).0

  pub asked_byte : asks_byte change position b ≡ true → (not position.inside ≡ true) × (is_letter_r b ≡ true)
  asked_byte asked =
      and_parts (not position.inside) (is_letter_r b)
      (and_parts (not position.inside && is_letter_r b) change.byte asked).0

-- ---- bytes

-- the position is that of byte n
record IsAt (q : Quoted) (position : Position) (n : ℕ) : Type 0 where
  first : position.first ≡ true → n ≡ 0
  inside : position.inside ≡ is_inside_at q.bytes n

module _ (q : Quoted) where
  at_beginning : IsAt q beginning 0
  at_beginning = record { first = λ e. refl; inside = refl }

  inside_next : (n b : ℕ) → slice_get q.bytes n ≡ Some b
      → is_inside_at q.bytes (n + 1) ≡ is_inside_after (is_inside_at q.bytes n) b
  inside_next n b there =
      fold_more is_inside_after false q.bytes n b (slice_get_within q.bytes n b there)
      ∙ ap (is_inside_after (is_inside_at q.bytes n)) (get_or_from_slice_get q.bytes n b b there)

  at_next : (position : Position) (n b : ℕ) → slice_get q.bytes n ≡ Some b → IsAt q position n
      → IsAt q (position_after position b) (n + 1)
  at_next position n b there is = record {
    first = λ e. absurd (false≢true e);
    inside = ap (λ open_there. is_inside_after open_there b) is.inside ∙ sym (inside_next n b there);
  }

  if_asked : (b : Bool) (e : Edit) → (b ≡ true → IsConstraintEdit q e) → All (IsConstraintEdit q) (edit_if b e)
  if_asked true e h = All-cons (IsConstraintEdit q) e [] (h refl) (All-nil (IsConstraintEdit q))
  if_asked false e h = All-nil (IsConstraintEdit q)

  module _ (change : Change) (position : Position) (n b at : ℕ) (behind : List ℕ) (here : IsByte q n b at)
      (is : IsAt q position n) (left : behind ≡ drop (n + 1) q.bytes) where
    plus_form : asks_plus change position b ≡ true → IsConstraintEdit q (edit_at at (at + 1) (codes "+"))
    plus_form asked =
        let begins = asked_plus change position b asked in
        IsConstraintEdit.becomes_plus b at (subst (λ k. IsByte q k b at) (is.first begins.0) here) begins.1

    byte_form : asks_byte change position b ≡ true → IsConstraintEdit q (edit_at at (at + 1) (codes "q"))
    byte_form asked =
        let letter = asked_byte change position b asked in
        IsConstraintEdit.becomes_q n b at here letter.1 (sym is.inside ∙ not-true position.inside letter.0)

    begins_one : (position.first ≡ true) ⊎ (is_comma b ≡ true) → (n ≡ 0) ⊎ (is_comma b ≡ true)
    begins_one (inl first) = inl (is.first first)
    begins_one (inr comma) = inr comma

    mark_form : asks_early change position b behind ≡ true
        → IsConstraintEdit q (edit_at (at + 1) (at + 1) (codes "&"))
    mark_form asked =
        let whole = and_parts ((position.first || is_comma b) && change.early) (not (is_early behind)) asked in
        let begins = and_parts (position.first || is_comma b) change.early whole.0 in
        IsConstraintEdit.gains_mark n b at here (begins_one (or_cases position.first (is_comma b) begins.0))
        (ap is_early (sym left) ∙ not-true (is_early behind) whole.1)

    byte_forms : All (IsConstraintEdit q) (byte_edits (change_at change position b behind) at)
    byte_forms =
        let asked = change_at change position b behind in
        let plus = edit_if asked.plus (edit_at at (at + 1) (codes "+")) in
        let byte = edit_if asked.byte (edit_at at (at + 1) (codes "q")) in
        let early = edit_if asked.early (edit_at (at + 1) (at + 1) (codes "&")) in
        All-append (IsConstraintEdit q) (plus ++ byte) early
        (All-append (IsConstraintEdit q) plus byte (if_asked asked.plus (edit_at at (at + 1) (codes "+")) plus_form)
        (if_asked asked.byte (edit_at at (at + 1) (codes "q")) byte_form))
        (if_asked asked.early (edit_at (at + 1) (at + 1) (codes "&")) mark_form)

  forms_from : (change : Change) (bs ats : List ℕ) (position : Position) (n : ℕ)
      → bs ≡ drop n q.bytes → ats ≡ drop n q.at → IsAt q position n
      → All (IsConstraintEdit q) (edits_from change position bs ats)
  unfolding edits_from
  forms_from change [] ats position n left offsets is = All-nil (IsConstraintEdit q)
  forms_from change (b ∷ bs) [] position n left offsets is = All-nil (IsConstraintEdit q)
  forms_from change (b ∷ bs) (at ∷ ats) position n left offsets is =
      let there : slice_get q.bytes n ≡ Some b = at_front q.bytes bs n b left in
      let here : IsByte q n b at = record { byte = there; offset = at_front q.at ats n at offsets } in
      let more : bs ≡ drop (n + 1) q.bytes = behind_front q.bytes bs n b left in
      All-append (IsConstraintEdit q) (byte_edits (change_at change position b bs) at)
      (edits_from change (position_after position b) bs ats)
      (byte_forms change position n b at bs here is more)
      (forms_from change bs ats (position_after position b) (n + 1) more (behind_front q.at ats n at offsets)
      (at_next position n b there is))

  constraint_forms : (change : Change) → All (IsConstraintEdit q) (constraint_edits change q)
  constraint_forms change = forms_from change q.bytes q.at beginning 0 refl refl at_beginning

-- ---- the whole

module _ (parts : Parts) (items : List Item) where
  operand_forms : (ps : List Part) (k m : ℕ) → ps ≡ drop k (parts.outputs ++ parts.inputs)
      → All (IsPatchEdit parts) (operand_edits items m ps)
  unfolding operand_edits
  operand_forms [] k m left = All-nil (IsPatchEdit parts)
  operand_forms (p ∷ ps) k m left =
      let operands = parts.outputs ++ parts.inputs in
      let change = change_of items m in
      All-append (IsPatchEdit parts) (constraint_edits change p.constraint) (operand_edits items (m + 1) ps)
      (All-weaker (IsConstraintEdit p.constraint) (IsPatchEdit parts)
      (λ e form. IsPatchEdit.in_constraint k p e (at_front operands ps k p left) form)
      (constraint_edits change p.constraint) (constraint_forms p.constraint change))
      (operand_forms ps (k + 1) (m + 1) (behind_front operands ps k p left))

  clobber_forms : (text : List ℕ) → text ≡ clobber_text items parts
      → All (IsPatchEdit parts) (insertion_of parts.last text)
  clobber_forms [] is = All-nil (IsPatchEdit parts)
  clobber_forms (b ∷ bs) is =
      All-cons (IsPatchEdit parts) (edit_at parts.last parts.last (b ∷ bs)) []
      (subst (λ text. IsPatchEdit parts (edit_at parts.last parts.last text)) (sym is) (IsPatchEdit.in_clobbers items))
      (All-nil (IsPatchEdit parts))

  all_forms : All (IsPatchEdit parts) (edits_of items parts)
  unfolding edits_of
  all_forms =
      All-append (IsPatchEdit parts) (operand_edits items 0 (parts.outputs ++ parts.inputs))
      (insertion_of parts.last (clobber_text items parts)) (operand_forms (parts.outputs ++ parts.inputs) 0 0 refl)
      (clobber_forms (clobber_text items parts) refl)

forms : (items : List Item) (body : Body) → ArePatchEdits body (edits_in items body)
forms items (Body.Parts parts) = all_forms parts items
forms items (Body.Outside mark) = refl

pub forms_in : (items : List Item) (body : Body) (r : Result (List Edit) Memory)
    → IfOk r (λ edits. edits ≡ edits_in items body) → IfOk r (ArePatchEdits body)
forms_in items body (Ok edits) is = subst (ArePatchEdits body) (sym is) (forms items body)
forms_in items body (Err e) is = tt
