use Rattle.std.proofs.Common.{◌≡◌, Option, ℕ, sym, ap, subst, ◌∙◌}
use Rattle.asm_core.specs.declared.placement.Placement.{Placement}
use Rattle.asm_places.specs.Placing.{IsLeastPlaced, HasNoAssignment}
use Rattle.asm_places.specs.Sharing.{operand_of, IsSharedIn}
use Rattle.asm_places.specs.declared.goal.Asked.{Asked}
use Rattle.asm_places.specs.declared.goal.Goal.TheVariants.{Use}
use Rattle.asm_places.proofs.Meeting.{asked_for, placed_shares, none_shares, if_some, if_none}
use Rattle.asm_places.proofs.SoundShapes.{sound}
use Rattle.asm_places.proofs.sharing.sharing_in.Goals as goal

pub returns-clause-shared : goal.returns-clause-shared
returns-clause-shared c =
    let asked = λ (first second : Option ℕ). let a : Asked = record { register = c.args.register; first = first; second = second } in a in
    let same : asked c.operand_of.result c.operand_of-2.result ≡ asked_for c.args.i.now c.args.s.now c.args.p c.args.q c.args.register =
    ap (λ f. asked f c.operand_of-2.result) c.operand_of.ensures ∙ ap (asked (operand_of c.args.i.now c.args.s.now c.args.p)) c.operand_of-2.ensures in
    if_some c.least_placement.result (IsLeastPlaced c.args.i.now c.args.s.now (Use (asked c.operand_of.result c.operand_of-2.result))) (IsSharedIn c.args.i.now c.args.s.now c.args.p c.args.q c.args.register)
    (λ at placed. placed_shares c.args.i.now c.args.s.now c.args.p c.args.q c.args.register at (sound c.args.i.now c.args.s.now c.requires.interface c.requires.shape) c.requires.first c.requires.second
    (sym c.is_other.ensures ∙ c.if-is_other.false) (sym c.is_other-2.ensures ∙ c.if-is_other-2.false)
    (subst (λ a. IsLeastPlaced c.args.i.now c.args.s.now (Use a) at) same placed))
    c.least_placement.ensures.placed

pub returns-clause-none : goal.returns-clause-none
returns-clause-none c =
    let asked = λ (first second : Option ℕ). let a : Asked = record { register = c.args.register; first = first; second = second } in a in
    let same : asked c.operand_of.result c.operand_of-2.result ≡ asked_for c.args.i.now c.args.s.now c.args.p c.args.q c.args.register =
    ap (λ f. asked f c.operand_of-2.result) c.operand_of.ensures ∙ ap (asked (operand_of c.args.i.now c.args.s.now c.args.p)) c.operand_of-2.ensures in
    if_none c.least_placement.result (HasNoAssignment c.args.i.now c.args.s.now (Use (asked c.operand_of.result c.operand_of-2.result)))
    ((at : Placement) → IsSharedIn c.args.i.now c.args.s.now c.args.p c.args.q c.args.register at → ⊥)
    (λ none. none_shares c.args.i.now c.args.s.now c.args.p c.args.q c.args.register (subst (λ a. HasNoAssignment c.args.i.now c.args.s.now (Use a)) same none))
    c.least_placement.ensures.none
