use Rattle.std.proofs.Common.{◌≡◌, ◌∙◌, Option, ℕ, sym, ap, subst}
use Rattle.asm_places.specs.Placing.{HasAssignmentFor, HasNoAssignment}
use Rattle.asm_places.specs.Sharing.{operand_of}
use Rattle.asm_places.specs.declared.goal.Asked.{Asked}
use Rattle.asm_places.specs.declared.goal.Goal.TheVariants.{Use}
use Rattle.asm_places.proofs.Meeting.{asked_for, assignment_shares, meets_nowhere_in}
use Rattle.asm_places.proofs.Meeting.{apart_first, apart_second, answers}
use Rattle.asm_places.proofs.SoundShapes.{sound}
use Rattle.asm_places.proofs.sharing.can_share_in.Goals as goal

pub returns-then-is_other : goal.returns-then-is_other
returns-then-is_other c = (
  (λ no. cc),
  (λ can. absurd (apart_first _ _ _ _ _ (sym c.is_other.ensures ∙ c.if-is_other.true) can)),
)

pub returns-then-is_other-2 : goal.returns-then-is_other-2
returns-then-is_other-2 c = (
  (λ no. cc),
  (λ can. absurd (apart_second _ _ _ _ _ (sym c.is_other-2.ensures ∙ c.if-is_other-2.true) can)),
)

pub returns : goal.returns
returns c =
    let i = c.args.i.now in
    let s = c.args.s.now in
    let r = c.args.register in
    let asked = λ (first second : Option ℕ).
    let a : Asked = record { register = r; first = first; second = second } in a in
    let same : asked c.operand_of.result c.operand_of-2.result ≡ asked_for i s c.args.p c.args.q r =
    ap (λ f. asked f c.operand_of-2.result) c.operand_of.ensures
    ∙ ap (asked (operand_of i s c.args.p)) c.operand_of-2.ensures in
    answers c.has_placement.result c.has_placement.ensures.some c.has_placement.ensures.none
    (λ some. assignment_shares i s c.args.p c.args.q r
    (sound i s c.requires.interface c.requires.shape) c.requires.first c.requires.second
    (sym c.is_other.ensures ∙ c.if-is_other.false) (sym c.is_other-2.ensures ∙ c.if-is_other-2.false)
    (subst (λ a. HasAssignmentFor i s (Use a)) same some))
    (λ none can. meets_nowhere_in i s c.args.p c.args.q r (subst (λ a. HasNoAssignment i s (Use a)) same none) can)
