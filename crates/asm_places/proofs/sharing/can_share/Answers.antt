use Rattle.std.proofs.Common.{refl}
use Rattle.asm_places.proofs.Meeting.{meets_in, meets_nowhere}
use Rattle.asm_places.proofs.sharing.can_share.Goals as goal

pub returns-then-can_share_in : goal.returns-then-can_share_in
returns-then-can_share_in c = (
  (λ yes. meets_in _ _ _ _ _ (c.can_share_in.ensures.0 c.if-can_share_in.true)),
  (λ can. refl),
)

pub returns : goal.returns
returns c = (
  (λ no. cc),
  (λ can. absurd (meets_nowhere _ _ _ _ _ c.loop-register-test.false c.loop-register.invariant can)),
)
