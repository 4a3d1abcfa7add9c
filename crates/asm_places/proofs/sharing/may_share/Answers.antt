use Rattle.asm_places.proofs.Meeting.{meet_in_none, meet_in_none_more}
use Rattle.asm_places.proofs.sharing.may_share.Goals as goal

pub loop-register-preserved : goal.loop-register-preserved
loop-register-preserved c = meet_in_none_more c.args.i.now c.args.s.now c.args.p c.args.q c.loop-register.register-index c.loop-register.invariant c.in_default.ensures.none

pub returns-clause-none : goal.returns-clause-none
returns-clause-none c = meet_in_none c.args.i.now c.args.s.now c.args.p c.args.q c.loop-register.register-index c.loop-register-test.false c.loop-register.invariant
