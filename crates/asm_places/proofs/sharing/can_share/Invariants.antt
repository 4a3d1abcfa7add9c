use Rattle.asm_places.proofs.Meeting.{MeetInNone}
use Rattle.asm_places.proofs.sharing.can_share.Given as goal

abbrev pub invariant-loop-register : goal.invariant-loop-register
invariant-loop-register l = MeetInNone l.fn.i l.fn.s l.fn.p l.fn.q l.register-index
