use Rattle.std.proofs.Common.{◌≡◌, ◌↔◌, ◌+◌, ◌<◌, ◌≤◌, true, IsTrue, length, IfOk, ℕ, ◌-◌, ◌*◌}
use Rattle.blk_deps.specs.Sharing.{TellsBelow}
use Rattle.blk_deps.proofs.sharing.sharers_of.Given as goal

abbrev pub invariant-loop-q : goal.invariant-loop-q
invariant-loop-q l = TellsBelow l.context.interface.now l.context.shape.now l.p l.q l.word
