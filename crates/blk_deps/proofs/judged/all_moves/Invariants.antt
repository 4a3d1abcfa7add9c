use Rattle.std.proofs.Common.{◌≡◌, length}
use Rattle.blk_deps.specs.Judged.{AreMovesTo}
use Rattle.blk_deps.proofs.judged.all_moves.Given as goal

-- those of the instructions so far
abbrev pub invariant-loop-n : goal.invariant-loop-n
invariant-loop-n l = AreMovesTo l.context l.graph l.depths l.n l.moves
