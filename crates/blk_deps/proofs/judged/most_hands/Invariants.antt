use Rattle.std.proofs.Common.{◌≤◌, length, take, All}
use Rattle.blk_deps.specs.declared.line.LineMoves.{LineMoves}
use Rattle.blk_deps.proofs.judged.most_hands.Given as goal

abbrev pub invariant-loop-line : goal.invariant-loop-line
invariant-loop-line l = All (λ (m : LineMoves). length m.reads ≤ l.most) (take l.line-index l.moves)
