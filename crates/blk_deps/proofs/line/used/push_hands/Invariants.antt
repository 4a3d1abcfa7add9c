use Rattle.std.proofs.Common.{◌≡◌, ◌++◌}
use Rattle.std.specs.List.{range_with_len}
use Rattle.blk_deps.proofs.line.used.push_hands.Given as goal

abbrev pub invariant-loop-n : goal.invariant-loop-n
invariant-loop-n l = l.hands ≡ l.fn.hands ++ range_with_len l.hand l.n
