use Rattle.std.proofs.Common.{◌≡◌, drop}
use Rattle.blk_deps.specs.Line.{loaded}
use Rattle.blk_deps.proofs.line.names.loaded.Given as goal

abbrev pub invariant-loop-access : goal.invariant-loop-access
invariant-loop-access l = loaded l.k l.accesses ≡ loaded l.k (drop l.access-index l.accesses)
