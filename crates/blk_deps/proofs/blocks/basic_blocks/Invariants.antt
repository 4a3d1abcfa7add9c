use Rattle.std.proofs.Common.{◌-◌}
use Rattle.blk_deps.specs.Heads.{AreMade}
use Rattle.blk_deps.proofs.blocks.basic_blocks.Given as goal

abbrev pub invariant-loop-number : goal.invariant-loop-number
invariant-loop-number l = AreMade l.fn.graph l.firsts l.numbers (l.number - 1) l.blocks
