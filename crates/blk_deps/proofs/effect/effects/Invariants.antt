use Rattle.std.proofs.Common.{◌≡◌, map, take}
use Rattle.blk_deps.specs.StackTable.{effect_of}
use Rattle.blk_deps.proofs.effect.effects.Given as goal

-- those of the first instructions
abbrev pub invariant-loop-line : goal.invariant-loop-line
invariant-loop-line l = l.effects ≡ map effect_of (take l.line-index l.graph.insts)
