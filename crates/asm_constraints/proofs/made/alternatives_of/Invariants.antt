use Rattle.std.proofs.Common.{◌≡◌, map, take}
use Rattle.asm_core.specs.Interface.{alternative_of}
use Rattle.asm_constraints.proofs.made.alternatives_of.Given as goal

abbrev pub invariant-loop-alternative : goal.invariant-loop-alternative
invariant-loop-alternative l = l.made ≡ map (alternative_of l.output l.size l.known) (take l.alternative-index l.alternatives)
