use Rattle.std.proofs.Common.{◌≡◌, drop}
use Rattle.blk_check.specs.Judged.{graphs_of}
use Rattle.blk_check.proofs.GraphSteps.{made_before}
use Rattle.blk_check.proofs.blocks.blocks.Given as goal

-- these, and those that are left
abbrev pub invariant-loop-lines : goal.invariant-loop-lines
invariant-loop-lines l = made_before l.graphs (graphs_of (drop l.lines-index l.readings)) ≡ graphs_of l.readings
