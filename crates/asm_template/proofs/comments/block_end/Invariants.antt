use Rattle.std.proofs.Common.{◌≡◌, ◌-◌, ◌≤◌, length, drop}
use Rattle.asm_core.specs.Comments.{block_end}
use Rattle.asm_template.proofs.comments.block_end.Given as goal

-- what is left gives what the whole gives
abbrev pub invariant-loop-i : goal.invariant-loop-i
invariant-loop-i l = (l.start ≤ l.i) × (l.i ≤ length l.codes) × (block_end l.i (drop l.i l.codes) ≡ block_end l.start (drop l.start l.codes))

abbrev pub decreases-loop-i : goal.decreases-loop-i
decreases-loop-i l = length l.codes - l.i
