use Rattle.std.proofs.Common.{◌≡◌, ◌-◌, ◌≤◌, length, drop, false}
use Rattle.asm_core.specs.TemplateForms.{group_end}
use Rattle.asm_template.proofs.braces.group_end.Given as goal

-- what is left gives what the whole gives
abbrev pub invariant-loop-i : goal.invariant-loop-i
invariant-loop-i l = (l.start ≤ l.i) × (l.i ≤ length l.bytes) × (group_end l.taken l.i (drop l.i l.bytes) ≡ group_end false l.start (drop l.start l.bytes))

abbrev pub decreases-loop-i : goal.decreases-loop-i
decreases-loop-i l = length l.bytes - l.i
