use Rattle.std.proofs.Common.{◌-◌, length}
use Rattle.blk_deps.specs.Layout.{shown}
use Rattle.blk_deps.specs.Rules.{breaks_at_end}
use Rattle.blk_deps.specs.Noting.{IsNotedTo, BreaksOn}
use Rattle.blk_deps.proofs.walk.note_end.Given as goal

abbrev pub invariant-loop-t : goal.invariant-loop-t
invariant-loop-t l =
    IsNotedTo (BreaksOn (λ v. breaks_at_end l.walk.flow.context.now.interface.now l.walk.flow.context.now.shape.now v (shown l.walk.flow.layout.now l.row)) 513)
    l.walk.violations.now l.t l.fn.least.lines.items l.least.lines.items

abbrev pub decreases-loop-t : goal.decreases-loop-t
decreases-loop-t l = length l.walk.violations.now - l.t
