use Rattle.std.proofs.Common.{◌-◌, length}
use Rattle.blk_deps.specs.Layout.{shown}
use Rattle.blk_deps.specs.Noting.{IsNotedTo, BreaksOn}
use Rattle.blk_deps.specs.Walking.{breaks_before, setting_in}
use Rattle.blk_deps.proofs.walk.note_line.Given as goal

abbrev pub invariant-loop-t : goal.invariant-loop-t
invariant-loop-t l =
    IsNotedTo (BreaksOn (breaks_before (setting_in l.walk) l.at.depth l.at.line.now (shown l.walk.flow.layout.now l.row)) l.line)
    l.walk.violations.now l.t l.fn.least.lines.items l.least.lines.items

abbrev pub decreases-loop-t : goal.decreases-loop-t
decreases-loop-t l = length l.walk.violations.now - l.t
