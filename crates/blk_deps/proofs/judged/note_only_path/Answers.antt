use Rattle.blk_deps.specs.Layout.{shown}
use Rattle.blk_deps.proofs.StraightPaths.{noted_straight}
use Rattle.blk_deps.proofs.judged.note_only_path.Goals as goal

pub returns : goal.returns
returns c =
    let w = c.args.walk.now in
    let l = w.flow.layout.now in
    noted_straight w.flow c.requires.straight (shown l c.begin.new.row) (shown l c.note_block.new.row)
    c.begin.ensures c.note_block.ensures.facts w.violations.now _ c.note_block.new.least.lines.items _
    c.requires.walk.flow c.note_block.ensures.noted c.note_end.ensures.noted
