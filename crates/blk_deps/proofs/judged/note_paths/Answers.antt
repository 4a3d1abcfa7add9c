use Rattle.std.proofs.Common.{rules, ◌∙◌, ap}
use Rattle.dataflow.specs.Working.{row_in}
use Rattle.blk_deps.specs.Layout.{shown}
use Rattle.blk_deps.proofs.PathsNoted.{put_back, one_more_block, all_noted}
use Rattle.blk_deps.proofs.judged.note_paths.Goals as goal

pub loop-number-preserved : goal.loop-number-preserved
loop-number-preserved c =
    let w = c.args.walk.now in
    let l = w.flow.layout.now in (
      c.note_block.ensures.hands,
      put_back c.copy_from_slice.new.self.len _ c.note_block.new.row _ (search rules) c.note_block.ensures.row,
      put_back c.loop-number.used.len _ c.note_block.new.used _ (search rules) c.note_block.ensures.used,
      one_more_block w.flow (λ b. shown l (row_in c.args.work.now b)) c.requires.shown
          c.requires.walk.flow.blocks c.loop-number.number (shown l c.deref_mut.result.now) w.violations.now _
          c.loop-number.least.lines.items _ c.loop-number-test.true
          (ap (shown l) (c.deref_mut.ensures.value ∙ c.copy_from_slice.ensures.items ∙ c.row.ensures.row))
          c.loop-number.invariant.3 c.note_block.ensures.noted,
    )

pub returns : goal.returns
returns c =
    let w = c.args.walk.now in
    let l = w.flow.layout.now in
    all_noted w.flow (λ b. shown l (row_in c.args.work.now b)) c.requires.shown
    c.requires.walk.flow.blocks c.loop-number.number (shown l c.row-2.result.now) w.violations.now _
    c.loop-number.least.lines.items _ c.loop-number-test.false (ap (shown l) c.row-2.ensures.row)
    c.loop-number.invariant.3 c.note_end.ensures.noted
