use Rattle.blk_patch.proofs.EditLaws.{bytes_begin, bytes_more, bytes_done, offsets_done}
use Rattle.blk_patch.proofs.constraint.push_constraint.Goals as goal

pub loop-n-init : goal.loop-n-init
loop-n-init c =
    bytes_begin c.args.change c.args.constraint.now c.as_slice-bytes.result.now c.as_slice-ats.result.now
    c.args.edits.now c.as_slice-bytes.ensures c.as_slice-ats.ensures

pub returns-then-n-bytes : goal.returns-then-n-bytes
returns-then-n-bytes c =
    bytes_done c.args.change c.loop-n.position c.as_slice-bytes.result.now c.as_slice-ats.result.now c.loop-n.n 0
    c.loop-n.edits _ c.if-n-bytes.true c.loop-n.invariant

pub loop-n-preserved : goal.loop-n-preserved
loop-n-preserved c =
    bytes_more c.args.change c.loop-n.position c.as_slice-bytes.result.now c.as_slice-ats.result.now c.loop-n.n 0
    c.loop-n.edits c.push_byte.new.edits _ c.position_after-position.result c.change_at-here.result c.behind.result.now
    c.if-n-bytes.false c.loop-n-test.true c.loop-n.invariant c.behind.ensures c.change_at-here.ensures
    c.in_ok-push_byte.ensures c.position_after-position.ensures

pub returns : goal.returns
returns c =
    offsets_done c.args.change c.loop-n.position c.as_slice-bytes.result.now c.as_slice-ats.result.now c.loop-n.n 0
    c.loop-n.edits _ c.loop-n-test.false c.loop-n.invariant
