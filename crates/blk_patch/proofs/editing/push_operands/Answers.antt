use Rattle.std.proofs.Common.{◌+◌, refl}
use Rattle.blk_patch.proofs.EditLaws.{operands_begin, operands_more}
use Rattle.blk_patch.proofs.editing.push_operands.Goals as goal

pub loop-n-init : goal.loop-n-init
loop-n-init c = operands_begin c.args.items.now c.args.edits.now c.args.first

pub loop-n-preserved : goal.loop-n-preserved
loop-n-preserved c =
    operands_more c.args.items.now c.args.edits.now c.loop-n.edits c.push_constraint.new.edits c.args.operands.now
    c.loop-n.n c.args.first (c.args.first + c.loop-n.n) c.index-operands-n.result c.change_of-change.result
    c.loop-n-test.true refl c.loop-n.invariant c.index-operands-n.is c.change_of-change.ensures
    c.in_ok-push_constraint.ensures
