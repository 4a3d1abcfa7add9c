use Rattle.std.proofs.Common.{sym, ◌∙◌}
use Rattle.blk_patch.proofs.InterfaceLaws.{operands_begin}
use Rattle.blk_patch.proofs.interface.operands_with.Goals as goal

pub loop-k-init : goal.loop-k-init
loop-k-init c = c.new-patched.ensures ∙ sym (operands_begin c.args.items.now c.args.operands.now)
