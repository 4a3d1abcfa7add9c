use Rattle.std.proofs.Common.{take}
use Rattle.blk_check.specs.Readable.{AreLive}
use Rattle.blk_check.proofs.live.live_among.Given as goal

-- those of the shapes so far
abbrev pub invariant-loop-shape : goal.invariant-loop-shape
invariant-loop-shape l = AreLive l.fn.interface (take l.shape-index l.shapes) l.live
