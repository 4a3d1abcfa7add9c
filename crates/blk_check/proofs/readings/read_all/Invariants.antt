use Rattle.std.proofs.Common.{◌≡◌, drop}
use Rattle.blk_check.specs.Readable.{readings_under}
use Rattle.blk_check.proofs.ReadingLaws.{behind}
use Rattle.blk_check.proofs.readings.read_all.Given as goal

-- these, and those that are left
abbrev pub invariant-loop-shape : goal.invariant-loop-shape
invariant-loop-shape l = behind l.readings (readings_under l.fn.interface l.fn.pieces (drop l.shape-index l.shapes)) ≡ readings_under l.fn.interface l.fn.pieces l.shapes
