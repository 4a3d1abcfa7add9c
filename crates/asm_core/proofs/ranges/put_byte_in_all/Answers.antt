use Rattle.std.proofs.Common.{arith}
use Rattle.std.proofs.lemmas.List.Edits.{map_over_more}
use Rattle.asm_core.specs.Memory.{put_byte}
use Rattle.asm_core.proofs.ranges.put_byte_in_all.Goals as goal

pub loop-range-preserved : goal.loop-range-preserved
loop-range-preserved c =
    let item = map_over_more (put_byte c.args.address c.args.byte) c.args.ranges.now c.loop-range.ranges c.loop-range.range-index c.range-item.result (omega arith) c.loop-range.invariant c.range-item.is in
    cc (item, c.put_byte.ensures, c.range-item.is)
