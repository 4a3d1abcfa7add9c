use Rattle.std.proofs.Common.{◌+◌}
use Rattle.blk_deps.specs.Line.{put_byte}
use Rattle.blk_deps.specs.LineMoves.{interface_of, shape_of}
use Rattle.blk_deps.proofs.RangeSteps.{flat_map_next}
use Rattle.blk_deps.proofs.line.instance.Instance.push_bytes.Goals as goal

pub loop-n-preserved : goal.loop-n-preserved
loop-n-preserved c =
    let i = interface_of c.args.self.now in
    let s = shape_of c.args.self.now in
    flat_map_next (λ n. put_byte i s c.args.place (c.args.first + n) (c.args.hand + n)) c.loop-n.n c.args.puts.now c.loop-n.puts _ c.loop-n.invariant c.in_ok-push_byte.ensures
