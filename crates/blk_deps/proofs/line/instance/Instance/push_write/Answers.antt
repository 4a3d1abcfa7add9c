use Rattle.blk_deps.specs.Line.{read_for}
use Rattle.blk_deps.specs.LineMoves.{interface_of, shape_of}
use Rattle.blk_deps.proofs.RangeSteps.{map_next}
use Rattle.blk_deps.proofs.line.instance.Instance.push_write.Goals as goal

pub loop-n-preserved : goal.loop-n-preserved
loop-n-preserved c =
    let x = c.args.self.now in
    map_next (read_for (interface_of x) (shape_of x) x.depth x.line.now c.args.k c.args.write.by) c.loop-n.n c.args.reads.now c.loop-n.reads _ _ c.loop-n.invariant c.in_ok-push.ensures.ok c.in_ok-read.ensures
