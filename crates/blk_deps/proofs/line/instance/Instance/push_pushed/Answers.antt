use Rattle.std.proofs.Common.{◌+◌}
use Rattle.blk_deps.specs.Line.{put_word}
use Rattle.blk_deps.proofs.RangeSteps.{flat_map_next}
use Rattle.blk_deps.proofs.line.instance.Instance.push_pushed.Goals as goal

pub loop-n-preserved : goal.loop-n-preserved
loop-n-preserved c =
    flat_map_next (λ n. put_word c.args.self.now.depth n (c.args.hand + n)) c.loop-n.n c.args.puts.now c.loop-n.puts _ c.loop-n.invariant c.in_ok-push_word_byte.ensures
