use Rattle.std.proofs.Common.{All, sym, subst}
use Rattle.blk_deps.specs.Ways.{IsGraph}
use Rattle.blk_check.proofs.StageLaws.{agreed_blocks, agreed_graphs}
use Rattle.blk_check.proofs.verdict.check_blocks.Goals as goal

pub blocks-requires : goal.blocks-requires
blocks-requires c = agreed_blocks c.args.statement.now c.args.interface.now c.args.live.now c.args.readings.now c.requires.short c.requires.agrees

pub stack_findings-requires : goal.stack_findings-requires
stack_findings-requires c =
    subst (All IsGraph) (sym c.as_slice.ensures)
    (agreed_graphs c.args.statement.now c.args.interface.now c.args.live.now c.args.readings.now c.in_ok-graphs.graphs c.requires.agrees c.in_ok-graphs.ensures).graphs

pub check_paths-requires-clause-blocks : goal.check_paths-requires-clause-blocks
check_paths-requires-clause-blocks c = agreed_graphs c.args.statement.now c.args.interface.now c.args.live.now c.args.readings.now c.in_ok-graphs.graphs c.requires.agrees c.in_ok-graphs.ensures
