use Rattle.asm_core.specs.Shape.{shapes_of}
use Rattle.blk_check.proofs.LiveLaws.{live_members}
use Rattle.blk_check.proofs.RoomyLaws.{any_live}
use Rattle.blk_check.proofs.StageLaws.{is_proof, below_graphs}
use Rattle.blk_check.proofs.verdict.accepted.Goals as goal

pub first_roomy-requires-clause-shapes : goal.first_roomy-requires-clause-shapes
first_roomy-requires-clause-shapes c = live_members c.args.interface.now (shapes_of c.args.interface.now) c.args.live.now c.requires.blocks.shapes.are_live

pub unreachable-requires : goal.unreachable-requires
unreachable-requires c =
    c.in_default.ensures.none (any_live c.args.interface.now (shapes_of c.args.interface.now) c.args.live.now c.requires.blocks.shapes.are_live c.requires.blocks.shapes.room)

pub remove-requires : goal.remove-requires
remove-requires c =
    below_graphs c.args.statement.now c.args.interface.now c.args.live.now c.args.graphs c.in-Some.number c.in-Some.shape.now c.requires.blocks c.in-Some.ensures.some.0

pub returns : goal.returns
returns c =
    is_proof c.args.statement.now c.args.interface.now c.args.live.now c.args.graphs c.in-Some.number c.in-Some.shape.now _ c.requires.blocks c.in-Some.ensures.some.0 c.remove.ensures.item
    c.in-Some.ensures.some.1 c.in_ok-duplicate.ensures c.in_ok-duplicate-2.ensures c.in_ok-duplicate-3.ensures
