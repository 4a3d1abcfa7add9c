use Rattle.asm_core.specs.Shape.{shapes_of}
use Rattle.blk_check.proofs.LiveLaws.{live_members}
use Rattle.blk_check.proofs.StageLaws.{all_live}
use Rattle.blk_check.proofs.verdict.check_paths.Goals as goal

pub path_findings-requires-clause-shapes : goal.path_findings-requires-clause-shapes
path_findings-requires-clause-shapes c = live_members c.args.interface.now (shapes_of c.args.interface.now) c.args.live.now c.requires.blocks.shapes.are_live

pub path_findings-requires-clause-live : goal.path_findings-requires-clause-live
path_findings-requires-clause-live c = all_live c.args.interface.now (shapes_of c.args.interface.now) c.args.live.now c.requires.blocks.shapes.are_live
