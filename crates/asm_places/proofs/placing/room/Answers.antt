use Rattle.asm_core.specs.Placement.{IsRoomy}
use Rattle.asm_core.specs.Roomy.{IsLeastRoomy}
use Rattle.asm_core.specs.declared.placement.Placement.{Placement}
use Rattle.asm_places.specs.Placing.{IsLeastPlaced, HasNoAssignment}
use Rattle.asm_places.specs.declared.goal.Goal.TheVariants.{Room}
use Rattle.asm_places.proofs.LeastRoom.{least_roomy, no_room}
use Rattle.asm_places.proofs.Meeting.{if_some, if_none}
use Rattle.asm_places.proofs.SoundShapes.{sound}
use Rattle.asm_places.proofs.placing.room.Goals as goal

pub returns-clause-least : goal.returns-clause-least
returns-clause-least c = if_some c.least_placement.result (IsLeastPlaced c.args.i.now c.args.s.now Room) (IsLeastRoomy c.args.i.now c.args.s.now)
    (least_roomy c.args.i.now c.args.s.now (sound c.args.i.now c.args.s.now c.requires.interface c.requires.shape)) c.least_placement.ensures.placed

pub returns-clause-none : goal.returns-clause-none
returns-clause-none c = if_none c.least_placement.result (HasNoAssignment c.args.i.now c.args.s.now Room) ((p : Placement) → IsRoomy c.args.i.now c.args.s.now p → ⊥)
    (no_room c.args.i.now c.args.s.now) c.least_placement.ensures.none
