use Rattle.asm_places.specs.Placing.{left_in}
use Rattle.asm_places.proofs.Settled.{classes_few, left_is, least_agrees}
use Rattle.asm_places.proofs.placing.least_placement.Goals as goal

pub has_assignment-requires : goal.has_assignment-requires
has_assignment-requires c = classes_few c.args.i.now c.args.s.now c.args.goal.now c.classes_of-classes.result c.classes_of-classes.ensures

pub settle-requires-clause-few : goal.settle-requires-clause-few
settle-requires-clause-few c = classes_few c.args.i.now c.args.s.now c.args.goal.now c.classes_of-classes.result c.classes_of-classes.ensures

pub returns-clause-placed : goal.returns-clause-placed
returns-clause-placed c = record {
  classes = c.classes_of-classes.result;
  are = c.classes_of-classes.ensures;
  choice_of = left_in c.settle.new.classes;
  least = least_agrees c.classes_of-classes.result c.settle.ensures.choice_of (left_in c.settle.new.classes) c.settle.ensures.least
      (left_is c.classes_of-classes.result c.settle.new.classes c.settle.ensures);
  placed = c.placement_by.ensures;
}
