use Rattle.asm_places.proofs.Settled.{classes_few}
use Rattle.asm_places.proofs.placing.has_placement.Goals as goal

pub has_assignment-requires : goal.has_assignment-requires
has_assignment-requires c =
    classes_few c.args.i.now c.args.s.now c.args.goal.now c.classes_of.result c.classes_of.ensures

pub returns-clause-some : goal.returns-clause-some
returns-clause-some c = λ yes. record {
  classes = c.classes_of.result;
  are = c.classes_of.ensures;
  some = c.has_assignment.ensures.0 yes;
}
