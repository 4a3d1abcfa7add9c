use Rattle.std.proofs.Common.{◌≡◌, ◌≤◌, subst, IsTrue, arith}
use Rattle.std.proofs.lemmas.Bool.Decides.{nat_tests}
use Rattle.blk_deps.specs.LineMoves.{interface_of, shape_of}
use Rattle.blk_deps.proofs.PlaceNumbers.{place_past, place_few}
use Rattle.blk_deps.proofs.line.instance.Instance.is_place.Goals as goal

pub returns-then-p-lt64-clause-few : goal.returns-then-p-lt64-clause-few
returns-then-p-lt64-clause-few c = λ is.
    place_few (interface_of c.args.self.now) (shape_of c.args.self.now) c.args.p c.requires.interface (subst IsTrue (c.requires.context.places c.args.p c.if-p-lt64.true) is)

pub returns-else-p-lt64-clause-is : goal.returns-else-p-lt64-clause-is
returns-else-p-lt64-clause-is c =
    let past = c.if-p-lt64.false in
    let none = place_past (interface_of c.args.self.now) (shape_of c.args.self.now) c.args.p c.requires.interface (omega arith) in
    grind (arith, nat_tests, past, none)
