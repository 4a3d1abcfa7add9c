use Rattle.std.proofs.Common.{arith}
use Rattle.c_types.proofs.Greatest.{IsAlignment-greatest}
use Rattle.c_types.proofs.members.layout_until.Goals as goal

pub next_multiple_of-size-requires-clause-nonzero :
    goal.next_multiple_of-size-requires-clause-nonzero
next_multiple_of-size-requires-clause-nonzero c =
    omega (arith, IsAlignment-greatest c.args.members.now c.requires.extents, c.greatest_alignment-align.ensures)
