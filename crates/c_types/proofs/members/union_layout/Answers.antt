use Rattle.std.proofs.Common.{arith}
use Rattle.c_types.proofs.Greatest.{greatest_size-le}
use Rattle.c_types.proofs.members.union_layout.Goals as goal

pub layout_until-requires-clause-end : goal.layout_until-requires-clause-end
layout_until-requires-clause-end c = omega (arith, greatest_size-le c.args.members.now c.requires, c.greatest_size.ensures)
