use Rattle.std.proofs.Common.{arith}
use Rattle.std.proofs.lemmas.Int.{to_z-of_z, ints}
use Rattle.c_values.proofs.CutLemmas.{shifted_within}
use Rattle.c_values.proofs.calculation.shifted.Goals as goal

pub returns : goal.returns
returns c = grind (arith, ints, to_z-of_z, shifted_within)
