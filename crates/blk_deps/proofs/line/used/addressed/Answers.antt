use Rattle.blk_deps.proofs.OperandBits.{bits_of_either}
use Rattle.blk_deps.proofs.line.used.addressed.Goals as goal

pub returns : goal.returns
returns c = bits_of_either _ _ _ _ c.addressed_by_access.ensures c.addressed_by_source.ensures
