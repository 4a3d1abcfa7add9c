use Rattle.std.proofs.Common.{◌∙◌, sym, arith}
use Rattle.blk_deps.proofs.NameMasks.{added}
use Rattle.blk_deps.proofs.rules.names.add_name.Goals as goal

pub returns-in-Some : goal.returns-in-Some
returns-in-Some c = added _ _ _ _ (omega arith) (omega (arith, c.in-Some.ensures)) (sym c.place_index.ensures.is
    ∙ c.in-Some.is)
