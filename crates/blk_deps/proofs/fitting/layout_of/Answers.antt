use Rattle.std.proofs.Common.{All, sym, subst}
use Rattle.blk_deps.specs.Fitting.{FitsMoves}
use Rattle.blk_deps.proofs.fitting.layout_of.Goals as goal

pub returns-clause-fit : goal.returns-clause-fit
returns-clause-fit c =
    subst (λ n. All (FitsMoves (record { operands = n; words = 16 })) c.args.moves.now) (sym c.len.ensures) c.requires.fit
