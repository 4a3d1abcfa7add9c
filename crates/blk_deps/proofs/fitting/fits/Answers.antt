use Rattle.std.proofs.Common.{◌↔◌, IsTrue, sym, subst}
use Rattle.blk_deps.specs.Fitting.{FitsMoves}
use Rattle.blk_deps.proofs.FitAnswers.{moves_answered}
use Rattle.blk_deps.proofs.fitting.fits.Goals as goal

pub returns : goal.returns
returns c = subst (λ b. IsTrue b ↔ FitsMoves c.args.layout.now c.args.moves.now) (sym c.fits_moves.ensures) (moves_answered c.args.layout.now c.args.moves.now)
