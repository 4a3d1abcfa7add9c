use Rattle.std.proofs.Common.{◌∙◌, ◌&&◌, sym, ap}
use Rattle.blk_deps.specs.Layout.{shown}
use Rattle.blk_deps.specs.declared.fact.Fact.TheVariants.{Here}
use Rattle.blk_deps.proofs.row.putting.here_and.Goals as goal

pub returns-then-on : goal.returns-then-on
returns-then-on c l = c.is_here.ensures l ∙ sym (ap (λ t. t && shown l c.args.row.now Here) c.if-on.true)
