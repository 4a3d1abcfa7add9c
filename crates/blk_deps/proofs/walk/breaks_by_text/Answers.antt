use Rattle.std.proofs.Common.{sym, ◌∙◌}
use Rattle.blk_deps.proofs.AnyLaws.{and_then}
use Rattle.blk_deps.proofs.WalkLemmas.{name_same}
use Rattle.blk_deps.proofs.walk.breaks_by_text.Goals as goal

pub returns-then-is_by_text : goal.returns-then-is_by_text
returns-then-is_by_text c =
    let w = c.args.walk.now in
    and_then _ _ _ (sym c.is_by_text.ensures ∙ c.if-is_by_text.true)
    (c.breaks_u2.ensures ∙ name_same w.flow.layout.now w.flow.sharers.now c.args.at.now.line.now c.args.violation.now.cell c.requires.walk.flow.sharers)
