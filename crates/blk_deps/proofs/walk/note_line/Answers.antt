use Rattle.std.proofs.Common.{◌≡◌, ◌<◌, ◌&&◌, length, slice_index, get_or, refl, sym, ◌∙◌, arith}
use Rattle.std.proofs.lemmas.Option.{slice_get-get_or}
use Rattle.blk_deps.specs.Layout.{shown}
use Rattle.blk_deps.specs.Noting.{is_earlier}
use Rattle.blk_deps.specs.Walking.{breaks_before, setting_in}
use Rattle.blk_deps.proofs.AnyLaws.{and_then, and_else}
use Rattle.blk_deps.proofs.NotingLemmas.{noted_next, noted_over, noted_all}
use Rattle.blk_deps.proofs.PairsPassed.{at_first, before_end, no_pair, of_pair, not_before}
use Rattle.blk_deps.proofs.NodeLemmas.{about_at}
use Rattle.blk_deps.proofs.walk.note_line.Goals as goal
use Rattle.blk_deps.proofs.walk.note_line.Goals.{then-is_less, else-is_less}

pub breaks_before-broken-requires-clause-about : goal.breaks_before-broken-requires-clause-about
breaks_before-broken-requires-clause-about c = about_at c.args.walk.now c.requires.walk c.loop-t.t _ c.loop-t-test.true

pub loop-t-preserved-then-passes_pairs : goal.loop-t-preserved-then-passes_pairs
loop-t-preserved-then-passes_pairs c =
    let w = c.args.walk.now in
    let at = c.args.at.now in
    let facts = shown w.flow.layout.now c.args.row.now in
    let passes = sym c.passes_pairs.ensures ∙ c.if-passes_pairs.true in
    let first = at_first w.pairs _ c.loop-t.t passes in
    let below = before_end w.pairs _ c.loop-t.t passes in
    noted_over (breaks_before (setting_in w) at.depth at.line.now facts) c.args.line c.requires.line w.violations.now
    c.loop-t.t w.pairs.end _ _ (omega (arith, below))
    (λ t v from under is. not_before (setting_in w) at.depth at.line.now facts v
    (of_pair w.violations.now w.pairs c.requires.walk.pairs t v (omega (arith, first, from)) under is)
    c.args.used.now.layout c.args.used.now.words.now c.requires.used (no_pair w.pairs _ c.loop-t.t passes))
    c.loop-t.invariant

pub loop-t-smaller-then-passes_pairs : goal.loop-t-smaller-then-passes_pairs
loop-t-smaller-then-passes_pairs c =
    let passes = sym c.passes_pairs.ensures ∙ c.if-passes_pairs.true in
    let below = before_end c.args.walk.now.pairs _ c.loop-t.t passes in
    omega (arith, below, c.loop-t-test.true)

pub loop-t-preserved : goal.loop-t-preserved
loop-t-preserved c =
    let w = c.args.walk.now in
    let test = breaks_before (setting_in w) c.args.at.now.depth c.args.at.now.line.now (shown w.flow.layout.now c.args.row.now) in
    let mid = c.loop-t.least.lines.items in
    let below = c.loop-t-test.true in
    let count = c.requires.count in
    let same = c.loop-t.invariant.same_length in
    noted_next test c.args.line c.requires.line w.violations.now c.loop-t.t _ _ mid _ c.if-is_less.broken
    (slice_get-get_or w.violations.now c.loop-t.t _ below) (omega (arith, below, count, same))
    (elim c.if-is_less.branch [
      | then-is_less w ↦ and_then _ _ _ (sym c.is_less.ensures ∙ w.if-is_less.true) (w.broken-is ∙ w.breaks_before-broken.ensures)
      | else-is_less w ↦ and_else _ _ _ (sym c.is_less.ensures ∙ w.if-is_less.false) (w.broken-is ∙ w.if-is_less.false)
    ])
    c.enter.ensures c.loop-t.invariant

pub returns : goal.returns
returns c = noted_all c.loop-t.t _ _ c.loop-t-test.false c.loop-t.invariant
