use Rattle.std.proofs.Common.{◌≡◌, ◌<◌, ◌&&◌, length, get_or, sym, ap, subst, ◌∙◌, arith}
use Rattle.std.proofs.lemmas.Option.{slice_get-get_or}
use Rattle.blk_deps.specs.Layout.{shown}
use Rattle.blk_deps.specs.Rules.{used_at_end, breaks_at_end}
use Rattle.blk_deps.specs.Scenes.{ShowsUsed}
use Rattle.asm_core.specs.declared.reg.Reg.{Reg}
use Rattle.asm_core.specs.declared.finding.Rule.{Rule}
use Rattle.asm_core.specs.declared.finding.Cell.{Cell}
use Rattle.blk_deps.specs.declared.violation.Violation.{Violation}
use Rattle.blk_deps.specs.declared.rules.scene.Scene.{Scene}
use Rattle.blk_deps.proofs.AnyLaws.{and_then, and_else}
use Rattle.blk_deps.proofs.NotingLemmas.{noted_next, noted_over, noted_all}
use Rattle.blk_deps.proofs.PairsPassed.{at_first, before_end, no_pair, of_pair, not_at_end}
use Rattle.blk_deps.proofs.NodeLemmas.{about_in, used_moved}
use Rattle.blk_deps.proofs.walk.note_end.Goals as goal
use Rattle.blk_deps.proofs.walk.note_end.Goals.{then-is_less, else-is_less}

pub breaks_at_end-broken-requires-clause-operands : goal.breaks_at_end-broken-requires-clause-operands
breaks_at_end-broken-requires-clause-operands c =
    about_in c.args.walk.now c.scene_of-scene.result c.requires.walk c.scene_of-scene.ensures c.loop-t.t _ c.loop-t-test.true

pub breaks_at_end-broken-requires-clause-used : goal.breaks_at_end-broken-requires-clause-used
breaks_at_end-broken-requires-clause-used c = used_moved c.new-uses.ensures.layout c.new-uses.ensures.words c.collect_end_uses.ensures.used

pub loop-t-preserved-then-passes_pairs : goal.loop-t-preserved-then-passes_pairs
loop-t-preserved-then-passes_pairs c =
    let w = c.args.walk.now in
    let i = w.flow.context.now.interface.now in
    let s = w.flow.context.now.shape.now in
    let facts = shown w.flow.layout.now c.args.row.now in
    let used = c.new-uses.result in
    let passes = sym c.passes_pairs.ensures ∙ c.if-passes_pairs.true in
    let first = at_first w.pairs _ c.loop-t.t passes in
    let below = before_end w.pairs _ c.loop-t.t passes in
    noted_over (λ v. breaks_at_end i s v facts) 513 (omega arith) w.violations.now
    c.loop-t.t w.pairs.end _ _ (omega (arith, below))
    (λ t v from under is. not_at_end i s v
    (of_pair w.violations.now w.pairs c.requires.walk.pairs t v (omega (arith, first, from)) under is)
    facts used.layout used.words.now
    (subst (λ (x : Scene). ShowsUsed used.layout used.words.now
    (used_at_end x.context.now.interface.now x.context.now.shape.now (shown x.layout.now c.args.row.now)))
    c.scene_of-scene.ensures
    (used_moved c.new-uses.ensures.layout c.new-uses.ensures.words c.collect_end_uses.ensures.used))
    (no_pair w.pairs _ c.loop-t.t passes))
    c.loop-t.invariant

pub loop-t-smaller-then-passes_pairs : goal.loop-t-smaller-then-passes_pairs
loop-t-smaller-then-passes_pairs c =
    let passes = sym c.passes_pairs.ensures ∙ c.if-passes_pairs.true in
    let below = before_end c.args.walk.now.pairs _ c.loop-t.t passes in
    omega (arith, below, c.loop-t-test.true)

pub loop-t-preserved : goal.loop-t-preserved
loop-t-preserved c =
    let walk = c.args.walk.now in
    let mid = c.loop-t.least.lines.items in
    let below = c.loop-t-test.true in
    let count = c.requires.count in
    let same = c.loop-t.invariant.same_length in
    let scene = c.scene_of-scene.ensures in
    let first : Violation = record { rule = Rule.W1; cell = Cell.Reg Reg.Eax; other = Cell.Reg Reg.Eax } in
    let v = get_or walk.violations.now c.loop-t.t first in
    noted_next (λ v. breaks_at_end walk.flow.context.now.interface.now walk.flow.context.now.shape.now v (shown walk.flow.layout.now c.args.row.now)) 513 (omega arith)
    walk.violations.now c.loop-t.t v _ mid _ c.if-is_less.broken
    (slice_get-get_or walk.violations.now c.loop-t.t first below) (omega (arith, below, count, same))
    (elim c.if-is_less.branch [
      | then-is_less w ↦ and_then _ _ _ (sym c.is_less.ensures ∙ w.if-is_less.true)
          (w.broken-is ∙ w.breaks_at_end-broken.ensures
          ∙ ap (λ (s : Scene). breaks_at_end s.context.now.interface.now s.context.now.shape.now v (shown s.layout.now c.args.row.now)) scene)
      | else-is_less w ↦ and_else _ _ _ (sym c.is_less.ensures ∙ w.if-is_less.false) (w.broken-is ∙ w.if-is_less.false)
    ])
    c.enter.ensures c.loop-t.invariant

pub returns-clause-noted : goal.returns-clause-noted
returns-clause-noted c = noted_all c.loop-t.t _ _ c.loop-t-test.false c.loop-t.invariant
