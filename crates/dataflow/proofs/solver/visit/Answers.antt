use Rattle.std.proofs.Common.{◌≡◌, ◌∙◌, sym, ap, arith, length, refl}
use Rattle.std.proofs.lemmas.List.{with_items_is}
use Rattle.dataflow.proofs.WorkLemmas.{visits}
use Rattle.dataflow.proofs.solver.visit.Goals as goal

pub returns-clause-solving : goal.returns-clause-solving
returns-clause-solving g c =
    let b = c.args.block.now in
    let m = g.B.Block in
    let at = c.args.at in
    let row = c.apply.new.row in
    let next = c.take.new.self.next in
    let value = c.deref_mut.ensures.value in
    let long : length row ≡ next.len = c.apply.auto.row ∙ ap length value ∙ sym next.ok.0 in
    visits (m.number b) (m.size b) (m.goes b) (m.start b) (m.after b) (λ i. g.met.B.Block.one_cause b i) at _ _ _ _
    (omega (arith, c.requires.work)) c.requires.work.0 c.take.ensures refl refl row _
    (with_items_is next row long) value
    c.apply.ensures.facts c.goals.result c.goals.ensures.goals c.flow_along.ensures c.requires.solving
