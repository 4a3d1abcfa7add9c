use Rattle.std.proofs.Common.{◌≡◌, ◌∙◌, sym, ap, length, refl}
use Rattle.std.proofs.lemmas.List.{with_items_is}
use Rattle.dataflow.proofs.WorkLemmas.{begins}
use Rattle.dataflow.proofs.SolvingLemmas.{finished}
use Rattle.dataflow.proofs.solver.solve.Goals as goal

pub loop-at-init : goal.loop-at-init
loop-at-init g c =
    let b = c.args.block.now in
    let m = g.B.Block in
    let row = c.begin.new.row in
    let next = c.clear.new.self.next in
    let shape = c.clear.ensures.shape in
    let flowed = c.flow.ensures in
    let long : length row ≡ next.len = c.begin.auto.row ∙ ap length c.deref_mut.ensures.value ∙ sym next.ok.0 in
    let nodes = shape.nodes ∙ c.requires.work.0 in (
      (flowed.shape.nodes ∙ nodes, flowed.shape.width ∙ shape.width ∙ c.requires.work.1),
      c.requires.scratch,
      begins (m.number b) (m.size b) (m.goes b) (m.start b) (m.after b)
          (λ i. g.met.B.Block.one_cause b i) c.clear.new.self _ _
          c.clear.ensures.blank refl refl nodes row (with_items_is next row long) c.begin.ensures flowed,
    )

pub returns-clause-found : goal.returns-clause-found
returns-clause-found g c =
    let b = c.args.block.now in
    let m = g.B.Block in
    finished (m.size b) (m.goes b) (m.start b) (m.after b) (λ i. g.met.B.Block.one_cause b i) _ _
    c.loop-at.invariant.2 c.in_default.ensures
