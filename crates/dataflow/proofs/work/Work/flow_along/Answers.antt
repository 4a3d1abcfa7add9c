use Rattle.std.proofs.Common.{sym, subst}
use Rattle.dataflow.specs.Working.{Flows}
use Rattle.dataflow.proofs.WorkLemmas.{flows_again}
use Rattle.dataflow.proofs.work.Work.flow_along.Goals as goal

pub returns-then-second-first : goal.returns-then-second-first
returns-then-second-first c =
    let work = c.flow.new.self in
    record {
      between = work;
      first = c.flow.ensures;
      second = subst (λ node. Flows node work work) (sym c.if-second-first.true) (flows_again _ _ _ c.flow.ensures);
    }
