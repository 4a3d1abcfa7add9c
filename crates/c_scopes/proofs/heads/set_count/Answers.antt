use Rattle.c_scopes.proofs.HeadLaws.{count_in-updated}
use Rattle.c_scopes.proofs.heads.set_count.Goals as goal

pub returns-clause-ok : goal.returns-clause-ok
returns-clause-ok c = λ other.
    rw (← c.in_ok-from_slice.ensures.items)
    (count_in-updated c.args.counts.now c.insert.new.self c.in_ok-from_slice.field-0.items other c.args.count
    c.in_ok-insert.ensures.updates.1 c.in_ok-insert.ensures.updates.3)
