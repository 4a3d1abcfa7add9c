use Rattle.std.proofs.Common.{IsTrue, sym, subst, arith, ◌∙◌}
use Rattle.std.proofs.lemmas.Result.{err_from_is_err_and}
use Rattle.ck_ports.proofs.Written.{writes_on, prefix_on}
use Rattle.ck_ports.proofs.transfer.write_all.Goals as goal

pub returns-in_err-done-clause-err : goal.returns-in_err-done-clause-err
returns-in_err-done-clause-err g c =
    let old = g.K.Sink.written c.args.out.now in
    let mid = g.K.Sink.written c.loop-done.out in
    let new = g.K.Sink.written c.write.new.self in
    let p = err_from_is_err_and c.from_residual.result c.from_residual.ensures.1 in
    rw p.1 (λ told. prefix_on c.args.bytes.now c.loop-done.done old mid new c.loop-done.invariant.within
    (c.loop-done.invariant.bytes told)
    (c.in_err-done.ensures.err (subst IsTrue (sym c.loop-done.invariant.tells) told)))

pub loop-done-preserved : goal.loop-done-preserved
loop-done-preserved g c =
    let wrote = c.in_ok-done.ensures in
    record {
      within = search (arith, wrote.within.1);
      bytes = λ told.
          writes_on c.args.bytes.now c.loop-done.done c.in_ok-done.field-0 (g.K.Sink.written c.args.out.now) (g.K.Sink.written c.loop-done.out) (g.K.Sink.written c.write.new.self)
          (c.loop-done.invariant.bytes told) (wrote.bytes (subst IsTrue (sym c.loop-done.invariant.tells) told));
      never_falls = omega (arith, wrote.never_falls);
      tells = wrote.tells ∙ c.loop-done.invariant.tells;
    }
