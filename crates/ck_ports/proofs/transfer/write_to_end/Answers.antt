use Rattle.std.proofs.Common.{IsTrue, sym, subst, arith}
use Rattle.std.proofs.lemmas.Result.{err_from_is_err_and}
use Rattle.ck_ports.proofs.Writing.{Wrote, wrote_on, holds_on, prefix_on}
use Rattle.ck_ports.proofs.transfer.write_to_end.Goals as goal

pub loop-done-preserved : goal.loop-done-preserved
loop-done-preserved g c =
    let first = g.F.Files.outside c.args.files.now in
    let mid = g.F.Files.outside c.loop-done.files in
    let new = g.F.Files.outside c.write.new.self in
    let before = c.loop-done.invariant.wrote in
    let write = c.in_ok-done.ensures in
    let then : Wrote mid new = record {
      mode = write.mode;
      open_name = write.open_name;
      others = write.others;
      writing = write.writing;
      reading = write.reading;
      tells = write.tells;
    } in
    record {
      within = search (arith, write.within.1);
      wrote = wrote_on first mid new before then;
      held = λ told. holds_on c.args.bytes.now c.loop-done.done c.in_ok-done.field-0 first.open_name mid new before.open_name
          (c.loop-done.invariant.held told) (write.bytes (subst IsTrue (sym before.tells) told));
    }

pub returns-in_err-done-clause-err : goal.returns-in_err-done-clause-err
returns-in_err-done-clause-err g c =
    let first = g.F.Files.outside c.args.files.now in
    let mid = g.F.Files.outside c.loop-done.files in
    let new = g.F.Files.outside c.write.new.self in
    let before = c.loop-done.invariant.wrote in
    let p = err_from_is_err_and c.from_residual.result c.from_residual.ensures.1 in
    rw p.1 (λ told. prefix_on c.args.bytes.now c.loop-done.done first.open_name mid new c.loop-done.invariant.within before.open_name
    (c.loop-done.invariant.held told)
    (c.in_err-done.ensures.err (subst IsTrue (sym before.tells) told)))
