use Rattle.std.proofs.lemmas.Result.{err_from_is_err_and}
use Rattle.ck_ports.specs.MemSink.{written_of}
use Rattle.ck_ports.proofs.Written.{prefix_none}
use Rattle.ck_ports.proofs.mem_sink.MemSinkSink.write.Goals as goal

pub returns-in_err-extend_from_slice-clause-err : goal.returns-in_err-extend_from_slice-clause-err
returns-in_err-extend_from_slice-clause-err c =
    let p = err_from_is_err_and c.from_residual.result c.from_residual.ensures.1 in
    rw p.1 (λ told. prefix_none c.args.piece.now (written_of c.args.self.now) (written_of (record { bytes = c.extend_from_slice.new.self; calls = c.next_fails.new.self; faults = c.args.self.now.faults })) c.in_err-extend_from_slice.ensures.items)
