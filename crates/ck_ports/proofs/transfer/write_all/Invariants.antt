use Rattle.std.proofs.Common.{length, take, ◌-◌, ◌≡◌, ◌≤◌, IsTrue}
use Rattle.ck_ports.specs.Written.{Writes}
use Rattle.ck_ports.proofs.transfer.write_all.Given as goal

abbrev pub invariant-loop-done : goal.invariant-loop-done
invariant-loop-done g l =
    let begun = g.K.Sink.written l.initial.out in
    let now = g.K.Sink.written l.out in
    record {
      within : l.done ≤ length l.bytes;
      bytes : IsTrue begun.tells → Writes (take l.done l.bytes) begun now;
      never_falls : begun.faults ≤ now.faults;
      tells : now.tells ≡ begun.tells;
    }

abbrev pub decreases-loop-done : goal.decreases-loop-done
decreases-loop-done g l = length l.bytes - l.done
