use Rattle.std.proofs.Common.{length, take, ◌-◌, ◌≡◌, ◌≤◌, IsTrue, Some}
use Rattle.ck_ports.proofs.Writing.{Wrote}
use Rattle.ck_ports.proofs.transfer.write_to_end.Given as goal

abbrev pub invariant-loop-done : goal.invariant-loop-done
invariant-loop-done g l =
    let begun = g.F.Files.outside l.initial.files in
    let now = g.F.Files.outside l.files in
    record {
      within : l.done ≤ length l.bytes;
      wrote : Wrote begun now;
      held : IsTrue begun.tells → now.file begun.open_name ≡ Some (take l.done l.bytes);
    }

abbrev pub decreases-loop-done : goal.decreases-loop-done
decreases-loop-done g l = length l.bytes - l.done
