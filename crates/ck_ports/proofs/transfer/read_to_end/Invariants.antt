use Rattle.std.proofs.Common.{◌≡◌, ◌+◌, ◌-◌, ◌++◌, IsTrue, vec_len}
use Rattle.ck_ports.specs.declared.transfer.TheConstants.{MAX_FILE_BYTES}
use Rattle.ck_ports.specs.Outside.{rest_of}
use Rattle.ck_ports.proofs.Session.{Reads}
use Rattle.ck_ports.proofs.transfer.read_to_end.Given as goal

abbrev pub invariant-loop-chunk : goal.invariant-loop-chunk
invariant-loop-chunk g l =
    let begun = g.F.Files.outside l.initial.files in
    let now = g.F.Files.outside l.files in
    record {
      reads : Reads begun now;
      bytes : IsTrue begun.tells → rest_of begun ≡ l.bytes.items ++ rest_of now;
    }

abbrev pub decreases-loop-chunk : goal.decreases-loop-chunk
decreases-loop-chunk g l = MAX_FILE_BYTES + 1 - vec_len l.bytes
