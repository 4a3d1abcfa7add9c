use Rattle.std.proofs.Common.{IsTrue, sym, subst}
use Rattle.ck_ports.proofs.Session.{Reads, reads_on, bytes_on}
use Rattle.ck_ports.proofs.transfer.read_to_end.Goals as goal

pub loop-chunk-preserved : goal.loop-chunk-preserved
loop-chunk-preserved g c =
    let first = g.F.Files.outside c.args.files.now in
    let mid = g.F.Files.outside c.loop-chunk.files in
    let new = g.F.Files.outside c.read.new.self in
    let before = c.loop-chunk.invariant.reads in
    let read = c.in_ok-count.ensures in
    let then : Reads mid new = record {
      mode = read.mode;
      open_name = read.open_name;
      files = read.files;
      reading = read.reading;
      writing = read.writing;
      tells = read.tells;
    } in
    record {
      reads = reads_on first mid new before then;
      bytes = λ told.
          let so_far = bytes_on first mid new c.in_ok-count.count c.read.new.to c.loop-chunk.bytes.items then
          (read.bytes (subst IsTrue (sym before.tells) told)) (c.loop-chunk.invariant.bytes told) in
          rw c.in_ok-extend_from_slice.ensures.items so_far;
    }
