use Rattle.std.proofs.Common.{◌∙◌}
use Rattle.ck_ports.proofs.Counts.{counts_both, counts_named}
use Rattle.ck_ports.proofs.transfer.read_all.Goals as goal

pub returns-in_err-closed-clause-reading : goal.returns-in_err-closed-clause-reading
returns-in_err-closed-clause-reading g c =
    let old = g.F.Files.outside c.args.files.now in
    let opened = g.F.Files.outside c.open_read.new.self in
    let read = g.F.Files.outside c.read_to_end-read.new.files in
    let new = g.F.Files.outside c.close-closed.new.self in
    let begun = c.in_ok-open_read.ensures in
    let at_open = counts_named old.tells opened.tells c.args.name.now opened.open_name opened.reading read.reading
    begun.tells (λ told. (begun.opened told).open_name) c.read_to_end-read.ensures.reading in
    let at_close = counts_named old.tells read.tells c.args.name.now read.open_name read.reading new.reading
    (c.read_to_end-read.ensures.tells ∙ begun.tells)
    (λ told. c.read_to_end-read.ensures.open_name ∙ (begun.opened told).open_name)
    c.close-closed.ensures.reading in
    counts_both old.tells c.args.name.now old.reading read.reading new.reading
    (counts_both old.tells c.args.name.now old.reading opened.reading read.reading begun.reading at_open)
    at_close
