use Rattle.ck_ports.proofs.Writing.{counts_closed, others_closed}
use Rattle.ck_ports.proofs.transfer.write_file.Goals as goal

pub returns-in_err-written-clause-others : goal.returns-in_err-written-clause-others
returns-in_err-written-clause-others g c =
    let old = g.F.Files.outside c.args.files.now in
    let opened = g.F.Files.outside c.open_write.new.self in
    let written = g.F.Files.outside c.write_to_end-written.new.files in
    let new = g.F.Files.outside c.close-closed.new.self in
    let begun = c.in_ok-open_write.ensures in
    others_closed c.args.name.now old opened written new (λ told. (begun.opened told).open_name) begun.others c.write_to_end-written.ensures.others c.close-closed.ensures.files

pub returns-clause-others : goal.returns-clause-others
returns-clause-others g c =
    let old = g.F.Files.outside c.args.files.now in
    let opened = g.F.Files.outside c.open_write.new.self in
    let written = g.F.Files.outside c.write_to_end-written.new.files in
    let new = g.F.Files.outside c.close-closed.new.self in
    let begun = c.in_ok-open_write.ensures in
    others_closed c.args.name.now old opened written new (λ told. (begun.opened told).open_name) begun.others c.write_to_end-written.ensures.others c.close-closed.ensures.files

pub returns-in_err-written-clause-writing : goal.returns-in_err-written-clause-writing
returns-in_err-written-clause-writing g c =
    let old = g.F.Files.outside c.args.files.now in
    let opened = g.F.Files.outside c.open_write.new.self in
    let written = g.F.Files.outside c.write_to_end-written.new.files in
    let new = g.F.Files.outside c.close-closed.new.self in
    let begun = c.in_ok-open_write.ensures in
    let wrote = c.write_to_end-written.ensures in
    counts_closed c.args.name.now old opened written new begun.tells (λ told. (begun.opened told).open_name) wrote.tells wrote.open_name begun.writing wrote.writing c.close-closed.ensures.writing

pub returns-clause-writing : goal.returns-clause-writing
returns-clause-writing g c =
    let old = g.F.Files.outside c.args.files.now in
    let opened = g.F.Files.outside c.open_write.new.self in
    let written = g.F.Files.outside c.write_to_end-written.new.files in
    let new = g.F.Files.outside c.close-closed.new.self in
    let begun = c.in_ok-open_write.ensures in
    let wrote = c.write_to_end-written.ensures in
    counts_closed c.args.name.now old opened written new begun.tells (λ told. (begun.opened told).open_name) wrote.tells wrote.open_name begun.writing wrote.writing c.close-closed.ensures.writing
