use Rattle.std.proofs.Common.{string_bytes}
use Rattle.std.proofs.lemmas.Result.{err_from_is_err_and}
use Rattle.ck_ports.specs.FileMap.{bytes_in}
use Rattle.ck_ports.proofs.Session.{prefix_none}
use Rattle.ck_ports.proofs.mem_files.MemFilesFiles.write.Goals as goal

pub returns-in_err-append-clause-err : goal.returns-in_err-append-clause-err
returns-in_err-append-clause-err c =
    let name = string_bytes c.args.self.now.open_name in
    let p = err_from_is_err_and c.from_residual.result c.from_residual.ensures.1 in
    rw p.1 (λ told. prefix_none c.args.piece.now (bytes_in c.args.self.now.files name) (bytes_in c.append.new.self name)
    (c.args.self.now.written_is_there c.requires.mode) (c.in_err-append.ensures.err name))
