use Rattle.std.proofs.Common.{map, string_bytes}
use Rattle.ck_app.proofs.RunLaws.{nothing_run}
use Rattle.ck_app.proofs.runner.check_named.Goals as goal

pub returns-in_default : goal.returns-in_default
returns-in_default g c = nothing_run c.args.check.strict (map string_bytes c.args.check.files.now) (g.F.Files.outside c.args.files.now) (g.K.Sink.written c.args.out.now) c.requires.closed

pub returns : goal.returns
returns g c = nothing_run c.args.check.strict (map string_bytes c.args.check.files.now) (g.F.Files.outside c.args.files.now) (g.K.Sink.written c.args.out.now) c.requires.closed
