use Rattle.std.proofs.Common.{map, take}
use Rattle.ck_app.proofs.RunLaws.{Going}
use Rattle.ck_app.proofs.runner.check_files.Given as goal

abbrev pub invariant-loop-name : goal.invariant-loop-name
invariant-loop-name g l =
    Going l.fn.strict (map (λ name. name.now) (take l.name-index l.names)) l.status (g.F.Files.outside l.initial.files) (g.F.Files.outside l.files) (g.K.Sink.written l.initial.out) (g.K.Sink.written l.out)
