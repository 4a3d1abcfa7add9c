use Rattle.std.proofs.Common.{sym, subst, List, ℕ, map, string_bytes}
use Rattle.ck_app.proofs.FramedLaws.{accepted_are_framed}
use Rattle.ck_app.proofs.Unique.{one_command_answer}
use Rattle.ck_app.specs.Run.{IsPrinted}
use Rattle.ck_app.specs.Words.{command_of}
use Rattle.ck_app.specs.declared.status.Status.{Status}
use Rattle.ck_app.proofs.PrintLaws.{usage_prints, usage_cause}
use Rattle.ck_app.proofs.RunLaws.{complete}
use Rattle.ck_app.proofs.runner.run.Goals as goal

pub returns-in-None-clause-prints : goal.returns-in-None-clause-prints
returns-in-None-clause-prints g c = λ told.
    let before = g.K.Sink.written c.args.out.now in
    let after = g.K.Sink.written c.print.new.out in
    let printed = subst (λ (t : List ℕ). IsPrinted c.print.result Status.Usage t before after) c.as_bytes.ensures.value c.print.ensures.printed in
    usage_prints _ (g.F.Files.outside c.args.files.now) (g.F.Files.outside c.args.files.now) before after c.print.result (sym c.in-None.ensures.command) printed told

pub returns-in-Some-clause-one : goal.returns-in-Some-clause-one
returns-in-Some-clause-one g c = one_command_answer (command_of (map string_bytes c.args.words.now)) (g.F.Files.outside c.args.files.now).file

pub returns-in-None-clause-one : goal.returns-in-None-clause-one
returns-in-None-clause-one g c = one_command_answer (command_of (map string_bytes c.args.words.now)) (g.F.Files.outside c.args.files.now).file

pub returns-in-Some-clause-framed : goal.returns-in-Some-clause-framed
returns-in-Some-clause-framed g c = accepted_are_framed (g.F.Files.outside c.args.files.now).file

pub returns-in-None-clause-framed : goal.returns-in-None-clause-framed
returns-in-None-clause-framed g c = accepted_are_framed (g.F.Files.outside c.args.files.now).file

pub returns-in-None-clause-complete : goal.returns-in-None-clause-complete
returns-in-None-clause-complete g c = λ told.
    complete c.print.result _ (g.F.Files.outside c.args.files.now) (g.F.Files.outside c.args.files.now) (g.K.Sink.written c.args.out.now) (g.K.Sink.written c.print.new.out)
    (usage_cause _ _ _ _ _ _ c.print.result (sym c.in-None.ensures.command) c.print.ensures.printed) (returns-in-None-clause-prints g c told)
