use Rattle.std.proofs.Common.{List, ℕ, map, take, drop, sym, ◌∙◌, subst, ◌+◌}
use Rattle.std.specs.Borrow.{Bor}
use Rattle.ck_app.specs.FilesAnswer.{status_after}
use Rattle.ck_app.specs.Run.{RunsFiles}
use Rattle.ck_app.proofs.RunLaws.{Going, going_start, going_more, going_ends, firsts_more, names_split}
use Rattle.ck_app.proofs.runner.check_files.Goals as goal

abbrev text : Bor (List ℕ) → List ℕ
text name = name.now

pub loop-name-init : goal.loop-name-init
loop-name-init g c = going_start c.args.strict (g.F.Files.outside c.args.files.now) (g.K.Sink.written c.args.out.now) c.requires

pub loop-name-preserved : goal.loop-name-preserved
loop-name-preserved g c =
    let old = g.F.Files.outside c.args.files.now in
    let mid = g.F.Files.outside c.loop-name.files in
    let new = g.F.Files.outside c.check_file-here.new.files in
    let before = g.K.Sink.written c.args.out.now in
    let out = g.K.Sink.written c.loop-name.out in
    let after = g.K.Sink.written c.check_file-here.new.out in
    let names = c.args.names.now in
    let i = c.loop-name.name-index in
    let more = going_more c.args.strict (map text (take i names)) _ c.loop-name.status c.check_file-here.result old mid new before out after c.loop-name.invariant c.check_file-here.ensures (sym c.ends_run.ensures ∙ c.if-ends_run.false) in
    rw c.followed_by-status.ensures (subst (λ ns. Going c.args.strict ns (status_after c.loop-name.status c.check_file-here.result) old new before after) (sym (firsts_more text names i _ c.loop-name-test.true)) more)

pub returns-then-ends_run : goal.returns-then-ends_run
returns-then-ends_run g c =
    let old = g.F.Files.outside c.args.files.now in
    let mid = g.F.Files.outside c.loop-name.files in
    let new = g.F.Files.outside c.check_file-here.new.files in
    let before = g.K.Sink.written c.args.out.now in
    let out = g.K.Sink.written c.loop-name.out in
    let after = g.K.Sink.written c.check_file-here.new.out in
    let names = c.args.names.now in
    let i = c.loop-name.name-index in
    let ends = going_ends c.args.strict (map text (take i names)) _ c.loop-name.status c.check_file-here.result old mid new before out after c.loop-name.invariant c.check_file-here.ensures (map text (drop (i + 1) names)) (sym c.ends_run.ensures ∙ c.if-ends_run.true) in
    subst (λ ns. RunsFiles c.args.strict ns c.check_file-here.result old new before after) (sym (names_split text names i _ c.loop-name-test.true)) ends
