use Rattle.std.proofs.Common.{◌+◌, take, refl, sym, subst}
use Rattle.ck_app.specs.Judgement.{IsJudged, AreJudged}
use Rattle.ck_report.specs.declared.reports.Judged.{Judged}
use Rattle.ck_app.proofs.JudgementLaws.{judged-more}
use Rattle.ck_app.proofs.judgement.judge_statements.Goals as goal

pub loop-statement-preserved : goal.loop-statement-preserved
loop-statement-preserved c =
    let strict = c.args.strict in
    let source = c.args.source.now in
    let scopes = c.args.scopes.now in
    let i = c.loop-statement.statement-index in
    let j : Judged = record { offset = c.statement-item.result.span.from; verdict = c.in_ok-judge_statement.field-0 } in
    let this : IsJudged strict source scopes c.statement-item.result j = record { offset = refl; verdict = c.in_ok-judge_statement.ensures } in
    subst (AreJudged strict source scopes (take (i + 1) c.args.statements.now)) (sym c.in_ok-push.ensures.ok)
    (judged-more strict source scopes c.args.statements.now i c.loop-statement.judged c.statement-item.result j c.loop-statement-test.true c.statement-item.is c.loop-statement.invariant this)
