use Rattle.std.proofs.Common.{take}
use Rattle.ck_app.specs.Judgement.{AreJudged}
use Rattle.ck_app.proofs.judgement.judge_statements.Given as goal

abbrev pub invariant-loop-statement : goal.invariant-loop-statement
invariant-loop-statement l = AreJudged l.strict l.source l.scopes (take l.statement-index l.statements) l.judged
