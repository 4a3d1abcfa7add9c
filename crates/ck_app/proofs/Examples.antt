-- Worked examples, which compute.
use Rattle.std.proofs.Common.{◌≡◌, ℕ, [], ◌∷◌, refl}
use Rattle.asm_core.specs.declared.mark.MarkKind.{MarkKind}
use Rattle.asm_core.specs.declared.finding.Rule.{Rule}
use Rattle.asm_core.specs.declared.finding.Cell.{Cell}
use Rattle.blk_check.specs.declared.verdict.Verdict.{Verdict}
use Rattle.ck_report.specs.declared.reports.Judged.{Judged}
use Rattle.ck_app.specs.Answer.{status_of}
use Rattle.ck_app.specs.declared.status.Status.{Status}

abbrev judged : ℕ → Verdict → Judged
judged offset verdict = record { offset = offset; verdict = verdict }

abbrev broken : ℕ → Judged
broken offset = judged offset (Verdict.Broken (record { rule = Rule.W3; line = 513; cell = Cell.Cc; other = Cell.Nothing } ∷ []))

abbrev undecided : ℕ → Judged
undecided offset = judged offset (Verdict.Outside (record { kind = MarkKind.Statement; place = offset }))

-- statuses
of_none : status_of [] ≡ Status.Done
of_none = refl

of_undecided : status_of (undecided 9 ∷ []) ≡ Status.Undecided
of_undecided = refl

of_broken : status_of (undecided 3 ∷ broken 9 ∷ []) ≡ Status.Rejected
of_broken = refl
