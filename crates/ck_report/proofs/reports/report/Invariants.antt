use Rattle.std.proofs.Common.{◌≡◌, take}
use Rattle.std.specs.String.{string_bytes}
use Rattle.ck_report.specs.Report.{report_of}
use Rattle.ck_report.proofs.reports.report.Given as goal

abbrev pub invariant-loop-statement : goal.invariant-loop-statement
invariant-loop-statement l = string_bytes l.lines ≡ report_of l.fn.name l.fn.text (take l.statement-index l.all)
