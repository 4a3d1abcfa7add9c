use Rattle.std.proofs.Common.{◌≡◌, take}
use Rattle.std.specs.String.{string_bytes}
use Rattle.ck_report.specs.PatchReport.{patch_report_of}
use Rattle.ck_report.proofs.patch_reports.patch_report.Given as goal

abbrev pub invariant-loop-statement : goal.invariant-loop-statement
invariant-loop-statement l = string_bytes l.lines ≡ patch_report_of l.fn.name l.fn.text (take l.statement-index l.all)
