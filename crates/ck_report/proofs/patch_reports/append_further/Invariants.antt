use Rattle.std.proofs.Common.{◌≡◌, ◌++◌, take}
use Rattle.std.specs.String.{string_bytes}
use Rattle.ck_report.specs.PatchReport.{further_text}
use Rattle.ck_report.proofs.patch_reports.append_further.Given as goal

abbrev pub invariant-loop-item : goal.invariant-loop-item
invariant-loop-item l =
    string_bytes l.lines ≡ string_bytes l.initial.lines ++ further_text (take l.item-index l.items)
