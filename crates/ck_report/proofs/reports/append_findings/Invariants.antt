use Rattle.std.proofs.Common.{◌≡◌, ◌++◌, take}
use Rattle.std.specs.List.{flat_map}
use Rattle.std.specs.String.{string_bytes}
use Rattle.ck_report.specs.Report.{finding_line, place_text}
use Rattle.ck_report.proofs.reports.append_findings.Given as goal

abbrev pub invariant-loop-finding : goal.invariant-loop-finding
invariant-loop-finding l =
    string_bytes l.lines ≡ string_bytes l.initial.lines ++ flat_map (finding_line (place_text l.fn.place.name.now (l.fn.place.line, l.fn.place.column))) (take l.finding-index l.findings)
