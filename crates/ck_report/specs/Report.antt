-- The printed lines of the statements of a file.
use Rattle.std.specs.Prelude.{ℕ, List, ◌++◌, codes, decimal}
use Rattle.std.specs.List.{flat_map}
use Rattle.asm_core.specs.Finding.{finding_text, rule_phrase}
use Rattle.asm_core.specs.declared.finding.Finding.{Finding}
use Rattle.asm_core.specs.declared.mark.MarkKind.{MarkKind}
use Rattle.blk_check.specs.declared.verdict.Verdict.{Verdict}
use Rattle.c_tokens.specs.Lines.{line_col_of}
use Rattle.ck_report.specs.declared.reports.Judged.{Judged}

-- as `1:20`
abbrev pub line_column_text : ℕ × ℕ → List ℕ
line_column_text place = decimal place.0 ++ codes ":" ++ decimal place.1

-- as `a.c:1:20: `
abbrev pub place_text : List ℕ → ℕ × ℕ → List ℕ
place_text name place = name ++ codes ":" ++ decimal place.0 ++ codes ":" ++ decimal place.1 ++ codes ": "

-- the line of one finding, as `a.c:1:20: broken W2 at end: %0 -: an input is changed`
abbrev pub finding_line : List ℕ → Finding → List ℕ
finding_line place f = place ++ codes "broken " ++ finding_text f ++ codes ": " ++ rule_phrase f.rule ++ codes "\n"

abbrev pub ok_line : List ℕ → List ℕ
ok_line place = place ++ codes "ok\n"

-- a line for each finding
abbrev pub finding_lines : List ℕ → List Finding → List ℕ
finding_lines place findings = flat_map (finding_line place) findings

-- what a kind of mark is called
abbrev pub kind_name : MarkKind → List ℕ
kind_name MarkKind.Statement = codes "statement form"
kind_name MarkKind.Clobber = codes "clobber name"
kind_name MarkKind.Operand = codes "operand type"
kind_name MarkKind.Constraint = codes "constraint"
kind_name MarkKind.Template = codes "template form"
kind_name MarkKind.Shapes = codes "shapes"
kind_name MarkKind.Lines = codes "lines"
kind_name MarkKind.Instruction = codes "instruction"

-- the line of a statement at that place that is outside the tables, as `a.c:1:20: undecided statement form at 1:20`
abbrev pub mark_line : List ℕ → MarkKind → ℕ × ℕ → List ℕ
mark_line place kind at = place ++ codes "undecided " ++ kind_name kind ++ codes " at " ++ line_column_text at ++ codes "\n"

-- the lines of a statement whose keyword is at an offset
abbrev pub verdict_lines : List ℕ → List ℕ → ℕ → Verdict → List ℕ
verdict_lines name text offset (Verdict.Ok proof) = ok_line (place_text name (line_col_of text offset))
verdict_lines name text offset (Verdict.Broken findings) = finding_lines (place_text name (line_col_of text offset)) findings
verdict_lines name text offset (Verdict.Outside mark) = mark_line (place_text name (line_col_of text offset)) mark.kind (line_col_of text mark.place)

-- the lines of the statements of a file
abbrev pub report_of : List ℕ → List ℕ → List Judged → List ℕ
report_of name text js = flat_map (λ (j : Judged). verdict_lines name text j.offset j.verdict) js
