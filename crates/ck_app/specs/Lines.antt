-- The printed lines on whole files.
use Rattle.std.specs.Prelude.{ℕ, List, [], ◌++◌, codes, decimal}
use Rattle.c_tokens.specs.Lines.{line_col_of}
use Rattle.c_tokens.specs.declared.token_end.TokenEnd.{TokenEnd}
use Rattle.ck_report.specs.Report.{place_text}

abbrev pub cannot_be_read_line : List ℕ → List ℕ
cannot_be_read_line name = name ++ codes ": cannot be read\n"

abbrev pub too_large_line : List ℕ → List ℕ
too_large_line name = name ++ codes ": too large\n"

-- what a fault of a text is called, and its offset
abbrev pub fault_of : TokenEnd → List ℕ × ℕ
fault_of (TokenEnd.OpenString offset) = (codes "open string", offset)
fault_of (TokenEnd.OpenComment offset) = (codes "open comment", offset)
fault_of (TokenEnd.BadByte offset) = (codes "bad byte", offset)
fault_of (TokenEnd.Unbalanced offset) = (codes "unbalanced bracket", offset)
fault_of TokenEnd.Memory = ([], 0)

-- as `a.c:1:8: bad text: open string at 7`
abbrev pub bad_text_line : List ℕ → List ℕ → TokenEnd → List ℕ
bad_text_line name text end =
    let fault = fault_of end in
    place_text name (line_col_of text fault.1) ++ codes "bad text: " ++ fault.0 ++ codes " at " ++ decimal fault.1
    ++ codes "\n"
