-- What a run prints and how it ends, as its words and the files say.
use Rattle.std.specs.Prelude.{◌≡◌, ◌≤◌, ℕ, Bool, nat_lt, List, length, Option, None, Some, Result, Ok, Err, if◌then◌else◌}
use Rattle.std.specs.List.{list_any}
use Rattle.std.specs.String.{string_bytes}
use Rattle.c_tokens.specs.Tokens.{tokens_of}
use Rattle.c_tokens.specs.declared.token.Token.{Token}
use Rattle.c_tokens.specs.declared.token_end.TokenEnd.{TokenEnd}
use Rattle.c_words.specs.File.{file_of}
use Rattle.c_decls.specs.Walk.{declarations_of}
use Rattle.asm_statement.specs.Statements.{statements_of}
use Rattle.ck_app.specs.Judgement.{AreJudged, is_broken, is_outside}
use Rattle.ck_report.specs.Report.{report_of}
use Rattle.ck_app.specs.Lines.{cannot_be_read_line, too_large_line, bad_text_line}
use Rattle.ck_report.specs.declared.reports.Judged.{Judged}
use Rattle.ck_app.specs.declared.judge.Page.{Page}
use Rattle.ck_app.specs.declared.status.Status.{Status}

pub record Answer : Type 0 where
  pub printed : List ℕ
  pub status : Status

abbrev pub answer : List ℕ → Status → Answer
answer printed status = record { printed = printed; status = status }

-- the answer that a page gives
abbrev pub answer_in : Page → Answer
answer_in page = answer (string_bytes page.text) page.status

-- A broken rule counts for more than a statement outside the tables; a file without statements is done.
abbrev pub status_of : List Judged → Status
status_of js =
    if list_any (λ (j : Judged). is_broken j.verdict) js then Status.Rejected
    else (if list_any (λ (j : Judged). is_outside j.verdict) js then Status.Undecided else Status.Done)

-- all lines in the order of the statements
abbrev pub judged_answer : List ℕ → List ℕ → List Judged → Answer
judged_answer name text js = answer (report_of name text js) (status_of js)

-- the answer for a text with these tokens, where its statements have these verdicts
abbrev pub tokens_answer : List ℕ → List ℕ → Result (List Token) TokenEnd → List Judged → Answer
tokens_answer name text (Err end) js = answer (bad_text_line name text end) Status.BadText
tokens_answer name text (Ok tokens) js = judged_answer name text js

-- 16 MiB
abbrev pub most_bytes : ℕ
most_bytes = 16777216

-- what is printed of a file that holds these bytes, where its statements have these verdicts
abbrev pub file_answer : List ℕ → List ℕ → List Judged → Answer
file_answer name text js =
    if nat_lt most_bytes (length text) then answer (too_large_line name) Status.TooLarge
    else tokens_answer name text (tokens_of text) js

-- these are the verdicts on the statements of the text, if it isn't too large and has tokens
abbrev pub AreVerdicts : Bool → List ℕ → List Judged → Type 0
AreVerdicts strict text js = (ts : List Token) → length text ≤ most_bytes → tokens_of text ≡ Ok ts
    → AreJudged strict (file_of text ts) (declarations_of (file_of text ts)) (statements_of text ts) js

pub record IsFileAnswer (strict : Bool) (name text : List ℕ) (a : Answer) : Type 0 where
  pub judged : List Judged
  pub are_verdicts : AreVerdicts strict text judged
  pub is : a ≡ file_answer name text judged

abbrev pub IsReadAnswer : Bool → List ℕ → Option (List ℕ) → Answer → Type 0
IsReadAnswer strict name None a = a ≡ answer (cannot_be_read_line name) Status.ReadFault
IsReadAnswer strict name (Some text) a = IsFileAnswer strict name text a
