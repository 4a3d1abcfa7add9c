-- What is said of the asm statements of a file.
use Rattle.std.specs.Prelude.{◌≡◌, List, [], ◌∷◌, ◌++◌, map, Bool, true, false, Option, Result, Ok, Err}
use Rattle.asm_core.specs.Interface.{interface_of}
use Rattle.asm_core.specs.declared.operand.Operand.{Operand}
use Rattle.asm_core.specs.declared.statement.Part.{Part}
use Rattle.asm_core.specs.declared.statement.Parts.{Parts}
use Rattle.asm_core.specs.declared.statement.Body.{Body}
use Rattle.asm_core.specs.declared.statement.Statement.{Statement}
use Rattle.asm_core.specs.declared.interface.Interface.{Interface}
use Rattle.asm_core.specs.declared.interface.IfaceEnd.{IfaceEnd}
use Rattle.blk_check.specs.Judged.{IsVerdict}
use Rattle.blk_check.specs.declared.verdict.Verdict.{Verdict}
use Rattle.c_words.specs.File.{File}
use Rattle.c_scopes.specs.Seen.{Declared}
use Rattle.c_exprs.specs.Operands.{operand_of}
use Rattle.ck_report.specs.declared.reports.Judged.{Judged}

-- what the operands' expressions are, outputs first
abbrev pub operands_of : File → Declared → Parts → List (Option Operand)
operands_of f seen parts = map (λ (p : Part). operand_of f seen p.expr) (parts.outputs ++ parts.inputs)

-- what the parts tell the compiler; by the strict rule, flags count as changed where `cc` isn't declared
abbrev pub interface_in : Bool → File → Declared → Parts → Result Interface IfaceEnd
interface_in strict f seen parts = interface_of parts (operands_of f seen parts) strict

-- the verdict on a statement with this interface, or with none
abbrev pub IsVerdictBy : Statement → Result Interface IfaceEnd → Verdict → Type 0
IsVerdictBy s (Ok i) v = IsVerdict s i v
IsVerdictBy s (Err (IfaceEnd.Outside mark)) v = v ≡ Verdict.Outside mark
IsVerdictBy s (Err (IfaceEnd.Broken findings)) v = v ≡ Verdict.Broken findings
IsVerdictBy s (Err IfaceEnd.Memory) v = ⊥

abbrev pub IsBodyVerdict : Bool → File → Declared → Statement → Body → Verdict → Type 0
IsBodyVerdict strict f seen s (Body.Parts parts) v = IsVerdictBy s (interface_in strict f seen parts) v
IsBodyVerdict strict f seen s (Body.Outside mark) v = v ≡ Verdict.Outside mark

-- the verdict on a statement of the file
abbrev pub IsJudgement : Bool → File → Declared → Statement → Verdict → Type 0
IsJudgement strict f seen s v = IsBodyVerdict strict f seen s s.body v

-- the statement's keyword, and its verdict
pub record IsJudged (strict : Bool) (f : File) (seen : Declared) (s : Statement) (j : Judged) : Type 0 where
  pub offset : j.offset ≡ s.span.from
  pub verdict : IsJudgement strict f seen s j.verdict

-- each statement with its verdict, in their order
unfoldable pub AreJudged : Bool → File → Declared → List Statement → List Judged → Type 0
AreJudged strict f seen [] [] = Unit {0}
AreJudged strict f seen (s ∷ ss) (j ∷ js) = IsJudged strict f seen s j × AreJudged strict f seen ss js
AreJudged strict f seen ss js = ⊥

abbrev pub is_broken : Verdict → Bool
is_broken (Verdict.Broken findings) = true
is_broken verdict = false

abbrev pub is_outside : Verdict → Bool
is_outside (Verdict.Outside mark) = true
is_outside verdict = false
