-- What holds behind the step of a line, be it over or not.
use Rattle.std.proofs.Common.{◌≡◌, ℕ, ◌+◌, List, true, false}
use Rattle.asm_core.specs.MicroOps.{values_of, is_over, written, row_ended}
use Rattle.asm_core.specs.Reading.Placed.{inst_under}
use Rattle.asm_core.specs.Rows.{line_row}
use Rattle.asm_core.specs.Steps.{Stand, reads_at}
use Rattle.asm_core.specs.declared.sym.Sym.{Sym}
use Rattle.asm_core.specs.declared.machine.Machine.{Machine}
use Rattle.asm_core.proofs.StepLaws.{ended_holds}
use Rattle.asm_core.proofs.DecideLaws.{holds_of}
use Rattle.x86_table.specs.TableLaws.{IsStepped}

-- the values of a line's row at a step
abbrev pub values_at : Sym → Stand → List ℕ
values_at line x = values_of line.width (reads_at line x) (line_row line)

-- the state with these values written
abbrev pub written_at : Sym → Stand → Machine
written_at line x = written (line_row line) (inst_under x.at line) x.goal (values_at line x) x.before

pub line_ended : (P : Machine → Type 0) (line : Sym) (x : Stand) → IsStepped line x
    → (is_over (line_row line) (values_at line x) ≡ true → P (record x.before { at = x.before.at + 1 }))
    → (is_over (line_row line) (values_at line x) ≡ false → P (written_at line x)) → P x.after
line_ended P line x stepped idle done =
    holds_of P (row_ended (line_row line) (inst_under x.at line) x.goal x.choice x.words x.before) x.after
    (ended_holds P (line_row line) (inst_under x.at line) x.goal (values_at line x) x.before idle done) stepped.step
