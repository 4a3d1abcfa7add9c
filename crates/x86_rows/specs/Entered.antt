-- All that a line writes, names, uses and accesses.
use Rattle.std.specs.Prelude.{◌≡◌, ℕ, ◌+◌, ◌<◌, ◌≤◌, ◌||◌, Bool, true, false, List, [], ◌∷◌, length, Some, slice_get, if◌then◌else◌}
use Rattle.asm_core.specs.Entries.{sources_of, by_of, if_named, fact_in, is_write, writes_of, named_of, uses_of, reads_of, accesses_of}
use Rattle.asm_core.specs.declared.sym.Sym.{Sym}
use Rattle.asm_core.specs.declared.row.Source.{Source}
use Rattle.asm_core.specs.declared.row.By.{By}
use Rattle.asm_core.specs.declared.row.Write.{Write}
use Rattle.asm_core.specs.declared.micro_op.Origin.{Origin}
use Rattle.asm_core.specs.declared.micro_op.Site.{Site}
use Rattle.asm_core.specs.declared.micro_op.Input.{Input}
use Rattle.asm_core.specs.declared.micro_op.Target.{Target}
use Rattle.asm_core.specs.declared.micro_op.MicroOp.{MicroOp}
use Rattle.asm_core.specs.declared.micro_op.Fact.{Fact}
use Rattle.x86_rows.specs.declared.line_entries.LineEntries.{LineEntries}

-- each list is that of the row
pub record AreEntries (row : List MicroOp) (s : Sym) (e : LineEntries) : Type 0 where
  pub writes : e.writes ≡ writes_of row s
  pub named_count : length e.named ≡ length e.writes
  pub named : (k : ℕ) → k < length e.writes → slice_get e.named k ≡ Some (named_of row s k)
  pub uses : e.uses ≡ uses_of row s
  pub reads : e.reads ≡ reads_of row s
  pub accesses : e.accesses ≡ accesses_of row s

-- what a micro-operation that writes names, given the fact of its value
abbrev pub named_by : Sym → MicroOp → Fact → List Source
named_by s op fact = if_named (by_of s op.function op.x) (sources_of s fact.names)

-- what each of the writes from the n-th micro-operation on names
abbrev pub all_named : Sym → List Fact → List MicroOp → ℕ → List (List Source)
all_named s facts [] n = []
all_named s facts (op ∷ ops) n =
    if is_write op.target then named_by s op (fact_in facts n)
    ∷ all_named s facts ops (n + 1) else all_named s facts ops (n + 1)

-- ---- the memory at an address in a register

abbrev pub is_pointed : Origin → Bool
is_pointed (Origin.Pointed r) = true
is_pointed origin = false

abbrev pub at_pointer : Site → Bool
at_pointer (Site.Pointed r) = true
at_pointer site = false

abbrev pub input_points : Input → Bool
input_points (Input.Read site) = at_pointer site
input_points x = false

abbrev pub target_points : Target → Bool
target_points (Target.Site site) = at_pointer site
target_points target = false

-- the micro-operation reads or writes there
abbrev pub points : MicroOp → Bool
points op = target_points op.target || (input_points op.x || (input_points op.y || input_points op.z))

-- ---- sizes

abbrev pub IsNarrowBy : By → Type 0
IsNarrowBy (By.Copy source first) = first ≤ 3
IsNarrowBy by = Unit {0}

-- a write is of at most 8 bytes, and begins at one of the first 4, as what it copies does
pub record IsNarrow (w : Write) : Type 0 where
  pub first : w.first ≤ 3
  pub count : w.count ≤ 8
  pub by : IsNarrowBy w.by
