-- What is made for an instruction under a shape: its reads, its writes, and which memory it reaches.
use Rattle.std.specs.Prelude.{◌≡◌, ℕ, ◌<◌, ◌≤◌, Bool, List, length, All}
use Rattle.asm_core.specs.Rows.{entry_row}
use Rattle.asm_core.specs.WellFormed.{IsInterface}
use Rattle.asm_core.specs.declared.sym.Sym.{Sym}
use Rattle.asm_core.specs.declared.shape.Shape.{Shape}
use Rattle.asm_core.specs.declared.interface.Interface.{Interface}
use Rattle.x86_rows.specs.Entered.{AreEntries, IsNarrow}
use Rattle.x86_rows.specs.declared.line_entries.LineEntries.{LineEntries}
use Rattle.blk_deps.specs.Ground.{IsContext, has_bit}
use Rattle.blk_deps.specs.Line.{line_reads, line_puts, used_hands, accesses_in}
use Rattle.blk_deps.specs.Stack.{pushes, pops}
use Rattle.blk_deps.specs.Rules.{uses_address}
use Rattle.blk_deps.specs.declared.line.LineMoves.{LineMoves}
use Rattle.blk_deps.specs.declared.line.instance.Instance.{Instance}

-- The bits of a word, below 32, are the answers of a test.
pub record AreBits (word : ℕ) (test : ℕ → Bool) : Type 0 where
  pub each : (k : ℕ) → k < 32 → has_bit word k ≡ test k

pub record IsLineMoves (i : Interface) (s : Shape) (depth : ℕ) (line : Sym) (m : LineMoves) : Type 0 where
  pub reads : m.reads ≡ line_reads i s depth line
  pub puts : m.puts ≡ line_puts i s depth line
  pub used : m.used ≡ used_hands line
  pub accesses : m.accesses ≡ accesses_in line
  pub addressed : AreBits m.addressed (uses_address line)
  pub pushes : m.pushes ≡ pushes line
  pub pops : m.pops ≡ pops line

-- ---- while it is made

-- the lists of what a line writes, names, uses and accesses, which are short
pub record AreLineEntries (line : Sym) (e : LineEntries) : Type 0 where
  pub are : AreEntries (entry_row line) line e
  pub few : length e.writes ≤ 22
  pub narrow : All IsNarrow e.writes

pub record IsInstance (x : Instance) : Type 0 where
  pub context : IsContext x.context.now
  pub interface : IsInterface x.context.now.interface.now
  pub depth : x.depth ≤ 16
  pub entries : AreLineEntries x.line.now x.entries.now

abbrev pub interface_of : Instance → Interface
interface_of x = x.context.now.interface.now

abbrev pub shape_of : Instance → Shape
shape_of x = x.context.now.shape.now
