-- What is broken along a basic block by the facts before it, and at the end.
use Rattle.std.specs.Prelude.{◌≡◌, ◌⊎◌, ℕ, ◌+◌, ◌<◌, ◌==◌, ◌&&◌, ◌||◌, nat_lt, not, Bool, true, false, IsTrue, List, length, Option, Some, slice_get, slice_index}
use Rattle.asm_core.specs.WellFormed.{IsInterface}
use Rattle.asm_core.specs.declared.sym.Sym.{Sym}
use Rattle.asm_core.specs.declared.finding.Rule.{Rule}
use Rattle.asm_core.specs.declared.finding.Cell.{Cell}
use Rattle.blk_deps.specs.Facts.{Facts}
use Rattle.blk_deps.specs.Ways.{size_of}
use Rattle.blk_deps.specs.Rules.{Used, breaks_at_line, breaks_at_end, breaks_u2, used_at_line}
use Rattle.blk_deps.specs.Layout.{shown, shown_value}
use Rattle.blk_deps.specs.Fits.{HandsHold, some_pair}
use Rattle.blk_deps.specs.Listing.{AreOfPairs}
use Rattle.blk_deps.specs.Findings.{Setting, facts_after}
use Rattle.blk_deps.specs.Blocks.{first_of, count_of, facts_through}
use Rattle.blk_deps.specs.FlowFacts.{IsFlow, setting_of}
use Rattle.blk_deps.specs.LineMoves.{IsLineMoves}
use Rattle.blk_deps.specs.Noting.{IsNoted}
use Rattle.blk_deps.specs.Ruling.{AreMasks}
use Rattle.blk_deps.specs.Reaching.{IsAtLine}
use Rattle.blk_deps.specs.Scenes.{IsAbout, ShowsUsed}
use Rattle.blk_deps.specs.declared.fact.Fact.TheVariants.{Here}
use Rattle.blk_deps.specs.declared.line.LineMoves.{LineMoves}
use Rattle.blk_deps.specs.declared.flow.Flow.{Flow}
use Rattle.blk_deps.specs.declared.findings.Least.{Least}
use Rattle.blk_deps.specs.declared.rules.scene.Scene.{Scene}
use Rattle.blk_deps.specs.declared.rules.scene.AtLine.{AtLine}
use Rattle.blk_deps.specs.declared.rules.uses.Uses.{Uses}
use Rattle.blk_deps.specs.declared.listing.PairNumbers.{PairNumbers}
use Rattle.blk_deps.specs.declared.fact.Property.TheVariants.{Pair}
use Rattle.blk_deps.specs.declared.violation.Violation.{Violation}
use Rattle.blk_deps.specs.declared.walk.Walk.{Walk}

-- ---- what is broken

-- an instruction breaks the rule by its text alone
pub record BreaksByText (x : Setting) (inst : Sym) (v : Violation) : Type 0 where
  pub rule : v.rule ≡ Rule.U2
  pub other : v.other ≡ Cell.Nothing
  pub breaks : IsTrue (breaks_u2 x.shares inst v.cell)

-- instruction n breaks the rule on that line, by its text or by these facts before it
pub record BreaksHere (x : Setting) (n : ℕ) (facts : Facts) (v : Violation) (line : ℕ) : Type 0 where
  pub inst : Sym
  pub is_inst : slice_get x.graph.insts n ≡ Some inst
  pub breaks : BreaksByText x inst v ⊎ (breaks_at_line x.interface x.live x.shape (slice_index x.depths n) inst v facts ≡ true)
  pub is_line : line ≡ n + 1

-- one of so many instructions from the first on does, by the facts that come to it from these before the first
pub record BreaksAlong (x : Setting) (first count : ℕ) (facts : Facts) (v : Violation) (line : ℕ) : Type 0 where
  pub passed : ℕ
  pub within : passed < count
  pub here : BreaksHere x (first + passed) (facts_through (facts_after x) first passed facts) v line

-- the end does, by these facts there
abbrev pub BreaksEnd : Setting → Facts → Violation → ℕ → Type 0
BreaksEnd x facts v line = (line ≡ 513) × (breaks_at_end x.interface x.shape v facts ≡ true)

-- ---- tests

abbrev pub is_u2 : Rule → Bool
is_u2 Rule.U2 = true
is_u2 rule = false

abbrev pub is_nothing : Cell → Bool
is_nothing Cell.Nothing = true
is_nothing cell = false

abbrev pub is_by_text : Violation → Bool
is_by_text v = is_u2 v.rule && is_nothing v.other

abbrev pub breaks_by_text : Setting → Sym → Violation → Bool
breaks_by_text x inst v = is_by_text v && breaks_u2 x.shares inst v.cell

-- an instruction before which so many words are pushed breaks the rule, by its text or by these facts before it
unfoldable pub breaks_before : Setting → ℕ → Sym → Facts → Violation → Bool
breaks_before x depth inst facts v =
    breaks_by_text x inst v || breaks_at_line x.interface x.live x.shape depth inst v facts

-- ---- violations of pairs

-- some value that is used has a pair
abbrev pub has_used_pair : Uses → Bool
has_used_pair used = some_pair (λ d p. shown_value used.layout used.words.now (Pair d p))

-- those of pairs begin at t, and no value that is used has one
abbrev pub passes_pairs : PairNumbers → Bool → ℕ → Bool
passes_pairs at paired t = t == at.first && (nat_lt t at.end && not paired)

-- ---- walks

-- the facts that a row shows
abbrev pub shown_in : Walk → List ℕ → Facts
shown_in w row = shown w.flow.layout.now row

-- what an instruction uses of the facts in a row
abbrev pub used_by : Walk → AtLine → List ℕ → Used
used_by w at row = used_at_line w.flow.context.now.interface.now w.flow.context.now.shape.now at.depth at.line.now (shown_in w row)

-- the entries of the walk's violations become the least of what they were and of these lines
abbrev pub Notes : Walk → (Violation → ℕ → Type 0) → Least → Least → Type 0
Notes w P old new = IsNoted P w.violations.now old.lines.items new.lines.items

-- the first instruction of a basic block, and how many it has
abbrev pub first_in : Walk → ℕ → ℕ
first_in w = first_of (size_of w.flow.graph.now) w.flow.blocks.now

abbrev pub count_in : Walk → ℕ → ℕ
count_in w = count_of (size_of w.flow.graph.now) w.flow.blocks.now

abbrev pub setting_in : Walk → Setting
setting_in w = setting_of w.flow

abbrev pub scene_of : Walk → Scene
scene_of w = record { context = w.flow.context; layout = w.flow.layout; names = w.names; sharers = w.flow.sharers }

-- what each instruction does is told, the places of each name are, and the violations speak of operands that there are
pub record IsWalk (w : Walk) : Type 0 where
  pub flow : IsFlow w.flow
  pub interface : IsInterface w.flow.context.now.interface.now
  pub depths : length w.flow.depths.now ≡ size_of w.flow.graph.now + 1
  pub names : AreMasks w.flow.context.now.ground.now.names w.names.now.masks
  pub pairs : AreOfPairs w.violations.now w.pairs
  pub about : (t : ℕ) (v : Violation) → slice_get w.violations.now t ≡ Some v → IsAbout (length w.flow.context.now.interface.now.operands) v
  pub moves : (n : ℕ) (line : Sym) (moves : LineMoves) → slice_get w.flow.graph.now.insts n ≡ Some line → slice_get w.flow.moves.now n ≡ Some moves
      → IsLineMoves w.flow.context.now.interface.now w.flow.context.now.shape.now (slice_index w.flow.depths.now n) line moves

-- the words show what instruction n uses, of the facts in the row
pub record ShowsUsedAt (w : Walk) (n : ℕ) (row used : List ℕ) : Type 0 where
  pub each : (line : Sym) → slice_get w.flow.graph.now.insts n ≡ Some line
      → ShowsUsed w.flow.layout.now used (used_at_line w.flow.context.now.interface.now w.flow.context.now.shape.now (slice_index w.flow.depths.now n) line (shown w.flow.layout.now row))

-- the hands hold what instruction n reads
pub record HoldsReads (w : Walk) (n : ℕ) (row hands : List ℕ) : Type 0 where
  pub each : (moves : LineMoves) → slice_get w.flow.moves.now n ≡ Some moves → HandsHold w.flow.layout.now hands (shown w.flow.layout.now row) moves.reads

-- what an instruction is, and whether a path comes to it by the row
pub record IsAt (w : Walk) (row : List ℕ) (at : AtLine) : Type 0 where
  pub at_line : IsAtLine at
  pub here : at.here ≡ shown w.flow.layout.now row Here
