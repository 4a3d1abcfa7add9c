-- What the tests of the rules are given together.
use Rattle.std.specs.Prelude.{◌≡◌, ℕ, nat_lt, Bool, true, IsTrue, List, length}
use Rattle.asm_core.specs.declared.finding.Cell.{Cell}
use Rattle.blk_deps.specs.declared.violation.Violation.{Violation}
use Rattle.blk_deps.specs.Ground.{IsContext}
use Rattle.blk_deps.specs.Layout.{IsLayout, shown_value}
use Rattle.blk_deps.specs.Fits.{is_dependence}
use Rattle.blk_deps.specs.Rules.{Used}
use Rattle.blk_deps.specs.declared.layout.Layout.{Layout}
use Rattle.blk_deps.specs.declared.fact.Property.{Property}
use Rattle.blk_deps.specs.Ruling.{AreMasks}
use Rattle.blk_deps.specs.declared.rules.scene.Scene.{Scene}

-- the ground is the shape's, the names are those of its places, and the layout has as many operands
pub record IsScene (x : Scene) : Type 0 where
  pub context : IsContext x.context.now
  pub names : AreMasks x.context.now.ground.now.names x.names.now.masks
  pub layout : IsLayout x.layout.now
  pub operands : x.layout.now.operands ≡ length x.context.now.interface.now.operands

-- an operand that the cell names is one of so many
abbrev pub names_operand : ℕ → Cell → Bool
names_operand count (Cell.Operand k) = nat_lt k count
names_operand count cell = true

pub record IsAbout (count : ℕ) (b : Violation) : Type 0 where
  pub cell : IsTrue (names_operand count b.cell)
  pub other : IsTrue (names_operand count b.other)

-- The words show what is used, but for which cells it isn't a copy of.
pub record ShowsUsed (l : Layout) (words : List ℕ) (used : Used) : Type 0 where
  pub each : (property : Property) → IsTrue (is_dependence property) → shown_value l words property ≡ used property
