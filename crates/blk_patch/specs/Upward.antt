-- Two interfaces with the same operands at the same places, of which the second one tells the compiler more: what rules
-- on paths may find for it is found for the first one too. This project's own.
use Rattle.std.specs.Prelude.{◌≡◌, ◌⊎◌, ℕ, ◌==◌, ◌<◌, true, List, Some, is_some, slice_get}
use Rattle.std.specs.List.{flat_map}
use Rattle.std.specs.Int.{bit_at}
use Rattle.asm_core.specs.Lists.{IsMember}
use Rattle.asm_core.specs.Placement.{tie_root, IsAllowed}
use Rattle.asm_core.specs.Company.{places_of}
use Rattle.asm_core.specs.WellFormed.{HasAlternative}
use Rattle.asm_core.specs.declared.shape.Shape.{Shape}
use Rattle.asm_core.specs.declared.placement.Placement.{Placement}
use Rattle.asm_core.specs.declared.interface.AltIface.{AltIface}
use Rattle.asm_core.specs.declared.interface.OperandIface.{OperandIface}
use Rattle.asm_core.specs.declared.interface.Interface.{Interface}
use Rattle.asm_core.specs.declared.lines.Graph.{Graph}
use Rattle.asm_core.specs.declared.finding.Rule.{Rule}
use Rattle.asm_core.specs.declared.finding.Cell.{Cell}
use Rattle.blk_deps.specs.Operands.{numbers_in, is_output_at, is_input_at, size_at}
use Rattle.blk_deps.specs.Rules.{flags_of_output}
use Rattle.blk_deps.specs.Findings.{alone}
use Rattle.blk_deps.specs.declared.violation.Violation.{Violation}
use Rattle.blk_patch.specs.Items.{has}
use Rattle.blk_patch.specs.declared.item.Item.{Item}

-- Under the shape both interfaces have the same operands at the same places. The new one reads more of them, declares
-- more as changed and allows fewer placements, and fewer of its shapes are live.
pub record TellsMore (old new : Interface) (live fewer : List Shape) (s : Shape) : Type 0 where
  pub there : (k : ℕ) → is_some (slice_get new.operands k) ≡ is_some (slice_get old.operands k)
  pub numbers : numbers_in new ≡ numbers_in old
  pub outputs : (k : ℕ) → is_output_at new k ≡ is_output_at old k
  pub sizes : (k : ℕ) → size_at new k ≡ size_at old k
  pub result_flags : flat_map flags_of_output new.operands ≡ flat_map flags_of_output old.operands
  pub roots : (k : ℕ) → tie_root new s k ≡ tie_root old s k
  pub places : (k : ℕ) → places_of new s k ≡ places_of old s k
  pub inputs : (k : ℕ) → is_input_at old k ≡ true → is_input_at new k ≡ true
  pub clobbers : (p : ℕ) → (bit_at old.clobbers.0 p == 1) ≡ true → (bit_at new.clobbers.0 p == 1) ≡ true
  pub flags_clobbered : old.cc ≡ true → new.cc ≡ true
  pub memory_clobbered : old.memory ≡ true → new.memory ≡ true
  pub allowed : (at : Placement) → IsAllowed new s at → IsAllowed old s at
  pub shapes : (t : Shape) → IsMember t fewer → IsMember t live

-- What is found for the old interface where this is found for the new one: the same, or, in the place of undeclared
-- memory, that an operand which was changing is passed at its end.
pub data StandsFor (old : Interface) (b : Violation) : Violation → Type 0 where
  itself : StandsFor old b b
  passed : (k : ℕ) → IsMember k (numbers_in old) → b.rule ≡ Rule.M1
      → StandsFor old b (alone Rule.M2 (Cell.Operand k))

-- a shape that is live with its block, among the first ones
pub record HasBlock (live : List Shape) (graphs : List Graph) (s : Shape) (g : Graph) : Type 0 where
  pub number : ℕ
  pub is_shape : slice_get live number ≡ Some s
  pub is_graph : slice_get graphs number ≡ Some g

-- each live shape of the new interface is one of the old one, with the same block, and the new one tells more under it
pub record TellsMoreOfAll (old new : Interface) (live fewer : List Shape) (graphs others : List Graph) : Type 0 where
  pub blocks : (n : ℕ) (s : Shape) (g : Graph) → slice_get fewer n ≡ Some s → slice_get others n ≡ Some g
      → HasBlock live graphs s g
  pub tells : (s : Shape) → IsMember s fewer → TellsMore old new live fewer s

-- Where an operand is to be in a register with byte names, its letters allow none of the three registers without them,
-- or all seven: then no place becomes a register of its own.
pub record LeavesPlaces (items : List Item) (i : Interface) : Type 0 where
  pub each : (k a : ℕ) (o : OperandIface) (alt : AltIface) → has items (Item.Byte k) ≡ true
      → HasAlternative i k a o alt → (alt.regs.0 < 16) ⊎ (alt.regs.0 ≡ 127)
