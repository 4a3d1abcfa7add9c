-- What holds before the first instruction, and the setting in which a block is judged.
use Rattle.std.specs.Prelude.{ℕ, ◌+◌, ◌==◌, ◌&&◌, ◌||◌, nat_lt, not, Bool, true, false, List, ◌↔◌, IsTrue}
use Rattle.asm_core.specs.Roomy.{ShareRegister}
use Rattle.asm_core.specs.declared.shape.Shape.{Shape}
use Rattle.asm_core.specs.declared.interface.Interface.{Interface}
use Rattle.asm_core.specs.declared.placement.Placement.{Placement}
use Rattle.blk_deps.specs.Cells.{place_at, is_hand}
use Rattle.blk_deps.specs.Facts.{Facts}
use Rattle.blk_deps.specs.Operands.{is_place, is_unseen, size_at}
use Rattle.blk_deps.specs.declared.fact.Provenance.TheVariants.{EntryOf}
use Rattle.blk_deps.specs.declared.fact.Property.TheVariants.{NotEntryOf, ComesFrom}
use Rattle.blk_deps.specs.declared.fact.Fact.TheVariants.{Here, Has, Unwritten}

-- Each cell holds its own value of the entry, nothing is overwritten, and memory that isn't seen isn't written. Nothing is claimed of hands.
abbrev pub at_entry : Interface → List Shape → Shape → Facts
at_entry i live s Here = true
at_entry i live s (Has c (NotEntryOf e)) = is_hand c || not (c == e)
at_entry i live s (Has c (ComesFrom (EntryOf e))) = is_hand c || c == e
at_entry i live s (Has c property) = is_hand c
at_entry i live s (Unwritten k b) = is_unseen i live s k && nat_lt b (size_at i k)
at_entry i live s fact = false

-- some allowed placement puts the two places into one register
pub record MayShare (i : Interface) (s : Shape) (p q : ℕ) : Type 0 where
  pub first : IsTrue (is_place i s p)
  pub second : IsTrue (is_place i s q)
  pub at : Placement
  pub shared : ShareRegister i s (place_at p) (place_at q) at

-- which places may be in one register
abbrev pub TellsSharing : Interface → Shape → (ℕ → ℕ → Bool) → Type 0
TellsSharing i s shares = (p q : ℕ) → IsTrue (shares p q) ↔ MayShare i s p q
