-- Which places may be in one register, as bits of words.
use Rattle.std.specs.Prelude.{◌≡◌, ◌↔◌, ℕ, ◌+◌, ◌<◌, ◌≤◌, ◌&&◌, nat_lt, Bool, IsTrue, List, length, slice_index}
use Rattle.asm_core.specs.declared.shape.Shape.{Shape}
use Rattle.asm_core.specs.declared.interface.Interface.{Interface}
use Rattle.blk_deps.specs.Ground.{has_bit}
use Rattle.blk_deps.specs.Start.{MayShare}

-- place p may share a register with another one below q, or q alone
pub record SharesBelow (i : Interface) (s : Shape) (p q : ℕ) (r : ℕ) : Type 0 where
  pub below : r < q
  pub shares : MayShare i s p r

-- bit r of the word: place r is below q and may share a register with p
abbrev pub TellsBelow : Interface → Shape → ℕ → ℕ → ℕ → Type 0
TellsBelow i s p q word = (r : ℕ) → r < 64 → IsTrue (has_bit word r) ↔ SharesBelow i s p q r

-- each of the words tells so of its place
abbrev pub TellWords : Interface → Shape → ℕ → List ℕ → Type 0
TellWords i s count words = (p : ℕ) → p < length words → TellsBelow i s p count (slice_index words p)

-- bit q of word p
abbrev pub shares_by : List ℕ → ℕ → ℕ → ℕ → Bool
shares_by words count p q = nat_lt p count && (nat_lt q count && has_bit (slice_index words p) q)
