-- What the facts of a path say of a run along it. This project's own.
use Rattle.std.specs.Prelude.{◌≡◌, ℕ, ◌<◌, true, false}
use Rattle.blk_deps.specs.Cells.{place_of, byte_of}
use Rattle.blk_deps.specs.Facts.{Facts}
use Rattle.blk_deps.specs.declared.fact.Property.TheVariants.{NotEntryOf, Pair}
use Rattle.blk_deps.specs.declared.fact.Fact.TheVariants.{Here, Has, Overwrites}
use Rattle.blk_frame.specs.World.{Placed, World, is_register_byte, is_address_byte, in_register_byte}

module _ (x : Placed) (s : Facts) where
  -- in no pair of the cell's value do the two places meet in a register
  abbrev pub IsGood : ℕ → Type 0
  IsGood c = (d u : ℕ) → d < 37 → u < 37 → s (Has c (Pair d u)) ≡ true → x.has u (x.register_of d) ≡ false

  -- no place in the cell's register overwrites it
  abbrev pub IsIntact : ℕ → Type 0
  IsIntact c = (d : ℕ) → d < 37 → s (Overwrites d c) ≡ true → x.has (place_of c) (x.register_of d) ≡ false

  -- no place in register q overwrites it
  abbrev pub IsIntactAt : ℕ → ℕ → Type 0
  IsIntactAt c q = (d : ℕ) → d < 37 → s (Overwrites d c) ≡ true → x.register_of d ≡ q → ⊥

-- At the entry each cell that is a byte of a register has that byte.
pub record IsShadowed (x : Placed) (entry : World) : Type 0 where
  pub each : (c : ℕ) → is_register_byte x c ≡ true → entry.cells c ≡ in_register_byte x c entry

-- An intact cell has in its register what was last put there by its own name. A value without bad pairs is the
-- entry's of each cell of which
-- no fact says that it isn't. An address has the entry's bytes in each register where it isn't overwritten.
pub record Matches (x : Placed) (entry : World) (s : Facts) (w : World) : Type 0 where
  pub here : s Here ≡ true
  pub intact : (c : ℕ) → is_register_byte x c ≡ true → IsIntact x s c → in_register_byte x c w ≡ w.cells c
  pub copies : (c e : ℕ) → IsGood x s c → s (Has c (NotEntryOf e)) ≡ false → w.cells c ≡ entry.cells e
  pub addresses : (c q : ℕ) → is_address_byte x c ≡ true → x.has (place_of c) q ≡ true → IsIntactAt x s c q
      → w.registers q (byte_of c) ≡ entry.registers q (byte_of c)

-- another cell in the same byte of the same register
pub record IsBeside (x : Placed) (c d : ℕ) : Type 0 where
  pub in_register : is_register_byte x d ≡ true
  pub register : x.register_of (place_of d) ≡ x.register_of (place_of c)
  pub byte : byte_of d ≡ byte_of c

-- in each byte of each register lies a cell that is intact
pub record HasTop (x : Placed) (s : Facts) : Type 0 where
  pub each : (c : ℕ) → is_register_byte x c ≡ true → (d : ℕ) × IsBeside x c d × IsIntact x s d

-- the value of the cell is the entry's, by facts alone
pub record IsKept (x : Placed) (s : Facts) (c : ℕ) : Type 0 where
  pub good : IsGood x s c
  pub own : s (Has c (NotEntryOf c)) ≡ false
