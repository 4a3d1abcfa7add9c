-- What a run has in its cells. Places, registers and cells are numbers here, so that nothing depends on what a
-- placement or a state
-- is made of. This project's own.
use Rattle.std.specs.Prelude.{◌≡◌, ℕ, ◌-◌, ◌==◌, ◌&&◌, Bool, true, false, List, [], ◌∷◌, if◌then◌else◌, Some, slice_get}
use Rattle.blk_deps.specs.Cells.{is_byte, is_hand, place_of, byte_of, hand_cell}
use Rattle.blk_deps.specs.declared.step.Read.{Read}
use Rattle.blk_deps.specs.declared.step.Put.{Put}

-- Where a placement puts places: a place is in one register, or is an address, which has registers, or is nowhere.
pub record Placed : Type 0 where
  pub in_register : ℕ → Bool
  pub register_of : ℕ → ℕ
  pub is_address : ℕ → Bool
  -- place u has register q
  pub has : ℕ → ℕ → Bool

-- A place in a register has that one alone, an address is in none, and places that meet in a register are told as
-- sharing.
pub record ArePlaced (x : Placed) (shares : ℕ → ℕ → Bool) : Type 0 where
  pub itself : (u : ℕ) → x.in_register u ≡ true → x.has u (x.register_of u) ≡ true
  pub alone : (u q : ℕ) → x.in_register u ≡ true → x.has u q ≡ true → q ≡ x.register_of u
  pub apart : (u : ℕ) → x.in_register u ≡ true → x.is_address u ≡ false
  pub told : (u d : ℕ) → x.in_register u ≡ true → x.has d (x.register_of u) ≡ true → shares u d ≡ true

-- The bytes of registers; and of each cell what was last put there by its own name, at first the entry's.
pub record World : Type 0 where
  pub registers : ℕ → ℕ → ℕ
  pub cells : ℕ → ℕ

-- the cell is a byte of a register
abbrev pub is_register_byte : Placed → ℕ → Bool
is_register_byte x c = is_byte c && x.in_register (place_of c)

abbrev pub is_address_byte : Placed → ℕ → Bool
is_address_byte x c = is_byte c && x.is_address (place_of c)

-- what the register has where the cell is
abbrev pub in_register_byte : Placed → ℕ → World → ℕ
in_register_byte x c w = w.registers (x.register_of (place_of c)) (byte_of c)

-- what a cell holds
abbrev pub value_in : Placed → ℕ → World → ℕ
value_in x c w = if is_register_byte x c then in_register_byte x c w else w.cells c

-- the world with these values in the hands
abbrev pub with_hands : (ℕ → ℕ) → World → World
with_hands given w = record w { cells = λ c. if is_hand c then given (c - 218) else w.cells c }

abbrev pub with_byte : ℕ → ℕ → ℕ → (ℕ → ℕ → ℕ) → ℕ → ℕ → ℕ
with_byte r b v registers q n = if q == r && n == b then v else registers q n

abbrev pub with_cell : ℕ → ℕ → (ℕ → ℕ) → ℕ → ℕ
with_cell u v cells c = if c == u then v else cells c

-- the world after a write; memory and the direction flag are none of its cells
abbrev pub after_put : Placed → Put → World → World
after_put x (Put.Place u hand) w =
    record {
      registers = with_byte (x.register_of (place_of u)) (byte_of u)
          (w.cells (hand_cell hand)) w.registers;
      cells = with_cell u (w.cells (hand_cell hand)) w.cells;
    }
after_put x (Put.Plain u hand) w = record w { cells = with_cell u (w.cells (hand_cell hand)) w.cells }
after_put x (Put.Store operand first count) w = w
after_put x (Put.Direction on) w = w

abbrev pub after_puts : Placed → List Put → World → World
after_puts x [] w = w
after_puts x (put ∷ puts) w = after_puts x puts (after_put x put w)

-- the hand of a copy has what the cell holds
abbrev pub IsCopied : Placed → World → Read → ℕ → Type 0
IsCopied x w (Read.Copy u) v = v ≡ value_in x u w
IsCopied x w (Read.Compute of) v = Unit {0}

pub record AreCopied (x : Placed) (w : World) (reads : List Read) (given : ℕ → ℕ) : Type 0 where
  pub each : (hand : ℕ) (read : Read) → slice_get reads hand ≡ Some read → IsCopied x w read (given hand)

-- what is written by a name is a byte of a register, or a flag or a byte of a pushed word
abbrev pub IsWritable : Placed → Put → Type 0
IsWritable x (Put.Place u hand) = is_register_byte x u ≡ true
IsWritable x (Put.Plain u hand) = (is_byte u ≡ false) × (is_hand u ≡ false)
IsWritable x (Put.Store operand first count) = Unit {0}
IsWritable x (Put.Direction on) = Unit {0}

abbrev pub AreWritable : Placed → List Put → Type 0
AreWritable x [] = Unit {0}
AreWritable x (put ∷ puts) = IsWritable x put × AreWritable x puts
