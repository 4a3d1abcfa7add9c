-- What is told of the places and the bytes of one operand, given where it is. This project's own.
use Rattle.std.specs.Prelude.{◌≡◌, ℕ, ◌<◌, ◌&&◌, nat_lt, Bool, true, List, [], ◌∷◌, length, Some, slice_get, if◌then◌else◌}
use Rattle.std.specs.List.{list_any}
use Rattle.asm_core.specs.Company.{held_at, places_of}
use Rattle.asm_core.specs.declared.company.Places.{Places}
use Rattle.asm_core.specs.declared.company.Held.{Held}
use Rattle.asm_core.specs.declared.shape.Shape.{Shape}
use Rattle.asm_core.specs.declared.interface.Interface.{Interface}
use Rattle.blk_deps.specs.Cells.{place_at, place_of, byte_of}
use Rattle.blk_deps.specs.Operands.{in_register, is_output_at, is_input_at, size_at, numbers_in, is_held, byte_held, holds, name_of}
use Rattle.asm_core.specs.declared.finding.Cell.{Cell}
use Rattle.blk_deps.specs.declared.ground.registers.Of.{Of}
use Rattle.blk_deps.specs.declared.ground.bytes.Class.{Class}
use Rattle.blk_deps.specs.declared.ground.bytes.ByteSet.{ByteSet}

-- ---- places

-- the place holds operand k, which is there
abbrev pub holds_at : Shape → ℕ → Places → ℕ → Bool
holds_at s k places p = in_register s k && is_held (held_at (place_at p) places)

abbrev pub is_of : Of → Interface → ℕ → Bool
is_of Of.Operands i k = true
is_of Of.Outputs i k = is_output_at i k

-- the place holds some operand, or some output
abbrev pub is_holding : Of → Interface → Shape → ℕ → Bool
is_holding of i s p = list_any (λ k. is_of of i k && holds i s p k) (numbers_in i)

-- ---- bytes of places

-- how many bytes of operand k are of the class, the low ones; a place has at most 8 bytes of it
abbrev pub count_at : Class → Interface → ℕ → ℕ
count_at Class.Held i k = 8
count_at Class.Covered i k = size_at i k
count_at Class.OfOutputs i k = if is_output_at i k then size_at i k else 0
count_at Class.OfInputs i k = if is_input_at i k then size_at i k else 0

-- it is one of so many bytes of what is at a place
abbrev pub is_byte_below : ℕ → Held → ℕ → Bool
is_byte_below count held b = is_held held && nat_lt (byte_held held b) count

-- the cell is one of so many bytes of an operand that is there
abbrev pub has_byte : Places → ℕ → ℕ → Bool
has_byte places count c = is_byte_below count (held_at (place_at (place_of c)) places) (byte_of c)

abbrev pub is_of_class : Class → Interface → Shape → ℕ → Places → ℕ → Bool
is_of_class class i s k places c = in_register s k && has_byte places (count_at class i k) c

-- of some operand
abbrev pub is_in_class : Class → Interface → Shape → ℕ → Bool
is_in_class class i s c = list_any (λ k. is_of_class class i s k (places_of i s k) c) (numbers_in i)

abbrev pub words_of : ByteSet → List ℕ
words_of set = set.first ∷ set.second ∷ set.third ∷ []

-- ---- names

-- how the first places are named, so many
pub record AreNames (i : Interface) (s : Shape) (count : ℕ) (names : List Cell) : Type 0 where
  pub length : length names ≡ count
  pub each : (p : ℕ) → p < count → slice_get names p ≡ Some (name_of i s p)
