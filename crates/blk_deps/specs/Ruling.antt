-- What the tests of the rules are given.
use Rattle.std.specs.Prelude.{◌≡◌, ℕ, ◌+◌, ◌<◌, ◌≤◌, ◌*◌, ◌==◌, ◌&&◌, ◌||◌, nat_lt, Bool, true, false, List, Option, None, Some, slice_get, slice_index, if◌then◌else◌}
use Rattle.asm_core.specs.Reg.{reg_number}
use Rattle.asm_core.specs.declared.finding.Cell.{Cell}
use Rattle.std.specs.List.{list_any, range_with_len}
use Rattle.blk_deps.specs.Ground.{has_bit, has_cell_bit}
use Rattle.blk_deps.specs.Rules.{Used, all_places}
use Rattle.blk_deps.specs.declared.fact.Provenance.TheVariants.{EntryOf}
use Rattle.blk_deps.specs.declared.fact.Property.TheVariants.{ComesFrom}

-- each bit of the word lies from the first up to the end
pub record IsSpan (word first end : ℕ) : Type 0 where
  pub inside : (p : ℕ) → has_bit word p ≡ true → (first ≤ p) × (p < end)

-- ---- names of places

-- the number of a name among those that places have: of the registers, and of 30 operands
abbrev pub place_index : Cell → Option ℕ
place_index (Cell.Reg r) = Some (reg_number r)
place_index (Cell.Operand k) = if nat_lt k 30 then Some (7 + k) else None
place_index cell = None

abbrev pub is_index : Option ℕ → ℕ → Bool
is_index None x = false
is_index (Some y) x = x == y

abbrev pub is_name_index : Option Cell → ℕ → Bool
is_name_index None x = false
is_name_index (Some name) x = is_index (place_index name) x

-- place p has the name of that number
abbrev pub is_named : List Cell → ℕ → ℕ → Bool
is_named names x p = is_name_index (slice_get names p) x

-- Each word has the places of its name, as bits.
pub record AreMasks (names : List Cell) (masks : List ℕ) : Type 0 where
  pub each : (x p : ℕ) → x < 37 → p < 64 → has_bit (slice_index masks x) p ≡ is_named names x p

-- The same of the first places, so many.
pub record AreMasksBelow (names : List Cell) (count : ℕ) (masks : List ℕ) : Type 0 where
  pub each : (x p : ℕ) → x < 37 → p < 64 → has_bit (slice_index masks x) p ≡ (nat_lt p count && is_named names x p)

-- the words have the place besides, under its name
pub record AddsName (p : ℕ) (name : Cell) (old new : List ℕ) : Type 0 where
  pub each : (x q : ℕ) → x < 37 → q < 64 → has_bit (slice_index new x) q
      ≡ (has_bit (slice_index old x) q || (q == p && is_index (place_index name) x))

abbrev pub mask_at : List ℕ → Option ℕ → ℕ
mask_at masks None = 0
mask_at masks (Some x) = slice_index masks x

-- ---- sets of places as bits

-- the places of the mask are below the count
pub record IsMask (count mask : ℕ) : Type 0 where
  pub below : (p : ℕ) → p < 64 → has_bit mask p ≡ true → p < count

-- the places of the mask are those of so many that have the name
pub record IsNamed (count mask : ℕ) (named : ℕ → Bool) : Type 0 where
  pub few : count ≤ 37
  pub below : (p : ℕ) → p < 64 → has_bit mask p ≡ true → p < count
  pub same : (p : ℕ) → p < count → has_bit mask p ≡ named p

-- some bit is in both words
unfoldable pub have_common : ℕ → ℕ → Bool
have_common a b = list_any (λ n. has_bit a n && has_bit b n) (range_with_len 0 64)

-- a place of the mask passes
unfoldable pub some_place : ℕ → (ℕ → Bool) → Bool
some_place mask test = list_any (λ p. has_bit mask p && test p) all_places

-- the cell or the next one passes
abbrev pub one_of_two : (ℕ → Bool) → ℕ → Bool
one_of_two test c = test c || test (c + 1)

-- one of the four bytes of a place passes
abbrev pub some_byte : (ℕ → Bool) → ℕ → Bool
some_byte test p = one_of_two test (4 * p) || one_of_two test (4 * p + 2)

-- ---- what is used

abbrev pub from_entry : Used → ℕ → Bool
from_entry used c = used (ComesFrom (EntryOf c))

abbrev pub from_class : List ℕ → Used → ℕ → Bool
from_class class used c = has_cell_bit class c && from_entry used c
