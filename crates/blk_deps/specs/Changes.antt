-- What the writes of an instruction change of a row, one thing after the other.
use Rattle.std.specs.Prelude.{◌≡◌, ◌⊎◌, ℕ, ◌+◌, ◌-◌, ◌*◌, ◌/◌, ◌==◌, ◌<◌, ◌&&◌, ◌||◌, nat_lt, not, Bool, true, false, List, IsTrue, Option, None, Some, slice_get, slice_index, if◌then◌else◌}
use Rattle.asm_core.specs.declared.interface.OperandIface.{OperandIface}
use Rattle.blk_deps.specs.Cells.{is_hand, place_of, byte_of}
use Rattle.blk_deps.specs.Facts.{Facts, after_put}
use Rattle.blk_deps.specs.Ground.{has_bit}
use Rattle.blk_deps.specs.Layout.{cell_words, slot, shown, shown_value}
use Rattle.blk_deps.specs.Fits.{AreSharers, fits_put, hand_words, held, some_pair}
use Rattle.blk_deps.specs.declared.layout.Layout.{Layout}
use Rattle.blk_deps.specs.declared.step.Put.{Put}
use Rattle.blk_deps.specs.declared.fact.Provenance.TheVariants.{EntryOf}
use Rattle.blk_deps.specs.declared.fact.Property.{Property}
use Rattle.blk_deps.specs.declared.fact.Property.TheVariants.{NotEntryOf, ComesFrom, Pair}
use Rattle.blk_deps.specs.declared.fact.Fact.{Fact}
use Rattle.blk_deps.specs.declared.fact.Fact.TheVariants.{Here, Has, Overwrites}

-- the words hold a value that isn't the cell's own of the entry, or has a pair
abbrev pub is_changed_value : Layout → List ℕ → ℕ → Bool
is_changed_value l value c = shown_value l value (NotEntryOf c) || some_pair (λ d p. shown_value l value (Pair d p))

-- the same of the value of a cell
abbrev pub is_changed : Facts → ℕ → Bool
is_changed s c = s (Has c (NotEntryOf c)) || some_pair (λ d p. s (Has c (Pair d p)))

-- the value goes to cell u
abbrev pub with_value : Layout → List ℕ → ℕ → Facts → Facts
with_value l value u s (Has c property) = if c == u then held l (s Here) value property else s (Has c property)
with_value l value u s fact = s fact

-- place p overwrites cell u, or doesn't
abbrev pub with_overwriter : ℕ → ℕ → Bool → Facts → Facts
with_overwriter p u on s (Overwrites d c) = if c == u && d == p then on else s (Overwrites d c)
with_overwriter p u on s fact = s fact

-- nothing overwrites cell u
abbrev pub without_overwriters : ℕ → Facts → Facts
without_overwriters u s (Overwrites d c) = if c == u then false else s (Overwrites d c)
without_overwriters u s fact = s fact

-- the same byte as u of another place, of those before the i-th
abbrev pub is_marked : ℕ → ℕ → ℕ → ℕ → Bool
is_marked u i d c =
    (d == place_of u && byte_of c == byte_of u) && (nat_lt (place_of c) i && not (place_of c == place_of u))

-- where a value is put at u, which is new or not, and the bits tell which places may be in u's register
abbrev pub with_marks : ℕ → ℕ → ℕ → Bool → Facts → Facts
with_marks i sharers u new s (Overwrites d c) =
    if is_marked u i d c then has_bit sharers (place_of c) && (new || is_changed s c) else s (Overwrites d c)
with_marks i sharers u new s fact = s fact

-- what the row shows, and of so many hands what their words hold
abbrev pub with_hands : Layout → List ℕ → ℕ → List ℕ → Facts
with_hands l hands count row (Has c property) =
    if is_hand c then
    (if nat_lt (c - 218) count then held l (shown l row Here) (hand_words l hands (c - 218)) property
    else shown l row Here)
    else shown l row (Has c property)
with_hands l hands count row fact = shown l row fact

-- One hand is put down.
pub record Puts (l : Layout) (sharers hands : List ℕ) (put : Put) (old new : List ℕ) : Type 0 where
  pub each : (shares : ℕ → ℕ → Bool) → AreSharers l shares sharers → (count : ℕ) → IsTrue (fits_put l count put)
      → (fact : Fact) → with_hands l hands count new fact ≡ after_put shares put (with_hands l hands count old) fact

-- ---- at the entry

-- the properties of the entry's value of cell c
abbrev pub is_own : ℕ → Property → Bool
is_own c (NotEntryOf e) = not (c == e)
is_own c (ComesFrom (EntryOf e)) = c == e
is_own c property = false

-- the cell has its own value of the entry
abbrev pub with_own : ℕ → Facts → Facts
with_own u s (Has c property) = if c == u then is_own u property else s (Has c property)
with_own u s fact = s fact

-- so have the cells with a block among the first blocks
abbrev pub is_begun : ℕ → Option ℕ → Bool
is_begun count None = false
is_begun count (Some x) = nat_lt x count

abbrev pub with_owns : Layout → ℕ → Facts → Facts
with_owns l count s (Has c property) = if is_begun count (slot l c) then is_own c property else s (Has c property)
with_owns l count s fact = s fact

-- Bit n of the words of the entry's value of the cell with block x: all cells' bits but its own, then its own alone.
abbrev pub is_own_bit : Layout → ℕ → ℕ → Bool
is_own_bit l x n = if n == 64 * cell_words l + x then true else if n == x then false else nat_lt (n / 64) (cell_words l)

-- byte b of operand k isn't written at the entry
abbrev pub is_open : List OperandIface → ℕ → ℕ → ℕ → Bool
is_open operands unseen k b = has_bit unseen k && nat_lt b (elim (slice_get operands k) [ None ↦ 0 | Some o ↦ o.size ])

-- The words of the first operands have the bytes that aren't written, and the other words are as they were.
pub record Opens (operands : List OperandIface) (unseen count : ℕ) (old new : List ℕ) : Type 0 where
  pub opened : (k b : ℕ) → k < count → b < 64 → has_bit (slice_index new (1 + k)) b ≡ is_open operands unseen k b
  pub others : (j : ℕ) → (j ≡ 0) ⊎ (count < j) → slice_index new j ≡ slice_index old j
