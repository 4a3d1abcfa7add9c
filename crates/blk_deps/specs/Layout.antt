-- How facts lie in a row of 64-bit words, as numbers of bits: as many cells as the shape has, and no more.
use Rattle.std.specs.Prelude.{ℕ, ◌≤◌, ◌+◌, ◌-◌, ◌*◌, ◌/◌, ◌==◌, ◌&&◌, nat_lt, Bool, List, Option, None, Some, if◌then◌else◌}
use Rattle.dataflow.specs.Bits.{facts_in}
use Rattle.blk_deps.specs.Cells.{is_byte, is_hand}
use Rattle.blk_deps.specs.Facts.{Facts}
use Rattle.blk_deps.specs.declared.fact.Provenance.TheVariants.{EntryOf, Old, Undefined, Outside}
use Rattle.blk_deps.specs.declared.fact.Property.{Property}
use Rattle.blk_deps.specs.declared.fact.Property.TheVariants.{NotEntryOf, ComesFrom, Pair}
use Rattle.blk_deps.specs.declared.fact.Fact.{Fact}
use Rattle.blk_deps.specs.declared.fact.Fact.TheVariants.{Here, Has, Overwrites, Unwritten, DirectionSet}
use Rattle.blk_deps.specs.declared.layout.Layout.{Layout}

-- at most 30 operands, and at most 16 pushed words
pub record IsLayout (l : Layout) : Type 0 where
  pub operands : l.operands ≤ 30
  pub words : l.words ≤ 16

-- ---- counts

-- of places: the registers and the operands
abbrev pub places_in : Layout → ℕ
places_in l = 7 + l.operands

-- of cells: the bytes of places, the flags, the bytes of pushed words
abbrev pub cells_in : Layout → ℕ
cells_in l = 4 * places_in l + (6 + 4 * l.words)

-- of words that have a bit for each cell
abbrev pub cell_words : Layout → ℕ
cell_words l = (cells_in l + 63) / 64

-- of words of a value: two bits for each cell, a word for operands' old bytes, undefined bits and words from outside,
-- and a word of pairs for each place
abbrev pub value_words : Layout → ℕ
value_words l = 2 * cell_words l + 1 + places_in l

-- of words of a cell: its value, and its overwriters
abbrev pub block_words : Layout → ℕ
block_words l = value_words l + 1

-- of words of a row
abbrev pub row_words : Layout → ℕ
row_words l = 1 + l.operands + cells_in l * block_words l

-- ---- bits

-- the number of a cell among those that there are
abbrev pub slot : Layout → ℕ → Option ℕ
slot l c =
    if is_byte c then (if nat_lt c (4 * places_in l) then Some c else None)
    else if nat_lt c 154 then Some (4 * places_in l + (c - 148))
    else if nat_lt c (154 + 4 * l.words) then Some (4 * places_in l + (6 + (c - 154))) else None

-- the first word of a cell's block
abbrev pub block_at : Layout → ℕ → ℕ
block_at l x = 1 + l.operands + x * block_words l

-- a bit that no row has
abbrev pub no_bit : Layout → ℕ
no_bit l = 64 * row_words l

-- the bit of a property of the value whose words begin there; of what isn't there, `other`
abbrev pub at_slot : ℕ → Option ℕ → ℕ → ℕ
at_slot word None other = other
at_slot word (Some x) other = 64 * word + x

abbrev pub property_bit : Layout → ℕ → Property → ℕ
property_bit l word (NotEntryOf e) = at_slot word (slot l e) 0
property_bit l word (ComesFrom (EntryOf e)) = at_slot (word + cell_words l) (slot l e) (no_bit l)
property_bit l word (ComesFrom (Old k)) = if nat_lt k l.operands then 64 * (word + 2 * cell_words l) + k else no_bit l
property_bit l word (ComesFrom Undefined) = 64 * (word + 2 * cell_words l) + 62
property_bit l word (ComesFrom Outside) = 64 * (word + 2 * cell_words l) + 63
property_bit l word (Pair d p) =
    if nat_lt d (places_in l) && nat_lt p (places_in l) then 64 * (word + 2 * cell_words l + 1 + p) + d else no_bit l

-- a cell that isn't there keeps its own value of the entry: bit 0 is `Here`
abbrev pub absent_bit : Layout → ℕ → Property → ℕ
absent_bit l c (NotEntryOf e) = if c == e then no_bit l else 0
absent_bit l c (ComesFrom (EntryOf e)) = if c == e then 0 else no_bit l
absent_bit l c property = no_bit l

abbrev pub cell_bit : Layout → ℕ → Property → Option ℕ → ℕ
cell_bit l c property None = absent_bit l c property
cell_bit l c property (Some x) = property_bit l (block_at l x) property

abbrev pub overwriter_bit : Layout → ℕ → Option ℕ → ℕ
overwriter_bit l d None = no_bit l
overwriter_bit l d (Some x) = if nat_lt d (places_in l) then 64 * (block_at l x + value_words l) + d else no_bit l

-- Between instructions nothing is claimed of hands, so that each fact of theirs is `Here`.
abbrev pub fact_bit : Layout → Fact → ℕ
fact_bit l Here = 0
fact_bit l DirectionSet = 1
fact_bit l (Unwritten k b) = if nat_lt k l.operands && nat_lt b 64 then 64 * (1 + k) + b else no_bit l
fact_bit l (Has c property) = if is_hand c then 0 else cell_bit l c property (slot l c)
fact_bit l (Overwrites d c) = if is_byte c then overwriter_bit l d (slot l c) else no_bit l

-- the facts in a row
abbrev pub shown : Layout → List ℕ → Facts
shown l row fact = facts_in row (fact_bit l fact)

-- what a value has whose words are these
abbrev pub shown_value : Layout → List ℕ → Property → Bool
shown_value l value property = facts_in value (property_bit l 0 property)
