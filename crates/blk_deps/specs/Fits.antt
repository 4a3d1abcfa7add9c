-- What rows, values and hands of words hold, and which reads and writes speak of what a layout has.
use Rattle.std.specs.Prelude.{◌≡◌, ℕ, ◌+◌, ◌*◌, ◌<◌, ◌≤◌, ◌&&◌, ◌||◌, nat_lt, Bool, true, false, IsTrue, All, List, length, is_some, Some, slice_get, slice_index, if◌then◌else◌}
use Rattle.std.specs.List.{between, list_any, range_with_len}
use Rattle.blk_deps.specs.Cells.{is_byte}
use Rattle.blk_deps.specs.Facts.{Facts, has_as_read, has_from, has_read, after_moves}
use Rattle.blk_deps.specs.Operands.{is_unseen, size_at}
use Rattle.blk_deps.specs.Layout.{places_in, value_words, block_words, row_words, block_at, slot, shown, shown_value}
use Rattle.blk_deps.specs.Ground.{has_bit}
use Rattle.blk_deps.specs.declared.layout.Layout.{Layout}
use Rattle.blk_deps.specs.declared.context.Context.{Context}
use Rattle.blk_deps.specs.declared.fact.Provenance.TheVariants.{EntryOf, Old}
use Rattle.blk_deps.specs.declared.fact.Property.{Property}
use Rattle.blk_deps.specs.declared.fact.Property.TheVariants.{NotEntryOf, ComesFrom, Pair}
use Rattle.blk_deps.specs.declared.fact.Fact.{Fact}
use Rattle.blk_deps.specs.declared.fact.Fact.TheVariants.{Here}
use Rattle.blk_deps.specs.declared.step.Name.{Name}
use Rattle.blk_deps.specs.declared.step.Read.{Read}
use Rattle.blk_deps.specs.declared.step.Put.{Put}
use Rattle.blk_deps.specs.declared.step.Name.TheVariants as names

-- ---- values

abbrev pub has_slot : Layout → ℕ → Bool
has_slot l c = is_some (slot l c)

-- the cell's block begins there
pub record IsBlockOf (l : Layout) (c at : ℕ) : Type 0 where
  pub number : ℕ
  pub is_slot : slot l c ≡ Some number
  pub begins : at ≡ block_at l number
  pub ends : at + block_words l ≤ row_words l

-- the words of a value have a bit for the property
abbrev pub is_kept_in_value : Layout → Property → Bool
is_kept_in_value l (NotEntryOf e) = has_slot l e
is_kept_in_value l (ComesFrom (EntryOf e)) = has_slot l e
is_kept_in_value l (ComesFrom (Old k)) = nat_lt k l.operands
is_kept_in_value l (ComesFrom source) = true
is_kept_in_value l (Pair d p) = nat_lt d (places_in l) && nat_lt p (places_in l)

-- No value is the entry value of a cell that isn't there, and none comes from it.
abbrev pub has_absent : Bool → Property → Bool
has_absent here (NotEntryOf e) = here
has_absent here property = false

-- what the value has that these words hold, on a path that comes here
abbrev pub held : Layout → Bool → List ℕ → Property → Bool
held l here value property =
    if is_kept_in_value l property then shown_value l value property else has_absent here property

-- the words of the value in a hand
abbrev pub hand_words : Layout → List ℕ → ℕ → List ℕ
hand_words l hands n = between (n * block_words l) (n * block_words l + value_words l) hands

-- Each hand holds what is read into it.
pub record HandsHold (l : Layout) (hands : List ℕ) (facts : Facts) (reads : List Read) : Type 0 where
  pub each : (n : ℕ) (read : Read) → slice_get reads n ≡ Some read → (property : Property)
      → held l (facts Here) (hand_words l hands n) property ≡ has_read facts read property

-- the test holds of some two places
unfoldable pub some_pair : (ℕ → ℕ → Bool) → Bool
some_pair test = list_any (λ p. list_any (λ d. test d p) (range_with_len 0 37)) (range_with_len 0 37)

-- what a value is computed of tells all but of which cells it isn't a copy
abbrev pub is_dependence : Property → Bool
is_dependence (NotEntryOf e) = false
is_dependence property = true

-- A value has what it had and what the cell's has, as it is read.
pub record JoinsAsRead (l : Layout) (facts : Facts) (u : ℕ) (old new : List ℕ) : Type 0 where
  pub each : (property : Property)
      → held l (facts Here) new property ≡ (held l (facts Here) old property || has_as_read facts u property)

-- It comes from what it came from and from this thing.
pub record JoinsFrom (l : Layout) (facts : Facts) (name : Name) (old new : List ℕ) : Type 0 where
  pub each : (property : Property) → IsTrue (is_dependence property)
      → shown_value l new property ≡ (shown_value l old property || has_from facts name property)

-- It is what is read.
pub record IsRead (l : Layout) (facts : Facts) (read : Read) (value : List ℕ) : Type 0 where
  pub each : (property : Property) → held l (facts Here) value property ≡ has_read facts read property

-- It comes from what the values in these hands come from.
pub record Collects (l : Layout) (hands : List ℕ) (used : List ℕ) (value : List ℕ) : Type 0 where
  pub each : (property : Property) → IsTrue (is_dependence property)
      → shown_value l value property ≡ list_any (λ h. shown_value l (hand_words l hands h) property) used

-- ---- what fits

abbrev pub fits_name : Layout → Name → Bool
fits_name l (names.Cell u) = has_slot l u
fits_name l (names.Load k count) = nat_lt k l.operands
fits_name l name = true

abbrev pub FitsRead : Layout → Read → Type 0
FitsRead l (Read.Copy u) = IsTrue (has_slot l u)
FitsRead l (Read.Compute of) = All (λ name. IsTrue (fits_name l name)) of

-- of so many hands
abbrev pub fits_put : Layout → ℕ → Put → Bool
fits_put l hands (Put.Place u hand) = (is_byte u && has_slot l u) && nat_lt hand hands
fits_put l hands (Put.Plain u hand) = has_slot l u && nat_lt hand hands
fits_put l hands (Put.Store operand first count) = nat_lt operand l.operands
fits_put l hands (Put.Direction on) = true

abbrev pub FitReads : Layout → List Read → Type 0
FitReads l reads = All (FitsRead l) reads

abbrev pub FitPuts : Layout → ℕ → List Put → Type 0
FitPuts l hands puts = All (λ put. IsTrue (fits_put l hands put)) puts

-- the reads and writes of an instruction speak of cells and operands that there are, and of hands that are filled
pub record FitsLayout (l : Layout) (reads : List Read) (puts : List Put) : Type 0 where
  pub of_reads : FitReads l reads
  pub of_puts : FitPuts l (length reads) puts

-- ---- settings

-- The words tell which places may be in one register, bit q of word p; others aren't.
pub record AreSharers (l : Layout) (shares : ℕ → ℕ → Bool) (sharers : List ℕ) : Type 0 where
  pub count : length sharers ≡ places_in l
  pub bits : (p q : ℕ) → p < places_in l → q < places_in l → has_bit (slice_index sharers p) q ≡ shares p q
  pub no_first : (p q : ℕ) → places_in l ≤ p → shares p q ≡ false
  pub no_second : (p q : ℕ) → places_in l ≤ q → shares p q ≡ false

-- memory that isn't seen has at most 64 bytes
pub record IsSmall (x : Context) : Type 0 where
  pub each : (k : ℕ) → IsTrue (is_unseen x.interface.now x.live.now x.shape.now k) → size_at x.interface.now k ≤ 64

-- ---- an instruction

-- The row shows what it showed, moved by these reads and writes, whatever places share a register by the words.
pub record Moves (l : Layout) (sharers : List ℕ) (reads : List Read) (puts : List Put) (old new : List ℕ) : Type 0 where
  pub facts : (shares : ℕ → ℕ → Bool) → AreSharers l shares sharers
      → (fact : Fact) → shown l new fact ≡ after_moves shares reads puts (shown l old) fact

-- The same, whatever the hands hold.
pub record PutsDown (l : Layout) (sharers hands : List ℕ) (puts : List Put) (old new : List ℕ) : Type 0 where
  pub moves : (reads : List Read) → HandsHold l hands (shown l old) reads → FitPuts l (length reads) puts
      → Moves l sharers reads puts old new
