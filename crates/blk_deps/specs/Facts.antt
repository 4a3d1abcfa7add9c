-- What a path shows of the values of cells, and what an instruction does to it. Each fact is one that a path shows by itself;
-- what has to hold on every path is kept as its contrary, so that each fact behind an instruction has one cause before it. This
-- project's own.
use Rattle.std.specs.Prelude.{ℕ, ◌==◌, ◌&&◌, ◌||◌, nat_lt, nat_le, ◌+◌, ◌-◌, not, Bool, true, false, List, [], ◌∷◌, Option, None, Some, slice_get, if◌then◌else◌}
use Rattle.std.specs.List.{range_with_len, list_any}
use Rattle.blk_deps.specs.Cells.{is_byte, place_of, byte_of, is_hand, hand_cell}
use Rattle.blk_deps.specs.declared.fact.Provenance.{Provenance}
use Rattle.blk_deps.specs.declared.fact.Provenance.TheVariants.{EntryOf, Old, Undefined, Outside}
use Rattle.blk_deps.specs.declared.fact.Property.{Property}
use Rattle.blk_deps.specs.declared.fact.Property.TheVariants.{NotEntryOf, ComesFrom, Pair}
use Rattle.blk_deps.specs.declared.fact.Fact.{Fact}
use Rattle.blk_deps.specs.declared.fact.Fact.TheVariants.{Here, Has, Overwrites, Unwritten, DirectionSet}
use Rattle.blk_deps.specs.declared.step.Name.{Name}
use Rattle.blk_deps.specs.declared.step.Read.{Read}
use Rattle.blk_deps.specs.declared.step.Put.{Put}
use Rattle.blk_deps.specs.declared.step.Name.TheVariants as names

abbrev pub Facts : Type 0
Facts = Fact → Bool

-- ---- values

-- A value as it is read from cell u: each place that may have overwritten the cell makes a pair with the cell's place.
abbrev pub has_as_read : Facts → ℕ → Property → Bool
has_as_read s u (Pair d p) = s (Has u (Pair d p)) || ((is_byte u && p == place_of u) && s (Overwrites d u))
has_as_read s u property = s (Has u property)

-- some byte of those from the first on of operand k isn't written yet
abbrev pub some_unwritten : Facts → ℕ → ℕ → Bool
some_unwritten s k count = list_any (λ b. s (Unwritten k b)) (range_with_len 0 count)

-- what a value has that is computed of this thing alone
abbrev pub has_from : Facts → Name → Property → Bool
has_from s name (NotEntryOf c) = s Here
has_from s (names.Cell u) property = has_as_read s u property
has_from s (names.Load k count) (ComesFrom (Old j)) = j == k && some_unwritten s k count
has_from s names.Undefined (ComesFrom Undefined) = s Here
has_from s names.Outside (ComesFrom Outside) = s Here
has_from s name property = false

-- A computed value is no cell's entry value; it comes from what it is computed of.
abbrev pub has_computed : Facts → List Name → Property → Bool
has_computed s computed_of (NotEntryOf c) = s Here
has_computed s computed_of property = list_any (λ name. has_from s name property) computed_of

-- what is read into a hand
abbrev pub has_read : Facts → Read → Property → Bool
has_read s (Read.Copy u) property = has_as_read s u property
has_read s (Read.Compute of) property = has_computed s of property

-- ---- reads

-- nothing is claimed of a hand into which nothing is read
abbrev pub in_hand : Facts → Option Read → Property → Bool
in_hand s None property = s Here
in_hand s (Some read) property = has_read s read property

-- All reads of an instruction come before its writes: the n-th is in hand n.
abbrev pub after_reads : List Read → Facts → Facts
after_reads reads s (Has c property) = if is_hand c then in_hand s (slice_get reads (c - 218)) property else s (Has c property)
after_reads reads s fact = s fact

-- ---- writes

-- the value of a cell has a pair
abbrev pub is_paired : Facts → ℕ → Bool
is_paired s c = list_any (λ p. list_any (λ d. s (Has c (Pair d p))) (range_with_len 0 37)) (range_with_len 0 37)

-- Where the value in a hand is put at u, cell c is overwritten, unless the value is u's own of the entry and c still holds its own.
abbrev pub is_overwriting : Facts → ℕ → ℕ → ℕ → Bool
is_overwriting s u hand c = (s (Has (hand_cell hand) (NotEntryOf u)) || is_paired s (hand_cell hand)) || (s (Has c (NotEntryOf c)) || is_paired s c)

-- the overwriters of c after that: u loses its own, and a cell of the same byte that may be in u's register gains u's place or loses it
abbrev pub overwrites_after : (ℕ → ℕ → Bool) → Facts → ℕ → ℕ → ℕ → ℕ → Bool
overwrites_after shares s u hand d c =
    if c == u then false
    else if d == place_of u && byte_of c == byte_of u then is_byte c && (shares d (place_of c) && is_overwriting s u hand c)
    else s (Overwrites d c)

abbrev pub is_stored : ℕ → ℕ → ℕ → ℕ → ℕ → Bool
is_stored operand first count k b = k == operand && (nat_le first b && nat_lt b (first + count))

abbrev pub put_at : Facts → ℕ → ℕ → Fact → Bool
put_at s u hand (Has c property) = if c == u then s (Has (hand_cell hand) property) else s (Has c property)
put_at s u hand fact = s fact

-- The facts after a write. `shares` tells which places may be in one register.
abbrev pub after_put : (ℕ → ℕ → Bool) → Put → Facts → Facts
after_put shares (Put.Place u hand) s (Overwrites d c) = overwrites_after shares s u hand d c
after_put shares (Put.Place u hand) s fact = put_at s u hand fact
after_put shares (Put.Plain u hand) s fact = put_at s u hand fact
after_put shares (Put.Store operand first count) s (Unwritten k b) = if is_stored operand first count k b then false else s (Unwritten k b)
after_put shares (Put.Store operand first count) s fact = s fact
after_put shares (Put.Direction on) s DirectionSet = on && s Here
after_put shares (Put.Direction on) s fact = s fact

abbrev pub after_puts : (ℕ → ℕ → Bool) → List Put → Facts → Facts
after_puts shares [] s = s
after_puts shares (put ∷ puts) s = after_puts shares puts (after_put shares put s)

-- what the hands hold is forgotten: nothing is claimed of it any more
abbrev pub dropped : Facts → Facts
dropped s (Has c property) = if is_hand c then s Here else s (Has c property)
dropped s fact = s fact

-- The facts behind an instruction with these reads and writes.
abbrev pub after_moves : (ℕ → ℕ → Bool) → List Read → List Put → Facts → Facts
after_moves shares reads puts s = dropped (after_puts shares puts (after_reads reads s))
