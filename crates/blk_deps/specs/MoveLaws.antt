-- Each fact behind an instruction has one cause before it, and so has each depth.
use Rattle.std.specs.Prelude.{ℕ, ◌+◌, ◌-◌, ◌==◌, ◌&&◌, nat_lt, nat_le, Bool, List, [], ◌∷◌, Option, None, Some, slice_get}
use Rattle.std.specs.List.{range_with_len}
use Rattle.asm_core.specs.declared.sym.Sym.{Sym}
use Rattle.asm_core.specs.declared.lines.Graph.{Graph}
use Rattle.dataflow.specs.Cause.{IsSingle, HasOneCause}
use Rattle.dataflow.specs.Causes.{one_fact, never, either, where_true, chosen, some_of, in_turn, unchanged}
use Rattle.blk_deps.specs.Cells.{is_byte, place_of, byte_of, is_hand, hand_cell}
use Rattle.blk_deps.specs.Facts.{Facts, has_as_read, some_unwritten, has_from, has_computed, has_read, in_hand, after_reads, is_paired, is_overwriting, overwrites_after, is_stored, put_at, after_put, after_puts, dropped, after_moves}
use Rattle.blk_deps.specs.Stack.{pushes, pops, depths_behind, depths_by, depths_after, overruns_by, overruns}
use Rattle.blk_deps.specs.declared.depth.Depth.{Depth}
use Rattle.blk_deps.specs.declared.fact.Provenance.TheVariants.{EntryOf, Old, Undefined, Outside}
use Rattle.blk_deps.specs.declared.fact.Property.{Property}
use Rattle.blk_deps.specs.declared.fact.Property.TheVariants.{NotEntryOf, ComesFrom, Pair}
use Rattle.blk_deps.specs.declared.fact.Fact.{Fact}
use Rattle.blk_deps.specs.declared.fact.Fact.TheVariants.{Here, Has, Overwrites, Unwritten, DirectionSet}
use Rattle.blk_deps.specs.declared.step.Name.{Name}
use Rattle.blk_deps.specs.declared.step.Read.{Read}
use Rattle.blk_deps.specs.declared.step.Put.{Put}
use Rattle.blk_deps.specs.declared.step.Name.TheVariants as names

-- ---- reads

pub as_read_single : (u : ℕ) (property : Property) → IsSingle (λ (s : Facts). has_as_read s u property)
as_read_single u (NotEntryOf c) = one_fact (Has u (NotEntryOf c))
as_read_single u (ComesFrom x) = one_fact (Has u (ComesFrom x))
as_read_single u (Pair d p) = either (one_fact (Has u (Pair d p)))
    (where_true (is_byte u && p == place_of u) (one_fact (Overwrites d u)))

pub unwritten_single : (k count : ℕ) → IsSingle (λ (s : Facts). some_unwritten s k count)
unwritten_single k count = some_of (range_with_len 0 count) (λ b. one_fact (Unwritten k b))

pub from_single : (name : Name) (property : Property) → IsSingle (λ (s : Facts). has_from s name property)
from_single name (NotEntryOf c) = one_fact Here
from_single (names.Cell u) (ComesFrom x) = as_read_single u (ComesFrom x)
from_single (names.Cell u) (Pair d p) = as_read_single u (Pair d p)
from_single (names.Load k count) (ComesFrom (EntryOf e)) = never
from_single (names.Load k count) (ComesFrom (Old j)) = where_true (j == k) (unwritten_single k count)
from_single (names.Load k count) (ComesFrom Undefined) = never
from_single (names.Load k count) (ComesFrom Outside) = never
from_single (names.Load k count) (Pair d p) = never
from_single names.Undefined (ComesFrom (EntryOf e)) = never
from_single names.Undefined (ComesFrom (Old j)) = never
from_single names.Undefined (ComesFrom Undefined) = one_fact Here
from_single names.Undefined (ComesFrom Outside) = never
from_single names.Undefined (Pair d p) = never
from_single names.Outside (ComesFrom (EntryOf e)) = never
from_single names.Outside (ComesFrom (Old j)) = never
from_single names.Outside (ComesFrom Undefined) = never
from_single names.Outside (ComesFrom Outside) = one_fact Here
from_single names.Outside (Pair d p) = never

pub computed_single : (of : List Name) (property : Property) → IsSingle (λ (s : Facts). has_computed s of property)
computed_single of (NotEntryOf c) = one_fact Here
computed_single of (ComesFrom x) = some_of of (λ name. from_single name (ComesFrom x))
computed_single of (Pair d p) = some_of of (λ name. from_single name (Pair d p))

pub read_single : (read : Read) (property : Property) → IsSingle (λ (s : Facts). has_read s read property)
read_single (Read.Copy u) property = as_read_single u property
read_single (Read.Compute of) property = computed_single of property

in_hand_single : (read : Option Read) (property : Property) → IsSingle (λ (s : Facts). in_hand s read property)
in_hand_single None property = one_fact Here
in_hand_single (Some read) property = read_single read property

pub reads_law : (reads : List Read) → HasOneCause (after_reads reads)
reads_law reads = record { each = at } where
  at : (fact : Fact) → IsSingle (λ (s : Facts). after_reads reads s fact)
  at (Has c property) = chosen (is_hand c) (in_hand_single (slice_get reads (c - 218)) property)
      (one_fact (Has c property))
  at Here = one_fact Here
  at (Overwrites d c) = one_fact (Overwrites d c)
  at (Unwritten k b) = one_fact (Unwritten k b)
  at DirectionSet = one_fact DirectionSet

-- ---- writes

pub paired_single : (c : ℕ) → IsSingle (λ (s : Facts). is_paired s c)
paired_single c = some_of (range_with_len 0 37) (λ p. some_of (range_with_len 0 37) (λ d. one_fact (Has c (Pair d p))))

overwriting_single : (u hand c : ℕ) → IsSingle (λ (s : Facts). is_overwriting s u hand c)
overwriting_single u hand c =
    either
    (either (one_fact (Has (hand_cell hand) (NotEntryOf u))) (paired_single (hand_cell hand)))
    (either (one_fact (Has c (NotEntryOf c))) (paired_single c))

overwrites_single : (shares : ℕ → ℕ → Bool) (u hand d c : ℕ) → IsSingle
    (λ (s : Facts). overwrites_after shares s u hand d c)
overwrites_single shares u hand d c =
    chosen (c == u) never
    (chosen (d == place_of u && byte_of c == byte_of u)
    (where_true (is_byte c) (where_true (shares d (place_of c)) (overwriting_single u hand c)))
    (one_fact (Overwrites d c)))

put_at_single : (u hand : ℕ) (fact : Fact) → IsSingle (λ (s : Facts). put_at s u hand fact)
put_at_single u hand (Has c property) = chosen (c == u) (one_fact (Has (hand_cell hand) property))
    (one_fact (Has c property))
put_at_single u hand Here = one_fact Here
put_at_single u hand (Overwrites d c) = one_fact (Overwrites d c)
put_at_single u hand (Unwritten k b) = one_fact (Unwritten k b)
put_at_single u hand DirectionSet = one_fact DirectionSet

put_single : (shares : ℕ → ℕ → Bool) (put : Put) (fact : Fact) → IsSingle (λ (s : Facts). after_put shares put s fact)
put_single shares (Put.Place u hand) (Overwrites d c) = overwrites_single shares u hand d c
put_single shares (Put.Place u hand) Here = one_fact Here
put_single shares (Put.Place u hand) (Has c property) = put_at_single u hand (Has c property)
put_single shares (Put.Place u hand) (Unwritten k b) = one_fact (Unwritten k b)
put_single shares (Put.Place u hand) DirectionSet = one_fact DirectionSet
put_single shares (Put.Plain u hand) fact = put_at_single u hand fact
put_single shares (Put.Store operand first count) (Unwritten k b) =
    chosen (is_stored operand first count k b) never (one_fact (Unwritten k b))
put_single shares (Put.Store operand first count) Here = one_fact Here
put_single shares (Put.Store operand first count) (Has c property) = one_fact (Has c property)
put_single shares (Put.Store operand first count) (Overwrites d c) = one_fact (Overwrites d c)
put_single shares (Put.Store operand first count) DirectionSet = one_fact DirectionSet
put_single shares (Put.Direction on) DirectionSet = where_true on (one_fact Here)
put_single shares (Put.Direction on) Here = one_fact Here
put_single shares (Put.Direction on) (Has c property) = one_fact (Has c property)
put_single shares (Put.Direction on) (Overwrites d c) = one_fact (Overwrites d c)
put_single shares (Put.Direction on) (Unwritten k b) = one_fact (Unwritten k b)

pub puts_law : (shares : ℕ → ℕ → Bool) (puts : List Put) → HasOneCause (after_puts shares puts)
puts_law shares [] = unchanged
puts_law shares (put ∷ puts) = in_turn (record { each = put_single shares put }) (puts_law shares puts)

-- ---- instructions

dropped_law : HasOneCause dropped
dropped_law = record { each = at } where
  at : (fact : Fact) → IsSingle (λ (s : Facts). dropped s fact)
  at (Has c property) = chosen (is_hand c) (one_fact Here) (one_fact (Has c property))
  at Here = one_fact Here
  at (Overwrites d c) = one_fact (Overwrites d c)
  at (Unwritten k b) = one_fact (Unwritten k b)
  at DirectionSet = one_fact DirectionSet

pub moves_law : (shares : ℕ → ℕ → Bool) (reads : List Read) (puts : List Put)
    → HasOneCause (after_moves shares reads puts)
moves_law shares reads puts = in_turn (in_turn (reads_law reads) (puts_law shares puts)) dropped_law

-- ---- depths

behind_law : (push pop : Bool) → HasOneCause (depths_behind push pop)
behind_law push pop = record { each = at } where
  at : (depth : Depth) → IsSingle (λ (before : Depth → Bool). depths_behind push pop before depth)
  at depth =
      chosen push (where_true (nat_lt 0 depth.0 && nat_le depth.0 16) (one_fact (record { 0 = depth.0 - 1 })))
      (chosen pop (where_true (nat_lt depth.0 16) (one_fact (record { 0 = depth.0 + 1 }))) (one_fact depth))

pub depths_law : (g : Graph) (n : ℕ) → HasOneCause (depths_after g n)
depths_law g n = by (slice_get g.insts n) where
  by : (line : Option Sym) → HasOneCause (depths_by line)
  by None = unchanged
  by (Some line) = behind_law (pushes line) (pops line)

pub overruns_single : (g : Graph) (n : ℕ) → IsSingle (overruns g n)
overruns_single g n = by (slice_get g.insts n) where
  by : (line : Option Sym) → IsSingle (overruns_by line)
  by None = never
  by (Some line) = either (where_true (pushes line) (one_fact (record { 0 = 16 })))
      (where_true (pops line) (one_fact (record { 0 = 0 })))
