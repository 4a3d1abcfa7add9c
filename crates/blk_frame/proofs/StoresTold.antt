-- A byte of memory that a step changes is reached by a good access of the row that tells the line's entries.
use Rattle.std.proofs.Common.{◌≡◌, ◌⊎◌, inl, inr, ℕ, zero, suc, ◌+◌, ◌%◌, ◌^◌, ◌<◌, ◌&&◌, not, List, [], ◌∷◌, length, Bool, true, false, if◌then◌else◌, Option, Some, slice_get, refl, subst, arith}
use Rattle.std.specs.List.{list_any, list_all}
use Rattle.std.proofs.lemmas.Bool.{both_ways, and_parts, or_cases}
use Rattle.asm_core.specs.Lists.{IsMember}
use Rattle.asm_core.specs.Machine.{covers, byte_at}
use Rattle.asm_core.specs.Memory.{is_open_to, lets_in, in_scratch, is_good_byte, is_good_access}
use Rattle.asm_core.specs.MicroOps.{destination_of, destinations_of, is_good_op, is_over, values_of, row_ended}
use Rattle.asm_core.specs.Entries.{writes_of}
use Rattle.asm_core.specs.Reading.Placed.{placed_place, operand_under, inst_under}
use Rattle.asm_core.specs.RowLaws.{HoldsAfter, Component, IsHit, IsHitByOne, operand_byte, written_byte, IsToldByOne}
use Rattle.asm_core.specs.Rows.{is_zero_count, same_register, line_row, entry_row}
use Rattle.asm_core.specs.Table.{is_shift, self_row}
use Rattle.asm_core.specs.Table.Bits.{no_shift_row}
use Rattle.asm_core.specs.Steps.{Stand, reads_at}
use Rattle.asm_core.specs.declared.reg.Slice.{Slice}
use Rattle.asm_core.specs.declared.inst.Op.{Op}
use Rattle.asm_core.specs.declared.inst.Inst.{Inst}
use Rattle.asm_core.specs.declared.sym.Place.{Place}
use Rattle.asm_core.specs.declared.sym.Arg.{Arg}
use Rattle.asm_core.specs.declared.sym.Sym.{Sym}
use Rattle.asm_core.specs.declared.placement.Placement.{Placement}
use Rattle.asm_core.specs.declared.micro_op.MicroOp.{MicroOp}
use Rattle.asm_core.specs.declared.row.Write.{Write}
use Rattle.asm_core.specs.declared.row.Written.{Written}
use Rattle.asm_core.specs.declared.machine.Range.{Range}
use Rattle.asm_core.specs.declared.machine.Machine.{Machine}
use Rattle.asm_core.proofs.CopyLaws.{done_holds}
use Rattle.asm_core.proofs.DecideLaws.{holds_of}
use Rattle.asm_core.proofs.Puts.{put_all_keeps}
use Rattle.asm_core.proofs.StepLaws.{ended_holds}
use Rattle.x86_table.specs.TableLaws.{IsStepped}
use Rattle.blk_deps.specs.Line.{writes_in}

-- ---- what a good access reaches

-- a range that lets the access in has the byte
pub record IsReached (m : Machine) (through : Option ℕ) (a : ℕ) : Type 0 where
  pub range : Range
  pub is_range : IsMember range m.ranges
  pub here : covers range a ≡ true
  pub open_to : is_open_to range.owner through ≡ true

range_in : (test : Range → Bool) (rs : List Range) → list_any test rs ≡ true → (r : Range) × IsMember r rs
    × (test r ≡ true)
range_in test [] is = cc
range_in test (r ∷ rs) is = elim (or_cases (test r) (list_any test rs) is) [
  | inl here ↦ (r, inl refl, here)
  | inr later ↦ let rest = range_in test rs later in (rest.0, inr rest.1, rest.2)
]

byte_reached : (m : Machine) (through : Option ℕ) (store : Bool) (a : ℕ) → is_good_byte m through store a ≡ true
    → IsReached m through a
byte_reached m through store a good =
    let found = range_in (lets_in through store a) m.ranges
    (and_parts (list_any (lets_in through store a) m.ranges) (not (in_scratch m a)) good).0 in
    let first = (and_parts (covers found.0 a && is_open_to found.0.owner through) _ found.2).0 in
    let both = and_parts (covers found.0 a) (is_open_to found.0.owner through) first in
    record { range = found.0; is_range = found.1; here = both.0; open_to = both.1 }

pub access_reached : (m : Machine) (through : Option ℕ) (store : Bool) (n a o : ℕ)
    → is_good_access m through store n a ≡ true → o < n → IsReached m through ((a + o) % 2 ^ 32)
access_reached m through store zero a o good small = absurd (omega (arith, small))
access_reached m through store (suc n) a zero good small =
    subst (λ x. IsReached m through (x % 2 ^ 32)) (no_more a)
    (byte_reached m through store (a % 2 ^ 32)
    (and_parts (is_good_byte m through store (a % 2 ^ 32)) (is_good_access m through store n (a + 1)) good).0)
  where
    no_more : (a : ℕ) → a ≡ a + 0
    no_more a = omega arith
access_reached m through store (suc n) a (suc o) good small =
    subst (λ x. IsReached m through (x % 2 ^ 32)) (next a o)
    (access_reached m through store n (a + 1) o
    (and_parts (is_good_byte m through store (a % 2 ^ 32)) (is_good_access m through store n (a + 1)) good).1
    (omega (arith, small)))
  where
    next : (a o : ℕ) → a + 1 + o ≡ a + suc o
    next a o = omega arith

-- ---- what a step changes

-- a micro-operation of the row, all of whose accesses are good, has the byte
pub record IsStoredBy (i : Inst) (m : Machine) (row : List MicroOp) (a : ℕ) : Type 0 where
  pub op : MicroOp
  pub is_op : IsMember op row
  pub good : is_good_op i m op ≡ true
  pub hit : IsHit (destination_of i m op.target) (Component.MemoryByte a)

stored_by : (i : Inst) (m : Machine) (row : List MicroOp) (a : ℕ) → list_all (is_good_op i m) row ≡ true
    → IsHitByOne (destinations_of i m row) (Component.MemoryByte a) → IsStoredBy i m row a
stored_by i m [] a good hit = absurd hit
stored_by i m (op ∷ ops) a good (inl hit) = record {
  op = op;
  is_op = inl refl;
  good = (and_parts (is_good_op i m op) (list_all (is_good_op i m) ops) good).0;
  hit = hit;
}
stored_by i m (op ∷ ops) a good (inr hit) =
    let rest = stored_by i m ops a (and_parts (is_good_op i m op) (list_all (is_good_op i m) ops) good).1 hit in
    record { op = rest.op; is_op = inr rest.is_op; good = rest.good; hit = rest.hit }

module _ (line : Sym) (x : Stand) (a : ℕ) where
  abbrev Kept : Machine → Type 0
  Kept m = byte_at m.ranges a ≡ byte_at x.before.ranges a

  abbrev vs : List ℕ
  vs = values_of line.width (reads_at line x) (line_row line)

  module _ (missed : IsStoredBy (inst_under x.at line) x.before (line_row line) a → ⊥) where
    kept_by : (over : Bool) → is_over (line_row line) vs ≡ over
        → HoldsAfter Kept (row_ended (line_row line) (inst_under x.at line) x.goal x.choice x.words x.before)
    kept_by true e = ended_holds Kept (line_row line) (inst_under x.at line) x.goal vs x.before (λ over. refl)
        (λ none. absurd (both_ways _ none e))
    kept_by false e = done_holds Kept (line_row line) (inst_under x.at line) x.goal vs x.before e (λ good.
        put_all_keeps (destinations_of (inst_under x.at line) x.before (line_row line)) 0 vs x.before
        (Component.MemoryByte a)
        (λ hit. missed (stored_by (inst_under x.at line) x.before (line_row line) a good hit)))

  -- a byte that no such micro-operation has is as it was
  pub byte_kept : IsStepped line x → (IsStoredBy (inst_under x.at line) x.before (line_row line) a → ⊥)
      → byte_at x.after.ranges a ≡ byte_at x.before.ranges a
  byte_kept stepped missed = holds_of Kept
      (row_ended (line_row line) (inst_under x.at line) x.goal x.choice x.words x.before) x.after
      (kept_by missed (is_over (line_row line) vs) refl) stepped.step

-- ---- where the entries' row is another one

abbrev is_register_write : Written → Bool
is_register_write (Written.Arg (Arg.Register place slice)) = true
is_register_write (Written.Flag f) = true
is_register_write to = false

no_byte : (p : Placement) (m : Machine) (place : Place) (slice : Slice) (o a : ℕ)
    → operand_byte (operand_under p (Arg.Register place slice)) o m ≡ Some (Component.MemoryByte a) → ⊥
no_byte p m place slice o a = by (placed_place p place) refl
  where
    by : (q : Place) → placed_place p place ≡ q
        → operand_byte (operand_under p (Arg.Register place slice)) o m ≡ Some (Component.MemoryByte a) → ⊥
    by (Place.Reg r) e is = let there = rw e at is in cc
    by (Place.Operand k) e is = let there = rw e at is in cc

write_apart : (p : Placement) (m : Machine) (to : Written) (o a : ℕ) → is_register_write to ≡ true
    → written_byte p m to o ≡ Some (Component.MemoryByte a) → ⊥
write_apart p m (Written.Arg (Arg.Register place slice)) o a here is = no_byte p m place slice o a is
write_apart p m (Written.Flag f) o a here is = cc
write_apart p m to o a here is = cc

none_told : (p : Placement) (m : Machine) (ws : List Write) (a : ℕ)
    → list_all (λ (w : Write). is_register_write w.to) ws ≡ true
    → IsToldByOne p m ws (Component.MemoryByte a) → ⊥
none_told p m [] a all told = told
none_told p m (w ∷ ws) a all (inl told) = write_apart p m w.to (w.first + told.0) a
    (and_parts (is_register_write w.to) _ all).0 told.2
none_told p m (w ∷ ws) a all (inr told) = none_told p m ws a (and_parts (is_register_write w.to) _ all).1 told

touches : (line : Sym) (n : ℕ) → list_all (λ (w : Write). is_register_write w.to) (writes_of (no_shift_row n) line)
    ≡ true
touches line zero = refl
touches line (suc zero) = refl
touches line (suc (suc zero)) = refl
touches line (suc (suc (suc n))) = refl

second_register : (first second : Option Arg) → same_register first second ≡ true → (place : Place) × (slice : Slice)
    × (second ≡ Some (Arg.Register place slice))
second_register (Some (Arg.Register p slice)) (Some (Arg.Register q other)) is = (q, other, refl)
second_register first second is = cc

module _ (line : Sym) where
  abbrev AreRegisters : List MicroOp → Type 0
  AreRegisters row = list_all (λ (w : Write). is_register_write w.to) (writes_of row line) ≡ true

  self_registers : (op : Op) → same_register (slice_get line.args 0) (slice_get line.args 1) ≡ true
      → (self_row op (line_row line) ≡ line_row line) ⊎ AreRegisters (self_row op (line_row line))
  self_registers Op.Xor same =
      let second = second_register (slice_get line.args 0) (slice_get line.args 1) same in
      let there = second.2 in inr (rw there refl)
  self_registers Op.Sub same =
      let second = second_register (slice_get line.args 0) (slice_get line.args 1) same in
      let there = second.2 in inr (rw there refl)
  self_registers Op.Sbb same =
      let second = second_register (slice_get line.args 0) (slice_get line.args 1) same in
      let there = second.2 in inr (rw there refl)
  self_registers op same = inl refl

  by_tests : (shift self : Bool)
      → same_register (slice_get line.args 0) (slice_get line.args 1) ≡ self
      → ((if shift then no_shift_row (length line.args) else if self then self_row line.op
      (line_row line) else line_row line) ≡ line_row line)
      ⊎ AreRegisters (if shift then no_shift_row (length line.args) else if self then self_row line.op
      (line_row line) else line_row line)
  by_tests true self e = inr (touches line (length line.args))
  by_tests false true e = self_registers line.op e
  by_tests false false e = inl refl

  -- the row that tells a line's entries is the line's own, or writes no memory
  pub entry_cases : (entry_row line ≡ line_row line)
      ⊎ ((p : Placement) (m : Machine) (a : ℕ) → IsToldByOne p m (writes_in line) (Component.MemoryByte a) → ⊥)
  entry_cases = with_told (by_tests (is_shift line.op && is_zero_count (slice_get line.args 0))
      (same_register (slice_get line.args 0) (slice_get line.args 1)) refl)
    where
      with_told : (entry_row line ≡ line_row line) ⊎ AreRegisters (entry_row line)
          → (entry_row line ≡ line_row line)
          ⊎ ((p : Placement) (m : Machine) (a : ℕ) → IsToldByOne p m (writes_in line) (Component.MemoryByte a) → ⊥)
      with_told (inl same) = inl same
      with_told (inr all) = inr (λ p m a told. none_told p m (writes_in line) a all told)
