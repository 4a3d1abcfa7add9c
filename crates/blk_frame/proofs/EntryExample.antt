-- A worked example of a state in which a block may begin: `saved` is 4 of the 16 bytes of a range that all may reach,
-- and the counter, which is changing, is a range of its own.
use Rattle.std.proofs.Common.{◌≡◌, ◌≢◌, inl, inr, ℕ, zero, suc, ◌+◌, ◌%◌, ◌^◌, ◌<◌, ◌≤◌, nat_le, nat_lt, ◌&&◌, List, [], ◌∷◌, length, replicate, All, true, false, None, Some, slice_get, slice_index_or, refl, ap, sym, subst, ◌∙◌, arith}
use Rattle.std.specs.List.{list_all}
use Rattle.std.proofs.lemmas.Bool.{and_parts, and_from, ltb-true, leb-true, lt-ltb, le-leb}
use Rattle.std.proofs.lemmas.Bool.Decides.{nat_tests}
use Rattle.std.proofs.lemmas.List.Sums.{AllPass-from_list_all}
use Rattle.asm_core.specs.Lists.{IsMember}
use Rattle.asm_core.specs.Placement.{spot_of}
use Rattle.asm_core.specs.Machine.{covers, RangesApart, IsRange, IsMachine}
use Rattle.asm_core.specs.Memory.{address_of}
use Rattle.asm_core.specs.Entry.{IsChanging, HasObject, HoldsObjectByte, IsEntry}
use Rattle.asm_core.specs.declared.interface.OperandIface.{OperandIface}
use Rattle.asm_core.specs.declared.placement.Form.{Form}
use Rattle.asm_core.specs.declared.placement.Spot.{Spot}
use Rattle.asm_core.specs.declared.machine.Range.{Range}
use Rattle.asm_core.specs.declared.machine.Machine.{Machine}
use Rattle.blk_frame.proofs.ExampleOperands.{saved, counter, example, memory_shape, stack_slot, global, memory_placement, found, each_operand, counter_changes, only_counter}

-- ---- the state

-- 16 bytes from esp on, which all may reach, and the counter's own 4 bytes
abbrev stack_frame : Range
stack_frame = record { base = 4096; bytes = replicate 16 0; writable = true; owner = None }

abbrev counter_object : Range
counter_object = record { base = 1048576; bytes = 1 ∷ 2 ∷ 3 ∷ 4 ∷ []; writable = true; owner = Some 1 }

abbrev pub entry : Machine
entry = record {
  regs = 1 ∷ 2 ∷ 3 ∷ 4 ∷ 5 ∷ 6 ∷ 7 ∷ [];
  esp = 4096;
  flags = record { 0 = 0 };
  ranges = stack_frame ∷ counter_object ∷ [];
  scratch = replicate 64 0;
  scratch_top = 0;
  at = 0;
}

all_below : (n : ℕ) (xs : List ℕ) → list_all (λ x. nat_lt x n) xs ≡ true → All (λ x. x < n) xs
all_below n xs e = λ k d h. ltb-true _ _ (AllPass-from_list_all (λ x. nat_lt x n) xs e k d h)

is_range : (k : ℕ) (d : Range) → k < 2 → IsRange (slice_index_or entry.ranges k d)
is_range zero d below = record { bytes = all_below 256 stack_frame.bytes refl; within = omega arith }
is_range (suc zero) d below = record { bytes = all_below 256 counter_object.bytes refl; within = omega arith }
is_range (suc (suc k)) d below = absurd (omega arith)

frame_apart : RangesApart stack_frame counter_object
frame_apart a first second =
    let low = ltb-true a 4112 (and_parts (nat_le 4096 a) (nat_lt a 4112) first).1 in
    let high = leb-true 1048576 a (and_parts (nat_le 1048576 a) (nat_lt a 1048580) second).0 in
    omega (arith, low, high)

as_apart : (r q : Range) → Some stack_frame ≡ Some r → Some counter_object ≡ Some q → RangesApart r q
as_apart r q first second =
    found (RangesApart r) counter_object q
    (found (λ x. RangesApart x counter_object) stack_frame r frame_apart first) second

ranges_apart : (j k : ℕ) (r q : Range) → slice_get entry.ranges j ≡ Some r → slice_get entry.ranges k ≡ Some q → j ≢ k
    → RangesApart r q
ranges_apart zero zero r q at_j at_k differ = absurd (differ refl)
ranges_apart zero (suc zero) r q at_j at_k differ = as_apart r q at_j at_k
ranges_apart (suc zero) zero r q at_j at_k differ = λ a in_r in_q. as_apart q r at_k at_j a in_q in_r
ranges_apart (suc zero) (suc zero) r q at_j at_k differ = absurd (differ refl)
ranges_apart (suc (suc j)) k r q at_j at_k differ = cc
ranges_apart j (suc (suc k)) r q at_j at_k differ = cc

is_machine : IsMachine entry
is_machine = record {
  reg_count = refl;
  regs = all_below 4294967296 entry.regs refl;
  esp = omega arith;
  flags = omega arith;
  ranges = is_range;
  apart = ranges_apart;
  scratch_count = refl;
  scratch = all_below 256 entry.scratch refl;
  pushed = omega arith;
  at = omega arith;
}

-- ---- the objects

each_range : (P : Range → Type 0) → P stack_frame → P counter_object → (r : Range) → IsMember r entry.ranges → P r
each_range P first second r (inl e) = subst P (sym e) first
each_range P first second r (inr (inl e)) = subst P (sym e) second
each_range P first second r (inr (inr none)) = absurd none

uncovered : (r : Range) (a : ℕ) → a < r.base → covers r a ≡ false
uncovered r a below =
    let outside : nat_le r.base a ≡ false = grind (arith, nat_tests) in
    ap (λ b. b && nat_lt a (r.base + length r.bytes)) outside

covered : (r : Range) (a : ℕ) → r.base ≤ a → a < r.base + length r.bytes → covers r a ≡ true
covered r a from below = and_from _ _ (le-leb r.base a from) (lt-ltb a (r.base + length r.bytes) below)

abbrev Object : ℕ → OperandIface → ℕ → Type 0
Object k o address = HasObject example memory_shape memory_placement entry k o address

-- each byte of an object is one of the range that covers it
byte_in : (r : Range) (k : ℕ) (o : OperandIface) (form : Form) → IsMember r entry.ranges → r.writable ≡ true
    → spot_of memory_placement k ≡ Spot.Memory form
    → ((j : ℕ) → j < o.size → covers r ((address_of form entry + j) % 2 ^ 32) ≡ true)
    → (address j : ℕ) → Object k o address → j < o.size
    → HoldsObjectByte o ((address + j) % 2 ^ 32) r.owner entry.ranges
byte_in r k o form member writable at covers_each address j object below = record {
  range = r;
  is_range = member;
  holds = ap (λ n. covers r ((n + j) % 2 ^ 32)) here ∙ covers_each j below;
  owned = refl;
  writable = λ out. writable;
}
  where
    here : address ≡ address_of form entry
    here =
        let same : object.in_memory.0 ≡ form = cc (at, object.in_memory.1) in
        object.in_memory.2 ∙ ap (λ f. address_of f entry) same

abbrev HasBytes : ℕ → OperandIface → Type 0
HasBytes k o = (address j : ℕ) → Object k o address → j < o.size
    → ((IsChanging example k → ⊥) → HoldsObjectByte o ((address + j) % 2 ^ 32) None entry.ranges)
    × (IsChanging example k → HoldsObjectByte o ((address + j) % 2 ^ 32) (Some k) entry.ranges)

objects : (k : ℕ) (o : OperandIface) → slice_get example.operands k ≡ Some o → HasBytes k o
objects = each_operand HasBytes
    (λ address j object below. (
      λ still. byte_in stack_frame 0 saved stack_slot (inl refl) refl refl
          (λ n lt. covered stack_frame ((4104 + n) % 2 ^ 32) (omega (arith, lt)) (omega (arith, lt)))
          address j object below,
      λ moves. absurd (omega (arith, only_counter 0 moves)),
    ))
    (λ address j object below. (
      λ still. absurd (still counter_changes),
      λ moves. byte_in counter_object 1 counter global (inr (inl refl)) refl refl
          (λ n lt. covered counter_object ((1048576 + n) % 2 ^ 32) (omega (arith, lt)) (omega (arith, lt)))
          address j object below,
    ))
    (λ address j object below. cc (object.in_memory.1))
    (λ address j object below. cc (object.in_memory.1))

abbrev IsOwn : Range → Type 0
IsOwn r = (k : ℕ) → r.owner ≡ Some k
    → IsChanging example k × ((o : OperandIface) × Object k o r.base × (length r.bytes ≡ o.size))

own : (k : ℕ) → 1 ≡ k → IsChanging example k × ((o : OperandIface) × Object k o 1048576 × (4 ≡ o.size))
own k same =
    subst (λ n. IsChanging example n × ((o : OperandIface) × Object n o 1048576 × (4 ≡ o.size))) same
    (counter_changes, (counter, record { is_operand = refl; untied = refl; in_memory = (global, refl, refl) }, refl))

pub may_begin : IsEntry example memory_shape memory_placement entry
may_begin = record {
  machine = is_machine;
  start = refl;
  nothing_pushed = refl;
  direction = refl;
  scratch_within = omega arith;
  scratch_apart = λ r a member over below.
      each_range (λ q. covers q a ≡ false) (uncovered stack_frame a (omega (arith, below)))
      (uncovered counter_object a (omega (arith, below))) r member;
  objects = λ k o address j object below. objects k o object.is_operand address j object below;
  owned = λ r k member owner. each_range IsOwn (λ n is. cc) (λ n is. own n cc) r member k owner;
}
