-- A step of a line leaves a machine whose numbers are those of its fields' types.
use Rattle.std.proofs.Common.{◌≡◌, ◌≢◌, ℕ, zero, suc, ◌+◌, ◌-◌, ◌*◌, ◌/◌, ◌%◌, ◌^◌, ◌<◌, ◌≤◌, nat_le, nat_lt, ◌&&◌, List, [], ◌∷◌, length, Bool, true, false, IsTrue, Option, None, Some, slice_get, slice_index, slice_set, if◌then◌else◌, refl, sym, ap, subst, ◌∙◌, arith}
use Rattle.std.specs.List.{All}
use Rattle.std.specs.Option.{option_map}
use Rattle.std.proofs.lemmas.Bool.{ltb-true}
use Rattle.std.proofs.lemmas.List.{length-set}
use Rattle.std.proofs.lemmas.List.Elements.{All-set, All-map}
use Rattle.std.proofs.lemmas.Option.{slice_get-map}
use Rattle.asm_core.specs.Flag.{with_flag}
use Rattle.asm_core.specs.Machine.{IsMachine, IsRange, RangesApart, Layout, layout_of, layouts_of, covers, reg_in}
use Rattle.asm_core.specs.Memory.{put_byte, with_byte, with_word, with_scratch_word}
use Rattle.asm_core.specs.MicroOps.{arg_at, arg_destination, destination_of, destinations_of, with_part, pushed, put, put_all, next_of, any_value, is_jump, is_stay, is_set}
use Rattle.asm_core.specs.Reading.Placed.{inst_under}
use Rattle.asm_core.specs.Reg.{reg_number}
use Rattle.asm_core.specs.Rows.{line_row}
use Rattle.asm_core.specs.Steps.{Stand}
use Rattle.asm_core.specs.declared.flag.Flag.{Flag}
use Rattle.asm_core.specs.declared.inst.Width.{Width}
use Rattle.asm_core.specs.declared.inst.Inst.{Inst}
use Rattle.asm_core.specs.declared.inst.InstArg.{InstArg}
use Rattle.asm_core.specs.declared.sym.Sym.{Sym}
use Rattle.asm_core.specs.declared.micro_op.Bytes.{Bytes}
use Rattle.asm_core.specs.declared.micro_op.Site.{Site}
use Rattle.asm_core.specs.declared.micro_op.Target.{Target}
use Rattle.asm_core.specs.declared.micro_op.MicroOp.{MicroOp}
use Rattle.asm_core.specs.declared.micro_op.Destination.{Destination}
use Rattle.asm_core.specs.declared.machine.Range.{Range}
use Rattle.asm_core.specs.declared.machine.Machine.{Machine}
use Rattle.asm_core.proofs.MachineLaws.{put_all_words}
use Rattle.x86_table.specs.TableLaws.{IsStepped}
use Rattle.blk_frame.proofs.LineEnds.{values_at, written_at, line_ended}
use Rattle.blk_frame.proofs.LayoutsKept.{layouts_kept}

-- ---- ranges

put_range : (a b : ℕ) (r : Range) → b < 256 → IsRange r → IsRange (put_byte a b r)
put_range a b r small is = by_test (covers r a)
  where
    by_test : (t : Bool) → IsRange (if t then record r { bytes = slice_set r.bytes (a - r.base) b } else r)
    by_test true = record {
      bytes = All-set (λ v. v < 256) r.bytes (a - r.base) b small is.bytes;
      within = subst (λ n. r.base + n ≤ 2 ^ 32) (sym (length-set r.bytes (a - r.base) b)) is.within;
    }
    by_test false = is

byte_ranges : (a b : ℕ) (rs : List Range) → b < 256 → All IsRange rs → All IsRange (with_byte a b rs)
byte_ranges a b rs small are = All-map IsRange (put_byte a b) rs (λ k d within. put_range a b _ small (are k d within))

word_ranges : (n a v : ℕ) (rs : List Range) → All IsRange rs → All IsRange (with_word n a v rs)
word_ranges zero a v rs are = are
word_ranges (suc n) a v rs are = word_ranges n (a + 1) (v / 256) (with_byte (a % 2 ^ 32) (v % 256) rs)
    (byte_ranges (a % 2 ^ 32) (v % 256) rs (omega arith) are)

abbrev AreRangesApart : List Range → Type 0
AreRangesApart rs = (j k : ℕ) (r q : Range) → slice_get rs j ≡ Some r → slice_get rs k ≡ Some q → j ≢ k
    → RangesApart r q

-- the range of that number, where another list has the same layouts
found : (rs qs : List Range) (k : ℕ) (q : Range) → layouts_of qs ≡ layouts_of rs → slice_get qs k ≡ Some q
    → (r : Range) × (slice_get rs k ≡ Some r) × (layout_of q ≡ layout_of r)
found rs qs k q same at = by (slice_get rs k) refl
    (sym (slice_get-map layout_of rs k) ∙ sym (ap (λ ls. slice_get ls k) same) ∙ slice_get-map layout_of qs k
    ∙ ap (option_map layout_of) at)
  where
    by : (o : Option Range) → slice_get rs k ≡ o → option_map layout_of o ≡ Some (layout_of q)
        → (r : Range) × (slice_get rs k ≡ Some r) × (layout_of q ≡ layout_of r)
    by None is e = cc
    by (Some r) is e = (r, is, sym (ap (λ o. elim o [ None ↦ layout_of r | Some l ↦ l ]) e))

abbrev lies_in : Layout → ℕ → Bool
lies_in l a = nat_le l.base a && nat_lt a (l.base + l.size)

apart_kept : (rs qs : List Range) → layouts_of qs ≡ layouts_of rs → AreRangesApart rs → AreRangesApart qs
apart_kept rs qs same apart j k r q at_j at_k differ a in_r in_q =
    let first = found rs qs j r same at_j in
    let second = found rs qs k q same at_k in
    apart j k first.0 second.0 first.1 second.1 differ a (subst (λ l. IsTrue (lies_in l a)) first.2 in_r)
    (subst (λ l. IsTrue (lies_in l a)) second.2 in_q)

-- ---- flags and the scratch

flag_small : (f : Flag) (v n : ℕ) → n < 128 → (with_flag f v (record { 0 = n })).0 < 128
flag_small Flag.Cf v n small = omega (arith, small)
flag_small Flag.Pf v n small = omega (arith, small)
flag_small Flag.Af v n small = omega (arith, small)
flag_small Flag.Zf v n small = omega (arith, small)
flag_small Flag.Sf v n small = omega (arith, small)
flag_small Flag.Of v n small = omega (arith, small)
flag_small Flag.Df v n small = omega (arith, small)

scratch_length : (bytes : List ℕ) (n v : ℕ) → length (with_scratch_word bytes n v) ≡ length bytes
scratch_length bytes n v =
    length-set (slice_set (slice_set (slice_set bytes (4 * n) (v % 256)) (4 * n + 1) (v / 256 % 256)) (4 * n + 2)
    (v / 65536 % 256)) (4 * n + 3) (v / 16777216 % 256)
    ∙ length-set (slice_set (slice_set bytes (4 * n) (v % 256)) (4 * n + 1) (v / 256 % 256)) (4 * n + 2)
    (v / 65536 % 256)
    ∙ length-set (slice_set bytes (4 * n) (v % 256)) (4 * n + 1) (v / 256 % 256)
    ∙ length-set bytes (4 * n) (v % 256)

abbrev AreBytes : List ℕ → Type 0
AreBytes bytes = All (λ b. b < 256) bytes

set_bytes : (bytes : List ℕ) (k b : ℕ) → b < 256 → AreBytes bytes → AreBytes (slice_set bytes k b)
set_bytes bytes k b small are = All-set (λ v. v < 256) bytes k b small are

scratch_bytes : (bytes : List ℕ) (n v : ℕ) → AreBytes bytes → AreBytes (with_scratch_word bytes n v)
scratch_bytes bytes n v are =
    set_bytes _ (4 * n + 3) (v / 16777216 % 256) (omega arith)
    (set_bytes _ (4 * n + 2) (v / 65536 % 256) (omega arith)
    (set_bytes _ (4 * n + 1) (v / 256 % 256) (omega arith)
    (set_bytes bytes (4 * n) (v % 256) (omega arith) are)))

-- ---- what is put

-- the numbers are those of the fields' types, but for registers and the position
record HasNumbers (m : Machine) : Type 0 where
  reg_count : length m.regs ≡ 7
  esp : m.esp < 2 ^ 32
  flags : m.flags.0 < 128
  ranges : All IsRange m.ranges
  scratch_count : length m.scratch ≡ 64
  scratch : AreBytes m.scratch
  pushed : m.scratch_top ≤ 16

-- a word is popped that was pushed
abbrev IsFewPop : Destination → Type 0
IsFewPop (Destination.Pop n) = n ≤ 16
IsFewPop destination = Unit {0}

abbrev AreFewPops : List Destination → Type 0
AreFewPops [] = Unit {0}
AreFewPops (d ∷ ds) = IsFewPop d × AreFewPops ds

put_numbers : (d : Destination) (v : ℕ) (m : Machine) → IsFewPop d → HasNumbers m → HasNumbers (put d v m)
put_numbers Destination.Nowhere v m few h = h
put_numbers (Destination.Register r bytes) v m few h = record {
  reg_count = length-set m.regs (reg_number r) (with_part bytes v (reg_in r m)) ∙ h.reg_count;
  esp = h.esp;
  flags = h.flags;
  ranges = h.ranges;
  scratch_count = h.scratch_count;
  scratch = h.scratch;
  pushed = h.pushed;
}
put_numbers (Destination.Memory a n) v m few h = record {
  reg_count = h.reg_count;
  esp = h.esp;
  flags = h.flags;
  ranges = word_ranges n a v m.ranges h.ranges;
  scratch_count = h.scratch_count;
  scratch = h.scratch;
  pushed = h.pushed;
}
put_numbers (Destination.Flag f) v m few h = record {
  reg_count = h.reg_count;
  esp = h.esp;
  flags = flag_small f v m.flags.0 h.flags;
  ranges = h.ranges;
  scratch_count = h.scratch_count;
  scratch = h.scratch;
  pushed = h.pushed;
}
put_numbers (Destination.Push n) v m few h = by_test (nat_lt n 16) refl
  where
    by_test : (t : Bool) → nat_lt n 16 ≡ t → HasNumbers (if t then pushed n v m else m)
    by_test true e = record {
      reg_count = h.reg_count;
      esp = omega arith;
      flags = h.flags;
      ranges = h.ranges;
      scratch_count = scratch_length m.scratch n v ∙ h.scratch_count;
      scratch = scratch_bytes m.scratch n v h.scratch;
      pushed = let lt = ltb-true n 16 e in omega (arith, lt);
    }
    by_test false e = h
put_numbers (Destination.Pop n) v m few h = record {
  reg_count = h.reg_count;
  esp = omega arith;
  flags = h.flags;
  ranges = h.ranges;
  scratch_count = h.scratch_count;
  scratch = h.scratch;
  pushed = omega (arith, few);
}

put_all_numbers : (ds : List Destination) (k : ℕ) (vs : List ℕ) (m : Machine) → AreFewPops ds → HasNumbers m
    → HasNumbers (put_all ds k vs m)
put_all_numbers [] k vs m few h = h
put_all_numbers (d ∷ ds) k vs m few h =
    put_all_numbers ds (k + 1) vs (put d (slice_index vs k) m) few.1 (put_numbers d (slice_index vs k) m few.0 h)

few_arg : (w : Width) (bytes : Bytes) (a : Option InstArg) (m : Machine) → IsFewPop (arg_destination w bytes a m)
few_arg w bytes (Some (InstArg.Register r slice)) m = tt
few_arg w bytes (Some (InstArg.Number n)) m = tt
few_arg w bytes (Some (InstArg.Address form k)) m = tt
few_arg w bytes (Some (InstArg.Label k)) m = tt
few_arg w bytes None m = tt

few_pop : (i : Inst) (m : Machine) (target : Target) → m.scratch_top ≤ 16 → IsFewPop (destination_of i m target)
few_pop i m (Target.Site (Site.Argument k bytes)) few = few_arg i.width bytes (arg_at i k) m
few_pop i m (Target.Site (Site.Register r bytes)) few = tt
few_pop i m (Target.Site (Site.Pointed r)) few = tt
few_pop i m (Target.Site (Site.Flag f)) few = tt
few_pop i m Target.Pop few = few
few_pop i m target few = tt

few_pops : (i : Inst) (m : Machine) (row : List MicroOp) → m.scratch_top ≤ 16 → AreFewPops (destinations_of i m row)
few_pops i m [] few = tt
few_pops i m (op ∷ ops) few = (few_pop i m op.target few, few_pops i m ops few)

-- ---- steps

-- each position that a step goes on at is small
next_small : (row : List MicroOp) (vs : List ℕ) (goal at : ℕ) → at < 2 ^ 32 - 1 → goal < 2 ^ 32
    → next_of row vs goal at < 2 ^ 32
next_small row vs goal at small small_goal = by_jump (any_value is_jump is_set row 0 vs)
  where
    by_stay : (stays : Bool) → (if stays then at else at + 1) < 2 ^ 32
    by_stay true = omega (arith, small)
    by_stay false = omega (arith, small)

    by_jump : (jump : Bool) → (if jump then goal else if any_value is_stay is_set row 0 vs then at else at + 1) < 2 ^ 32
    by_jump true = small_goal
    by_jump false = by_stay (any_value is_stay is_set row 0 vs)

-- what is known of a state's numbers, words and position, and of where its ranges are, makes it a machine
whole : (before m : Machine) → IsMachine before → layouts_of m.ranges ≡ layouts_of before.ranges → HasNumbers m
    → All (λ v. v < 2 ^ 32) m.regs → m.at < 2 ^ 32 → IsMachine m
whole before m is same numbers words at = record {
  reg_count = numbers.reg_count;
  regs = words;
  esp = numbers.esp;
  flags = numbers.flags;
  ranges = numbers.ranges;
  apart = apart_kept before.ranges m.ranges same is.apart;
  scratch_count = numbers.scratch_count;
  scratch = numbers.scratch;
  pushed = numbers.pushed;
  at = at;
}

numbers_of : (m : Machine) → IsMachine m → HasNumbers m
numbers_of m is = record {
  reg_count = is.reg_count;
  esp = is.esp;
  flags = is.flags;
  ranges = is.ranges;
  scratch_count = is.scratch_count;
  scratch = is.scratch;
  pushed = is.pushed;
}

-- such numbers don't tell the position
moved_numbers : (m : Machine) (n : ℕ) → HasNumbers m → HasNumbers (record m { at = n })
moved_numbers m n h = record {
  reg_count = h.reg_count;
  esp = h.esp;
  flags = h.flags;
  ranges = h.ranges;
  scratch_count = h.scratch_count;
  scratch = h.scratch;
  pushed = h.pushed;
}

pub machine_kept : (line : Sym) (x : Stand) → IsStepped line x → x.before.at < 2 ^ 32 - 1 → x.goal < 2 ^ 32
    → IsMachine x.after
machine_kept line x stepped small small_goal =
    line_ended (λ (m : Machine). layouts_of m.ranges ≡ layouts_of x.before.ranges → IsMachine m) line x stepped
    (λ over same. whole x.before (record x.before { at = x.before.at + 1 }) is same
    (moved_numbers x.before (x.before.at + 1) (numbers_of x.before is)) is.regs (omega (arith, small)))
    (λ more same. whole x.before (written_at line x) is same
    (moved_numbers (put_all ds 0 (values_at line x) x.before)
    (next_of (line_row line) (values_at line x) x.goal x.before.at)
    (put_all_numbers ds 0 (values_at line x) x.before
    (few_pops (inst_under x.at line) x.before (line_row line) is.pushed) (numbers_of x.before is)))
    (put_all_words ds 0 (values_at line x) x.before (record { words = is.regs })).words
    (next_small (line_row line) (values_at line x) x.goal x.before.at small small_goal))
    (layouts_kept line x stepped)
  where
    is : IsMachine x.before
    is = stepped.is_machine

    ds : List Destination
    ds = destinations_of (inst_under x.at line) x.before (line_row line)
