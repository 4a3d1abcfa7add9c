-- What a step writes last is read back after it.
use Rattle.std.proofs.Common.{◌≡◌, ℕ, zero, suc, ◌+◌, ◌-◌, ◌*◌, ◌/◌, ◌%◌, ◌^◌, ◌==◌, ◌<◌, ◌≤◌, nat_lt, List, [], ◌∷◌, length, drop, slice_get, slice_index, slice_set, Bool, true, false, if◌then◌else◌, Some, refl, ap, sym, subst, ◌∙◌, arith}
use Rattle.std.specs.List.{list_any}
use Rattle.std.proofs.lemmas.Bool.{lt-ltb}
use Rattle.std.proofs.lemmas.List.{length-set, get_or-set_same, get_or-set_other}
use Rattle.asm_core.specs.Reg.{reg_number}
use Rattle.asm_core.specs.Flag.{flag_in, with_flag}
use Rattle.asm_core.specs.Function.{bit}
use Rattle.asm_core.specs.Machine.{reg_in, with_reg, covers, byte_at}
use Rattle.asm_core.specs.Memory.{with_byte, with_word, with_scratch_word}
use Rattle.asm_core.specs.MicroOps.{first_of, count_of, with_part, pushed, put, put_all, destination_of, destinations_of}
use Rattle.asm_core.specs.RowLaws.{Component, component_in, byte_of, nth_byte, IsHitByOne, held}
use Rattle.asm_core.proofs.MachineLaws.{reg_number_small}
use Rattle.asm_core.proofs.Puts.{put_all_keeps}
use Rattle.asm_core.proofs.ReadBack.{part_read, covered_kept, word_read}
use Rattle.asm_core.specs.declared.flag.Flag.{Flag}
use Rattle.asm_core.specs.declared.flag.FlagSet.{FlagSet}
use Rattle.asm_core.specs.declared.flag.Flag.TheVariants.{Cf, Pf, Af, Zf, Sf, Of, Df}
use Rattle.asm_core.specs.declared.inst.Width.{Width}
use Rattle.asm_core.specs.declared.inst.Inst.{Inst}
use Rattle.asm_core.specs.declared.micro_op.Destination.{Destination}
use Rattle.asm_core.specs.declared.micro_op.MicroOp.{MicroOp}
use Rattle.asm_core.specs.declared.machine.Range.{Range}
use Rattle.asm_core.specs.declared.machine.Machine.{Machine}

-- ---- one destination

-- c is byte o of what is written at the destination
abbrev pub IsByte : Destination → ℕ → Component → Type 0
IsByte (Destination.Register r bytes) o (Component.RegisterByte q j) = (r ≡ q) × ((j ≡ first_of bytes + o) × (o < count_of Width.L bytes))
IsByte (Destination.Memory a n) o (Component.MemoryByte x) = (x ≡ (a + o) % 2 ^ 32) × ((o < n) × (n ≤ 8))
IsByte (Destination.Flag f) o (Component.FlagBit g) = (f ≡ g) × (o ≡ 0)
IsByte (Destination.Push n) o (Component.ScratchByte j) = (j ≡ 4 * n + o) × ((o < 4) × (n < 16))
IsByte destination o c = ⊥

-- the state has the component
abbrev pub Has : Machine → Component → Type 0
Has m (Component.RegisterByte r j) = length m.regs ≡ 7
Has m (Component.MemoryByte a) = list_any (λ r. covers r a) m.ranges ≡ true
Has m (Component.ScratchByte j) = length m.scratch ≡ 64
Has m c = Unit {0}

bit_Cf : (v n : ℕ) → (n / 2 * 2 + v % 2 * 1 + n % 1) / 1 % 2 ≡ v % 2
bit_Cf v n = omega arith

bit_Pf : (v n : ℕ) → (n / 4 * 4 + v % 2 * 2 + n % 2) / 2 % 2 ≡ v % 2
bit_Pf v n = omega arith

bit_Af : (v n : ℕ) → (n / 8 * 8 + v % 2 * 4 + n % 4) / 4 % 2 ≡ v % 2
bit_Af v n = omega arith

bit_Zf : (v n : ℕ) → (n / 16 * 16 + v % 2 * 8 + n % 8) / 8 % 2 ≡ v % 2
bit_Zf v n = omega arith

bit_Sf : (v n : ℕ) → (n / 32 * 32 + v % 2 * 16 + n % 16) / 16 % 2 ≡ v % 2
bit_Sf v n = omega arith

bit_Of : (v n : ℕ) → (n / 64 * 64 + v % 2 * 32 + n % 32) / 32 % 2 ≡ v % 2
bit_Of v n = omega arith

bit_Df : (v n : ℕ) → (n / 128 * 128 + v % 2 * 64 + n % 64) / 64 % 2 ≡ v % 2
bit_Df v n = omega arith

flag_read : (f : Flag) (v : ℕ) (s : FlagSet) → bit (flag_in f (with_flag f v s)) ≡ v % 2
flag_read f v s = same f
  where
    as_bit : (n : ℕ) → n ≡ v % 2 → bit (n == 1) ≡ v % 2
    as_bit zero e = e
    as_bit (suc zero) e = e
    as_bit (suc (suc n)) e = absurd (omega arith)

    same : (f : Flag) → bit (flag_in f (with_flag f v s)) ≡ v % 2
    same Cf = as_bit _ (bit_Cf v s.0)
    same Pf = as_bit _ (bit_Pf v s.0)
    same Af = as_bit _ (bit_Af v s.0)
    same Zf = as_bit _ (bit_Zf v s.0)
    same Sf = as_bit _ (bit_Sf v s.0)
    same Of = as_bit _ (bit_Of v s.0)
    same Df = as_bit _ (bit_Df v s.0)

scratch_read : (l : List ℕ) (n v o : ℕ) → length l ≡ 64 → n < 16 → o < 4 → slice_index (with_scratch_word l n v) (4 * n + o) ≡ nth_byte o v
scratch_read l n v zero size room small =
    ap (slice_index (with_scratch_word l n v)) first
    ∙ get_or-set_other (slice_set (slice_set (slice_set l (4 * n) (v % 256)) (4 * n + 1) (v / 256 % 256)) (4 * n + 2) (v / 65536 % 256)) (4 * n + 3) (4 * n) (v / 16777216 % 256) 0 (λ e. omega arith)
    ∙ get_or-set_other (slice_set (slice_set l (4 * n) (v % 256)) (4 * n + 1) (v / 256 % 256)) (4 * n + 2) (4 * n) (v / 65536 % 256) 0 (λ e. omega arith)
    ∙ get_or-set_other (slice_set l (4 * n) (v % 256)) (4 * n + 1) (4 * n) (v / 256 % 256) 0 (λ e. omega arith)
    ∙ get_or-set_same l (4 * n) (v % 256) 0 (omega arith)
  where
    first : 4 * n + 0 ≡ 4 * n
    first = omega arith
scratch_read l n v (suc zero) size room small =
    get_or-set_other (slice_set (slice_set (slice_set l (4 * n) (v % 256)) (4 * n + 1) (v / 256 % 256)) (4 * n + 2) (v / 65536 % 256)) (4 * n + 3) (4 * n + 1) (v / 16777216 % 256) 0 (λ e. omega arith)
    ∙ get_or-set_other (slice_set (slice_set l (4 * n) (v % 256)) (4 * n + 1) (v / 256 % 256)) (4 * n + 2) (4 * n + 1) (v / 65536 % 256) 0 (λ e. omega arith)
    ∙ get_or-set_same (slice_set l (4 * n) (v % 256)) (4 * n + 1) (v / 256 % 256) 0 (within (length-set l (4 * n) (v % 256)))
  where
    within : length (slice_set l (4 * n) (v % 256)) ≡ length l → 4 * n + 1 < length (slice_set l (4 * n) (v % 256))
    within e = omega arith
scratch_read l n v (suc (suc zero)) size room small =
    get_or-set_other (slice_set (slice_set (slice_set l (4 * n) (v % 256)) (4 * n + 1) (v / 256 % 256)) (4 * n + 2) (v / 65536 % 256)) (4 * n + 3) (4 * n + 2) (v / 16777216 % 256) 0 (λ e. omega arith)
    ∙ get_or-set_same (slice_set (slice_set l (4 * n) (v % 256)) (4 * n + 1) (v / 256 % 256)) (4 * n + 2) (v / 65536 % 256) 0
    (within (length-set (slice_set l (4 * n) (v % 256)) (4 * n + 1) (v / 256 % 256) ∙ length-set l (4 * n) (v % 256)))
    ∙ third v
  where
    within : length (slice_set (slice_set l (4 * n) (v % 256)) (4 * n + 1) (v / 256 % 256)) ≡ length l → 4 * n + 2 < length (slice_set (slice_set l (4 * n) (v % 256)) (4 * n + 1) (v / 256 % 256))
    within e = omega arith

    third : (v : ℕ) → v / 65536 % 256 ≡ v / 256 / 256 % 256
    third v = omega arith
scratch_read l n v (suc (suc (suc zero))) size room small =
    get_or-set_same (slice_set (slice_set (slice_set l (4 * n) (v % 256)) (4 * n + 1) (v / 256 % 256)) (4 * n + 2) (v / 65536 % 256)) (4 * n + 3) (v / 16777216 % 256) 0
    (within (length-set (slice_set (slice_set l (4 * n) (v % 256)) (4 * n + 1) (v / 256 % 256)) (4 * n + 2) (v / 65536 % 256) ∙ length-set (slice_set l (4 * n) (v % 256)) (4 * n + 1) (v / 256 % 256) ∙ length-set l (4 * n) (v % 256)))
    ∙ fourth v
  where
    within : length (slice_set (slice_set (slice_set l (4 * n) (v % 256)) (4 * n + 1) (v / 256 % 256)) (4 * n + 2) (v / 65536 % 256)) ≡ length l
        → 4 * n + 3 < length (slice_set (slice_set (slice_set l (4 * n) (v % 256)) (4 * n + 1) (v / 256 % 256)) (4 * n + 2) (v / 65536 % 256))
    within e = omega arith

    fourth : (v : ℕ) → v / 16777216 % 256 ≡ v / 256 / 256 / 256 % 256
    fourth v = omega arith
scratch_read l n v (suc (suc (suc (suc o)))) size room small = absurd (omega arith)

-- each byte that is put is there
pub put_read : (d : Destination) (c : Component) (o v : ℕ) (m : Machine) → IsByte d o c → Has m c → component_in c (put d v m) ≡ held c (nth_byte o v)
put_read (Destination.Register r bytes) (Component.RegisterByte q j) o v m is has =
    let small = reg_number_small r in
    let at : j ≡ first_of bytes + o = is.1.0 in
    let within : o < count_of Width.L bytes = is.1.1 in
    let back : j - first_of bytes ≡ o = omega arith in
    subst (λ x. byte_of j (reg_in x (with_reg r (with_part bytes v (reg_in r m)) m)) ≡ nth_byte o v) is.0
    (ap (byte_of j) (get_or-set_same m.regs (reg_number r) (with_part bytes v (reg_in r m)) 0 (omega arith))
    ∙ part_read bytes j v (reg_in r m) (omega arith, omega arith)
    ∙ ap (λ x. nth_byte x v) back)
put_read (Destination.Memory a n) (Component.MemoryByte x) o v m is has =
    ap (byte_at (with_word n a v m.ranges)) is.0 ∙ word_read n a v o m.ranges is.1.0 is.1.1 (ap (λ y. list_any (λ r. covers r y) m.ranges) (sym is.0) ∙ has)
put_read (Destination.Flag f) (Component.FlagBit g) o v m is has =
    subst (λ x. bit (flag_in x (with_flag f v m.flags)) ≡ nth_byte o v % 2) is.0 (subst (λ x. bit (flag_in f (with_flag f v m.flags)) ≡ nth_byte x v % 2) (sym is.1) (flag_read f v m.flags ∙ lowest v))
  where
    lowest : (v : ℕ) → v % 2 ≡ v % 256 % 2
    lowest v = omega arith
put_read (Destination.Push n) (Component.ScratchByte j) o v m is has =
    ap (λ (t : Bool). slice_index (if t then pushed n v m else m).scratch j) (lt-ltb n 16 is.1.1)
    ∙ ap (slice_index (with_scratch_word m.scratch n v)) is.0
    ∙ scratch_read m.scratch n v o has is.1.1 is.1.0
put_read d c o v m is has = absurd is

-- ---- the state still has it

word_covers : (n a v : ℕ) (rs : List Range) (x : ℕ) → list_any (λ r. covers r x) (with_word n a v rs) ≡ list_any (λ r. covers r x) rs
word_covers zero a v rs x = refl
word_covers (suc n) a v rs x = word_covers n (a + 1) (v / 256) (with_byte (a % 2 ^ 32) (v % 256) rs) x ∙ covered_kept (a % 2 ^ 32) (v % 256) rs x

has_with : (c : Component) (m : Machine) (regs scratch : List ℕ) (ranges : List Range) (flags : FlagSet) (esp top : ℕ) → length regs ≡ length m.regs → length scratch ≡ length m.scratch
    → ((x : ℕ) → list_any (λ r. covers r x) ranges ≡ list_any (λ r. covers r x) m.ranges) → Has m c
    → Has (record m { regs = regs; scratch = scratch; ranges = ranges; flags = flags; esp = esp; scratch_top = top }) c
has_with (Component.RegisterByte r j) m regs scratch ranges flags esp top same_regs same_scratch same_ranges has = same_regs ∙ has
has_with (Component.MemoryByte a) m regs scratch ranges flags esp top same_regs same_scratch same_ranges has = same_ranges a ∙ has
has_with (Component.ScratchByte j) m regs scratch ranges flags esp top same_regs same_scratch same_ranges has = same_scratch ∙ has
has_with (Component.WholeRegister r) m regs scratch ranges flags esp top same_regs same_scratch same_ranges has = tt
has_with (Component.FlagBit f) m regs scratch ranges flags esp top same_regs same_scratch same_ranges has = tt
has_with Component.Depth m regs scratch ranges flags esp top same_regs same_scratch same_ranges has = tt
has_with Component.Esp m regs scratch ranges flags esp top same_regs same_scratch same_ranges has = tt

scratch_length : (l : List ℕ) (n v : ℕ) → length (with_scratch_word l n v) ≡ length l
scratch_length l n v =
    length-set (slice_set (slice_set (slice_set l (4 * n) (v % 256)) (4 * n + 1) (v / 256 % 256)) (4 * n + 2) (v / 65536 % 256)) (4 * n + 3) (v / 16777216 % 256)
    ∙ length-set (slice_set (slice_set l (4 * n) (v % 256)) (4 * n + 1) (v / 256 % 256)) (4 * n + 2) (v / 65536 % 256)
    ∙ length-set (slice_set l (4 * n) (v % 256)) (4 * n + 1) (v / 256 % 256)
    ∙ length-set l (4 * n) (v % 256)

pub has_kept : (d : Destination) (v : ℕ) (m : Machine) (c : Component) → Has m c → Has (put d v m) c
has_kept Destination.Nowhere v m c has = has
has_kept (Destination.Register r bytes) v m c has =
    has_with c m (slice_set m.regs (reg_number r) (with_part bytes v (reg_in r m))) m.scratch m.ranges m.flags m.esp m.scratch_top (length-set m.regs (reg_number r) (with_part bytes v (reg_in r m))) refl (λ x. refl) has
has_kept (Destination.Memory a n) v m c has = has_with c m m.regs m.scratch (with_word n a v m.ranges) m.flags m.esp m.scratch_top refl refl (word_covers n a v m.ranges) has
has_kept (Destination.Flag f) v m c has = has_with c m m.regs m.scratch m.ranges (with_flag f v m.flags) m.esp m.scratch_top refl refl (λ x. refl) has
has_kept (Destination.Push n) v m c has = by_test (nat_lt n 16)
  where
    by_test : (t : Bool) → Has (if t then pushed n v m else m) c
    by_test true = has_with c m m.regs (with_scratch_word m.scratch n v) m.ranges m.flags ((m.esp + 2 ^ 32 - 4) % 2 ^ 32) (n + 1) refl (scratch_length m.scratch n v) (λ x. refl) has
    by_test false = has
has_kept (Destination.Pop n) v m c has = has_with c m m.regs m.scratch m.ranges m.flags ((m.esp + 4) % 2 ^ 32) (n - 1) refl refl (λ x. refl) has

-- ---- all destinations of a row

-- what is put at the k-th destination is there at the end, where no later one has it
pub put_all_read : (i : Inst) (before : Machine) (row : List MicroOp) (k n o : ℕ) (vs : List ℕ) (m : Machine) (op : MicroOp) (c : Component) → slice_get row k ≡ Some op
    → IsByte (destination_of i before op.target) o c → Has m c → (IsHitByOne (destinations_of i before (drop (suc k) row)) c → ⊥)
    → component_in c (put_all (destinations_of i before row) n vs m) ≡ held c (nth_byte o (slice_index vs (n + k)))
put_all_read i before [] k n o vs m op c at is has last = cc
put_all_read i before (first ∷ row) zero n o vs m op c at is has last =
    let same : first ≡ op = cc in
    put_all_keeps (destinations_of i before row) (n + 1) vs (put (destination_of i before first.target) (slice_index vs n) m) c last
    ∙ put_read (destination_of i before first.target) c o (slice_index vs n) m (subst (λ (x : MicroOp). IsByte (destination_of i before x.target) o c) (sym same) is) has
    ∙ ap (λ j. held c (nth_byte o (slice_index vs j))) (no_more n)
  where
    no_more : (n : ℕ) → n ≡ n + 0
    no_more n = omega arith
put_all_read i before (first ∷ row) (suc k) n o vs m op c at is has last =
    put_all_read i before row k (n + 1) o vs (put (destination_of i before first.target) (slice_index vs n) m) op c at is (has_kept (destination_of i before first.target) (slice_index vs n) m c has) last
    ∙ ap (λ j. held c (nth_byte o (slice_index vs j))) (next n k)
  where
    next : (n k : ℕ) → n + 1 + k ≡ n + suc k
    next n k = omega arith
