-- A value that is put where it stands already changes nothing.
use Rattle.std.proofs.Common.{◌≡◌, ⊎_elim, ℕ, zero, suc, ◌+◌, ◌-◌, ◌*◌, ◌/◌, ◌%◌, ◌^◌, ◌==◌, ◌<◌, List, [], ◌∷◌, slice_set, slice_index, Bool, true, false, if◌then◌else◌, refl, ap, sym, subst, ◌∙◌, arith}
use Rattle.asm_core.specs.Flag.{flag_in, flag_number, with_flag}
use Rattle.asm_core.specs.Function.{bit}
use Rattle.asm_core.specs.Machine.{reg_in, covers, byte_at}
use Rattle.asm_core.specs.Memory.{put_byte, with_byte, with_word}
use Rattle.asm_core.specs.MicroOps.{with_part, put, put_all}
use Rattle.asm_core.specs.Reg.{reg_number}
use Rattle.asm_core.specs.RowLaws.{Component, nth_byte, component_in, ChangesOnly}
use Rattle.asm_core.proofs.Puts.{set_read, nat_cases, put_covers, byte_kept, word_layouts}
use Rattle.asm_core.proofs.RegisterLaws.{own_value_kept}
use Rattle.asm_core.specs.declared.flag.Flag.{Flag}
use Rattle.asm_core.specs.declared.flag.FlagSet.{FlagSet}
use Rattle.asm_core.specs.declared.micro_op.Destination.{Destination}
use Rattle.asm_core.specs.declared.machine.Range.{Range}
use Rattle.asm_core.specs.declared.machine.Machine.{Machine}

-- ---- memory

same_byte : (a b : ℕ) (rs : List Range) → b ≡ byte_at rs a → byte_at (with_byte a b rs) a ≡ byte_at rs a
same_byte a b [] h = refl
same_byte a b (r ∷ rs) h =
    ap (λ t. if t then slice_index (put_byte a b r).bytes (a - (put_byte a b r).base) else byte_at (with_byte a b rs) a) (put_covers a b r a)
    ∙ by_test (covers r a) h (same_byte a b rs)
  where
    changed : Bool → Range
    changed t = if t then record r { bytes = slice_set r.bytes (a - r.base) b } else r

    by_test : (t : Bool) → b ≡ (if t then slice_index r.bytes (a - r.base) else byte_at rs a) → (b ≡ byte_at rs a → byte_at (with_byte a b rs) a ≡ byte_at rs a)
        → (if t then slice_index (changed t).bytes (a - (changed t).base) else byte_at (with_byte a b rs) a) ≡ (if t then slice_index r.bytes (a - r.base) else byte_at rs a)
    by_test true h rest = ⊎_elim (λ new. new ∙ h) (λ old. old) (set_read r.bytes (a - r.base) b)
    by_test false h rest = rest h

byte_unchanged : (a b : ℕ) (rs : List Range) → b ≡ byte_at rs a → (x : ℕ) → byte_at (with_byte a b rs) x ≡ byte_at rs x
byte_unchanged a b rs h x = ⊎_elim (λ e. subst (λ y. byte_at (with_byte a b rs) y ≡ byte_at rs y) (sym e) (same_byte a b rs h)) (λ other. byte_kept a b rs x other) (nat_cases x a)

word_unchanged : (n a v : ℕ) (rs : List Range) → ((o : ℕ) → o < n → nth_byte o v ≡ byte_at rs ((a + o) % 2 ^ 32)) → (x : ℕ) → byte_at (with_word n a v rs) x ≡ byte_at rs x
word_unchanged zero a v rs h x = refl
word_unchanged (suc n) a v rs h x =
    word_unchanged n (a + 1) (v / 256) (with_byte (a % 2 ^ 32) (v % 256) rs)
    (λ o small. h (suc o) (omega arith) ∙ ap (λ y. byte_at rs (y % 2 ^ 32)) (next a o) ∙ sym (byte_unchanged (a % 2 ^ 32) (v % 256) rs first ((a + 1 + o) % 2 ^ 32))) x
    ∙ byte_unchanged (a % 2 ^ 32) (v % 256) rs first x
  where
    no_more : (a : ℕ) → a + 0 ≡ a
    no_more a = omega arith

    next : (a o : ℕ) → a + suc o ≡ a + 1 + o
    next a o = omega arith

    first : v % 256 ≡ byte_at rs (a % 2 ^ 32)
    first = h 0 (omega arith) ∙ ap (λ y. byte_at rs (y % 2 ^ 32)) (no_more a)

-- ---- flags

flag_number_kept : (f : Flag) (v s : ℕ) → v % 2 ≡ s / 2 ^ flag_number f % 2 → s / (2 * 2 ^ flag_number f) * (2 * 2 ^ flag_number f) + v % 2 * 2 ^ flag_number f + s % 2 ^ flag_number f ≡ s
flag_number_kept Flag.Cf v s h = omega arith
flag_number_kept Flag.Pf v s h = omega arith
flag_number_kept Flag.Af v s h = omega arith
flag_number_kept Flag.Zf v s h = omega arith
flag_number_kept Flag.Sf v s h = omega arith
flag_number_kept Flag.Of v s h = omega arith
flag_number_kept Flag.Df v s h = omega arith

bit_is : (x : ℕ) → bit (x % 2 == 1) ≡ x % 2
bit_is x = by_number (x % 2) (omega arith)
  where
    by_number : (y : ℕ) → y < 2 → bit (y == 1) ≡ y
    by_number zero small = refl
    by_number (suc zero) small = refl
    by_number (suc (suc y)) small = absurd (omega arith)

flag_kept : (f : Flag) (v : ℕ) (s : FlagSet) → v % 2 ≡ bit (flag_in f s) → with_flag f v s ≡ s
flag_kept f v s h = ap flag_set (flag_number_kept f v s.0 (h ∙ bit_is (s.0 / 2 ^ flag_number f)))
  where
    flag_set : ℕ → FlagSet
    flag_set n = record { 0 = n }

-- ---- destinations

abbrev pub Nothing : Component → Type 0
Nothing c = ⊥

-- what is put is what stands there in m
abbrev pub IsIdle : Destination → ℕ → Machine → Type 0
IsIdle Destination.Nowhere v m = Unit {0}
IsIdle (Destination.Register r bytes) v m = with_part bytes v (reg_in r m) ≡ reg_in r m
IsIdle (Destination.Flag f) v m = v % 2 ≡ bit (flag_in f m.flags)
IsIdle (Destination.Memory a n) v m = (o : ℕ) → o < n → nth_byte o v ≡ byte_at m.ranges ((a + o) % 2 ^ 32)
IsIdle d v m = ⊥

abbrev pub AreIdle : List Destination → ℕ → List ℕ → Machine → Type 0
AreIdle [] k vs m = Unit {0}
AreIdle (d ∷ ds) k vs m = IsIdle d (slice_index vs k) m × AreIdle ds (k + 1) vs m

put_idle : (d : Destination) (v : ℕ) (m n : Machine) → IsIdle d v m → ChangesOnly Nothing m n → ChangesOnly Nothing m (put d v n)
put_idle Destination.Nowhere v m n idle same = same
put_idle (Destination.Register r bytes) v m n idle same = subst (λ regs. ChangesOnly Nothing m (record n { regs = regs })) (sym (ap (slice_set n.regs (reg_number r)) own ∙ own_value_kept r n)) same
  where
    own : with_part bytes v (reg_in r n) ≡ reg_in r n
    own = subst (λ old. with_part bytes v old ≡ old) (sym (same.components (Component.WholeRegister r) (λ x. x))) idle
put_idle (Destination.Flag f) v m n idle same = subst (λ flags. ChangesOnly Nothing m (record n { flags = flags })) (sym (flag_kept f v n.flags (idle ∙ sym (same.components (Component.FlagBit f) (λ x. x))))) same
put_idle (Destination.Memory a k) v m n idle same = record { components = by_component; layouts = word_layouts k a v n.ranges ∙ same.layouts }
  where
    here : (o : ℕ) → o < k → nth_byte o v ≡ byte_at n.ranges ((a + o) % 2 ^ 32)
    here o small = idle o small ∙ sym (same.components (Component.MemoryByte ((a + o) % 2 ^ 32)) (λ x. x))

    by_component : (c : Component) → (⊥ → ⊥) → component_in c (record n { ranges = with_word k a v n.ranges }) ≡ component_in c m
    by_component (Component.MemoryByte x) missed = word_unchanged k a v n.ranges here x ∙ same.components (Component.MemoryByte x) missed
    by_component (Component.WholeRegister r) missed = same.components (Component.WholeRegister r) missed
    by_component (Component.RegisterByte r j) missed = same.components (Component.RegisterByte r j) missed
    by_component (Component.FlagBit f) missed = same.components (Component.FlagBit f) missed
    by_component (Component.ScratchByte j) missed = same.components (Component.ScratchByte j) missed
    by_component Component.Depth missed = same.components Component.Depth missed
    by_component Component.Esp missed = same.components Component.Esp missed
put_idle (Destination.Push k) v m n idle same = absurd idle
put_idle (Destination.Pop k) v m n idle same = absurd idle

-- nothing changes where all values are put where they stand
pub all_idle : (ds : List Destination) (k : ℕ) (vs : List ℕ) (m n : Machine) → AreIdle ds k vs m → ChangesOnly Nothing m n → ChangesOnly Nothing m (put_all ds k vs n)
all_idle [] k vs m n idle same = same
all_idle (d ∷ ds) k vs m n idle same = all_idle ds (k + 1) vs m (put d (slice_index vs k) n) idle.1 (put_idle d (slice_index vs k) m n idle.0 same)
