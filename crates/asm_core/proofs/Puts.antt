-- A value that is put at a destination changes nothing else.
use Rattle.std.proofs.Common.{◌≡◌, ◌≢◌, ◌⊎◌, inl, inr, ⊎_elim, ℕ, zero, suc, ◌+◌, ◌-◌, ◌*◌, ◌/◌, ◌%◌, ◌^◌, ◌≤◌, nat_le, nat_lt, ◌&&◌, List, [], ◌∷◌, length, slice_index, slice_set, Bool, true, false, if◌then◌else◌, refl, ap, ap₂, sym, ◌∙◌, subst, arith}
use Rattle.std.proofs.lemmas.List.{length-set, get_or-set_other}
use Rattle.std.proofs.lemmas.Bool.{leb-true, and_parts}
use Rattle.asm_core.specs.Reg.{reg_number}
use Rattle.asm_core.specs.Function.{bit}
use Rattle.asm_core.specs.Machine.{reg_in, with_reg, covers, byte_at, layout_of, layouts_of}
use Rattle.asm_core.specs.Memory.{put_byte, with_byte, with_word, with_scratch_word}
use Rattle.asm_core.specs.MicroOps.{first_of, count_of, with_part, pushed, put, put_all}
use Rattle.asm_core.specs.RowLaws.{Component, component_in, byte_of, IsAmong, LiesAt, IsHit, IsHitByOne}
use Rattle.asm_core.proofs.FlagPuts.{other_flag_kept}
use Rattle.asm_core.proofs.RegisterLaws.{same_reg}
use Rattle.asm_core.specs.declared.reg.Reg.{Reg}
use Rattle.asm_core.specs.declared.inst.Width.{Width}
use Rattle.asm_core.specs.declared.micro_op.Bytes.{Bytes}
use Rattle.asm_core.specs.declared.micro_op.Destination.{Destination}
use Rattle.asm_core.specs.declared.machine.Range.{Range}
use Rattle.asm_core.specs.declared.machine.Machine.{Machine}

-- ---- registers

-- an item that is set is read back, or there is no such item
pub set_read : (l : List ℕ) (k v : ℕ) → (slice_index (slice_set l k v) k ≡ v) ⊎ (slice_index (slice_set l k v) k ≡ slice_index l k)
set_read [] k v = inr refl
set_read (x ∷ l) zero v = inl refl
set_read (x ∷ l) (suc k) v = set_read l k v

-- a byte that is none of a part's is left by it
pub other_byte_kept : (bytes : Bytes) (j v old : ℕ) → (IsAmong (first_of bytes) (count_of Width.L bytes) j → ⊥) → byte_of j (with_part bytes v old) ≡ byte_of j old
other_byte_kept bytes (suc (suc (suc (suc j)))) v old missed = refl
other_byte_kept Bytes.Whole zero v old missed = absurd (missed (omega arith, omega arith))
other_byte_kept Bytes.Whole (suc zero) v old missed = absurd (missed (omega arith, omega arith))
other_byte_kept Bytes.Whole (suc (suc zero)) v old missed = absurd (missed (omega arith, omega arith))
other_byte_kept Bytes.Whole (suc (suc (suc zero))) v old missed = absurd (missed (omega arith, omega arith))
other_byte_kept Bytes.All zero v old missed = absurd (missed (omega arith, omega arith))
other_byte_kept Bytes.All (suc zero) v old missed = absurd (missed (omega arith, omega arith))
other_byte_kept Bytes.All (suc (suc zero)) v old missed = absurd (missed (omega arith, omega arith))
other_byte_kept Bytes.All (suc (suc (suc zero))) v old missed = absurd (missed (omega arith, omega arith))
other_byte_kept Bytes.Byte0 zero v old missed = absurd (missed (omega arith, omega arith))
other_byte_kept Bytes.Byte0 (suc zero) v old missed = omega arith
other_byte_kept Bytes.Byte0 (suc (suc zero)) v old missed = omega arith
other_byte_kept Bytes.Byte0 (suc (suc (suc zero))) v old missed = omega arith
other_byte_kept Bytes.Byte1 zero v old missed = omega arith
other_byte_kept Bytes.Byte1 (suc zero) v old missed = absurd (missed (omega arith, omega arith))
other_byte_kept Bytes.Byte1 (suc (suc zero)) v old missed = omega arith
other_byte_kept Bytes.Byte1 (suc (suc (suc zero))) v old missed = omega arith
other_byte_kept Bytes.Byte2 zero v old missed = omega arith
other_byte_kept Bytes.Byte2 (suc zero) v old missed = omega arith
other_byte_kept Bytes.Byte2 (suc (suc zero)) v old missed = absurd (missed (omega arith, omega arith))
other_byte_kept Bytes.Byte2 (suc (suc (suc zero))) v old missed = omega arith
other_byte_kept Bytes.Byte3 zero v old missed = omega arith
other_byte_kept Bytes.Byte3 (suc zero) v old missed = omega arith
other_byte_kept Bytes.Byte3 (suc (suc zero)) v old missed = omega arith
other_byte_kept Bytes.Byte3 (suc (suc (suc zero))) v old missed = absurd (missed (omega arith, omega arith))
other_byte_kept Bytes.Low16 zero v old missed = absurd (missed (omega arith, omega arith))
other_byte_kept Bytes.Low16 (suc zero) v old missed = absurd (missed (omega arith, omega arith))
other_byte_kept Bytes.Low16 (suc (suc zero)) v old missed = omega arith
other_byte_kept Bytes.Low16 (suc (suc (suc zero))) v old missed = omega arith
other_byte_kept Bytes.High16 zero v old missed = omega arith
other_byte_kept Bytes.High16 (suc zero) v old missed = omega arith
other_byte_kept Bytes.High16 (suc (suc zero)) v old missed = absurd (missed (omega arith, omega arith))
other_byte_kept Bytes.High16 (suc (suc (suc zero))) v old missed = absurd (missed (omega arith, omega arith))
other_byte_kept Bytes.Upper24 zero v old missed = omega arith
other_byte_kept Bytes.Upper24 (suc zero) v old missed = absurd (missed (omega arith, omega arith))
other_byte_kept Bytes.Upper24 (suc (suc zero)) v old missed = absurd (missed (omega arith, omega arith))
other_byte_kept Bytes.Upper24 (suc (suc (suc zero))) v old missed = absurd (missed (omega arith, omega arith))

-- two numbers are equal or not
pub nat_cases : (a b : ℕ) → (a ≡ b) ⊎ (a ≢ b)
nat_cases zero zero = inl refl
nat_cases zero (suc b) = inr (λ e. omega arith)
nat_cases (suc a) zero = inr (λ e. omega arith)
nat_cases (suc a) (suc b) = ⊎_elim (λ e. inl (ap suc e)) (λ h. inr (λ e. h (omega arith))) (nat_cases a b)

pub reg_cases : (r q : Reg) → (r ≡ q) ⊎ (r ≡ q → ⊥)
reg_cases r q = ⊎_elim (λ e. inl (same_reg r q e)) (λ h. inr (λ e. h (ap reg_number e))) (nat_cases (reg_number r) (reg_number q))

module _ (r : Reg) (bytes : Bytes) (v : ℕ) (m : Machine) where
  same_register_kept : (j : ℕ) → (IsAmong (first_of bytes) (count_of Width.L bytes) j → ⊥) → byte_of j (reg_in r (with_reg r (with_part bytes v (reg_in r m)) m)) ≡ byte_of j (reg_in r m)
  same_register_kept j missed =
      ⊎_elim (λ e. ap (byte_of j) e ∙ other_byte_kept bytes j v (reg_in r m) missed) (λ e. ap (byte_of j) e) (set_read m.regs (reg_number r) (with_part bytes v (reg_in r m)))

  pub register_kept : (q : Reg) (j : ℕ) → ((r ≡ q) × IsAmong (first_of bytes) (count_of Width.L bytes) j → ⊥) → byte_of j (reg_in q (with_reg r (with_part bytes v (reg_in r m)) m)) ≡ byte_of j (reg_in q m)
  register_kept q j missed = ⊎_elim same other (reg_cases r q)
    where
      same : r ≡ q → byte_of j (reg_in q (with_reg r (with_part bytes v (reg_in r m)) m)) ≡ byte_of j (reg_in q m)
      same e = subst (λ x. byte_of j (reg_in x (with_reg r (with_part bytes v (reg_in r m)) m)) ≡ byte_of j (reg_in x m)) e (same_register_kept j (λ among. missed (e, among)))

      other : (r ≡ q → ⊥) → byte_of j (reg_in q (with_reg r (with_part bytes v (reg_in r m)) m)) ≡ byte_of j (reg_in q m)
      other apart = ap (byte_of j) (get_or-set_other m.regs (reg_number r) (reg_number q) (with_part bytes v (reg_in r m)) 0 (λ e. apart (sym (same_reg q r e))))

-- ---- memory

-- the address is in the range as before, and another byte is as before
pub put_covers : (a b : ℕ) (r : Range) (address : ℕ) → covers (put_byte a b r) address ≡ covers r address
put_covers a b r address = by_test (covers r a) refl
  where
    by_test : (t : Bool) → covers r a ≡ t → covers (if t then record r { bytes = slice_set r.bytes (a - r.base) b } else r) address ≡ covers r address
    by_test true e = ap (λ n. nat_le r.base address && nat_lt address (r.base + n)) (length-set r.bytes (a - r.base) b)
    by_test false e = refl

-- a byte at another address
put_read : (a b : ℕ) (r : Range) (address : ℕ) → address ≢ a → covers r address ≡ true → slice_index (put_byte a b r).bytes (address - (put_byte a b r).base) ≡ slice_index r.bytes (address - r.base)
put_read a b r address apart at = by_test (covers r a) refl
  where
    by_test : (t : Bool) → covers r a ≡ t → slice_index (if t then record r { bytes = slice_set r.bytes (a - r.base) b } else r).bytes (address - (if t then record r { bytes = slice_set r.bytes (a - r.base) b } else r).base) ≡ slice_index r.bytes (address - r.base)
    by_test true e =
        let first : r.base ≤ address = leb-true r.base address (and_parts (nat_le r.base address) (nat_lt address (r.base + length r.bytes)) at).0 in
        let other : r.base ≤ a = leb-true r.base a (and_parts (nat_le r.base a) (nat_lt a (r.base + length r.bytes)) e).0 in
        get_or-set_other r.bytes (a - r.base) (address - r.base) b 0 (λ same. apart (omega arith))
    by_test false e = refl

pub byte_kept : (a b : ℕ) (rs : List Range) (address : ℕ) → address ≢ a → byte_at (with_byte a b rs) address ≡ byte_at rs address
byte_kept a b [] address apart = refl
byte_kept a b (r ∷ rs) address apart =
    ap (λ t. if t then slice_index (put_byte a b r).bytes (address - (put_byte a b r).base) else byte_at (with_byte a b rs) address) (put_covers a b r address)
    ∙ by_test (covers r address) refl (byte_kept a b rs address apart)
  where
    by_test : (t : Bool) → covers r address ≡ t → byte_at (with_byte a b rs) address ≡ byte_at rs address → (if t then slice_index (put_byte a b r).bytes (address - (put_byte a b r).base) else byte_at (with_byte a b rs) address) ≡ (if t then slice_index r.bytes (address - r.base) else byte_at rs address)
    by_test true e rest = put_read a b r address apart e
    by_test false e rest = rest

put_layout : (a b : ℕ) (r : Range) → layout_of (put_byte a b r) ≡ layout_of r
put_layout a b r = by_test (covers r a)
  where
    by_test : (t : Bool) → layout_of (if t then record r { bytes = slice_set r.bytes (a - r.base) b } else r) ≡ layout_of r
    by_test true = ap (λ n. record { base = r.base; size = n; writable = r.writable; owner = r.owner }) (length-set r.bytes (a - r.base) b)
    by_test false = refl

pub byte_layouts : (a b : ℕ) (rs : List Range) → layouts_of (with_byte a b rs) ≡ layouts_of rs
byte_layouts a b [] = refl
byte_layouts a b (r ∷ rs) = ap₂ (λ x xs. x ∷ xs) (put_layout a b r) (byte_layouts a b rs)

pub word_kept : (n a v : ℕ) (rs : List Range) (address : ℕ) → (LiesAt a n address → ⊥) → byte_at (with_word n a v rs) address ≡ byte_at rs address
word_kept zero a v rs address missed = refl
word_kept (suc n) a v rs address missed =
    word_kept n (a + 1) (v / 256) (with_byte (a % 2 ^ 32) (v % 256) rs) address (λ h. missed (h.0 + 1, omega arith, h.2 ∙ ap (λ x. x % 2 ^ 32) (later h.0)))
    ∙ byte_kept (a % 2 ^ 32) (v % 256) rs address (λ e. missed (0, omega arith, e ∙ ap (λ x. x % 2 ^ 32) first))
  where
    first : a ≡ a + 0
    first = omega arith

    later : (o : ℕ) → a + 1 + o ≡ a + (o + 1)
    later o = omega arith

pub word_layouts : (n a v : ℕ) (rs : List Range) → layouts_of (with_word n a v rs) ≡ layouts_of rs
word_layouts zero a v rs = refl
word_layouts (suc n) a v rs = word_layouts n (a + 1) (v / 256) (with_byte (a % 2 ^ 32) (v % 256) rs) ∙ byte_layouts (a % 2 ^ 32) (v % 256) rs

-- ---- the scratch

pub scratch_kept : (bytes : List ℕ) (n v j : ℕ) → (IsAmong (4 * n) 4 j → ⊥) → slice_index (with_scratch_word bytes n v) j ≡ slice_index bytes j
scratch_kept bytes n v j missed =
    get_or-set_other (slice_set (slice_set (slice_set bytes (4 * n) (v % 256)) (4 * n + 1) (v / 256 % 256)) (4 * n + 2) (v / 65536 % 256)) (4 * n + 3) j (v / 16777216 % 256) 0 (λ e. missed (omega arith, omega arith))
    ∙ get_or-set_other (slice_set (slice_set bytes (4 * n) (v % 256)) (4 * n + 1) (v / 256 % 256)) (4 * n + 2) j (v / 65536 % 256) 0 (λ e. missed (omega arith, omega arith))
    ∙ get_or-set_other (slice_set bytes (4 * n) (v % 256)) (4 * n + 1) j (v / 256 % 256) 0 (λ e. missed (omega arith, omega arith))
    ∙ get_or-set_other bytes (4 * n) j (v % 256) 0 (λ e. missed (omega arith, omega arith))

-- ---- any destination

-- nothing changes but what is hit
pub put_keeps : (d : Destination) (v : ℕ) (m : Machine) (c : Component) → (IsHit d c → ⊥) → component_in c (put d v m) ≡ component_in c m
put_keeps Destination.Nowhere v m c missed = refl
put_keeps (Destination.Register r bytes) v m (Component.WholeRegister q) missed = get_or-set_other m.regs (reg_number r) (reg_number q) (with_part bytes v (reg_in r m)) 0 (λ e. missed (sym (same_reg q r e)))
put_keeps (Destination.Register r bytes) v m (Component.RegisterByte q j) missed = register_kept r bytes v m q j missed
put_keeps (Destination.Register r bytes) v m (Component.FlagBit f) missed = refl
put_keeps (Destination.Register r bytes) v m (Component.MemoryByte a) missed = refl
put_keeps (Destination.Register r bytes) v m (Component.ScratchByte j) missed = refl
put_keeps (Destination.Register r bytes) v m Component.Depth missed = refl
put_keeps (Destination.Register r bytes) v m Component.Esp missed = refl
put_keeps (Destination.Memory a n) v m (Component.WholeRegister q) missed = refl
put_keeps (Destination.Memory a n) v m (Component.RegisterByte q j) missed = refl
put_keeps (Destination.Memory a n) v m (Component.FlagBit f) missed = refl
put_keeps (Destination.Memory a n) v m (Component.MemoryByte address) missed = word_kept n a v m.ranges address missed
put_keeps (Destination.Memory a n) v m (Component.ScratchByte j) missed = refl
put_keeps (Destination.Memory a n) v m Component.Depth missed = refl
put_keeps (Destination.Memory a n) v m Component.Esp missed = refl
put_keeps (Destination.Flag f) v m (Component.WholeRegister q) missed = refl
put_keeps (Destination.Flag f) v m (Component.RegisterByte q j) missed = refl
put_keeps (Destination.Flag f) v m (Component.FlagBit g) missed = ap bit (other_flag_kept f g v m.flags missed)
put_keeps (Destination.Flag f) v m (Component.MemoryByte a) missed = refl
put_keeps (Destination.Flag f) v m (Component.ScratchByte j) missed = refl
put_keeps (Destination.Flag f) v m Component.Depth missed = refl
put_keeps (Destination.Flag f) v m Component.Esp missed = refl
put_keeps (Destination.Push n) v m c missed = by_test (nat_lt n 16) c missed
  where
    by_test : (t : Bool) (c : Component) → (IsHit (Destination.Push n) c → ⊥) → component_in c (if t then pushed n v m else m) ≡ component_in c m
    by_test false c missed = refl
    by_test true (Component.WholeRegister q) missed = refl
    by_test true (Component.RegisterByte q j) missed = refl
    by_test true (Component.FlagBit f) missed = refl
    by_test true (Component.MemoryByte a) missed = refl
    by_test true (Component.ScratchByte j) missed = scratch_kept m.scratch n v j missed
    by_test true Component.Depth missed = absurd (missed tt)
    by_test true Component.Esp missed = absurd (missed tt)
put_keeps (Destination.Pop n) v m (Component.WholeRegister q) missed = refl
put_keeps (Destination.Pop n) v m (Component.RegisterByte q j) missed = refl
put_keeps (Destination.Pop n) v m (Component.FlagBit f) missed = refl
put_keeps (Destination.Pop n) v m (Component.MemoryByte a) missed = refl
put_keeps (Destination.Pop n) v m (Component.ScratchByte j) missed = refl
put_keeps (Destination.Pop n) v m Component.Depth missed = absurd (missed tt)
put_keeps (Destination.Pop n) v m Component.Esp missed = absurd (missed tt)

-- ranges stay where they are
pub put_layouts : (d : Destination) (v : ℕ) (m : Machine) → layouts_of (put d v m).ranges ≡ layouts_of m.ranges
put_layouts Destination.Nowhere v m = refl
put_layouts (Destination.Register r bytes) v m = refl
put_layouts (Destination.Memory a n) v m = word_layouts n a v m.ranges
put_layouts (Destination.Flag f) v m = refl
put_layouts (Destination.Push n) v m = by_test (nat_lt n 16)
  where
    by_test : (t : Bool) → layouts_of (if t then pushed n v m else m).ranges ≡ layouts_of m.ranges
    by_test true = refl
    by_test false = refl
put_layouts (Destination.Pop n) v m = refl

pub put_all_keeps : (ds : List Destination) (k : ℕ) (vs : List ℕ) (m : Machine) (c : Component) → (IsHitByOne ds c → ⊥) → component_in c (put_all ds k vs m) ≡ component_in c m
put_all_keeps [] k vs m c missed = refl
put_all_keeps (d ∷ ds) k vs m c missed =
    put_all_keeps ds (k + 1) vs (put d (slice_index vs k) m) c (λ h. missed (inr h)) ∙ put_keeps d (slice_index vs k) m c (λ h. missed (inl h))

pub put_all_layouts : (ds : List Destination) (k : ℕ) (vs : List ℕ) (m : Machine) → layouts_of (put_all ds k vs m).ranges ≡ layouts_of m.ranges
put_all_layouts [] k vs m = refl
put_all_layouts (d ∷ ds) k vs m = put_all_layouts ds (k + 1) vs (put d (slice_index vs k) m) ∙ put_layouts d (slice_index vs k) m
