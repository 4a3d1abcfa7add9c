-- What is put at a destination is read back there.
use Rattle.std.proofs.Common.{◌≡◌, ℕ, zero, suc, ◌+◌, ◌-◌, ◌/◌, ◌%◌, ◌^◌, ◌<◌, ◌≤◌, nat_le, nat_lt, ◌||◌, List, [], ◌∷◌, length, slice_index, slice_set, Bool, true, false, if◌then◌else◌, refl, ap, sym, ◌∙◌, arith}
use Rattle.std.specs.List.{list_any}
use Rattle.std.proofs.lemmas.Bool.{leb-true, ltb-true, and_parts}
use Rattle.std.proofs.lemmas.List.{get_or-set_same}
use Rattle.asm_core.specs.Machine.{covers, byte_at}
use Rattle.asm_core.specs.Memory.{put_byte, with_byte, with_word}
use Rattle.asm_core.specs.MicroOps.{first_of, count_of, with_part}
use Rattle.asm_core.specs.RowLaws.{byte_of, IsAmong, nth_byte}
use Rattle.asm_core.proofs.Puts.{word_kept, put_covers}
use Rattle.asm_core.specs.declared.inst.Width.{Width}
use Rattle.asm_core.specs.declared.micro_op.Bytes.{Bytes}
use Rattle.asm_core.specs.declared.machine.Range.{Range}

-- a part that was put into a register is there
pub part_read : (bytes : Bytes) (j v old : ℕ) → IsAmong (first_of bytes) (count_of Width.L bytes) j → byte_of j (with_part bytes v old) ≡ nth_byte (j - first_of bytes) v
part_read Bytes.Whole zero v old h = omega arith
part_read Bytes.Whole (suc zero) v old h = omega arith
part_read Bytes.Whole (suc (suc zero)) v old h = omega arith
part_read Bytes.Whole (suc (suc (suc zero))) v old h = omega arith
part_read Bytes.Whole (suc (suc (suc (suc j)))) v old h = absurd (omega arith)
part_read Bytes.All zero v old h = omega arith
part_read Bytes.All (suc zero) v old h = omega arith
part_read Bytes.All (suc (suc zero)) v old h = omega arith
part_read Bytes.All (suc (suc (suc zero))) v old h = omega arith
part_read Bytes.All (suc (suc (suc (suc j)))) v old h = absurd (omega arith)
part_read Bytes.Byte0 zero v old h = omega arith
part_read Bytes.Byte0 (suc zero) v old h = absurd (omega arith)
part_read Bytes.Byte0 (suc (suc zero)) v old h = absurd (omega arith)
part_read Bytes.Byte0 (suc (suc (suc zero))) v old h = absurd (omega arith)
part_read Bytes.Byte0 (suc (suc (suc (suc j)))) v old h = absurd (omega arith)
part_read Bytes.Byte1 zero v old h = absurd (omega arith)
part_read Bytes.Byte1 (suc zero) v old h = omega arith
part_read Bytes.Byte1 (suc (suc zero)) v old h = absurd (omega arith)
part_read Bytes.Byte1 (suc (suc (suc zero))) v old h = absurd (omega arith)
part_read Bytes.Byte1 (suc (suc (suc (suc j)))) v old h = absurd (omega arith)
part_read Bytes.Byte2 zero v old h = absurd (omega arith)
part_read Bytes.Byte2 (suc zero) v old h = absurd (omega arith)
part_read Bytes.Byte2 (suc (suc zero)) v old h = omega arith
part_read Bytes.Byte2 (suc (suc (suc zero))) v old h = absurd (omega arith)
part_read Bytes.Byte2 (suc (suc (suc (suc j)))) v old h = absurd (omega arith)
part_read Bytes.Byte3 zero v old h = absurd (omega arith)
part_read Bytes.Byte3 (suc zero) v old h = absurd (omega arith)
part_read Bytes.Byte3 (suc (suc zero)) v old h = absurd (omega arith)
part_read Bytes.Byte3 (suc (suc (suc zero))) v old h = omega arith
part_read Bytes.Byte3 (suc (suc (suc (suc j)))) v old h = absurd (omega arith)
part_read Bytes.Low16 zero v old h = omega arith
part_read Bytes.Low16 (suc zero) v old h = omega arith
part_read Bytes.Low16 (suc (suc zero)) v old h = absurd (omega arith)
part_read Bytes.Low16 (suc (suc (suc zero))) v old h = absurd (omega arith)
part_read Bytes.Low16 (suc (suc (suc (suc j)))) v old h = absurd (omega arith)
part_read Bytes.High16 zero v old h = absurd (omega arith)
part_read Bytes.High16 (suc zero) v old h = absurd (omega arith)
part_read Bytes.High16 (suc (suc zero)) v old h = omega arith
part_read Bytes.High16 (suc (suc (suc zero))) v old h = omega arith
part_read Bytes.High16 (suc (suc (suc (suc j)))) v old h = absurd (omega arith)
part_read Bytes.Upper24 zero v old h = absurd (omega arith)
part_read Bytes.Upper24 (suc zero) v old h = omega arith
part_read Bytes.Upper24 (suc (suc zero)) v old h = omega arith
part_read Bytes.Upper24 (suc (suc (suc zero))) v old h = omega arith
part_read Bytes.Upper24 (suc (suc (suc (suc j)))) v old h = absurd (omega arith)

-- a byte that was written is there, where some range has its address
pub byte_read : (a b : ℕ) (rs : List Range) → list_any (λ r. covers r a) rs ≡ true → byte_at (with_byte a b rs) a ≡ b
byte_read a b [] h = cc
byte_read a b (r ∷ rs) h =
    ap (λ t. if t then slice_index (put_byte a b r).bytes (a - (put_byte a b r).base) else byte_at (with_byte a b rs) a) (put_covers a b r a)
    ∙ by_test (covers r a) refl h (byte_read a b rs)
  where
    by_test : (t : Bool) → covers r a ≡ t → (t || list_any (λ q. covers q a) rs) ≡ true → (list_any (λ q. covers q a) rs ≡ true → byte_at (with_byte a b rs) a ≡ b)
        → (if t then slice_index (put_byte a b r).bytes (a - (put_byte a b r).base) else byte_at (with_byte a b rs) a) ≡ b
    by_test false e h rest = rest h
    by_test true e h rest =
        let parts = and_parts (nat_le r.base a) (nat_lt a (r.base + length r.bytes)) e in
        let first : r.base ≤ a = leb-true r.base a parts.0 in
        let last : a < r.base + length r.bytes = ltb-true a (r.base + length r.bytes) parts.1 in
        let within : a - r.base < length r.bytes = omega arith in
        ap (λ t. slice_index (if t then record r { bytes = slice_set r.bytes (a - r.base) b } else r).bytes (a - (if t then record r { bytes = slice_set r.bytes (a - r.base) b } else r).base)) e
        ∙ get_or-set_same r.bytes (a - r.base) b 0 within

-- a written byte leaves which addresses are in ranges
pub covered_kept : (a b : ℕ) (rs : List Range) (x : ℕ) → list_any (λ r. covers r x) (with_byte a b rs) ≡ list_any (λ r. covers r x) rs
covered_kept a b [] x = refl
covered_kept a b (r ∷ rs) x = ap (λ t. t || list_any (λ q. covers q x) (with_byte a b rs)) (put_covers a b r x) ∙ ap (λ t. covers r x || t) (covered_kept a b rs x)

-- each byte of a word of at most 8 that was written is there
pub word_read : (n a v o : ℕ) (rs : List Range) → o < n → n ≤ 8 → list_any (λ r. covers r ((a + o) % 2 ^ 32)) rs ≡ true → byte_at (with_word n a v rs) ((a + o) % 2 ^ 32) ≡ nth_byte o v
word_read zero a v o rs within few h = absurd (omega arith)
word_read (suc n) a v zero rs within few h = first (a % 2 ^ 32) same
  where
    same : (a + 0) % 2 ^ 32 ≡ a % 2 ^ 32
    same = ap (λ x. x % 2 ^ 32) (no_more a)
      where
        no_more : (a : ℕ) → a + 0 ≡ a
        no_more a = omega arith

    first : (x : ℕ) → (a + 0) % 2 ^ 32 ≡ x → byte_at (with_word (suc n) a v rs) ((a + 0) % 2 ^ 32) ≡ v % 256
    first x e =
        word_kept n (a + 1) (v / 256) (with_byte (a % 2 ^ 32) (v % 256) rs) ((a + 0) % 2 ^ 32) (λ lies. let o = lies.0 in let small : o < n = lies.1 in let at : (a + 0) % 2 ^ 32 ≡ (a + 1 + o) % 2 ^ 32 = lies.2 in omega arith)
        ∙ ap (byte_at (with_byte (a % 2 ^ 32) (v % 256) rs)) same
        ∙ byte_read (a % 2 ^ 32) (v % 256) rs (sym (ap (λ y. list_any (λ r. covers r y) rs) same) ∙ h)
word_read (suc n) a v (suc o) rs within few h =
    ap (byte_at (with_word n (a + 1) (v / 256) (with_byte (a % 2 ^ 32) (v % 256) rs))) (ap (λ x. x % 2 ^ 32) (next a o))
    ∙ word_read n (a + 1) (v / 256) o (with_byte (a % 2 ^ 32) (v % 256) rs) (omega arith) (omega arith)
    (covered_kept (a % 2 ^ 32) (v % 256) rs ((a + 1 + o) % 2 ^ 32) ∙ sym (ap (λ x. list_any (λ r. covers r (x % 2 ^ 32)) rs) (next a o)) ∙ h)
  where
    next : (a o : ℕ) → a + suc o ≡ a + 1 + o
    next a o = omega arith
