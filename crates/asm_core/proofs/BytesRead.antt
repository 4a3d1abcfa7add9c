-- What a read gives, byte for byte.
use Rattle.std.proofs.Common.{◌≡◌, ⊎_elim, ℕ, zero, suc, ◌+◌, ◌-◌, ◌*◌, ◌/◌, ◌%◌, ◌^◌, ◌<◌, ℤ, pos, negsuc, List, [], ◌∷◌, length, slice_index, Bool, true, false, if◌then◌else◌, refl, ap, ◌∙◌, arith}
use Rattle.std.specs.List.{All}
use Rattle.std.proofs.lemmas.Bool.{cases_lt}
use Rattle.std.proofs.lemmas.List.{get_or_past}
use Rattle.asm_core.specs.Machine.{IsRange, covers, byte_at}
use Rattle.asm_core.specs.Memory.{modulo, word_at, scratch_word}
use Rattle.asm_core.specs.MicroOps.{first_of, count_of, part_of}
use Rattle.asm_core.specs.RowLaws.{byte_of, nth_byte}
use Rattle.asm_core.specs.declared.inst.Width.{Width}
use Rattle.asm_core.specs.declared.micro_op.Bytes.{Bytes}
use Rattle.asm_core.specs.declared.machine.Range.{Range}

-- ---- registers

pub part_byte : (bytes : Bytes) (o v : ℕ) → o < count_of Width.L bytes → nth_byte o (part_of bytes v) ≡ byte_of (first_of bytes + o) v
part_byte Bytes.Whole zero v small = omega arith
part_byte Bytes.Whole (suc zero) v small = omega arith
part_byte Bytes.Whole (suc (suc zero)) v small = omega arith
part_byte Bytes.Whole (suc (suc (suc zero))) v small = omega arith
part_byte Bytes.Whole (suc (suc (suc (suc o)))) v small = absurd (omega arith)
part_byte Bytes.Byte0 zero v small = omega arith
part_byte Bytes.Byte0 (suc o) v small = absurd (omega arith)
part_byte Bytes.Byte1 zero v small = omega arith
part_byte Bytes.Byte1 (suc o) v small = absurd (omega arith)
part_byte Bytes.Byte2 zero v small = omega arith
part_byte Bytes.Byte2 (suc o) v small = absurd (omega arith)
part_byte Bytes.Byte3 zero v small = omega arith
part_byte Bytes.Byte3 (suc o) v small = absurd (omega arith)
part_byte Bytes.Low16 zero v small = omega arith
part_byte Bytes.Low16 (suc zero) v small = omega arith
part_byte Bytes.Low16 (suc (suc o)) v small = absurd (omega arith)
part_byte Bytes.High16 zero v small = omega arith
part_byte Bytes.High16 (suc zero) v small = omega arith
part_byte Bytes.High16 (suc (suc o)) v small = absurd (omega arith)
part_byte Bytes.Upper24 zero v small = omega arith
part_byte Bytes.Upper24 (suc zero) v small = omega arith
part_byte Bytes.Upper24 (suc (suc zero)) v small = omega arith
part_byte Bytes.Upper24 (suc (suc (suc o))) v small = absurd (omega arith)
part_byte Bytes.All zero v small = omega arith
part_byte Bytes.All (suc zero) v small = omega arith
part_byte Bytes.All (suc (suc zero)) v small = omega arith
part_byte Bytes.All (suc (suc (suc zero))) v small = omega arith
part_byte Bytes.All (suc (suc (suc (suc o)))) v small = absurd (omega arith)

-- ---- numbers

-- the low bits of a number are those of its 64 bits
modulo_8 : (n : ℤ) → modulo n 8 ≡ modulo n 64 % 256
modulo_8 (pos n) = omega arith
modulo_8 (negsuc n) = omega arith

modulo_16 : (n : ℤ) → modulo n 16 ≡ modulo n 64 % 65536
modulo_16 (pos n) = omega arith
modulo_16 (negsuc n) = omega arith

modulo_24 : (n : ℤ) → modulo n 24 ≡ modulo n 64 % 16777216
modulo_24 (pos n) = omega arith
modulo_24 (negsuc n) = omega arith

modulo_32 : (n : ℤ) → modulo n 32 ≡ modulo n 64 % 4294967296
modulo_32 (pos n) = omega arith
modulo_32 (negsuc n) = omega arith

-- a byte of the low bits is one of the number
low_1 : (o v : ℕ) → o < 1 → nth_byte o (v % 256) ≡ nth_byte o v
low_1 zero v small = omega arith
low_1 (suc o) v small = absurd (omega arith)

of_1 : (o : ℕ) (n : ℤ) → o < 1 → nth_byte o (modulo n 8) ≡ nth_byte o (modulo n 64)
of_1 o n small = ap (nth_byte o) (modulo_8 n) ∙ low_1 o (modulo n 64) small

low_2 : (o v : ℕ) → o < 2 → nth_byte o (v % 65536) ≡ nth_byte o v
low_2 zero v small = omega arith
low_2 (suc zero) v small = omega arith
low_2 (suc (suc o)) v small = absurd (omega arith)

of_2 : (o : ℕ) (n : ℤ) → o < 2 → nth_byte o (modulo n 16) ≡ nth_byte o (modulo n 64)
of_2 o n small = ap (nth_byte o) (modulo_16 n) ∙ low_2 o (modulo n 64) small

low_3 : (o v : ℕ) → o < 3 → nth_byte o (v % 16777216) ≡ nth_byte o v
low_3 zero v small = omega arith
low_3 (suc zero) v small = omega arith
low_3 (suc (suc zero)) v small = omega arith
low_3 (suc (suc (suc o))) v small = absurd (omega arith)

of_3 : (o : ℕ) (n : ℤ) → o < 3 → nth_byte o (modulo n 24) ≡ nth_byte o (modulo n 64)
of_3 o n small = ap (nth_byte o) (modulo_24 n) ∙ low_3 o (modulo n 64) small

low_4 : (o v : ℕ) → o < 4 → nth_byte o (v % 4294967296) ≡ nth_byte o v
low_4 zero v small = omega arith
low_4 (suc zero) v small = omega arith
low_4 (suc (suc zero)) v small = omega arith
low_4 (suc (suc (suc zero))) v small = omega arith
low_4 (suc (suc (suc (suc o)))) v small = absurd (omega arith)

of_4 : (o : ℕ) (n : ℤ) → o < 4 → nth_byte o (modulo n 32) ≡ nth_byte o (modulo n 64)
of_4 o n small = ap (nth_byte o) (modulo_32 n) ∙ low_4 o (modulo n 64) small

pub number_byte : (w : Width) (bytes : Bytes) (o : ℕ) (n : ℤ) → o < count_of w bytes → nth_byte o (modulo n (8 * count_of w bytes)) ≡ nth_byte o (modulo n 64)
number_byte Width.B Bytes.Whole o n small = of_1 o n small
number_byte Width.W Bytes.Whole o n small = of_2 o n small
number_byte Width.L Bytes.Whole o n small = of_4 o n small
number_byte Width.Q Bytes.Whole o n small = refl
number_byte w Bytes.Byte0 o n small = of_1 o n small
number_byte w Bytes.Byte1 o n small = of_1 o n small
number_byte w Bytes.Byte2 o n small = of_1 o n small
number_byte w Bytes.Byte3 o n small = of_1 o n small
number_byte w Bytes.Low16 o n small = of_2 o n small
number_byte w Bytes.High16 o n small = of_2 o n small
number_byte w Bytes.Upper24 o n small = of_3 o n small
number_byte w Bytes.All o n small = of_4 o n small

-- ---- memory and the scratch

item_small : (l : List ℕ) (k : ℕ) → All (λ b. b < 256) l → slice_index l k < 256
item_small l k all = ⊎_elim (λ within. all k 0 within) (λ past. rw (get_or_past l k 0 past) (omega arith)) (cases_lt k (length l))

byte_small : (rs : List Range) (a : ℕ) → All IsRange rs → byte_at rs a < 256
byte_small [] a all = omega arith
byte_small (r ∷ rs) a all = by_test (covers r a) (item_small r.bytes (a - r.base) (first all).bytes) (byte_small rs a (rest all))
  where
    first : All IsRange (r ∷ rs) → IsRange r
    first all = all 0 r (omega arith)

    rest : All IsRange (r ∷ rs) → All IsRange rs
    rest all = λ k q within. all (suc k) q (omega arith)

    by_test : (t : Bool) → slice_index r.bytes (a - r.base) < 256 → byte_at rs a < 256 → (if t then slice_index r.bytes (a - r.base) else byte_at rs a) < 256
    by_test true here there = here
    by_test false here there = there

pub word_byte : (n o a : ℕ) (rs : List Range) → All IsRange rs → o < n → nth_byte o (word_at n a rs) ≡ byte_at rs ((a + o) % 2 ^ 32)
word_byte zero o a rs all small = absurd (omega arith)
word_byte (suc n) zero a rs all small = low (byte_at rs (a % 2 ^ 32)) (word_at n (a + 1) rs) (byte_small rs (a % 2 ^ 32) all) ∙ ap (λ x. byte_at rs (x % 2 ^ 32)) (no_more a)
  where
    low : (b rest : ℕ) → b < 256 → (b + 256 * rest) % 256 ≡ b
    low b rest small = omega arith

    no_more : (a : ℕ) → a ≡ a + 0
    no_more a = omega arith
word_byte (suc n) (suc o) a rs all small =
    ap (nth_byte o) (high (byte_at rs (a % 2 ^ 32)) (word_at n (a + 1) rs) (byte_small rs (a % 2 ^ 32) all))
    ∙ word_byte n o (a + 1) rs all (omega arith)
    ∙ ap (λ x. byte_at rs (x % 2 ^ 32)) (next a o)
  where
    high : (b rest : ℕ) → b < 256 → (b + 256 * rest) / 256 ≡ rest
    high b rest small = omega arith

    next : (a o : ℕ) → a + 1 + o ≡ a + suc o
    next a o = omega arith

four_0 : (a b c d : ℕ) → a < 256 → nth_byte 0 (a + 256 * b + 65536 * c + 16777216 * d) ≡ a
four_0 a b c d at_a = omega arith

four_1 : (a b c d : ℕ) → a < 256 → b < 256 → nth_byte 1 (a + 256 * b + 65536 * c + 16777216 * d) ≡ b
four_1 a b c d at_a at_b = omega arith

four_2 : (a b c d : ℕ) → a < 256 → b < 256 → c < 256 → nth_byte 2 (a + 256 * b + 65536 * c + 16777216 * d) ≡ c
four_2 a b c d at_a at_b at_c = omega arith

four_3 : (a b c d : ℕ) → a < 256 → b < 256 → c < 256 → d < 256 → nth_byte 3 (a + 256 * b + 65536 * c + 16777216 * d) ≡ d
four_3 a b c d at_a at_b at_c at_d = omega arith

pub scratch_byte : (l : List ℕ) (n o : ℕ) → All (λ b. b < 256) l → o < 4 → nth_byte o (scratch_word l n) ≡ slice_index l (4 * n + o)
scratch_byte l n o all small = by_byte o small
  where
    no_more : (n : ℕ) → 4 * n ≡ 4 * n + 0
    no_more n = omega arith

    by_byte : (o : ℕ) → o < 4 → nth_byte o (scratch_word l n) ≡ slice_index l (4 * n + o)
    by_byte zero small = four_0 (slice_index l (4 * n)) (slice_index l (4 * n + 1)) (slice_index l (4 * n + 2)) (slice_index l (4 * n + 3)) (item_small l (4 * n) all) ∙ ap (slice_index l) (no_more n)
    by_byte (suc zero) small = four_1 (slice_index l (4 * n)) (slice_index l (4 * n + 1)) (slice_index l (4 * n + 2)) (slice_index l (4 * n + 3)) (item_small l (4 * n) all) (item_small l (4 * n + 1) all)
    by_byte (suc (suc zero)) small = four_2 (slice_index l (4 * n)) (slice_index l (4 * n + 1)) (slice_index l (4 * n + 2)) (slice_index l (4 * n + 3)) (item_small l (4 * n) all) (item_small l (4 * n + 1) all) (item_small l (4 * n + 2) all)
    by_byte (suc (suc (suc zero))) small =
        four_3 (slice_index l (4 * n)) (slice_index l (4 * n + 1)) (slice_index l (4 * n + 2)) (slice_index l (4 * n + 3)) (item_small l (4 * n) all) (item_small l (4 * n + 1) all) (item_small l (4 * n + 2) all) (item_small l (4 * n + 3) all)
    by_byte (suc (suc (suc (suc o)))) small = absurd (omega arith)
