-- Which cells have blocks in a row, and which.
use Rattle.std.proofs.Common.{◌≡◌, ◌≢◌, ◌⊎◌, inl, inr, ℕ, ◌+◌, ◌*◌, ◌<◌, ◌≤◌, None, Some, refl, arith}
use Rattle.std.proofs.lemmas.Bool.{cases_lt, lt-ltb, le-ltb}
use Rattle.std.proofs.Math.Nat.{mul-le-mul_right}
use Rattle.std.proofs.lemmas.Grind.{common_steps}
use Rattle.blk_deps.specs.Layout.{IsLayout, places_in, cells_in, block_words, row_words, block_at, slot}
use Rattle.blk_deps.specs.declared.layout.Layout.{Layout}

pub slot_cases : (l : Layout) (c x : ℕ) → IsLayout l → slot l c ≡ Some x
    → ((c < 4 * places_in l) × (x ≡ c)) ⊎ ((148 ≤ c) × (c < 154 + 4 * l.words) × (x + 148 ≡ 4 * places_in l + c))
slot_cases l c x is e = grind (arith, common_steps)

pub slot_inside : (l : Layout) (c x : ℕ) → IsLayout l → slot l c ≡ Some x → x < cells_in l
slot_inside l c x is e = elim (slot_cases l c x is e) [
  | inl byte ↦ omega (arith, byte)
  | inr other ↦ omega (arith, other)
]

pub slot_below : (l : Layout) (c x : ℕ) → IsLayout l → slot l c ≡ Some x → c < 218
slot_below l c x is e = elim (slot_cases l c x is e) [
  | inl byte ↦ omega (arith, byte, is.operands)
  | inr other ↦ omega (arith, other, is.words)
]

pub slot_injective : (l : Layout) (c e x : ℕ) → IsLayout l → slot l c ≡ Some x → slot l e ≡ Some x → c ≡ e
slot_injective l c e x is has too = elim (slot_cases l c x is has) [
  | inl byte ↦ elim (slot_cases l e x is too) [ inl another ↦ omega (arith, byte, another) | inr other ↦ omega (arith, byte, other) ]
  | inr plain ↦ elim (slot_cases l e x is too) [ inl another ↦ omega (arith, plain, another) | inr other ↦ omega (arith, plain, other) ]
]

pub slot_of_byte : (l : Layout) (c : ℕ) → IsLayout l → c < 4 * places_in l → slot l c ≡ Some c
slot_of_byte l c is lt = rw (lt-ltb c 148 (omega (arith, is.operands)), lt-ltb c (4 * places_in l) lt) refl

pub no_slot_of_byte : (l : Layout) (c : ℕ) → c < 148 → 4 * places_in l ≤ c → slot l c ≡ None
no_slot_of_byte l c lt le = rw (lt-ltb c 148 lt, le-ltb c (4 * places_in l) le) refl

-- the blocks lie one behind the other, behind the head and within the row
pub block_ends : (words x y : ℕ) → x < y → x * words + words ≤ y * words
block_ends words x y lt = let le = mul-le-mul_right {m = x + 1} {n = y} words (omega arith) in omega (arith, le)

pub block_inside : (l : Layout) (x : ℕ) → x < cells_in l → block_at l x + block_words l ≤ row_words l
block_inside l x lt = let ends = block_ends (block_words l) x (cells_in l) lt in omega (arith, ends)

pub blocks_apart : (l : Layout) (x y : ℕ) → x ≢ y → (block_at l x + block_words l ≤ block_at l y) ⊎ (block_at l y + block_words l ≤ block_at l x)
blocks_apart l x y differ = elim (cases_lt x y) [
  | inl lt ↦ inl (let ends = block_ends (block_words l) x y lt in omega (arith, ends))
  | inr ge ↦ inr (let ends = block_ends (block_words l) y x (omega arith) in omega (arith, ends))
]
