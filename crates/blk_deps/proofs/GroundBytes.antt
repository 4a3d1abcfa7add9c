-- Byte cells as the bits of three words.
use Rattle.std.proofs.Common.{◌≡◌, inl, inr, ℕ, zero, suc, ◌+◌, ◌-◌, ◌*◌, ◌/◌, ◌%◌, ◌^◌, ◌<◌, ◌||◌, ◌&&◌, ◌==◌, nat_lt, List, [], ◌∷◌, length, get_or, slice_index, Bool, not, sym, ap, subst, ◌∙◌, arith}
use Rattle.std.proofs.lemmas.Nat.{pow_pos}
use Rattle.std.proofs.lemmas.Bool.{cases_eq, cases_lt, eq-eqb, ne_eqb}
use Rattle.std.proofs.lemmas.Nat.Bits.{bit_at_cat_low, bit_at_cat_high}
use Rattle.asm_core.specs.Company.{places_of, all_places}
use Rattle.asm_core.specs.declared.company.Places.{Places}
use Rattle.asm_core.specs.declared.shape.Shape.{Shape}
use Rattle.asm_core.specs.declared.interface.Interface.{Interface}
use Rattle.blk_deps.specs.Ground.{has_bit, has_cell_bit}
use Rattle.blk_deps.specs.Holding.{is_of_class}
use Rattle.blk_deps.specs.declared.ground.bytes.Class.{Class}
use Rattle.blk_deps.proofs.GroundBits.{no_bit, bit_above, mod_bit}
use Rattle.blk_deps.proofs.GroundPlaces.{listed}

-- ---- two sets

module _ (a b d x y z p q r : ℕ) where
  pub cells_or : ((k : ℕ) → has_bit p k ≡ (has_bit a k || has_bit x k))
      → ((k : ℕ) → has_bit q k ≡ (has_bit b k || has_bit y k)) → ((k : ℕ) → has_bit r k ≡ (has_bit d k || has_bit z k))
      → (c : ℕ) → has_cell_bit (p ∷ q ∷ r ∷ []) c ≡ (has_cell_bit (a ∷ b ∷ d ∷ []) c || has_cell_bit (x ∷ y ∷ z ∷ []) c)
  cells_or first second third c = go (c / 64) (c % 64)
    where
      go : (w k : ℕ) → has_bit (slice_index (p ∷ q ∷ r ∷ []) w) k
          ≡ (has_bit (slice_index (a ∷ b ∷ d ∷ []) w) k || has_bit (slice_index (x ∷ y ∷ z ∷ []) w) k)
      go zero k = first k
      go (suc zero) k = second k
      go (suc (suc zero)) k = third k
      go (suc (suc (suc w))) k = no_bit k ∙ sym (ap (λ t. t || has_bit 0 k) (no_bit k) ∙ no_bit k)

  pub cells_without : ((k : ℕ) → k < 64 → has_bit p k ≡ (has_bit a k && not (has_bit x k)))
      → ((k : ℕ) → k < 64 → has_bit q k ≡ (has_bit b k && not (has_bit y k)))
      → ((k : ℕ) → k < 64 → has_bit r k ≡ (has_bit d k && not (has_bit z k))) → (c : ℕ)
      → has_cell_bit (p ∷ q ∷ r ∷ []) c ≡ (has_cell_bit (a ∷ b ∷ d ∷ []) c && not (has_cell_bit (x ∷ y ∷ z ∷ []) c))
  cells_without first second third c = go (c / 64) (c % 64) (omega arith)
    where
      go : (w k : ℕ) → k < 64 → has_bit (slice_index (p ∷ q ∷ r ∷ []) w) k
          ≡ (has_bit (slice_index (a ∷ b ∷ d ∷ []) w) k && not (has_bit (slice_index (x ∷ y ∷ z ∷ []) w) k))
      go zero k lt = first k lt
      go (suc zero) k lt = second k lt
      go (suc (suc zero)) k lt = third k lt
      go (suc (suc (suc w))) k lt = no_bit k ∙ sym (ap (λ t. t && not (has_bit 0 k)) (no_bit k))

-- ---- bytes of one place

-- one by one
below_four : (P : ℕ → Type 0) → P 0 → P 1 → P 2 → P 3 → (n : ℕ) → n < 4 → P n
below_four P a b c d n lt = elim (cases_eq n 0) [
  | inl is ↦ subst P (sym is) a
  | inr n0 ↦ elim (cases_eq n 1) [
    | inl is ↦ subst P (sym is) b
    | inr n1 ↦ elim (cases_eq n 2) [
      | inl is ↦ subst P (sym is) c
      | inr n2 ↦ let is : n ≡ 3 = omega arith in subst P (sym is) d
    ]
  ]
]

-- the bits of so many bytes, the low ones of four
pub low_told : (w count : ℕ) → has_bit w 0 ≡ nat_lt 0 count → has_bit w 1 ≡ nat_lt 1 count
    → has_bit w 2 ≡ nat_lt 2 count → has_bit w 3 ≡ nat_lt 3 count → (b : ℕ) → b < 4 → has_bit w b ≡ nat_lt b count
low_told w count a b c d n lt = below_four (λ n. has_bit w n ≡ nat_lt n count) a b c d n lt

pub shifted : (low place count n : ℕ) → low < 16 → ((b : ℕ) → b < 4 → has_bit low b ≡ nat_lt b count) → n < 64
    → has_bit (low * 2 ^ (place * 4) % 18446744073709551616) n ≡ (n / 4 == place && nat_lt (n % 4) count)
shifted low place count n small told within = mod_bit (low * 2 ^ (place * 4)) n within ∙ ap (λ m. has_bit m n) grown
    ∙ go
  where
    grown : low * 2 ^ (place * 4) ≡ low * 2 ^ (place * 4) + 0
    grown = omega arith

    go : has_bit (low * 2 ^ (place * 4) + 0) n ≡ (n / 4 == place && nat_lt (n % 4) count)
    go = elim (cases_lt n (place * 4)) [
      | inl below ↦ ap (λ m. m == 1) (bit_at_cat_low low (place * 4) 0 n below) ∙ no_bit n
          ∙ sym (ap (λ b. b && nat_lt (n % 4) count) (ne_eqb (n / 4) place (omega arith)))
      | inr above ↦ ap (λ m. m == 1) (bit_at_cat_high low (place * 4) 0 n (pow_pos (place * 4)) above)
          ∙ (elim (cases_lt n (place * 4 + 4)) [
            | inl here ↦
                let same : n - place * 4 ≡ n % 4 = omega arith in
                ap (has_bit low) same ∙ told (n % 4) (omega arith)
                ∙ sym (ap (λ b. b && nat_lt (n % 4) count) (eq-eqb (n / 4) place (omega arith)))
            | inr past ↦ bit_above low 4 (n - place * 4) small (omega arith)
                ∙ sym (ap (λ b. b && nat_lt (n % 4) count) (ne_eqb (n / 4) place (omega arith)))
          ])
    ]

-- one more operand
pub class_more : (class : Class) (i : Interface) (s : Shape) (places : List Places) (k : ℕ) (d : Places) (c : ℕ)
    (mine has next : Bool) → places ≡ all_places i s → k < length places
    → mine ≡ is_of_class class i s k (get_or places k d) c → next ≡ (has || mine)
    → next ≡ (has || is_of_class class i s k (places_of i s k) c)
class_more class i s places k d c mine has next is lt here joined = joined
    ∙ ap (λ b. has || b) (here ∙ ap (λ x. is_of_class class i s k x c) (listed i s places k d is lt))
