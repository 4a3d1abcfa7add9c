-- The places of each name, as bits.
use Rattle.std.proofs.Common.{◌≡◌, ◌≢◌, inl, inr, ℕ, suc, ◌+◌, ◌-◌, ◌*◌, ◌^◌, ◌%◌, ◌<◌, ◌≤◌, ◌==◌, nat_lt, ◌&&◌, ◌||◌, List, length, slice_index, slice_index_or, slice_set, replicate, bit_or, Option, None, Some, Bool, true, false, refl, sym, ap, ◌∙◌, arith}
use Rattle.std.proofs.Math.Bool.{or-false, or-true, and-true, and-false}
use Rattle.std.proofs.lemmas.Bool.{cases_eq, cases_lt, eq-eqb, ne_eqb, le-ltb}
use Rattle.std.proofs.lemmas.List.{get_or-set_same, get_or-set_other, get_or-replicate}
use Rattle.std.proofs.lemmas.Option.{slice_get-get_or, slice_get_past}
use Rattle.std.specs.List.{slice_get}
use Rattle.asm_core.specs.declared.finding.Cell.{Cell}
use Rattle.blk_deps.specs.Ground.{has_bit}
use Rattle.blk_deps.specs.Ruling.{place_index, is_index, is_name_index, is_named, AddsName, AreMasks, AreMasksBelow}
use Rattle.blk_deps.proofs.GroundBits.{set_bit, no_bit}

pub added : (p : ℕ) (name : Cell) (masks : List ℕ) (y : ℕ) → p < 64 → y < length masks → place_index name ≡ Some y
    → AddsName p name masks (slice_set masks y (bit_or (slice_index masks y) (1 * 2 ^ p % 18446744073709551616)))
added p name masks y fits within is = record { each = each }
  where
    word : ℕ
    word = bit_or (slice_index masks y) (1 * 2 ^ p % 18446744073709551616)

    each : (x q : ℕ) → x < 37 → q < 64 → has_bit (slice_index (slice_set masks y word) x) q
        ≡ (has_bit (slice_index masks x) q || (q == p && is_index (place_index name) x))
    each x q lx lq = elim (cases_eq x y) [
      | inl same ↦ rw (same, is, get_or-set_same masks y word 0 within, eq-eqb y y refl, and-true (q == p)) (set_bit
          (slice_index masks y) p q fits)
      | inr other ↦ rw (
        is,
        get_or-set_other masks y x word 0 other,
        ne_eqb x y other,
        and-false (q == p),
        or-false
            (has_bit (slice_index masks x) q),
      ) refl
    ]

pub not_added : (p : ℕ) (name : Cell) (masks : List ℕ) → place_index name ≡ None → AddsName p name masks masks
not_added p name masks is = record {
  each = λ x q lx lq. rw (
    is,
    and-false (q == p),
    or-false (has_bit
        (slice_index masks x) q),
  ) refl;
}

less_more : (q p : ℕ) (here : Bool) (also : Bool) → (q ≡ p → also ≡ here)
    → ((nat_lt q p && here) || (q == p && also)) ≡ (nat_lt q (p + 1) && here)
less_more q p here also is = elim (cases_lt q p) [
  | inl less ↦ grind (arith, ne_eqb q p)
  | inr not_less ↦ elim (cases_eq q p) [
    | inl same ↦ rw (is same) (grind (arith, eq-eqb q p same))
    | inr other ↦ grind (arith, ne_eqb q p other)
  ]
]

-- one more place
pub masks_more : (names : List Cell) (p : ℕ) (d : Cell) (old new : List ℕ) → p < length names
    → AreMasksBelow names p old → AddsName p (slice_index_or names p d) old new → AreMasksBelow names (p + 1) new
masks_more names p d old new within before adds = record { each = each }
  where
    each : (x q : ℕ) → x < 37 → q < 64 → has_bit (slice_index new x) q ≡ (nat_lt q (p + 1) && is_named names x q)
    each x q lx lq =
        let at : (q ≡ p → is_index (place_index (slice_index_or names p d)) x ≡ is_named names x q) =
        λ (same : q ≡ p). rw same (ap (λ o. is_name_index o x) (sym (slice_get-get_or names p d within))) in
        adds.each x q lx lq ∙ ap (λ b. b || (q == p && is_index (place_index (slice_index_or names p d)) x))
        (before.each x q lx lq)
        ∙ less_more q p (is_named names x q) (is_index (place_index (slice_index_or names p d)) x) at

-- all places
pub masks_all : (names : List Cell) (masks : List ℕ) (p : ℕ) → length names ≤ p → AreMasksBelow names p masks
    → AreMasks names masks
masks_all names masks p all below = record { each = each }
  where
    each : (x q : ℕ) → x < 37 → q < 64 → has_bit (slice_index masks x) q ≡ is_named names x q
    each x q lx lq = elim (cases_lt q p) [
      | inl less ↦ below.each x q lx lq ∙ (grind (arith, nat_lt))
      | inr past ↦ below.each x q lx lq ∙ rw (slice_get_past names q (omega arith)) (and-false (nat_lt q p))
    ]

-- no places yet
none_below : (p : ℕ) → nat_lt p 0 ≡ false
none_below p = le-ltb p 0 (omega arith)

pub masks_none : (names : List Cell) (count : ℕ) → 37 ≤ count → AreMasksBelow names 0 (replicate count 0)
masks_none names count enough = record { each = each }
  where
    each : (x p : ℕ) → x < 37 → p < 64 → has_bit (slice_index (replicate count 0) x) p
        ≡ (nat_lt p 0 && is_named names x p)
    each x p lx lp = let within : x < count = omega arith in rw (get_or-replicate {A = ℕ} count x 0 0 within, none_below p) (no_bit p)
