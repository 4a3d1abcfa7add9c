-- Going over the places of a mask.
use Rattle.std.proofs.Common.{◌≡◌, inl, inr, ℕ, ◌+◌, ◌<◌, ◌≤◌, ◌&&◌, Bool, true, false, refl, sym, ◌∙◌, arith}
use Rattle.std.specs.List.{list_any, range_with_len}
use Rattle.std.proofs.lemmas.Bool.{cases_eq}
use Rattle.blk_deps.specs.Ground.{has_bit}
use Rattle.blk_deps.specs.Ruling.{IsSpan, IsMask, some_place, have_common}
use Rattle.blk_deps.proofs.AnyLaws.{true_or_false, same_truth, and_first, and_second, both_true, any_at, any_below, none_below}

-- no place from the first on, up to that one, passes
pub record NonePassed (mask : ℕ) (test : ℕ → Bool) (first end : ℕ) : Type 0 where
  pub none : (p : ℕ) → first ≤ p → p < end → (has_bit mask p && test p) ≡ false

pub none_yet : (mask : ℕ) (test : ℕ → Bool) (first : ℕ) → NonePassed mask test first first
none_yet mask test first = record { none = λ p from below. absurd (omega arith) }

pub none_more : (mask : ℕ) (test : ℕ → Bool) (first p : ℕ) → (has_bit mask p && test p) ≡ false
    → NonePassed mask test first p → NonePassed mask test first (p + 1)
none_more mask test first p here before = record { none = none }
  where
    none : (q : ℕ) → first ≤ q → q < p + 1 → (has_bit mask q && test q) ≡ false
    none q from below = elim (cases_eq q p) [
      | inl same ↦ rw same here
      | inr other ↦ before.none q from (omega arith)
    ]

pub not_here : (mask : ℕ) (test : ℕ → Bool) (p : ℕ) → has_bit mask p ≡ false → (has_bit mask p && test p) ≡ false
not_here mask test p is = rw is refl

pub not_passing : (mask : ℕ) (test : ℕ → Bool) (p : ℕ) → has_bit mask p ≡ true → test p ≡ false
    → (has_bit mask p && test p) ≡ false
not_passing mask test p is none = rw (is, none) refl

pub passed_without : (mask : ℕ) (test : ℕ → Bool) (first p : ℕ) → has_bit mask p ≡ false
    → NonePassed mask test first p → NonePassed mask test first (p + 1)
passed_without mask test first p is = none_more mask test first p (not_here mask test p is)

pub passed_failing : (mask : ℕ) (test : ℕ → Bool) (first p : ℕ) → has_bit mask p ≡ true → test p ≡ false
    → NonePassed mask test first p → NonePassed mask test first (p + 1)
passed_failing mask test first p is none = none_more mask test first p (not_passing mask test p is none)

pub some_found : (mask : ℕ) (test : ℕ → Bool) (p : ℕ) → p < 37 → has_bit mask p ≡ true → test p ≡ true
    → some_place mask test ≡ true
unfolding some_place
some_found mask test p below is passes = any_at (λ q. has_bit mask q && test q) 37 p below (both_true _ _ is passes)

pub none_found : (mask : ℕ) (test : ℕ → Bool) (first end p : ℕ) → IsSpan mask first end → end ≤ p
    → NonePassed mask test first p → some_place mask test ≡ false
unfolding some_place
none_found mask test first end p span past passed = none_below (λ q. has_bit mask q && test q) 37 none
  where
    none : (q : ℕ) → q < 37 → (has_bit mask q && test q) ≡ false
    none q below = elim (true_or_false (has_bit mask q)) [
      | inl is ↦ let in_span = span.inside q is in passed.none q in_span.0 (omega (arith, in_span.1))
      | inr is_not ↦ not_here mask test q is_not
    ]

-- the places of a mask that are in a word of places too
pub common_places : (mask word : ℕ) (test : ℕ → Bool) → IsMask 37 mask → ((d : ℕ) → d < 64 → has_bit word d
    ≡ test d) → have_common mask word ≡ some_place mask test
unfolding have_common some_place
common_places mask word test is same = same_truth _ _ to from
  where
    to : list_any (λ n. has_bit mask n && has_bit word n) (range_with_len 0 64) ≡ true
        → list_any (λ p. has_bit mask p && test p) (range_with_len 0 37) ≡ true
    to some =
        let found = any_below (λ n. has_bit mask n && has_bit word n) 64 some in
        let here = and_first (has_bit mask found.at) (has_bit word found.at) found.passes in
        let also = and_second (has_bit mask found.at) (has_bit word found.at) found.passes in
        any_at (λ p. has_bit mask p && test p) 37 found.at (is.below found.at found.below here) (both_true _ _ here
        (sym (same found.at found.below) ∙ also))

    from : list_any (λ p. has_bit mask p && test p) (range_with_len 0 37) ≡ true
        → list_any (λ n. has_bit mask n && has_bit word n) (range_with_len 0 64) ≡ true
    from some =
        let found = any_below (λ p. has_bit mask p && test p) 37 some in
        let within : found.at < 64 = omega (arith, found.below) in
        let here = and_first (has_bit mask found.at) (test found.at) found.passes in
        let also = and_second (has_bit mask found.at) (test found.at) found.passes in
        any_at (λ n. has_bit mask n && has_bit word n) 64 found.at within (both_true _ _ here (same found.at within
        ∙ also))
