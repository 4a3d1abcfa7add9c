-- The bytes of places that have a name and are of a class.
use Rattle.std.proofs.Common.{◌≡◌, inl, inr, ℕ, ◌+◌, ◌*◌, ◌/◌, ◌<◌, ◌≤◌, ◌&&◌, ◌||◌, filter, Bool, true, false, refl, sym, ap, ◌∙◌, arith}
use Rattle.std.specs.List.{list_any, range_with_len}
use Rattle.std.proofs.Math.Bool.{or-false, or_assoc}
use Rattle.std.proofs.lemmas.Bool.{cases_eq, cases_lt, true≢false}
use Rattle.blk_deps.specs.Cells.{place_cells}
use Rattle.blk_deps.specs.Ground.{has_bit}
use Rattle.blk_deps.specs.Ruling.{IsNamed, some_place, some_byte, one_of_two}
use Rattle.blk_deps.proofs.AnyLaws.{true_or_false, same_truth, and_first, and_second, both_true, one_true, any_at, any_below, any_filter}

-- ---- the four bytes of a place

or_left : (a b : Bool) → a ≡ true → (a || b) ≡ true
or_left a b is = rw is refl

or_right : (a b : Bool) → b ≡ true → (a || b) ≡ true
or_right true b is = refl
or_right false b is = is

pub byte_any : (test : ℕ → Bool) (p c : ℕ) → 4 * p ≤ c → c < 4 * p + 4 → test c ≡ true → some_byte test p ≡ true
byte_any test p c from below is = elim (cases_eq c (4 * p)) [
  | inl first ↦ or_left _ _ (or_left _ _ (ap test (sym first) ∙ is))
  | inr other ↦ elim (cases_eq c (4 * p + 1)) [
    | inl second ↦ or_left _ _ (or_right _ _ (ap test (sym second) ∙ is))
    | inr another ↦ elim (cases_eq c (4 * p + 2)) [
      | inl third ↦ or_right _ _ (or_left _ _ (ap test (sym third) ∙ is))
      | inr last ↦ let fourth : c ≡ 4 * p + 2 + 1 = omega arith in or_right _ _ (or_right _ _ (ap test (sym fourth)
          ∙ is))
    ]
  ]
]

-- a byte of the place that passes
pub record ByteOf (test : ℕ → Bool) (p : ℕ) : Type 0 where
  pub at : ℕ
  pub from : 4 * p ≤ at
  pub below : at < 4 * p + 4
  pub passes : test at ≡ true

pub byte_found : (test : ℕ → Bool) (p : ℕ) → some_byte test p ≡ true → ByteOf test p
byte_found test p some = elim (one_true (one_of_two test (4 * p)) (one_of_two test (4 * p + 2)) some) [
  | inl low ↦ elim (one_true (test (4 * p)) (test (4 * p + 1)) low) [
    | inl first ↦ record { at = 4 * p; from = omega arith; below = omega arith; passes = first }
    | inr second ↦ record { at = 4 * p + 1; from = omega arith; below = omega arith; passes = second }
  ]
  | inr high ↦ elim (one_true (test (4 * p + 2)) (test (4 * p + 2 + 1)) high) [
    | inl third ↦ record { at = 4 * p + 2; from = omega arith; below = omega arith; passes = third }
    | inr fourth ↦ record { at = 4 * p + 2 + 1; from = omega arith; below = omega arith; passes = fourth }
  ]
]

pub bytes_of_place : (test : ℕ → Bool) (p : ℕ) → some_byte test p ≡ list_any test (place_cells p)
bytes_of_place test p =
    let first : 4 * p + 0 ≡ 4 * p = omega arith in
    let last : 4 * p + 2 + 1 ≡ 4 * p + 3 = omega arith in
    rw (first, last, or-false (test (4 * p + 3))) (or_assoc (test (4 * p)) (test (4 * p + 1)) (test
    (4 * p + 2) || test (4 * p + 3)))

-- ---- of all places

named_at : {count mask : ℕ} {named : ℕ → Bool} → IsNamed count mask named → (p : ℕ) → p < 37 → has_bit mask p
    ≡ true → named p ≡ true
named_at is p few here = sym (is.same p (is.below p (omega arith) here)) ∙ here

-- The bytes of the mask's places that pass are those that pass and whose place has the name.
pub named_bytes : (places mask : ℕ) (named test wanted keep : ℕ → Bool) (count : ℕ) → count ≡ 148
    → IsNamed places mask named
    → ((c : ℕ) → c < 148 → test c ≡ (keep c && wanted c)) → ((c : ℕ) → c < 148 → places ≤ c / 4 → wanted c ≡ false)
    → some_place mask (some_byte test) ≡ list_any wanted (filter (λ c. keep c && named (c / 4))
    (range_with_len 0 count))
unfolding some_place
named_bytes places mask named test wanted keep count all is bytes outside =
    same_truth _ _ to from ∙ sym (any_filter wanted (λ c. keep c && named (c / 4)) (range_with_len 0 count))
  where
    to : list_any (λ p. has_bit mask p && some_byte test p) (range_with_len 0 37) ≡ true
        → list_any (λ c. (keep c && named (c / 4)) && wanted c) (range_with_len 0 count) ≡ true
    to some =
        let found = any_below (λ p. has_bit mask p && some_byte test p) 37 some in
        let here = and_first (has_bit mask found.at) (some_byte test found.at) found.passes in
        let byte = byte_found test found.at (and_second (has_bit mask found.at)
        (some_byte test found.at) found.passes) in
        let within : byte.at < 148 = omega (arith, found.below, byte.below) in
        let place : byte.at / 4 ≡ found.at = omega (arith, byte.from, byte.below) in
        let both = sym (bytes byte.at within) ∙ byte.passes in
        let named_there = ap named place ∙ named_at is found.at found.below here in
        any_at (λ c. (keep c && named (c / 4)) && wanted c) count byte.at (omega (arith, within, all))
        (both_true _ _ (both_true _ _ (and_first (keep byte.at) (wanted byte.at) both) named_there) (and_second
        (keep byte.at) (wanted byte.at) both))

    inside : (c : ℕ) → c < 148 → wanted c ≡ true → c / 4 < places
    inside c below is_wanted = elim (cases_lt (c / 4) places) [
      | inl within ↦ within
      | inr past ↦ absurd (true≢false (sym is_wanted ∙ outside c below past))
    ]

    from : list_any (λ c. (keep c && named (c / 4)) && wanted c) (range_with_len 0 count) ≡ true
        → list_any (λ p. has_bit mask p && some_byte test p) (range_with_len 0 37) ≡ true
    from some =
        let found = any_below (λ c. (keep c && named (c / 4)) && wanted c) count some in
        let within : found.at < 148 = omega (arith, found.below, all) in
        let first = and_first (keep found.at && named (found.at / 4)) (wanted found.at) found.passes in
        let last = and_second (keep found.at && named (found.at / 4)) (wanted found.at) found.passes in
        let place = inside found.at within last in
        let kept = and_first (keep found.at) (named (found.at / 4)) first in
        let is_named = and_second (keep found.at) (named (found.at / 4)) first in
        let passes = bytes found.at within ∙ both_true _ _ kept last in
        any_at (λ p. has_bit mask p && some_byte test p) 37 (found.at / 4) (omega (arith, place, is.few))
        (both_true _ _ (is.same (found.at / 4) place ∙ is_named) (byte_any test (found.at / 4) found.at
        (omega arith) (omega arith) passes))

-- Pairs of a place of each mask, the second first, are those of places that have the names.
pub named_pairs : (places first second : ℕ) (one other : ℕ → Bool) (pair : ℕ → ℕ → Bool) → IsNamed places first one
    → IsNamed places second other
    → ((d u : ℕ) → pair d u ≡ true → (d < places) × (u < places))
    → some_place second (λ u. some_place first (λ d. pair d u))
    ≡ list_any (λ d. list_any (λ u. pair d u) (filter other (range_with_len 0 37))) (filter one (range_with_len 0 37))
unfolding some_place
named_pairs places first second one other pair firsts seconds inside =
    same_truth _ _ to from ∙ sym (any_filter (λ d. list_any (λ u. pair d u) (filter other
    (range_with_len 0 37))) one (range_with_len 0 37))
  where
    inner : ℕ → Bool
    inner u = list_any (λ d. has_bit first d && pair d u) (range_with_len 0 37)

    outer : ℕ → Bool
    outer d = list_any (λ u. pair d u) (filter other (range_with_len 0 37))

    to : list_any (λ u. has_bit second u && inner u) (range_with_len 0 37) ≡ true
        → list_any (λ d. one d && outer d) (range_with_len 0 37) ≡ true
    to some =
        let u = any_below (λ u. has_bit second u && inner u) 37 some in
        let d = any_below (λ d. has_bit first d && pair d u.at) 37 (and_second (has_bit second u.at)
        (inner u.at) u.passes) in
        let u_named = named_at seconds u.at u.below (and_first (has_bit second u.at) (inner u.at) u.passes) in
        let d_named = named_at firsts d.at d.below (and_first (has_bit first d.at) (pair d.at u.at) d.passes) in
        let is_pair = and_second (has_bit first d.at) (pair d.at u.at) d.passes in
        let there = any_filter (λ u. pair d.at u) other (range_with_len 0 37)
        ∙ any_at (λ u. other u && pair d.at u) 37 u.at u.below (both_true _ _ u_named is_pair) in
        any_at (λ d. one d && outer d) 37 d.at d.below (both_true _ _ d_named there)

    from : list_any (λ d. one d && outer d) (range_with_len 0 37) ≡ true
        → list_any (λ u. has_bit second u && inner u) (range_with_len 0 37) ≡ true
    from some =
        let d = any_below (λ d. one d && outer d) 37 some in
        let there = sym (any_filter (λ u. pair d.at u) other (range_with_len 0 37))
        ∙ and_second (one d.at) (outer d.at) d.passes in
        let u = any_below (λ u. other u && pair d.at u) 37 there in
        let is_pair = and_second (other u.at) (pair d.at u.at) u.passes in
        let within = inside d.at u.at is_pair in
        let d_here = firsts.same d.at within.0 ∙ and_first (one d.at) (outer d.at) d.passes in
        let u_here = seconds.same u.at within.1 ∙ and_first (other u.at) (pair d.at u.at) u.passes in
        let both = any_at (λ d. has_bit first d && pair d u.at) 37 d.at d.below (both_true _ _ d_here is_pair) in
        any_at (λ u. has_bit second u && inner u) 37 u.at u.below (both_true _ _ u_here both)

-- where there is no pair at all, none is of the names
pub no_named_pair : (one other : ℕ → Bool) (pair : ℕ → ℕ → Bool)
    → list_any (λ u. list_any (λ d. pair d u) (range_with_len 0 37)) (range_with_len 0 37) ≡ false
    → list_any (λ d. list_any (λ u. pair d u) (filter other (range_with_len 0 37))) (filter one
    (range_with_len 0 37)) ≡ false
no_named_pair one other pair none = elim (true_or_false (list_any outer (filter one (range_with_len 0 37)))) [
  | inl some ↦ absurd (true≢false (sym (there some) ∙ none))
  | inr is ↦ is
]
  where
    outer : ℕ → Bool
    outer d = list_any (λ u. pair d u) (filter other (range_with_len 0 37))

    there : list_any outer (filter one (range_with_len 0 37)) ≡ true
        → list_any (λ u. list_any (λ d. pair d u) (range_with_len 0 37)) (range_with_len 0 37) ≡ true
    there some =
        let d = any_below (λ d. one d && outer d) 37 (sym (any_filter outer one (range_with_len 0 37)) ∙ some) in
        let inside = sym (any_filter (λ u. pair d.at u) other (range_with_len 0 37))
        ∙ and_second (one d.at) (outer d.at) d.passes in
        let u = any_below (λ u. other u && pair d.at u) 37 inside in
        any_at (λ u. list_any (λ d. pair d u) (range_with_len 0 37)) 37 u.at u.below
        (any_at (λ d. pair d u.at) 37 d.at d.below (and_second (other u.at) (pair d.at u.at) u.passes))
