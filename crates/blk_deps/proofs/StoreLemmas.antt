-- What a store and a change of the direction flag do to the facts of a row.
use Rattle.std.proofs.Common.{◌≡◌, ◌⊎◌, inl, inr, ℕ, ◌+◌, ◌*◌, ◌/◌, ◌%◌, ◌^◌, ◌<◌, ◌≤◌, ◌==◌, ◌&&◌, ◌||◌, nat_lt, nat_le, not, List, length, slice_index, slice_set, bit_and, bit_or, Bool, true, false, if◌then◌else◌, refl, sym, ap, ◌∙◌, arith}
use Rattle.std.specs.Int.{bit_not, w64}
use Rattle.std.proofs.lemmas.Bool.{cases_eq, cases_lt, lt-ltb, le-ltb, le-leb, lt-leb, eq-eqb, ne_eqb}
use Rattle.std.proofs.lemmas.List.{length-set, get_or-set_same}
use Rattle.std.proofs.Math.Bool.{and-false, and-true}
use Rattle.dataflow.specs.Bits.{facts_in}
use Rattle.blk_deps.specs.Facts.{after_put}
use Rattle.blk_deps.specs.Ground.{has_bit}
use Rattle.blk_deps.specs.Layout.{IsLayout, row_words, no_bit, shown}
use Rattle.blk_deps.specs.declared.layout.Layout.{Layout}
use Rattle.blk_deps.specs.declared.step.Put.TheVariants as puts
use Rattle.blk_deps.specs.declared.fact.Fact.{Fact}
use Rattle.blk_deps.specs.declared.fact.Fact.TheVariants.{Here, Has, Overwrites, Unwritten, DirectionSet}
use Rattle.blk_deps.proofs.WordLemmas.{facts_set, has_and, has_or, has_not}
use Rattle.blk_deps.proofs.PropertyLemmas.{has_no_bit}
use Rattle.blk_deps.proofs.FactLemmas.{shown_unwritten}
use Rattle.blk_deps.proofs.RegionLemmas.{ChangesOnly, here_kept, cell_kept, overwriter_kept, unwritten_kept}

left_unwritten : (x : Bool) (first count b : ℕ) → (x && (nat_lt b first || not (nat_lt b (first + count))))
    ≡ (if nat_le first b && nat_lt b (first + count) then false else x)
left_unwritten x first count b = elim (cases_lt b first) [
  | inl before ↦ ap (λ t. x && (t || not (nat_lt b (first + count)))) (lt-ltb b first before) ∙ and-true x
      ∙ ap (λ t. if t && nat_lt b (first + count) then false else x) (sym (lt-leb first b before))
  | inr from ↦ ap (λ t. x && (t || not (nat_lt b (first + count)))) (le-ltb b first from) ∙ by_end (nat_lt b (first + count))
      ∙ ap (λ t. if t && nat_lt b (first + count) then false else x) (sym (le-leb first b from))
]
  where
    by_end : (t : Bool) → (x && not t) ≡ (if t then false else x)
    by_end true = and-false x
    by_end false = and-true x

module _ (l : Layout) (is : IsLayout l) (old : List ℕ) (k : ℕ) (there : k < l.operands) (old_fits : length old ≡ row_words l) (first count low high : ℕ)
    (lows : (b : ℕ) → b < 64 → has_bit low b ≡ nat_lt b first) (highs : (b : ℕ) → b < 64 → has_bit high b ≡ nat_lt b (first + count)) (fits : high < 2 ^ 64) where
  abbrev word : ℕ
  word = bit_and (slice_index old (1 + k)) (bit_or low (bit_not w64 high))

  abbrev new : List ℕ
  new = slice_set old (1 + k) word

  within : 1 + k < length old
  within = omega (arith, there, old_fits)

  new_fits : length new ≡ row_words l
  new_fits = length-set old (1 + k) word ∙ old_fits

  only : ChangesOnly (64 * (1 + k)) (64 * (2 + k)) old new
  only = record {
    kept = λ n outside. facts_set old (1 + k) word n within
        ∙ ap (λ t. if t then has_bit word (n % 64) else facts_in old n) (ne_eqb (n / 64) (1 + k) (elim outside [
          | inl lt ↦ λ e. omega (arith, lt, e)
          | inr ge ↦ λ e. omega (arith, ge, e)
        ]));
  }

  ends : 64 * (2 + k) ≤ 64 * row_words l
  ends = omega (arith, there)

  starts : 0 < 64 * (1 + k)
  starts = omega arith

  stored_bit : (b : ℕ) → b < 64 → has_bit word b ≡ (if nat_le first b && nat_lt b (first + count) then false else has_bit (slice_index old (1 + k)) b)
  stored_bit b lt =
      has_and (slice_index old (1 + k)) (bit_or low (bit_not w64 high)) b
      ∙ ap (λ t. has_bit (slice_index old (1 + k)) b && t) (has_or low (bit_not w64 high) b)
      ∙ ap (λ t. has_bit (slice_index old (1 + k)) b && (t || has_bit (bit_not w64 high) b)) (lows b lt)
      ∙ ap (λ t. has_bit (slice_index old (1 + k)) b && (nat_lt b first || t)) (has_not high b fits lt ∙ ap not (highs b lt))
      ∙ left_unwritten (has_bit (slice_index old (1 + k)) b) first count b

  word_set : slice_index new (1 + k) ≡ word
  word_set = get_or-set_same old (1 + k) word 0 within

  stored : (b : ℕ) → (b < 64) ⊎ (64 ≤ b) → shown l new (Unwritten k b)
      ≡ (if nat_le first b && nat_lt b (first + count) then false else shown l old (Unwritten k b))
  stored b (inl lt) =
      sym (shown_unwritten l new k b there lt) ∙ ap (λ w. has_bit w b) word_set ∙ stored_bit b lt
      ∙ ap (λ t. if nat_le first b && nat_lt b (first + count) then false else t) (shown_unwritten l old k b there lt)
  stored b (inr ge) = none new new_fits ∙ sym (ap (λ t. if nat_le first b && nat_lt b (first + count) then false else t) (none old old_fits) ∙ never (nat_le first b && nat_lt b (first + count)))
    where
      none : (row : List ℕ) → length row ≡ row_words l → shown l row (Unwritten k b) ≡ false
      none row size = ap (λ t. facts_in row (if nat_lt k l.operands && t then 64 * (1 + k) + b else no_bit l)) (le-ltb b 64 ge)
          ∙ ap (λ t. facts_in row (if t then 64 * (1 + k) + b else no_bit l)) (and-false (nat_lt k l.operands)) ∙ has_no_bit l row (omega (arith, size))

      never : (t : Bool) → (if t then false else false) ≡ false
      never true = refl
      never false = refl

  pub store_shown : (shares : ℕ → ℕ → Bool) (fact : Fact) → shown l new fact ≡ after_put shares (puts.Store k first count) (shown l old) fact
  store_shown shares Here = here_kept l is old new (64 * (1 + k)) (64 * (2 + k)) only old_fits new_fits starts ends
  store_shown shares DirectionSet = only.kept 1 (inl (omega arith))
  store_shown shares (Has c property) = cell_kept l is old new (64 * (1 + k)) (64 * (2 + k)) only old_fits new_fits starts ends c property
      (λ y has. inl (omega (arith, there)))
  store_shown shares (Overwrites d c) = overwriter_kept l is old new (64 * (1 + k)) (64 * (2 + k)) only old_fits new_fits starts ends d c
      (λ y has lt. inl (omega (arith, there)))
  store_shown shares (Unwritten j b) = elim (cases_eq j k) [
    | inl same ↦ ap (λ i. shown l new (Unwritten i b)) same ∙ stored b (cases_lt b 64)
        ∙ ap (λ i. if nat_le first b && nat_lt b (first + count) then false else shown l old (Unwritten i b)) (sym same)
        ∙ ap (λ t. if t && (nat_le first b && nat_lt b (first + count)) then false else shown l old (Unwritten j b)) (sym (eq-eqb j k same))
    | inr differ ↦ unwritten_kept l is old new (64 * (1 + k)) (64 * (2 + k)) only old_fits new_fits starts ends j b
        (λ inside lt. elim (cases_lt j k) [ inl less ↦ inr (omega (arith, less, lt)) | inr ge ↦ inl (omega (arith, ge, differ)) ])
        ∙ ap (λ t. if t && (nat_le first b && nat_lt b (first + count)) then false else shown l old (Unwritten j b)) (sym (ne_eqb j k differ))
  ]

module _ (l : Layout) (is : IsLayout l) (old changed : List ℕ) (on set : Bool) (is_set : set ≡ (on && shown l old Here))
    (old_fits : length old ≡ row_words l) (changed_fits : length changed ≡ row_words l)
    (bits : (n : ℕ) → facts_in changed n ≡ (if n == 1 then set else facts_in old n)) where
  direction_only : ChangesOnly 1 2 old changed
  direction_only = record {
    kept = λ n outside. bits n ∙ ap (λ t. if t then set else facts_in old n) (ne_eqb n 1 (elim outside [
      | inl lt ↦ λ e. omega (arith, lt, e)
      | inr ge ↦ λ e. omega (arith, ge, e)
    ]));
  }

  row_there : 2 ≤ 64 * row_words l
  row_there = omega arith

  pub direction_shown : (shares : ℕ → ℕ → Bool) (fact : Fact) → shown l changed fact ≡ after_put shares (puts.Direction on) (shown l old) fact
  direction_shown shares Here = here_kept l is old changed 1 2 direction_only old_fits changed_fits (omega arith) row_there
  direction_shown shares DirectionSet = bits 1 ∙ is_set
  direction_shown shares (Has c property) = cell_kept l is old changed 1 2 direction_only old_fits changed_fits (omega arith) row_there c property
      (λ y has. inl (omega arith))
  direction_shown shares (Overwrites d c) = overwriter_kept l is old changed 1 2 direction_only old_fits changed_fits (omega arith) row_there d c
      (λ y has lt. inl (omega arith))
  direction_shown shares (Unwritten j b) = unwritten_kept l is old changed 1 2 direction_only old_fits changed_fits (omega arith) row_there j b
      (λ inside lt. inl (omega arith))
