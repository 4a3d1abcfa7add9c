-- Hands that are filled one after the other.
use Rattle.std.proofs.Common.{◌≡◌, inl, inr, ℕ, ◌+◌, ◌*◌, ◌<◌, ◌≤◌, List, length, drop, Some, slice_get, slice_index_or, sym, ap, subst, ◌∙◌, arith}
use Rattle.std.specs.List.{between}
use Rattle.std.proofs.lemmas.Bool.{cases_eq}
use Rattle.std.proofs.lemmas.Option.{slice_get_within, get_or_from_slice_get}
use Rattle.std.proofs.lemmas.Slice.{between_is, between-put_mid, take-put_mid_below}
use borrow.Rule.Slice.PartMut.{put_mid}
use Rattle.blk_deps.specs.Facts.{Facts, has_read}
use Rattle.blk_deps.specs.Layout.{value_words, block_words}
use Rattle.blk_deps.specs.Fits.{held, hand_words, HandsHold, IsRead}
use Rattle.blk_deps.specs.declared.layout.Layout.{Layout}
use Rattle.blk_deps.specs.declared.step.Read.{Read}
use Rattle.blk_deps.specs.declared.fact.Property.{Property}
use Rattle.blk_deps.specs.declared.fact.Fact.TheVariants.{Here}
use Rattle.blk_deps.proofs.SlotLemmas.{block_ends}

-- the hands before the i-th hold what is read into them
pub record HoldBelow (l : Layout) (hands : List ℕ) (facts : Facts) (reads : List Read) (i : ℕ) : Type 0 where
  pub each : (n : ℕ) (read : Read) → n < i → slice_get reads n ≡ Some read → (property : Property)
      → held l (facts Here) (hand_words l hands n) property ≡ has_read facts read property

pub all_hold : (l : Layout) (hands : List ℕ) (facts : Facts) (reads : List Read) (i : ℕ) → HoldBelow l hands facts reads i → length reads ≤ i
    → HandsHold l hands facts reads
all_hold l hands facts reads i below le = record {
  each = λ n read is property. below.each n read (let lt = slice_get_within reads n read is in omega (arith, lt, le)) is property;
}

-- some words are put in behind
kept_before : (at size end from : ℕ) (hands part : List ℕ) → end ≤ at → at ≤ length hands
    → between from end (put_mid at size hands part) ≡ between from end hands
kept_before at size end from hands part le inside =
    between_is (put_mid at size hands part) from end
    ∙ ap (drop from) (take-put_mid_below at size hands part end le inside)
    ∙ sym (between_is hands from end)

module _ (l : Layout) (facts : Facts) (reads : List Read) (i at size : ℕ) (read : Read) (hands part : List ℕ)
    (starts : at ≡ i * block_words l) (is_size : size ≡ value_words l) (inside : at + size ≤ length hands) (fits : length part ≡ value_words l)
    (is : slice_index_or reads i read ≡ read) where
  abbrev written : List ℕ
  written = put_mid at size hands part

  written_hand : hand_words l written i ≡ part
  written_hand = subst (λ a. between a (a + value_words l) written ≡ part) starts
      (between-put_mid at size hands part (at + value_words l) (omega (arith, inside)) (omega (arith, fits)))

  kept_hand : (n : ℕ) → n < i → hand_words l written n ≡ hand_words l hands n
  kept_hand n lt =
      let ends = block_ends (block_words l) n i lt in
      kept_before at size (n * block_words l + value_words l) (n * block_words l) hands part (omega (arith, ends, starts)) (omega (arith, inside))

  pub one_more_held : HoldBelow l hands facts reads i → IsRead l facts read part → HoldBelow l written facts reads (i + 1)
  one_more_held below held_now = record { each = at_hand }
    where
      at_hand : (n : ℕ) (other : Read) → n < i + 1 → slice_get reads n ≡ Some other → (property : Property)
          → held l (facts Here) (hand_words l written n) property ≡ has_read facts other property
      at_hand n other lt there property = elim (cases_eq n i) [
        | inl same ↦
            let is_read : read ≡ other = sym is ∙ get_or_from_slice_get reads i other read (subst (λ k. slice_get reads k ≡ Some other) same there) in
            ap (λ k. held l (facts Here) (hand_words l written k) property) same
            ∙ ap (λ w. held l (facts Here) w property) written_hand
            ∙ held_now.each property
            ∙ ap (λ r. has_read facts r property) is_read
        | inr differ ↦
            ap (λ w. held l (facts Here) w property) (kept_hand n (omega (arith, lt)))
            ∙ below.each n other (omega (arith, lt)) there property
      ]
