use Rattle.std.proofs.Common.{◌≡◌, ◌/◌, ℕ, List, length, sym, subst, slice_index, arith}
use Rattle.blk_deps.specs.Cells.{place_of}
use Rattle.blk_deps.specs.Facts.{after_put}
use Rattle.blk_deps.specs.Layout.{places_in, block_words, value_words, shown}
use Rattle.blk_deps.specs.Changes.{is_changed_value, with_value, without_overwriters, with_marks, with_hands}
use Rattle.blk_deps.specs.declared.fact.Fact.{Fact}
use Rattle.blk_deps.proofs.DownLemmas.{place_down, plain_down, store_down, direction_down, place_fits, plain_fits, hand_inside}
use Rattle.blk_deps.proofs.row.putting.put_down.Goals as goal

pub hand-requires-clause-hand : goal.hand-requires-clause-hand
hand-requires-clause-hand c =
    let l = c.args.layout.now in
    let parts = place_fits l c.in-Place.cell c.in-Place.n (length c.args.hands.now / block_words l) c.args.put c.in-Place.is c.requires.fits in
    hand_inside c.in-Place.n (block_words l) (length c.args.hands.now) (omega arith) parts.2

pub hand-requires-in-Plain-clause-hand : goal.hand-requires-in-Plain-clause-hand
hand-requires-in-Plain-clause-hand c =
    let l = c.args.layout.now in
    let parts = plain_fits l c.in-Plain.cell c.in-Plain.n (length c.args.hands.now / block_words l) c.args.put c.in-Plain.is c.requires.fits in
    hand_inside c.in-Plain.n (block_words l) (length c.args.hands.now) (omega arith) parts.1

pub returns-in-Place-clause-put : goal.returns-in-Place-clause-put
returns-in-Place-clause-put c =
    let l = c.args.layout.now in
    let hands = c.args.hands.now in
    let old = c.args.row.now in
    let new = c.put_place.new.row in
    let u = c.in-Place.cell in
    let n = c.in-Place.n in
    record {
      each = λ shares are count fits fact.
          let parts = place_fits l u n count c.args.put c.in-Place.is fits in
          subst (λ put. with_hands l hands count new fact ≡ after_put shares put (with_hands l hands count old) fact) (sym c.in-Place.is)
          (place_down l c.requires.layout hands count old new u n parts.1 parts.2 shares c.args.sharers.now are parts.0 c.requires.size
          (subst (λ (w : List ℕ). length w ≡ value_words l) c.hand.ensures.words c.hand.ensures.size)
          (subst (λ (w : List ℕ). (f : Fact) → shown l new f ≡ without_overwriters u (with_value l w u (with_marks (places_in l)
          (slice_index c.args.sharers.now (place_of u)) u (is_changed_value l w u) (shown l old))) f) c.hand.ensures.words c.put_place.ensures.facts)
          fact);
    }

pub returns-in-Plain-clause-put : goal.returns-in-Plain-clause-put
returns-in-Plain-clause-put c =
    let l = c.args.layout.now in
    let hands = c.args.hands.now in
    let old = c.args.row.now in
    let new = c.put_value.new.row in
    let u = c.in-Plain.cell in
    let n = c.in-Plain.n in
    record {
      each = λ shares are count fits fact.
          let parts = plain_fits l u n count c.args.put c.in-Plain.is fits in
          subst (λ put. with_hands l hands count new fact ≡ after_put shares put (with_hands l hands count old) fact) (sym c.in-Plain.is)
          (plain_down l c.requires.layout hands count old new u n parts.0 parts.1 shares
          (subst (λ (w : List ℕ). (f : Fact) → shown l new f ≡ with_value l w u (shown l old) f) c.hand-in-Plain.ensures.words c.put_value.ensures.facts)
          fact);
    }

pub returns-in-Store-clause-put : goal.returns-in-Store-clause-put
returns-in-Store-clause-put c =
    let l = c.args.layout.now in
    let hands = c.args.hands.now in
    let old = c.args.row.now in
    let new = c.put_store.new.row in
    record {
      each = λ shares are count fits fact.
          subst (λ put. with_hands l hands count new fact ≡ after_put shares put (with_hands l hands count old) fact) (sym c.in-Store.is)
          (store_down l c.requires.layout hands count old new shares c.in-Store.operand c.in-Store.first c.in-Store.count (c.put_store.ensures.facts shares) fact);
    }

pub returns-in-Direction-clause-put : goal.returns-in-Direction-clause-put
returns-in-Direction-clause-put c =
    let l = c.args.layout.now in
    let hands = c.args.hands.now in
    let old = c.args.row.now in
    let new = c.put_direction.new.row in
    record {
      each = λ shares are count fits fact.
          subst (λ put. with_hands l hands count new fact ≡ after_put shares put (with_hands l hands count old) fact) (sym c.in-Direction.is)
          (direction_down l c.requires.layout hands count old new shares c.in-Direction.on (c.put_direction.ensures.facts shares) fact);
    }
