-- A further turn of an instruction that only computes: the facts behind it hold behind the turn too.
use Rattle.std.proofs.Common.{◌≡◌, inl, inr, ℕ, ◌==◌, ◌&&◌, Bool, true, false, List, [], ◌∷◌, if◌then◌else◌, refl, sym, ap, subst, ◌∙◌}
use Rattle.std.proofs.lemmas.Bool.{both_ways, eq-eqb, ne_eqb, eqb-true, and_parts, or_left, cases_eq}
use Rattle.blk_deps.specs.Cells.{is_byte, is_hand, place_of, byte_of, hand_cell}
use Rattle.blk_deps.specs.Facts as facts
use Rattle.blk_deps.specs.Facts.{Facts, is_overwriting, overwrites_after, dropped}
use Rattle.blk_deps.specs.declared.fact.Property.{Property}
use Rattle.blk_deps.specs.declared.fact.Property.TheVariants.{NotEntryOf, ComesFrom, Pair}
use Rattle.blk_deps.specs.declared.fact.Fact.TheVariants.{Here, Has, Overwrites}
use Rattle.blk_deps.specs.declared.step.Read.{Read}
use Rattle.blk_deps.specs.declared.step.Put.{Put}
use Rattle.blk_frame.specs.World.{Placed, ArePlaced, World, with_hands, after_put, after_puts, IsWritable, AreWritable}
use Rattle.blk_frame.specs.Matches.{IsGood, IsShadowed, Matches}
use Rattle.blk_frame.proofs.Basics.{by_truth, byte_no_hand}
use Rattle.blk_frame.proofs.Hands.{hand_is, hand_other}
use Rattle.blk_frame.proofs.ReadSteps.{fewer_cells}
use Rattle.blk_frame.proofs.PutSteps.{put_matches}

-- ---- what a write of a computed value leaves

module _ (shares : ℕ → ℕ → Bool) where
  -- nothing is claimed of what the hands hold
  pub record HandsComputed (s : Facts) : Type 0 where
    pub each : (hand e : ℕ) → s (Has (hand_cell hand) (NotEntryOf e)) ≡ true

  -- the cell isn't its own of the entry, and where it is a byte of a place, cells beside it are overwritten
  abbrev pub IsDone : Facts → Put → Type 0
  IsDone s (Put.Place u hand) = ((e : ℕ) → s (Has u (NotEntryOf e)) ≡ true)
      × ((c : ℕ) → (c ≡ u → ⊥) → is_byte c ≡ true → byte_of c ≡ byte_of u → shares (place_of u) (place_of c) ≡ true
      → s (Overwrites (place_of u) c) ≡ true)
  IsDone s (Put.Plain u hand) = (e : ℕ) → s (Has u (NotEntryOf e)) ≡ true
  IsDone s put = Unit {0}

  -- two bytes that are written are apart, or the same
  abbrev pub IsApart : Put → Put → Type 0
  IsApart (Put.Place u hand) (Put.Place v other) = byte_of u ≡ byte_of v → shares (place_of u) (place_of v) ≡ true
      → u ≡ v
  IsApart put other = Unit {0}

  module _ (s : Facts) (computed : HandsComputed s) where
    own_lost : (u hand c e : ℕ) → (s (Has c (NotEntryOf e)) ≡ true)
        → facts.put_at s u hand (Has c (NotEntryOf e)) ≡ true
    own_lost u hand c e has = by_truth (c == u) (λ same. rw same (computed.each hand e)) (λ other. rw other has)

    own_gone : (u hand e : ℕ) → facts.put_at s u hand (Has u (NotEntryOf e)) ≡ true
    own_gone u hand e = rw (eq-eqb u u refl) (computed.each hand e)

    overwriting : (u hand c : ℕ) → is_overwriting s u hand c ≡ true
    overwriting u hand c = or_left _ _ (or_left _ _ (computed.each hand u))

    beside : (u hand c : ℕ) → (c ≡ u → ⊥) → is_byte c ≡ true → byte_of c ≡ byte_of u
        → shares (place_of u) (place_of c) ≡ true → overwrites_after shares s u hand (place_of u) c ≡ true
    beside u hand c other byte same told = rw
        (ne_eqb c u other, eq-eqb (place_of u) (place_of u) refl, eq-eqb (byte_of c) (byte_of u) same, byte, told)
        (overwriting u hand c)

    -- what is overwritten stays so, but for the cell that is written
    still : (u hand d c : ℕ) → (c ≡ u → ⊥)
        → (d ≡ place_of u → byte_of c ≡ byte_of u → shares (place_of u) (place_of c) ≡ true) → is_byte c ≡ true
        → s (Overwrites d c) ≡ true
        → overwrites_after shares s u hand d c ≡ true
    still u hand d c other told byte over = by_truth (d == place_of u && byte_of c == byte_of u) here elsewhere
      where
        here : (d == place_of u && byte_of c == byte_of u) ≡ true → overwrites_after shares s u hand d c ≡ true
        here at =
            let parts = and_parts (d == place_of u) (byte_of c == byte_of u) at in
            let same_place = eqb-true d (place_of u) parts.0 in
            let same_byte = eqb-true (byte_of c) (byte_of u) parts.1 in
            ap (λ e. overwrites_after shares s u hand e c) same_place
            ∙ beside u hand c other byte same_byte (told same_place same_byte)

        elsewhere : (d == place_of u && byte_of c == byte_of u) ≡ false → overwrites_after shares s u hand d c ≡ true
        elsewhere not_at = rw (ne_eqb c u other, not_at) over

    done_here : (put : Put) → IsDone (facts.after_put shares put s) put
    done_here (Put.Place u hand) = (
      (λ e. own_gone u hand e),
      (λ c other byte same told. beside u hand c other byte same told),
    )
    done_here (Put.Plain u hand) = λ e. own_gone u hand e
    done_here (Put.Store operand first count) = tt
    done_here (Put.Direction on) = tt

    done_still : (put other : Put) → IsApart put other → IsDone s put → IsDone (facts.after_put shares other s) put
    done_still (Put.Place u hand) (Put.Place v second) apart done = (
      (λ e. own_lost v second u e (done.0 e)),
      (λ c differs byte same told. still v second (place_of u) c
          (λ is_v. differs (is_v ∙ sym (apart (sym same ∙ ap byte_of is_v)
          (subst (λ n. shares (place_of u) (place_of n) ≡ true) is_v told))))
          (λ same_place same_byte. subst (λ n. shares n (place_of c) ≡ true) same_place told) byte
          (done.1 c differs byte same told)),
    )
    done_still (Put.Place u hand) (Put.Plain v second) apart done = ((λ e. own_lost v second u e (done.0 e)), done.1)
    done_still (Put.Place u hand) (Put.Store operand first count) apart done = done
    done_still (Put.Place u hand) (Put.Direction on) apart done = done
    done_still (Put.Plain u hand) (Put.Place v second) apart done = λ e. own_lost v second u e (done e)
    done_still (Put.Plain u hand) (Put.Plain v second) apart done = λ e. own_lost v second u e (done e)
    done_still (Put.Plain u hand) (Put.Store operand first count) apart done = done
    done_still (Put.Plain u hand) (Put.Direction on) apart done = done
    done_still (Put.Store operand first count) other apart done = tt
    done_still (Put.Direction on) other apart done = tt

  -- ---- all writes of an instruction

  abbrev pub AreDone : Facts → List Put → Type 0
  AreDone s [] = Unit {0}
  AreDone s (put ∷ puts) = IsDone s put × AreDone s puts

  abbrev pub IsApartFrom : Put → List Put → Type 0
  IsApartFrom put [] = Unit {0}
  IsApartFrom put (other ∷ others) = IsApart put other × IsApartFrom put others

  abbrev pub AreApart : List Put → Type 0
  AreApart [] = Unit {0}
  AreApart (put ∷ puts) = IsApartFrom put puts × AreApart puts

  module _ (x : Placed) where
    hands_kept : (put : Put) (s : Facts) → IsWritable x put → HandsComputed s
        → HandsComputed (facts.after_put shares put s)
    hands_kept (Put.Place u hand) s is computed = record {
      each = λ h e. rw
          (ne_eqb (hand_cell h) u (hand_other u h (byte_no_hand u (and_parts _ _ is).0))) (computed.each h e);
    }
    hands_kept (Put.Plain u hand) s is computed = record {
      each = λ h e. rw
          (ne_eqb (hand_cell h) u (hand_other u h is.1)) (computed.each h e);
    }
    hands_kept (Put.Store operand first count) s is computed = record { each = computed.each }
    hands_kept (Put.Direction on) s is computed = record { each = computed.each }

    still_done : (put : Put) (puts : List Put) (s : Facts) → IsApartFrom put puts → AreWritable x puts
        → HandsComputed s → IsDone s put → IsDone (facts.after_puts shares puts s) put
    still_done put [] s apart are computed done = done
    still_done put (other ∷ others) s apart are computed done =
        still_done put others (facts.after_put shares other s) apart.1 are.1 (hands_kept other s are.0 computed)
        (done_still s computed put other apart.0 done)

    pub all_done : (puts : List Put) (s : Facts) → AreApart puts → AreWritable x puts → HandsComputed s
        → AreDone (facts.after_puts shares puts s) puts
    all_done [] s apart are computed = tt
    all_done (put ∷ puts) s apart are computed = (
      still_done put puts (facts.after_put shares put s) apart.0 are.1 (hands_kept put s are.0 computed)
          (done_here s computed put),
      all_done puts (facts.after_put shares put s) apart.1 are.1 (hands_kept put s are.0 computed),
    )

-- ---- the turn

-- the same facts, with computed values in the hands
abbrev in_hands : Property → Bool
in_hands (NotEntryOf e) = true
in_hands property = false

abbrev handed : Facts → Facts
handed s (Has c property) = if is_hand c then in_hands property else s (Has c property)
handed s fact = s fact

module _ (x : Placed) (shares : ℕ → ℕ → Bool) (placed : ArePlaced x shares) (entry : World)
    (shadowed : IsShadowed x entry) (t : Facts) (here : t Here ≡ true) where
  -- a write that is done changes nothing that is claimed
  cell_absorbed : (u hand c : ℕ) (property : Property) → is_hand u ≡ false → ((e : ℕ) → t (Has u (NotEntryOf e)) ≡ true)
      → facts.put_at (handed t) u hand (Has c property) ≡ true → handed t (Has c property) ≡ true
  cell_absorbed u hand c property no_hand lost has = by_truth (c == u)
      (λ same. of_hand property (eqb-true c u same) (rw (same, hand_is hand) at has)) (λ other. rw other at has)
    where
      of_hand : (q : Property) → c ≡ u → in_hands q ≡ true → handed t (Has c q) ≡ true
      of_hand (NotEntryOf e) same is = ap (λ n. handed t (Has n (NotEntryOf e))) same ∙ rw no_hand (lost e)
      of_hand (ComesFrom p) same is = cc
      of_hand (Pair d p) same is = cc

  over_absorbed : (u hand : ℕ) → ((c : ℕ) → (c ≡ u → ⊥) → is_byte c ≡ true → byte_of c ≡ byte_of u
      → shares (place_of u) (place_of c) ≡ true → t (Overwrites (place_of u) c) ≡ true)
      → (d c : ℕ) → overwrites_after shares (handed t) u hand d c ≡ true → t (Overwrites d c) ≡ true
  over_absorbed u hand done d c has = elim (cases_eq c u) [
    | inl same ↦ absurd (both_ways (overwrites_after shares (handed t) u hand d c) (rw (eq-eqb c u same) refl) has)
    | inr other ↦ by_truth (d == place_of u && byte_of c == byte_of u) (at other)
        (λ not_at. rw (ne_eqb c u other, not_at) at has)
  ]
    where
      at : (c ≡ u → ⊥) → (d == place_of u && byte_of c == byte_of u) ≡ true → t (Overwrites d c) ≡ true
      at other there =
          let parts = and_parts (d == place_of u) (byte_of c == byte_of u) there in
          let same_place = eqb-true d (place_of u) parts.0 in
          let written : (is_byte c && (shares d (place_of c) && is_overwriting (handed t) u hand c)) ≡ true = rw
          (ne_eqb c u other, there) at has in
          let outer = and_parts (is_byte c) (shares d (place_of c) && is_overwriting (handed t) u hand c) written in
          let inner = and_parts (shares d (place_of c)) (is_overwriting (handed t) u hand c) outer.1 in
          ap (λ e. t (Overwrites e c)) same_place
          ∙ done c other outer.0 (eqb-true (byte_of c) (byte_of u) parts.1)
          (ap (λ e. shares e (place_of c)) (sym same_place) ∙ inner.0)

  once_more : (put : Put) (w : World) → IsWritable x put → IsDone shares t put → Matches x entry (handed t) w
      → Matches x entry (handed t) (after_put x put w)
  once_more (Put.Place u hand) w is done matches = fewer_cells x entry
      (facts.after_put shares (Put.Place u hand) (handed t)) (handed t) (after_put x (Put.Place u hand) w)
      (λ c property. cell_absorbed u hand c property (byte_no_hand u (and_parts _ _ is).0) done.0)
      (over_absorbed u hand done.1) here
      (put_matches x shares placed entry shadowed (Put.Place u hand) (handed t) w is matches)
  once_more (Put.Plain u hand) w is done matches = fewer_cells x entry
      (facts.after_put shares (Put.Plain u hand) (handed t)) (handed t) (after_put x (Put.Plain u hand) w)
      (λ c property. cell_absorbed u hand c property is.1 done) (λ d c over. over) here
      (put_matches x shares placed entry shadowed (Put.Plain u hand) (handed t) w is matches)
  once_more (Put.Store operand first count) w is done matches = matches
  once_more (Put.Direction on) w is done matches = matches

  again : (puts : List Put) (w : World) → AreWritable x puts → AreDone shares t puts → Matches x entry (handed t) w
      → Matches x entry (handed t) (after_puts x puts w)
  again [] w are done matches = matches
  again (put ∷ puts) w are done matches = again puts (after_put x put w) are.1 done.1
      (once_more put w are.0 done.0 matches)

  -- values come into the hands, of which nothing is claimed
  into_hands : (given : ℕ → ℕ) (w : World) → Matches x entry t w → Matches x entry (handed t) (with_hands given w)
  into_hands given w matches = record {
    here = here;
    intact = λ c is sound. rw (byte_no_hand c (and_parts _ _ is).0) (matches.intact c is sound);
    copies = copies;
    addresses = matches.addresses;
  } where
    copies : (c e : ℕ) → IsGood x (handed t) c → handed t (Has c (NotEntryOf e)) ≡ false
        → (with_hands given w).cells c ≡ entry.cells e
    copies c e good none = by_truth (is_hand c)
        (λ hand. absurd (both_ways true (rw hand at none) refl))
        (λ other. rw other (matches.copies c e (rw other at good) (rw other at none)))

  out_of_hands : (w : World) → ((c : ℕ) (property : Property) → is_hand c ≡ true → t (Has c property) ≡ true)
      → Matches x entry (handed t) w → Matches x entry t w
  out_of_hands w forgotten = fewer_cells x entry (handed t) t w
      (λ c property has. by_truth (is_hand c) (λ hand. forgotten c property hand) (λ other. rw other at has))
      (λ d c over. over) here

-- the facts behind an instruction hold behind a further turn of it
module _ (x : Placed) (shares : ℕ → ℕ → Bool) (placed : ArePlaced x shares) (entry : World)
    (shadowed : IsShadowed x entry) (reads : List Read) (puts : List Put) (s : Facts) where
  abbrev behind : Facts
  behind = facts.after_moves shares reads puts s

  undropped : (put : Put) → IsWritable x put
      → IsDone shares (facts.after_puts shares puts (facts.after_reads reads s)) put → IsDone shares behind put
  undropped (Put.Place u hand) is done = ((λ e. rw (byte_no_hand u (and_parts _ _ is).0) (done.0 e)), done.1)
  undropped (Put.Plain u hand) is done = λ e. rw is.1 (done e)
  undropped (Put.Store operand first count) is done = tt
  undropped (Put.Direction on) is done = tt

  all_undropped : (more : List Put) → AreWritable x more
      → AreDone shares (facts.after_puts shares puts (facts.after_reads reads s)) more → AreDone shares behind more
  all_undropped [] are done = tt
  all_undropped (put ∷ more) are done = (undropped put are.0 done.0, all_undropped more are.1 done.1)

  pub turn_matches : (given : ℕ → ℕ) (w : World) → HandsComputed shares (facts.after_reads reads s)
      → AreApart shares puts → AreWritable x puts → Matches x entry behind w
      → Matches x entry behind (after_puts x puts (with_hands given w))
  turn_matches given w computed apart are matches =
      let done = all_undropped puts are (all_done shares x puts (facts.after_reads reads s) apart are computed) in
      out_of_hands x shares placed entry shadowed behind matches.here (after_puts x puts (with_hands given w))
      (λ c property hand. rw hand matches.here)
      (again x shares placed entry shadowed behind matches.here puts (with_hands given w) are done
      (into_hands x shares placed entry shadowed behind matches.here given w matches))
