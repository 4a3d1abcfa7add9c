-- Where acceptance needs room alone once fewer items are accepted, no item of a patch can be left out, and items that
-- are refused for another cause than room have no accepted part.
use Rattle.std.proofs.Common.{◌≡◌, inl, inr, List, [], ◌∷◌, ◌++◌, Bool, true, false, refl, sym, ap, subst, ◌∙◌}
use Rattle.std.proofs.lemmas.List.{append-nil, append_assoc}
use Rattle.asm_core.specs.Shape.{shapes_of}
use Rattle.asm_core.specs.declared.finding.Finding.{Finding}
use Rattle.asm_core.specs.declared.statement.Statement.{Statement}
use Rattle.asm_core.specs.declared.interface.Interface.{Interface}
use Rattle.blk_check.specs.Judged.{IsVerdict, AnyHasRoom, IsShapesVerdict, no_room, shapes_mark}
use Rattle.blk_check.specs.declared.verdict.Verdict.{Verdict}
use Rattle.blk_patch.specs.Items.{has, with_items}
use Rattle.blk_patch.specs.Least.{AreWithin, AreDistinct, LeavesRoom, IsLeast, HasNoPatch}
use Rattle.blk_patch.specs.Rounds.{begins_with_k1, is_ok, IsThinned, TellsOk}
use Rattle.blk_patch.specs.declared.item.Item.{Item}
use Rattle.blk_patch.proofs.ItemSets.{others_distinct, within_on, others_within, others_left, none_within, pushed_within}
use Rattle.blk_patch.proofs.MoreItems.{with_more}
use Rattle.blk_patch.proofs.ShapesDown.{any_down}
use Rattle.blk_patch.proofs.ThinnedLaws.{Left, left_by, left_accepted}

-- ---- room

module _ (i : Interface) where
  -- fewer items leave room where more do
  pub room_with_fewer : (part items : List Item) → AreWithin part items → LeavesRoom i items → LeavesRoom i part
  room_with_fewer part items within =
      any_down (with_items part i) (with_items items i) (with_more part items within i)

module _ (s : Statement) (w : Interface) where
  room_in : (v : Verdict) → IsVerdict s w v → (v ≡ Verdict.Outside (shapes_mark s) → ⊥)
      → (v ≡ Verdict.Broken (no_room ∷ []) → ⊥) → AnyHasRoom w (shapes_of w)
  room_in v (inl h) inside roomy = absurd (inside h.1)
  room_in v (inr h) inside roomy = by h.1
    where
      by : IsShapesVerdict s w (shapes_of w) v → AnyHasRoom w (shapes_of w)
      by (inl none) = absurd (roomy none.1)
      by (inr some) = some.0

  -- what is accepted has room
  pub accepted_has_room : TellsOk s w true → AnyHasRoom w (shapes_of w)
  accepted_has_room ok =
      room_in ok.verdict ok.is_verdict
      (λ e. let wrong : false ≡ true = sym (ap is_ok e) ∙ ok.tells in cc)
      (λ e. let wrong : false ≡ true = sym (ap is_ok e) ∙ ok.tells in cc)

  -- so has what breaks other rules than K1
  pub broken_has_room : (fs : List Finding) → IsVerdict s w (Verdict.Broken fs) → begins_with_k1 fs ≡ false
      → AnyHasRoom w (shapes_of w)
  broken_has_room fs verdict other =
      room_in (Verdict.Broken fs) verdict (λ e. cc)
      (λ e. let same : fs ≡ no_room ∷ [] = findings_are fs (no_room ∷ []) e in
      let wrong : true ≡ false = sym (ap begins_with_k1 same) ∙ other in
      cc)
    where
      findings_are : (a b : List Finding) → Verdict.Broken a ≡ Verdict.Broken b → a ≡ b
      findings_are a b e = cc

-- ---- none twice

module _ (s : Statement) (i : Interface) where
  left_distinct : (rest kept left : List Item) → AreDistinct (kept ++ rest) → Left s i kept rest left → AreDistinct left
  left_distinct [] kept left distinct is =
      subst AreDistinct (sym is) (subst AreDistinct (append-nil kept) distinct)
  left_distinct (x ∷ rest) kept left distinct (inl h) =
      left_distinct rest kept left (others_distinct kept x rest distinct) h.1
  left_distinct (x ∷ rest) kept left distinct (inr h) =
      left_distinct rest (kept ++ x ∷ []) left (subst AreDistinct (sym (append_assoc kept (x ∷ []) rest)) distinct) h.1

  -- of items none of which stands twice, none is left twice
  pub thinned_distinct : (items left : List Item) → AreDistinct items → IsThinned s i [] items left → AreDistinct left
  thinned_distinct items left distinct thinned =
      left_distinct items [] left distinct (left_by s i [] items left thinned)

-- ---- parts

-- What is accepted with some of these items is accepted with more of them, as long as there is room.
pub record IsUpward (s : Statement) (i : Interface) (all : List Item) : Type 0 where
  pub more : (part items : List Item) → AreWithin part items → AreWithin items all
      → TellsOk s (with_items part i) true → LeavesRoom i items → TellsOk s (with_items items i) false → ⊥

module _ (s : Statement) (i : Interface) (all : List Item) (upward : IsUpward s i all) where
  abbrev Tells : List Item → Bool → Type 0
  Tells items accepted = TellsOk s (with_items items i) accepted

  -- each part of these items that is accepted has those
  abbrev AreNeeded : List Item → List Item → Type 0
  AreNeeded kept items = (part : List Item) → AreWithin part items → Tells part true → AreWithin kept part

  -- without that item no part of them all is accepted
  needed : (kept : List Item) (x : Item) (rest : List Item) → AreWithin (kept ++ x ∷ rest) all
      → Tells (kept ++ x ∷ rest) true → Tells (kept ++ rest) false → (part : List Item)
      → AreWithin part (kept ++ x ∷ rest) → Tells part true → (b : Bool) → has part x ≡ b → has part x ≡ true
  needed kept x rest inside whole refused part within ok true e = e
  needed kept x rest inside whole refused part within ok false e =
      absurd (upward.more part (kept ++ rest) (others_left part kept x rest within e)
      (within_on (kept ++ rest) (kept ++ x ∷ rest) all (others_within kept x rest) inside) ok
      (room_with_fewer i (kept ++ rest) (kept ++ x ∷ rest) (others_within kept x rest)
      (accepted_has_room s (with_items (kept ++ x ∷ rest) i) whole))
      refused)

  all_needed : (rest kept left : List Item) → AreWithin (kept ++ rest) all → Tells (kept ++ rest) true
      → AreNeeded kept (kept ++ rest) → Left s i kept rest left → AreNeeded left left
  all_needed [] kept left inside whole are is =
      subst (λ l. AreNeeded l l) (sym is) (subst (AreNeeded kept) (append-nil kept) are)
  all_needed (x ∷ rest) kept left inside whole are (inl h) =
      all_needed rest kept left
      (within_on (kept ++ rest) (kept ++ x ∷ rest) all (others_within kept x rest) inside) h.0
      (λ part within ok.
      are part (within_on part (kept ++ rest) (kept ++ x ∷ rest) within (others_within kept x rest)) ok)
      h.1
  all_needed (x ∷ rest) kept left inside whole are (inr h) =
      let joined = append_assoc kept (x ∷ []) rest in
      all_needed rest (kept ++ x ∷ []) left
      (subst (λ l. AreWithin l all) (sym joined) inside)
      (subst (λ l. Tells l true) (sym joined) whole)
      (subst (AreNeeded (kept ++ x ∷ [])) (sym joined)
      (λ part within ok.
      pushed_within kept x part (are part within ok)
      (needed kept x rest inside whole h.0 part within ok (has part x) refl)))
      h.1

  -- what is left of accepted items is the only part of it that is accepted
  pub thinned_least : (items left : List Item) → AreWithin items all → Tells items true → IsThinned s i [] items left
      → IsLeast s i left
  thinned_least items left inside whole thinned =
      let is = left_by s i [] items left thinned in
      record {
        accepted = left_accepted s i items [] left is whole;
        whole = all_needed items [] left inside whole (λ part within ok. none_within part) is;
      }

  -- items that are refused where there is room have no accepted part
  pub no_part : (items : List Item) → AreWithin items all → LeavesRoom i items → Tells items false
      → HasNoPatch s i items
  no_part items inside room refused = record {
    none = λ part within ok. upward.more part items within inside ok room refused;
  }

  -- so is it where another rule than K1 is broken
  pub broken_has_no_part : (items : List Item) → AreWithin items all → (fs : List Finding)
      → IsVerdict s (with_items items i) (Verdict.Broken fs) → begins_with_k1 fs ≡ false → HasNoPatch s i items
  broken_has_no_part items inside fs verdict other =
      no_part items inside (broken_has_room s (with_items items i) fs verdict other)
      (record { verdict = Verdict.Broken fs; is_verdict = verdict; tells = refl })
