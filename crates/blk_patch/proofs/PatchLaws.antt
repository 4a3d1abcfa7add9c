-- The items of a patch are the only part of them with which the statement is accepted, and where there is no patch no
-- part of the items that were added is accepted.
use Rattle.std.proofs.Common.{◌≡◌, List, [], ◌∷◌, Bool, true, false, None, Some, Result, Ok, Err, IfOk, refl, sym, subst, ◌∙◌}
use Rattle.std.proofs.lemmas.Bool.{and_parts}
use Rattle.asm_core.specs.WellFormed.{IsInterface}
use Rattle.asm_core.specs.declared.memory.Memory.{Memory}
use Rattle.asm_core.specs.declared.finding.Finding.{Finding}
use Rattle.asm_core.specs.declared.statement.Body.{Body}
use Rattle.asm_core.specs.declared.statement.Statement.{Statement}
use Rattle.asm_core.specs.declared.interface.Interface.{Interface}
use Rattle.blk_check.specs.Judged.{IsInterfaceOf, IsVerdict}
use Rattle.blk_check.specs.declared.verdict.Verdict.{Verdict}
use Rattle.blk_patch.specs.Items.{with_items}
use Rattle.blk_patch.specs.Least.{AreWithin, AreDistinct, IsLeast, HasNoPatch, HasNoRoom, LeavesRoom, IsLeastPatch, HasNoSmaller}
use Rattle.blk_patch.specs.Letters.{HasLetters}
use Rattle.blk_patch.specs.Rounds.{next_by, are_some, begins_with_k1, is_without_room, IsThinned, IsReached, IsReachedEnd, IsAcceptedEnd, IsRefusedEnd, IsEnd, IsPatch, TellsOk}
use Rattle.blk_patch.specs.declared.item.Item.{Item}
use Rattle.blk_patch.specs.declared.rounds.Reached.{Reached}
use Rattle.blk_patch.specs.declared.patches.PatchEnd.{PatchEnd}
use Rattle.blk_patch.proofs.ByteLaws.{reached_leave}
use Rattle.blk_patch.proofs.FullLaws.{no_room_left}
use Rattle.blk_patch.proofs.ItemSets.{within_itself, has_itself, none_there}
use Rattle.blk_patch.proofs.LeastLaws.{IsUpward, thinned_least, thinned_distinct, broken_has_no_part}
use Rattle.blk_patch.proofs.RoundLaws.{reached_distinct}
use Rattle.blk_patch.proofs.ThinnedLaws.{told, told_once}
use Rattle.blk_patch.proofs.UpwardItems.{fewer_leave}
use Rattle.blk_patch.proofs.UpwardVerdict.{accepted_up}

module _ (s : Statement) (i : Interface) where
  -- ---- what a patch is made of

  -- the items that were added, and those that are left of them
  record IsLeftOf (items : List Item) : Type 0 where
    added : List Item
    are_added : IsReached s i added
    accepted : TellsOk s (with_items added i) true
    are_left : IsThinned s i [] added items

  same_left : (a b : List Item) → PatchEnd.Patched a ≡ PatchEnd.Patched b → a ≡ b
  same_left a b e = cc

  not_refused : (body : Body) (w : Interface) (added : List Item) (fs : List Finding) (full : Bool)
      (items : List Item) → IsRefusedEnd body w added fs full (PatchEnd.Patched items) → ⊥
  not_refused body w added [] true items h = cc
  not_refused body w added (f ∷ fs) true items h = cc
  not_refused body w added [] false items h = h
  not_refused body w added (f ∷ fs) false items h = cc

  left_of_end : (added : List Item) → IsReached s i added → (v : Verdict) → IsVerdict s (with_items added i) v
      → (items : List Item) → IsEnd s i added v (PatchEnd.Patched items) → IsLeftOf items
  left_of_end [] reached (Verdict.Ok proof) verdict items h = cc
  left_of_end (x ∷ xs) reached (Verdict.Ok proof) verdict items h = record {
    added = x ∷ xs;
    are_added = reached;
    accepted = told s i (x ∷ xs) (Verdict.Ok proof) true verdict refl;
    are_left = subst (IsThinned s i [] (x ∷ xs)) (sym (same_left items h.0 h.2)) h.1;
  }
  left_of_end added reached (Verdict.Broken fs) verdict items h =
      absurd (not_refused s.body (with_items added i) added fs (is_without_room added fs) items h)
  left_of_end added reached (Verdict.Outside mark) verdict items h = cc

  left_of : (items : List Item) → IsPatch s i (PatchEnd.Patched items) → IsLeftOf items
  left_of items p =
      left_of_end p.reached.items p.is_reached.are_reached p.reached.verdict p.is_reached.is_verdict items p.is_end

  -- ---- acceptance upwards

  module _ (is : IsInterface i) (stated : IsInterfaceOf i s) (letters : HasLetters i s.body) where
    upward : (added : List Item) → IsReached s i added → IsUpward s i added
    upward added reached = record {
      more = λ part items within inside ok room refused.
          let leaves = fewer_leave items added inside i (reached_leave s i is stated letters added reached) in
          let accepted = accepted_up s i part items within leaves room ok.verdict refused.verdict ok.is_verdict ok.tells
          refused.is_verdict in
          let wrong : true ≡ false = sym accepted ∙ refused.tells in
          cc;
    }

    -- ---- what it gives

    least : (items : List Item) → IsPatch s i (PatchEnd.Patched items) → AreDistinct items × IsLeast s i items
    least items p =
        let left = left_of items p in (
          thinned_distinct s i left.added items (reached_distinct s i is stated left.added left.are_added) left.are_left,
          thinned_least s i left.added (upward left.added left.are_added) left.added items (within_itself left.added)
              left.accepted left.are_left,
        )

    none_before : (fs : List Finding) → IsVerdict s (with_items [] i) (Verdict.Broken fs) → (part : List Item)
        → AreWithin part [] → TellsOk s (with_items part i) true → ⊥
    none_before fs verdict [] within ok = told_once s i [] ok (told s i [] (Verdict.Broken fs) false verdict refl)
    none_before fs verdict (y ∷ ys) within ok = none_there y (within y (has_itself y ys))

    -- what is refused with added items for another cause than room is accepted with none of their parts
    broken_no_patch : (added : List Item) → IsReached s i added → (fs : List Finding)
        → IsVerdict s (with_items added i) (Verdict.Broken fs) → is_without_room added fs ≡ false
        → HasNoPatch s i added
    broken_no_patch [] reached fs verdict other = record { none = none_before fs verdict }
    broken_no_patch (x ∷ xs) reached fs verdict other =
        broken_has_no_part s i (x ∷ xs) (upward (x ∷ xs) reached) (x ∷ xs) (within_itself (x ∷ xs)) fs verdict other

    -- an item is added where it is so
    not_full : (body : Body) (w : Interface) (items : List Item) (fs : List Finding) (x : Item) (full : Bool)
        → is_without_room items fs ≡ full → next_by body w items (Verdict.Broken fs) ≡ Some x
        → is_without_room items fs ≡ false
    not_full body w items fs x false e next = e
    not_full body w items fs x true e next = let wrong : None ≡ Some x = rw e at next in cc

    added_to : (before : List Item) (v : Verdict) (x : Item) → IsReached s i before
        → IsVerdict s (with_items before i) v → next_by s.body (with_items before i) before v ≡ Some x
        → HasNoPatch s i before
    added_to before (Verdict.Ok proof) x reached verdict next = cc
    added_to before (Verdict.Broken fs) x reached verdict next =
        broken_no_patch before reached fs verdict
        (not_full s.body (with_items before i) before fs x (is_without_room before fs) refl next)
    added_to before (Verdict.Outside mark) x reached verdict next = cc

    no_room : (items : List Item) → IsReached s i items → are_some items ≡ true → (LeavesRoom i items → ⊥)
        → HasNoRoom s i items
    no_room items IsReached.begins some full = cc
    no_room items (IsReached.adds before v x reached verdict next) some full = record {
      full = full;
      before = before;
      last = x;
      are = refl;
      refused = added_to before v x reached verdict next;
    }

    full_end : (r : Reached) → IsReachedEnd s i r → (fs : List Finding) → r.verdict ≡ Verdict.Broken fs
        → is_without_room r.items fs ≡ true → HasNoRoom s i r.items
    full_end r is_r fs v e =
        let parts = and_parts (are_some r.items) (begins_with_k1 fs) e in
        no_room r.items is_r.are_reached parts.0
        (no_room_left s (with_items r.items i) fs parts.1
        (subst (IsVerdict s (with_items r.items i)) v is_r.is_verdict))

    -- ---- answers

    accepted_least : (items : List Item) (end : PatchEnd) → IsAcceptedEnd s i items end → HasNoSmaller s i end
    accepted_least [] end h = subst (HasNoSmaller s i) (sym h) tt
    accepted_least (x ∷ xs) end h = subst (HasNoSmaller s i) (sym h.2) tt

    refused_least : (r : Reached) → IsReachedEnd s i r → (fs : List Finding) → r.verdict ≡ Verdict.Broken fs
        → (full : Bool) → is_without_room r.items fs ≡ full → (end : PatchEnd)
        → IsRefusedEnd s.body (with_items r.items i) r.items fs full end → HasNoSmaller s i end
    refused_least r is_r [] v true e end h = subst (HasNoSmaller s i) (sym h) (full_end r is_r [] v e)
    refused_least r is_r (f ∷ fs) v true e end h = subst (HasNoSmaller s i) (sym h) (full_end r is_r (f ∷ fs) v e)
    refused_least r is_r [] v false e end h = absurd h
    refused_least r is_r (f ∷ fs) v false e end h =
        subst (HasNoSmaller s i) (sym h)
        (record {
          reached = r;
          is_reached = is_r;
          refused = broken_no_patch r.items is_r.are_reached (f ∷ fs)
              (subst (IsVerdict s (with_items r.items i)) v is_r.is_verdict) e;
        })

    end_least : (r : Reached) → IsReachedEnd s i r → (v : Verdict) → r.verdict ≡ v → (end : PatchEnd)
        → IsEnd s i r.items v end → HasNoSmaller s i end
    end_least r is_r (Verdict.Ok proof) e end h = accepted_least r.items end h
    end_least r is_r (Verdict.Broken fs) e end h =
        refused_least r is_r fs e (is_without_room r.items fs) refl end h
    end_least r is_r (Verdict.Outside mark) e end h = subst (HasNoSmaller s i) (sym h) tt

    pub least_answer : (r : Result PatchEnd Memory) → IfOk r (IsPatch s i) → IfOk r (IsLeastPatch s i)
    least_answer (Ok (PatchEnd.Patched items)) p = least items p
    least_answer (Ok PatchEnd.Nothing) p = tt
    least_answer (Ok (PatchEnd.NoPatch f)) p = tt
    least_answer (Ok (PatchEnd.NoRoom items)) p = tt
    least_answer (Ok (PatchEnd.Outside mark)) p = tt
    least_answer (Err memory) p = tt

    pub none_answer : (r : Result PatchEnd Memory) → IfOk r (IsPatch s i) → IfOk r (HasNoSmaller s i)
    none_answer (Ok end) p = end_least p.reached p.is_reached p.reached.verdict refl end p.is_end
    none_answer (Err memory) p = tt
