-- A statement has one patch: each round asks for one item, and what is answered at their end is one.
use Rattle.std.proofs.Common.{◌≡◌, List, [], ◌∷◌, ◌++◌, Bool, true, false, None, Some, Result, Ok, Err, IfOk, refl, sym, ap, subst, ◌∙◌}
use Rattle.asm_core.specs.declared.memory.Memory.{Memory}
use Rattle.asm_core.specs.declared.finding.Finding.{Finding}
use Rattle.asm_core.specs.declared.statement.Body.{Body}
use Rattle.asm_core.specs.declared.statement.Statement.{Statement}
use Rattle.asm_core.specs.declared.interface.Interface.{Interface}
use Rattle.blk_check.specs.Judged.{IsVerdict}
use Rattle.blk_check.specs.declared.verdict.Verdict.{Verdict}
use Rattle.blk_check.proofs.Unique.{verdict_unique}
use Rattle.blk_patch.specs.Items.{with_items}
use Rattle.blk_patch.specs.Only.{IsOnlyPatch}
use Rattle.blk_patch.specs.Rounds.{next_by, is_without_room, is_ok, IsReached, IsReachedEnd, IsAcceptedEnd, IsRefusedEnd, IsEnd, IsPatch, TellsOk}
use Rattle.blk_patch.specs.declared.item.Item.{Item}
use Rattle.blk_patch.specs.declared.rounds.Reached.{Reached}
use Rattle.blk_patch.specs.declared.patches.PatchEnd.{PatchEnd}
use Rattle.blk_patch.proofs.ThinnedLaws.{thinned_once}
use Rattle.blk_patch.proofs.WithNone.{with_none}

-- ---- rounds

-- from these items on the rounds come to that end
data Leads (s : Statement) (i : Interface) (end : List Item) : List Item → Type 0 where
  stops : (items : List Item) → items ≡ end → Leads s i end items
  goes : (items : List Item) (v : Verdict) (x : Item) → IsVerdict s (with_items items i) v
      → next_by s.body (with_items items i) items v ≡ Some x → Leads s i end (items ++ x ∷ [])
      → Leads s i end items

module _ (s : Statement) (i : Interface) where
  leads_back : (end items : List Item) → IsReached s i items → Leads s i end items → Leads s i end []
  leads_back end items IsReached.begins rounds = rounds
  leads_back end items (IsReached.adds before v x reached verdict next) rounds =
      leads_back end before reached (Leads.goes before v x verdict next rounds)

  all_rounds : (r : Reached) → IsReachedEnd s i r → Leads s i r.items []
  all_rounds r is = leads_back r.items r.items is.are_reached (Leads.stops r.items refl)

  -- what is asked for with these items
  asked_once : (items : List Item) (v w : Verdict) → IsVerdict s (with_items items i) v
      → IsVerdict s (with_items items i) w
      → next_by s.body (with_items items i) items v ≡ next_by s.body (with_items items i) items w
  asked_once items v w a b =
      ap (next_by s.body (with_items items i) items) (verdict_unique s (with_items items i) v w a b)

  -- nothing is, where the rounds ended
  nothing_asked : (r : Reached) → IsReachedEnd s i r → (items : List Item) → items ≡ r.items → (v : Verdict)
      → IsVerdict s (with_items items i) v → next_by s.body (with_items items i) items v ≡ None
  nothing_asked r is items same =
      subst (λ l. (v : Verdict) → IsVerdict s (with_items l i) v → next_by s.body (with_items l i) l v ≡ None)
      (sym same)
      (λ v verdict. asked_once r.items v r.verdict verdict is.is_verdict ∙ is.no_more)

  module _ (a b : Reached) (is_a : IsReachedEnd s i a) (is_b : IsReachedEnd s i b) where
    at_stop : (items : List Item) → items ≡ a.items → Leads s i b.items items → a.items ≡ b.items
    at_stop items same (Leads.stops l too) = sym same ∙ too
    at_stop items same (Leads.goes l v x verdict next more) =
        let wrong : None ≡ Some x = sym (nothing_asked a is_a l same v verdict) ∙ next in
        cc

    at_round : (items : List Item) (v : Verdict) (x : Item) → IsVerdict s (with_items items i) v
        → next_by s.body (with_items items i) items v ≡ Some x
        → (Leads s i b.items (items ++ x ∷ []) → a.items ≡ b.items) → Leads s i b.items items → a.items ≡ b.items
    at_round items v x verdict next again (Leads.stops l too) =
        let wrong : None ≡ Some x = sym (nothing_asked b is_b l too v verdict) ∙ next in
        cc
    at_round items v x verdict next again (Leads.goes l w y other asked more) =
        let both : Some y ≡ Some x = sym asked ∙ asked_once l w v other verdict ∙ next in
        let same : y ≡ x = some_is y x both in
        again (subst (λ z. Leads s i b.items (l ++ z ∷ [])) same more)
      where
        some_is : (p q : Item) → Some p ≡ Some q → p ≡ q
        some_is p q e = cc

    ends_once : (items : List Item) → Leads s i a.items items → Leads s i b.items items → a.items ≡ b.items
    ends_once items (Leads.stops l same) other = at_stop l same other
    ends_once items (Leads.goes l v x verdict next more) other =
        at_round l v x verdict next (λ rounds. ends_once (l ++ x ∷ []) more rounds) other

    same_items : a.items ≡ b.items
    same_items = ends_once [] (all_rounds a is_a) (all_rounds b is_b)

    same_verdict : a.verdict ≡ b.verdict
    same_verdict =
        verdict_unique s (with_items b.items i) a.verdict b.verdict
        (subst (λ l. IsVerdict s (with_items l i) a.verdict) same_items is_a.is_verdict) is_b.is_verdict

  -- ---- answers

  accepted_once : (items : List Item) (a b : PatchEnd) → IsAcceptedEnd s i items a → IsAcceptedEnd s i items b → a ≡ b
  accepted_once [] a b g h = g ∙ sym h
  accepted_once (x ∷ xs) a b g h =
      g.2 ∙ ap PatchEnd.Patched (thinned_once s i (x ∷ xs) g.0 h.0 g.1 h.1) ∙ sym h.2

  refused_once : (body : Body) (w : Interface) (items : List Item) (fs : List Finding) (full : Bool) (a b : PatchEnd)
      → IsRefusedEnd body w items fs full a → IsRefusedEnd body w items fs full b → a ≡ b
  refused_once body w items [] true a b g h = g ∙ sym h
  refused_once body w items (f ∷ fs) true a b g h = g ∙ sym h
  refused_once body w items [] false a b g h = absurd g
  refused_once body w items (f ∷ fs) false a b g h = g ∙ sym h

  end_once : (items : List Item) (v : Verdict) (a b : PatchEnd) → IsEnd s i items v a → IsEnd s i items v b → a ≡ b
  end_once items (Verdict.Ok proof) a b g h = accepted_once items a b g h
  end_once items (Verdict.Broken fs) a b g h =
      refused_once s.body (with_items items i) items fs (is_without_room items fs) a b g h
  end_once items (Verdict.Outside mark) a b g h = g ∙ sym h

  pub patch_once : (a b : PatchEnd) → IsPatch s i a → IsPatch s i b → a ≡ b
  patch_once a b p q =
      let items = same_items p.reached q.reached p.is_reached q.is_reached in
      let verdict = same_verdict p.reached q.reached p.is_reached q.is_reached in
      end_once q.reached.items q.reached.verdict a b
      (subst (λ v. IsEnd s i q.reached.items v a) verdict
      (subst (λ l. IsEnd s i l p.reached.verdict a) items p.is_end))
      q.is_end

  -- ---- nothing to be done

  nothing_for : (v : Verdict) → IsVerdict s i v → is_ok v ≡ true → IsPatch s i PatchEnd.Nothing
  nothing_for (Verdict.Ok proof) verdict ok = record {
    reached = record { items = []; interface = with_items [] i; verdict = Verdict.Ok proof };
    is_reached = record {
      are_reached = IsReached.begins;
      interface = refl;
      is_verdict = subst (λ w. IsVerdict s w (Verdict.Ok proof)) (sym (with_none i)) verdict;
      no_more = refl;
    };
    is_end = refl;
  }
  nothing_for (Verdict.Broken fs) verdict ok = cc
  nothing_for (Verdict.Outside mark) verdict ok = cc

  refused_some : (body : Body) (w : Interface) (items : List Item) (fs : List Finding) (full : Bool) (end : PatchEnd)
      → IsRefusedEnd body w items fs full end → end ≡ PatchEnd.Nothing → ⊥
  refused_some body w items [] true end h e = let wrong : PatchEnd.NoRoom items ≡ PatchEnd.Nothing = sym h ∙ e in cc
  refused_some body w items (f ∷ fs) true end h e =
      let wrong : PatchEnd.NoRoom items ≡ PatchEnd.Nothing = sym h ∙ e in
      cc
  refused_some body w items [] false end h e = absurd h
  refused_some body w items (f ∷ fs) false end h e = let wrong = sym h ∙ e in cc

  accepted_as_is : (items : List Item) (v : Verdict) (end : PatchEnd) → IsVerdict s (with_items items i) v
      → IsEnd s i items v end → end ≡ PatchEnd.Nothing → TellsOk s i true
  accepted_as_is [] (Verdict.Ok proof) end verdict is e = record {
    verdict = Verdict.Ok proof;
    is_verdict = subst (λ w. IsVerdict s w (Verdict.Ok proof)) (with_none i) verdict;
    tells = refl;
  }
  accepted_as_is (x ∷ xs) (Verdict.Ok proof) end verdict is e =
      let wrong : PatchEnd.Patched is.0 ≡ PatchEnd.Nothing = sym is.2 ∙ e in
      cc
  accepted_as_is items (Verdict.Broken fs) end verdict is e =
      absurd (refused_some s.body (with_items items i) items fs (is_without_room items fs) end is e)
  accepted_as_is items (Verdict.Outside mark) end verdict is e =
      let wrong : PatchEnd.Outside mark ≡ PatchEnd.Nothing = sym is ∙ e in
      cc

  pub only : (end : PatchEnd) → IsPatch s i end → IsOnlyPatch s i end
  only end p = record {
    one = λ other q. patch_once other end q p;
    nothing = (
      (λ e. accepted_as_is p.reached.items p.reached.verdict end p.is_reached.is_verdict p.is_end e),
      (λ ok. patch_once end PatchEnd.Nothing p (nothing_for ok.verdict ok.is_verdict ok.tells)),
    );
  }

  pub only_answer : (r : Result PatchEnd Memory) → IfOk r (IsPatch s i) → IfOk r (IsOnlyPatch s i)
  only_answer (Ok end) p = only end p
  only_answer (Err memory) p = tt
