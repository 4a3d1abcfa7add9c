-- From one shape to all.
use Rattle.std.proofs.Common.{◌≡◌, ◌⊎◌, inl, inr, ◌↔◌, ℕ, zero, suc, ◌+◌, ◌<◌, ◌≤◌, List, [], ◌∷◌, ◌++◌, length, get_or, take, Bool, true, false, IsTrue, Option, Some, None, IfSome, IfNone, is_some, refl, sym, subst, arith}
use Rattle.std.proofs.lemmas.List.{take_more, take_all}
use Rattle.asm_core.specs.Lists.{IsMember}
use Rattle.asm_core.specs.Placement.{IsRoomy}
use Rattle.asm_core.specs.Roomy.{IsLeastRoomy}
use Rattle.asm_core.specs.declared.shape.Shape.{Shape}
use Rattle.asm_core.specs.declared.interface.Interface.{Interface}
use Rattle.asm_core.specs.declared.placement.Placement.{Placement}
use Rattle.blk_check.specs.Judged.{HasRoom, AnyHasRoom}

module _ (i : Interface) where
  -- what `room` answers tells whether there is room
  pub answered : (s : Shape) (r : Option Placement) → IfSome r (IsLeastRoomy i s) → IfNone r ((p : Placement) → IsRoomy i s p → ⊥) → IsTrue (is_some r) ↔ HasRoom i s
  answered s (Some p) least none = ((λ yes. record { placement = p; roomy = least.roomy }), (λ room. refl))
  answered s None least none = ((λ yes. cc), (λ room. absurd (none room.placement room.roomy)))

  pub none_of : AnyHasRoom i [] → ⊥
  none_of any = absurd any.is_shape

  in_append : (x s : Shape) (ss : List Shape) → IsMember x (ss ++ s ∷ []) → IsMember x ss ⊎ (x ≡ s)
  in_append x s [] (inl same) = inr same
  in_append x s [] (inr more) = absurd more
  in_append x s (q ∷ ss) (inl same) = inl (inl same)
  in_append x s (q ∷ ss) (inr more) = go (in_append x s ss more)
    where
      go : IsMember x ss ⊎ (x ≡ s) → IsMember x (q ∷ ss) ⊎ (x ≡ s)
      go (inl m) = inl (inr m)
      go (inr e) = inr e

  none_more : (s : Shape) (ss : List Shape) → (AnyHasRoom i ss → ⊥) → (HasRoom i s → ⊥) → AnyHasRoom i (ss ++ s ∷ []) → ⊥
  none_more s ss none this any = go (in_append any.shape s ss any.is_shape)
    where
      go : IsMember any.shape ss ⊎ (any.shape ≡ s) → ⊥
      go (inl m) = none (record { shape = any.shape; is_shape = m; room = any.room })
      go (inr e) = this (subst (HasRoom i) e any.room)

pub member_at : (ss : List Shape) (k : ℕ) (s : Shape) → k < length ss → s ≡ get_or ss k s → IsMember s ss
member_at [] k s lt is = absurd (omega arith)
member_at (q ∷ ss) zero s lt is = inl is
member_at (q ∷ ss) (suc k) s lt is = inr (member_at ss k s (omega arith) is)

module _ (i : Interface) (ss : List Shape) (k : ℕ) where
  -- a turn of a loop that found no room
  pub none_so_far : (s : Shape) (found : Bool) → k < length ss → s ≡ get_or ss k s → (AnyHasRoom i (take k ss) → ⊥) → IsTrue found ↔ HasRoom i s → found ≡ false → AnyHasRoom i (take (k + 1) ss) → ⊥
  none_so_far s found lt is none answer not_found any =
      none_more i s (take k ss) none
      (λ room. let yes : found ≡ true = answer.1 room in cc)
      (subst (λ (q : Shape). AnyHasRoom i (take k ss ++ q ∷ [])) (sym is) (subst (AnyHasRoom i) (take_more ss k s lt) any))

  -- and one that found it
  pub some_there : (s : Shape) → k < length ss → s ≡ get_or ss k s → HasRoom i s → AnyHasRoom i ss
  some_there s lt is room = record { shape = s; is_shape = member_at ss k s lt is; room = room }

  -- behind the last
  pub none_there : length ss ≤ k → (AnyHasRoom i (take k ss) → ⊥) → AnyHasRoom i ss → ⊥
  none_there le none any = none (subst (AnyHasRoom i) (sym (take_all k ss le)) any)
