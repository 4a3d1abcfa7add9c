-- The first shape that has room, among the live ones and among all.
use Rattle.std.proofs.Common.{◌≡◌, ◌⊎◌, inl, inr, ℕ, zero, suc, ◌+◌, ◌<◌, ◌≤◌, List, [], ◌∷◌, ◌++◌, length, get_or, take, drop, Option, None, Some, slice_get, refl, sym, ◌∙◌, subst, ap, arith}
use Rattle.asm_core.specs.Lists.{IsMember}
use Rattle.asm_core.specs.Shape.{IsLive}
use Rattle.asm_core.specs.declared.shape.Shape.{Shape}
use Rattle.asm_core.specs.declared.interface.Interface.{Interface}
use Rattle.blk_check.specs.Judged.{HasRoom, AnyHasRoom, IsFirstRoomy}
use Rattle.blk_check.specs.Readable.{AreLive}

module _ (i : Interface) where
  -- a shape that has room is live
  room_lives : (s : Shape) → HasRoom i s → IsLive i s
  room_lives s room = (room.placement, room.roomy.allowed)

  abbrev Any : List Shape → Type 0
  Any ss = AnyHasRoom i ss

  any_first : (s : Shape) (live rest : List Shape) → live ≡ s ∷ rest → (any : Any rest) → Any live
  any_first s live rest is any = subst Any (sym is) (record { shape = any.shape; is_shape = inr any.is_shape; room = any.room })

  pub any_live : (ss live : List Shape) → AreLive i ss live → AnyHasRoom i ss → AnyHasRoom i live
  unfolding AreLive
  any_live [] live are any = absurd any.is_shape
  any_live (s ∷ ss) live (inl h) any = go (λ more. any_first s live h.1 h.2 (any_live ss h.1 h.3 more)) any.is_shape
    where
      go : (Any ss → Any live) → IsMember any.shape (s ∷ ss) → AnyHasRoom i live
      go rest (inl same) = subst Any (sym h.2) (record { shape = any.shape; is_shape = inl same; room = any.room })
      go rest (inr m) = rest (record { shape = any.shape; is_shape = m; room = any.room })
  any_live (s ∷ ss) live (inr h) any = go (λ more. any_live ss live h.1 more) any.is_shape
    where
      go : (Any ss → Any live) → IsMember any.shape (s ∷ ss) → AnyHasRoom i live
      go rest (inl same) = absurd (h.0 (subst (IsLive i) same (room_lives any.shape any.room)))
      go rest (inr m) = rest (record { shape = any.shape; is_shape = m; room = any.room })

  pub first_of_all : (ss live : List Shape) (s : Shape) → AreLive i ss live → IsFirstRoomy i live s → IsFirstRoomy i ss s
  unfolding AreLive IsFirstRoomy
  first_of_all [] live s are first = subst (λ l. IsFirstRoomy i l s) are first
  first_of_all (q ∷ ss) live s (inl h) first = go (λ more. first_of_all ss h.1 s h.3 more) (subst (λ l. IsFirstRoomy i l s) h.2 first)
    where
      go : (IsFirstRoomy i h.1 s → IsFirstRoomy i ss s) → IsFirstRoomy i (q ∷ h.1) s → IsFirstRoomy i (q ∷ ss) s
      go rest (inl here) = inl here
      go rest (inr more) = inr (more.0, rest more.1)
  first_of_all (q ∷ ss) live s (inr h) first = inr ((λ room. h.0 (room_lives q room)), first_of_all ss live s h.1 first)

  -- ---- turns of the loop that looks for it

  -- shapes before it have no room
  pub first_here : (ss : List Shape) (k : ℕ) (s : Shape) → slice_get ss k ≡ Some s → (AnyHasRoom i (take k ss) → ⊥) → HasRoom i s → IsFirstRoomy i ss s
  unfolding IsFirstRoomy
  first_here [] k s is none room = cc
  first_here (q ∷ ss) zero s is none room = let same : q ≡ s = cc in inl (subst (HasRoom i) (sym same) room, sym same)
  first_here (q ∷ ss) (suc k) s is none room =
      inr (
        (λ here. none (record { shape = q; is_shape = inl refl; room = here })),
        first_here ss k s is (λ any. none (record { shape = any.shape; is_shape = inr any.is_shape; room = any.room })) room,
      )
