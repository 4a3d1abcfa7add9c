-- The live shapes among all.
use Rattle.std.proofs.Common.{◌≡◌, inl, inr, ◌↔◌, ℕ, ◌+◌, ◌<◌, List, [], ◌∷◌, ◌++◌, length, get_or, take, Bool, true, false, IsTrue, Option, Some, None, Result, Ok, Err, IfOk, All, refl, sym, ap, ◌∙◌, subst}
use Rattle.std.proofs.lemmas.List.{take_more}
use Rattle.std.proofs.lemmas.List.Elements.{All-nil, All-cons}
use Rattle.asm_core.specs.Lists.{IsMember}
use Rattle.asm_core.specs.Roomy.{IsPlaceOf}
use Rattle.asm_core.specs.Shape.{IsLive, shapes_of}
use Rattle.asm_core.specs.declared.memory.Memory.{Memory}
use Rattle.asm_core.specs.declared.reg.Reg.{Reg}
use Rattle.asm_core.specs.declared.sym.Place.{Place}
use Rattle.asm_core.specs.declared.shape.Shape.{Shape}
use Rattle.asm_core.specs.declared.interface.Interface.{Interface}
use Rattle.asm_places.specs.Sharing.{CanShare}
use Rattle.blk_check.specs.Readable.{AreLive}

abbrev eax : Place
eax = Place.Reg Reg.Eax

-- eax is no operand
pub eax_place : (i : Interface) → IsPlaceOf i eax
eax_place i = record { is_operand = λ k is. cc }

module _ (i : Interface) where
  -- a place shares its register with itself wherever a placement is allowed
  pub answered : (s : Shape) (found : Bool) → IsTrue found ↔ CanShare i s eax eax → IsTrue found ↔ IsLive i s
  answered s found told = (
    (λ yes. let can = told.0 yes in (can.at, can.shared.allowed)),
    (λ live. told.1 (record {
      at = live.0;
      shared = record { allowed = live.1; register = Reg.Eax; in_first = inl refl; in_second = inl refl };
    })),
  )

  pub live_more : (ss live : List Shape) (s : Shape) → AreLive i ss live → IsLive i s → AreLive i (ss ++ s ∷ []) (live ++ s ∷ [])
  unfolding AreLive
  live_more [] live s are here = inl (here, [], ap (λ l. l ++ s ∷ []) are, refl)
  live_more (q ∷ ss) live s (inl h) here = inl (h.0, h.1 ++ s ∷ [], ap (λ l. l ++ s ∷ []) h.2, live_more ss h.1 s h.3 here)
  live_more (q ∷ ss) live s (inr h) here = inr (h.0, live_more ss live s h.1 here)

  pub live_same : (ss live : List Shape) (s : Shape) → AreLive i ss live → (IsLive i s → ⊥) → AreLive i (ss ++ s ∷ []) live
  unfolding AreLive
  live_same [] live s are dead = inr (dead, are)
  live_same (q ∷ ss) live s (inl h) dead = inl (h.0, h.1, h.2, live_same ss h.1 s h.3 dead)
  live_same (q ∷ ss) live s (inr h) dead = inr (h.0, live_same ss live s h.1 dead)

  pub live_none : AreLive i [] []
  unfolding AreLive
  live_none = refl

  -- there is one list of them
  pub live_unique : (ss live other : List Shape) → AreLive i ss live → AreLive i ss other → live ≡ other
  unfolding AreLive
  live_unique [] live other g h = g ∙ sym h
  live_unique (s ∷ ss) live other (inl g) (inl h) = g.2 ∙ ap (λ l. s ∷ l) (live_unique ss g.1 h.1 g.3 h.3) ∙ sym h.2
  live_unique (s ∷ ss) live other (inl g) (inr h) = absurd (h.0 g.0)
  live_unique (s ∷ ss) live other (inr g) (inl h) = absurd (g.0 h.0)
  live_unique (s ∷ ss) live other (inr g) (inr h) = live_unique ss live other g.1 h.1

  -- each of them is one of the shapes
  live_within : (all ss live : List Shape) → ((s : Shape) → IsMember s ss → IsMember s all) → AreLive i ss live → All (λ s. IsMember s all) live
  unfolding AreLive
  live_within all [] live within are = subst (All (λ s. IsMember s all)) (sym are) (All-nil (λ s. IsMember s all))
  live_within all (s ∷ ss) live within (inl h) =
      subst (All (λ s. IsMember s all)) (sym h.2) (All-cons (λ s. IsMember s all) s h.1 (within s (inl refl)) (live_within all ss h.1 (λ q m. within q (inr m)) h.3))
  live_within all (s ∷ ss) live within (inr h) = live_within all ss live (λ q m. within q (inr m)) h.1

  pub live_members : (ss live : List Shape) → AreLive i ss live → All (λ s. IsMember s ss) live
  live_members ss live are = live_within ss ss live (λ s m. m) are

  -- a turn of a loop that found a live shape
  pub live_so_far : (ss live : List Shape) (k : ℕ) (s : Shape) (found : Bool) → k < length ss → s ≡ get_or ss k s → AreLive i (take k ss) live → IsTrue found ↔ IsLive i s → found ≡ true
      → AreLive i (take (k + 1) ss) (live ++ s ∷ [])
  live_so_far ss live k s found lt is are answer found_here =
      let whole : take (k + 1) ss ≡ take k ss ++ s ∷ [] = take_more ss k s lt ∙ ap (λ (q : Shape). take k ss ++ q ∷ []) (sym is) in
      subst (λ l. AreLive i l (live ++ s ∷ [])) (sym whole) (live_more (take k ss) live s are (answer.0 found_here))

  -- and one that found another one
  pub dead_so_far : (ss live : List Shape) (k : ℕ) (s : Shape) (found : Bool) → k < length ss → s ≡ get_or ss k s → AreLive i (take k ss) live → IsTrue found ↔ IsLive i s → found ≡ false
      → AreLive i (take (k + 1) ss) live
  dead_so_far ss live k s found lt is are answer not_found =
      let whole : take (k + 1) ss ≡ take k ss ++ s ∷ [] = take_more ss k s lt ∙ ap (λ (q : Shape). take k ss ++ q ∷ []) (sym is) in
      subst (λ l. AreLive i l live) (sym whole) (live_same (take k ss) live s are (λ here. let yes : found ≡ true = answer.1 here in cc))

  -- so is each in an answer
  pub members_answer : (ss : List Shape) (r : Result (List Shape) Memory) → ss ≡ shapes_of i → IfOk r (AreLive i ss) → IfOk r (All (λ s. IsMember s (shapes_of i)))
  members_answer ss (Ok live) same are = subst (λ (all : List Shape). All (λ s. IsMember s all) live) same (live_members ss live are)
  members_answer ss (Err end) same are = tt
