-- Depths and sharing of a graph whose stack is sound can't be missing.
use Rattle.std.proofs.Common.{◌≡◌, ◌↔◌, inl, inr, ◌⊎◌, ℕ, zero, suc, ◌+◌, ◌==◌, ◌<◌, ◌≤◌, List, [], ◌∷◌, ◌++◌, length, Bool, true, false, IsTrue, if◌then◌else◌, slice_index, refl, sym, ap, subst, arith}
use Rattle.std.proofs.lemmas.Bool.{cases_lt, cases_eq, eq-eqb, ne_eqb}
use Rattle.asm_core.specs.Frame.{IsFramed}
use Rattle.asm_core.specs.Run.{Outcome}
use Rattle.asm_core.specs.WellFormed.{IsInterface}
use Rattle.asm_core.specs.declared.shape.Shape.{Shape}
use Rattle.asm_core.specs.declared.interface.Interface.{Interface}
use Rattle.asm_core.specs.declared.lines.Graph.{Graph}
use Rattle.asm_core.specs.declared.placement.Placement.{Placement}
use Rattle.asm_core.specs.declared.machine.Machine.{Machine}
use Rattle.blk_deps.specs.Ways.{size_of, IsGraph}
use Rattle.blk_deps.specs.Stack.{AreDepths}
use Rattle.blk_deps.specs.StackTable.{IsDepthAt, IsSound}
use Rattle.blk_deps.specs.Start.{MayShare, TellsSharing}
use Rattle.blk_deps.proofs.StackLemmas.{are_depths, none_at, one_more}
use Rattle.blk_frame.proofs.Places.{place_small}
use Rattle.blk_frame.proofs.Stable.{framed_unless}

-- ---- depths

depth_there : (g : Graph) (n : ℕ) → ((d : ℕ) → IsDepthAt g n d → ⊥) → ⊥
depth_there g n none = none 0 (inr (refl, λ depth has. none depth (inl has)))

-- the depths of the nodes below n
abbrev AreBelow : Graph → ℕ → List ℕ → Type 0
AreBelow g n depths = (length depths ≡ n) × ((k : ℕ) → k < n → IsDepthAt g k (slice_index depths k))

depths_below : (g : Graph) (n : ℕ) → ((depths : List ℕ) → AreBelow g n depths → ⊥) → ⊥
depths_below g zero none = none [] (refl, none_at g)
depths_below g (suc n) none = depths_below g n (λ depths so_far. depth_there g n (λ d own.
    let next : n + 1 ≡ suc n = omega arith in
    none (depths ++ d ∷ []) (subst (λ k. AreBelow g k (depths ++ d ∷ [])) next
    (one_more g depths (depths ++ d ∷ []) n d so_far own refl))))

depths_there : (g : Graph) → IsGraph g → IsSound g → ((depths : List ℕ) → AreDepths g depths → ⊥) → ⊥
depths_there g graph sound none = depths_below g (size_of g + 1) (λ depths all.
    none depths (are_depths g graph sound depths all.0 (λ n below. all.1 n (subst (λ k. n < k) all.0 below))))

-- ---- sharing

truth_there : (P : Type 0) → ((b : Bool) → (IsTrue b ↔ P) → ⊥) → ⊥
truth_there P none = none false (λ wrong. cc, λ holds. absurd (none true (λ yes. holds, λ h. refl)))

-- No number below a size can lack an item, and past it the item is known: then a table of them all can't be lacking.
module _ {A : Type 0} (P : ℕ → A → Type 0) (size : ℕ) (past : A) (is_past : (k : ℕ) → size ≤ k → P k past)
    (each : (k : ℕ) → ((a : A) → P k a → ⊥) → ⊥) where
  abbrev with_item : ℕ → A → (ℕ → A) → ℕ → A
  with_item n a items k = if k == n then a else items k

  abbrev HoldBelow : ℕ → (ℕ → A) → Type 0
  HoldBelow n items = (k : ℕ) → (k < n) ⊎ (size ≤ k) → P k (items k)

  one_item_more : (n : ℕ) (a : A) (items : ℕ → A) → P n a → HoldBelow n items → HoldBelow (suc n) (with_item n a items)
  one_item_more n a items own before k is = elim (cases_eq k n) [
    | inl same ↦
        let chosen : with_item n a items k ≡ a = ap (λ b. if b then a else items k) (eq-eqb k n same) in
        subst (P k) (sym chosen) (subst (λ m. P m a) (sym same) own)
    | inr other ↦
        let left : with_item n a items k ≡ items k = ap (λ b. if b then a else items k) (ne_eqb k n other) in
        subst (P k) (sym left) (before k (elim is [
          | inl below ↦ inl (omega (arith, below, other))
          | inr over ↦ inr over
        ]))
  ]

  items_below : (n : ℕ) → ((items : ℕ → A) → HoldBelow n items → ⊥) → ⊥
  items_below zero none = none (λ k. past) (λ k is. elim is [
    | inl below ↦ absurd (omega (arith, below))
    | inr over ↦ is_past k over
  ])
  items_below (suc n) none = items_below n (λ items before. each n (λ a own.
      none (with_item n a items) (one_item_more n a items own before)))

  all_there : ((items : ℕ → A) → ((k : ℕ) → P k (items k)) → ⊥) → ⊥
  all_there none = items_below size (λ items all. none items (λ k. all k (cases_lt k size)))

module _ (i : Interface) (s : Shape) (interface : IsInterface i) where
  past_first : (p q : ℕ) → 37 ≤ p → IsTrue false ↔ MayShare i s p q
  past_first p q over = (
    λ wrong. cc,
    λ may. let below = place_small i s p interface may.first in absurd (omega (arith, over, below)),
  )

  past_second : (p q : ℕ) → 37 ≤ q → IsTrue false ↔ MayShare i s p q
  past_second p q over = (
    λ wrong. cc,
    λ may. let below = place_small i s q interface may.second in absurd (omega (arith, over, below)),
  )

  row_there : (p : ℕ) → ((row : ℕ → Bool) → ((q : ℕ) → IsTrue (row q) ↔ MayShare i s p q) → ⊥) → ⊥
  row_there p = all_there (λ q b. IsTrue b ↔ MayShare i s p q) 37 false (past_second p)
      (λ q. truth_there (MayShare i s p q))

  sharing_there : ((shares : ℕ → ℕ → Bool) → TellsSharing i s shares → ⊥) → ⊥
  sharing_there = all_there (λ p row. (q : ℕ) → IsTrue (row q) ↔ MayShare i s p q) 37 (λ q. false)
      (λ p over q. past_first p q over) row_there

pub settings_there : (i : Interface) (s : Shape) (g : Graph) → IsInterface i → IsGraph g → IsSound g
    → ((depths : List ℕ) (shares : ℕ → ℕ → Bool) → AreDepths g depths → TellsSharing i s shares → ⊥) → ⊥
settings_there i s g interface graph sound none = depths_there g graph sound (λ depths are.
    sharing_there i s interface (λ shares tells. none depths shares are tells))

-- What is framed wherever depths and sharing are known is framed.
pub framed_in_settings : (i : Interface) (s : Shape) (g : Graph) (p : Placement) (entry : Machine) (o : Outcome)
    → IsInterface i → IsGraph g → IsSound g
    → ((depths : List ℕ) (shares : ℕ → ℕ → Bool) → AreDepths g depths → TellsSharing i s shares
    → IsFramed i s p entry o)
    → IsFramed i s p entry o
framed_in_settings i s g p entry o interface graph sound each = framed_unless i s p entry o (λ none.
    settings_there i s g interface graph sound (λ depths shares are tells. none (each depths shares are tells)))
