-- The search is exact.
use Rattle.std.proofs.Common.{◌≡◌, ◌≢◌, ◌⊎◌, inl, inr, ℕ, ◌<◌, List, [], ◌∷◌, Bool, true, false, sym, subst, ◌∙◌, arith}
use Rattle.std.proofs.lemmas.Bool.{cases_eq}
use Rattle.dataflow.specs.Cause.{HasOneCause}
use Rattle.dataflow.specs.Paths.{IsPathTo, facts_along, OnSomePath, IsOfAllPaths}
use Rattle.dataflow.specs.Solving.{IsSolving}
use Rattle.dataflow.specs.Causes.{single_up, never_from_nothing}

-- facts flow to a node, which is to be visited unless it had them all
pub record IsFlow {F : Type 0} (size to : ℕ) (next : F → Bool) (old new : ℕ → F → Bool)
    (old_pending new_pending : ℕ → Bool) : Type 0 where
  pub only : (j : ℕ) (fact : F) → new j fact ≡ true → (old j fact ≡ true) ⊎ ((j ≡ to) × (next fact ≡ true))
  pub kept : (j : ℕ) (fact : F) → old j fact ≡ true → new j fact ≡ true
  pub given : (fact : F) → next fact ≡ true → new to fact ≡ true
  pub quiet : (i : ℕ) → i < size → new_pending i ≡ false → (old_pending i ≡ false) × (new i ≡ old i)

module _ {F : Type 0} (size : ℕ) (goes : ℕ → ℕ → ℕ) (start : F → Bool) (after : ℕ → (F → Bool) → F → Bool)
    (one_cause : (i : ℕ) → HasOneCause (after i)) where
  -- after the start has flowed to node 0
  pub begun : (blank found : ℕ → F → Bool) (old_pending pending : ℕ → Bool)
      → ((j : ℕ) (fact : F) → blank j fact ≡ false)
      → IsFlow size 0 start blank found old_pending pending → IsSolving size goes start after found pending
  begun blank found old_pending pending none flow = record {
    shown = λ j fact has. elim (flow.only j fact has) [
      | inl before ↦ let wrong : true ≡ false = sym before ∙ none j fact in cc
      | inr new ↦ ([], new.0, new.1)
    ];
    base = flow.given;
    closed = λ i way fact lt below quiet makes.
        let same = (flow.quiet i lt quiet).1 in
        absurd (never_from_nothing ((one_cause i).each fact) (blank i) (none i)
        (subst (λ facts. after i facts fact ≡ true) same makes));
  }

  -- a path that goes on
  longer : (i j : ℕ) (found : F → Bool) (fact : F) → ((one : F) → found one ≡ true
      → OnSomePath size goes start after i (λ facts. facts one))
      → i < size → ((j ≡ goes i 0) ⊎ (j ≡ goes i 1)) → after i found fact ≡ true
      → OnSomePath size goes start after j (λ facts. facts fact)
  longer i j found fact shown lt goal makes =
      let c = ((one_cause i).each fact).cause found makes in
      let p = shown c.fact c.holds in
      (i ∷ p.0, (p.1, lt, goal), c.enough _ p.2)

  way_cases : (P : ℕ → Type 0) → P 0 → P 1 → (way : ℕ) → way < 2 → P way
  way_cases P first second way below = elim (cases_eq way 0) [
    | inl is ↦ subst P (sym is) first
    | inr more ↦ let is : 1 ≡ way = omega arith in subst P is second
  ]

  module _ (at : ℕ) (inside : at < size) (found one two : ℕ → F → Bool)
      (pending taken one_pending two_pending : ℕ → Bool)
      (others : (i : ℕ) → i ≢ at → taken i ≡ pending i) (solving : IsSolving size goes start after found pending)
      (first : IsFlow size (goes at 0) (after at (found at)) found one taken one_pending)
      (second : IsFlow size (goes at 1) (after at (found at)) one two one_pending two_pending) where
    visited_shown : (j : ℕ) (fact : F) → two j fact ≡ true → OnSomePath size goes start after j (λ facts. facts fact)
    visited_shown j fact has = elim (second.only j fact has) [
      | inr new ↦ longer at j (found at) fact (solving.shown at) inside (inr new.0) new.1
      | inl had ↦ elim (first.only j fact had) [
        | inr new ↦ longer at j (found at) fact (solving.shown at) inside (inl new.0) new.1
        | inl before ↦ solving.shown j fact before
      ]
    ]

    visited_closed : (i way : ℕ) (fact : F) → i < size → way < 2 → two_pending i ≡ false → after i (two i) fact ≡ true
        → two (goes i way) fact ≡ true
    visited_closed i way fact lt below quiet makes =
        let last = second.quiet i lt quiet in
        let before = first.quiet i lt last.0 in
        let made : after i (found i) fact ≡ true = subst (λ facts. after i facts fact ≡ true)
        (last.1 ∙ before.1) makes in
        elim (cases_eq i at) [
          | inr differs ↦
              let had = solving.closed i way fact lt below (sym (others i differs) ∙ before.0) made in
              second.kept _ fact (first.kept _ fact had)
          | inl same ↦
              let here : after at (found at) fact ≡ true = subst (λ n. after n (found n) fact ≡ true) same made in
              subst (λ n. two (goes n way) fact ≡ true) (sym same)
              (way_cases (λ k. two (goes at k) fact ≡ true) (second.kept _ fact (first.given fact here))
              (second.given fact here) way below)
        ]

    -- after a visit
    pub visited : IsSolving size goes start after two two_pending
    visited = record {
      shown = visited_shown;
      base = λ fact is. second.kept 0 fact (first.kept 0 fact (solving.base fact is));
      closed = visited_closed;
    }

  complete : (found : ℕ → F → Bool) (pending : ℕ → Bool) → IsSolving size goes start after found pending
      → ((i : ℕ) → pending i ≡ false)
      → (path : List ℕ) (j : ℕ) (fact : F) → IsPathTo size goes path j → facts_along start after path fact ≡ true
      → found j fact ≡ true
  complete found pending solving none [] j fact is has = subst (λ n. found n fact ≡ true) (sym is)
      (solving.base fact has)
  complete found pending solving none (i ∷ before) j fact is has =
      let makes = single_up ((one_cause i).each fact) (facts_along start after before) (found i)
      (λ one had. complete found pending solving none before i one is.0 had) has in
      elim is.2 [
        | inl goal ↦ subst (λ n. found n fact ≡ true) (sym goal)
            (solving.closed i 0 fact is.1 (omega arith) (none i) makes)
        | inr goal ↦ subst (λ n. found n fact ≡ true) (sym goal)
            (solving.closed i 1 fact is.1 (omega arith) (none i) makes)
      ]

  -- when no node is left to be visited
  pub finished : (found : ℕ → F → Bool) (pending : ℕ → Bool) → IsSolving size goes start after found pending
      → ((i : ℕ) → pending i ≡ false) → IsOfAllPaths size goes start after found
  finished found pending solving none = record {
    shown = solving.shown;
    complete = complete found pending solving none;
  }
