-- Paths through a graph of nodes, and the facts that they show. Nodes have the numbers below `size`, and `size` is
-- the
-- end. From node i the ways go to `goes i 0` and `goes i 1`, which may be equal; from the end no way goes on.
use Rattle.std.specs.Prelude.{◌≡◌, ℕ, ◌<◌, ◌⊎◌, List, [], ◌∷◌, Bool, true}

-- A path is the list of the nodes that it has passed, the last one first. Each begins at node 0.
module _ (size : ℕ) (goes : ℕ → ℕ → ℕ) where
  -- a path that has come to node j, and hasn't passed it
  abbrev pub IsPathTo : List ℕ → ℕ → Type 0
  IsPathTo [] j = j ≡ 0
  IsPathTo (i ∷ before) j = IsPathTo before i × (i < size) × ((j ≡ goes i 0) ⊎ (j ≡ goes i 1))

-- the facts where the path ends, of those at the start and of what each node makes of the facts before it
abbrev pub facts_along : {F : Type 0} → (F → Bool) → (ℕ → (F → Bool) → F → Bool) → List ℕ → F → Bool
facts_along start after [] = start
facts_along start after (i ∷ before) = after i (facts_along start after before)

-- some path to node j shows facts of which the test is true
abbrev pub OnSomePath : {F : Type 0} → ℕ → (ℕ → ℕ → ℕ) → (F → Bool) → (ℕ → (F → Bool) → F → Bool) → ℕ
    → ((F → Bool) → Bool) → Type 0
OnSomePath size goes start after j test = (path : List ℕ) × IsPathTo size goes path j ×
    (test (facts_along start after path) ≡ true)

-- what is found at each node, and at the end, are the facts that some path to it shows, and no others
pub record IsOfAllPaths {F : Type 0} (size : ℕ) (goes : ℕ → ℕ → ℕ) (start : F → Bool)
    (after : ℕ → (F → Bool) → F → Bool)
    (found : ℕ → F → Bool) : Type 0 where
  pub shown : (j : ℕ) (fact : F) → found j fact ≡ true → OnSomePath size goes start after j (λ facts. facts fact)
  pub complete : (path : List ℕ) (j : ℕ) (fact : F) → IsPathTo size goes path j
      → facts_along start after path fact ≡ true
      → found j fact ≡ true
