-- What holds between the visits.
use Rattle.std.specs.Prelude.{◌≡◌, ℕ, ◌<◌, Bool, true, false}
use Rattle.dataflow.specs.Paths.{OnSomePath}

-- What is found is shown by paths, what holds at the start is found, and what each node that isn't to be visited
-- makes
-- of the facts before it is found where its ways go.
pub record IsSolving {F : Type 0} (size : ℕ) (goes : ℕ → ℕ → ℕ) (start : F → Bool) (after : ℕ → (F → Bool) → F → Bool)
    (found : ℕ → F → Bool) (is_pending : ℕ → Bool) : Type 0 where
  pub shown : (j : ℕ) (fact : F) → found j fact ≡ true → OnSomePath size goes start after j (λ facts. facts fact)
  pub base : (fact : F) → start fact ≡ true → found 0 fact ≡ true
  pub closed : (i way : ℕ) (fact : F) → i < size → way < 2 → is_pending i ≡ false → after i (found i) fact ≡ true
      → found (goes i way) fact ≡ true
