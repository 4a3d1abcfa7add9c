-- Tests of what is found at a node, and of the paths to it.
use Rattle.std.proofs.Common.{◌≡◌, ℕ, Bool, true}
use Rattle.dataflow.specs.Cause.{IsSingle}
use Rattle.dataflow.specs.Paths.{OnSomePath, IsOfAllPaths}
use Rattle.dataflow.specs.Causes.{single_up}

module _ {F : Type 0} {size : ℕ} {goes : ℕ → ℕ → ℕ} {start : F → Bool} {after : ℕ → (F → Bool) → F → Bool}
    {found : ℕ → F → Bool}
    (is : IsOfAllPaths size goes start after found) where
  -- what a test that needs one fact sees in the facts found, it sees on some path
  pub from_rows : {test : (F → Bool) → Bool} → IsSingle test → (j : ℕ) → test (found j) ≡ true
      → OnSomePath size goes start after j test
  from_rows s j holds =
      let c = s.cause (found j) holds in
      let p = is.shown j c.fact c.holds in
      (p.0, p.1, c.enough _ p.2)

  -- and the other way round
  pub to_rows : {test : (F → Bool) → Bool} → IsSingle test → (j : ℕ) → OnSomePath size goes start after j test
      → test (found j) ≡ true
  to_rows s j p = single_up s _ (found j) (λ fact has. is.complete p.0 j fact p.1 has) p.2
