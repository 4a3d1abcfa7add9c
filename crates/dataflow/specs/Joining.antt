-- What joining facts to a row does.
use Rattle.std.specs.Prelude.{◌≡◌, ◌≢◌, ℕ, ◌+◌, ◌-◌, ◌^◌, ◌≤◌, ◌||◌, List, length, Bool, false, if◌then◌else◌}
use Rattle.std.specs.List.{sum_by}
use Rattle.dataflow.specs.Bits.{facts_in, row_of}

-- how far the words are from having all bits, as numbers
abbrev pub room : List ℕ → ℕ
room words = sum_by (λ word. 2 ^ 64 - word) words

abbrev pub one_if : Bool → ℕ
one_if grew = if grew then 1 else 0

-- the new row holds what the old one or `more` held; it is the old one if it didn't grow, and else there is less room
pub record Joins (more : List ℕ) (grew : Bool) (old new : List ℕ) : Type 0 where
  pub size : length new ≡ length old
  pub each : (n : ℕ) → facts_in new n ≡ (facts_in old n || facts_in more n)
  pub same : grew ≡ false → new ≡ old
  pub room : room new + one_if grew ≤ room old

-- the same of one row of many, and the other rows are as before
pub record JoinsRow (width at : ℕ) (more : List ℕ) (grew : Bool) (old new : List ℕ) : Type 0 where
  pub size : length new ≡ length old
  pub each : (n : ℕ) → facts_in (row_of width new at) n ≡ (facts_in (row_of width old at) n || facts_in more n)
  pub others : (j : ℕ) → j ≢ at → row_of width new j ≡ row_of width old j
  pub same : grew ≡ false → new ≡ old
  pub room : room new + one_if grew ≤ room old
