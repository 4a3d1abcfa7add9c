-- What a sink was given, as it tells it.
use Rattle.std.specs.Prelude.{◌≡◌, ℕ, ◌≤◌, List, ◌++◌, length, take, Bool}

-- Where `tells` is false, what is said of the bytes means nothing.
pub record Written : Type 0 where
  pub faults : ℕ
  pub tells : Bool
  pub bytes : List ℕ

-- these bytes came after what was written before
abbrev pub Writes : List ℕ → Written → Written → Type 0
Writes bytes old new = new.bytes ≡ old.bytes ++ bytes

-- a prefix of these bytes came after what was written before
abbrev pub WritesPrefix : List ℕ → Written → Written → Type 0
WritesPrefix bytes old new = (n : ℕ) × (n ≤ length bytes) × Writes (take n bytes) old new
