-- How often the outside has refused, and at which name it last did.
use Rattle.std.specs.Prelude.{◌≡◌, ◌⊎◌, ℕ, ◌<◌, ◌≤◌, ◌-◌, ◌^◌, List, Bool, IsTrue}

-- a count that has risen; one that stands at the greatest `u64` counts as risen
abbrev pub Rose : ℕ → ℕ → Type 0
Rose before after = (before < after) ⊎ (2 ^ 64 - 1 ≤ after)

-- a count of faults, and the name at which it last rose
pub record Faults : Type 0 where
  pub count : ℕ
  pub name : List ℕ

-- the count has risen and, where names are told, it last rose at this one
pub record RisesAt (tells : Bool) (name : List ℕ) (before after : Faults) : Type 0 where
  pub rose : Rose before.count after.count
  pub at_name : IsTrue tells → after.name ≡ name

-- the count never falls; it and its name are as before, or it has risen at this name
pub record CountsAt (tells : Bool) (name : List ℕ) (before after : Faults) : Type 0 where
  pub never_falls : before.count ≤ after.count
  pub either : (after ≡ before) ⊎ RisesAt tells name before after
