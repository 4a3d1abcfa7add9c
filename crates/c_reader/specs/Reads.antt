-- What an answer says of the definition's value, memory aside.
use Rattle.std.specs.Prelude.{◌≡◌, ℕ, ◌<◌, Option, Some, None, Result, Ok, Err}
use Rattle.c_values.specs.declared.type_end.TypeEnd.{TypeEnd}
use Rattle.c_values.specs.declared.type_end.TypeEnd.TheVariants.{NoType, Memory}
use Rattle.c_reader.specs.declared.next.Next.{Next}
use Rattle.c_reader.specs.declared.next.Next.TheVariants.{Done, More}

-- one turn of a repetition, that may find nothing
abbrev pub GivesNext : {S R : Type 0} → Result (Next S R) TypeEnd → Next S (Option R) → Type 0
GivesNext (Ok (Done r)) wanted = wanted ≡ Done (Some r)
GivesNext (Ok (More s i)) wanted = wanted ≡ More s i
GivesNext (Err NoType) wanted = wanted ≡ Done None
GivesNext (Err Memory) wanted = Unit {0}

-- the repetition goes on behind the index
abbrev pub IsBehind : {S R : Type 0} → ℕ → Next S R → Type 0
IsBehind i (Done r) = Unit {0}
IsBehind i (More s j) = i < j
