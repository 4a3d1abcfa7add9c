-- How far reading has come: what is seen, and what was found beside it.
use Rattle.std.specs.Prelude.{ℕ, Option, Some, None}
use Rattle.c_scopes.specs.Seen.{Declared}
use Rattle.c_reader.specs.declared.next.Next.{Next}
use Rattle.c_reader.specs.declared.next.Next.TheVariants.{Done, More}

pub record Read (M : Type 0) : Type 0 where
  pub seen : Declared
  pub found : M

abbrev pub read : {M : Type 0} → Declared → M → Read M
read seen found = record { seen = seen; found = found }

-- one turn that changes what is seen: it goes on at an index, or ends
abbrev pub going : Declared → Option ℕ → Next Declared Declared
going seen None = Done seen
going seen (Some i) = More seen i

-- one turn that finds something beside it
abbrev pub finding : {M : Type 0} → Declared → Next M M → Next (Read M) (Read M)
finding seen (Done found) = Done (read seen found)
finding seen (More found i) = More (read seen found) i
