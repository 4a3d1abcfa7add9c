-- The labels that have been seen.
use Rattle.std.specs.Prelude.{ℕ, Bool, List, map}
use Rattle.std.specs.List.{list_any}
use Rattle.asm_core.specs.Reading.Cut.{same_name}
use Rattle.att_reader.specs.declared.seen.Seen.{Seen}

-- their names
abbrev pub names_seen : Seen → List (List ℕ)
names_seen s = map (λ n. n.items) s.names.keys

-- one of them is that name
abbrev pub has_seen : Seen → List ℕ → Bool
has_seen s name = list_any (same_name name) (names_seen s)
