-- Sets of taken registers from which classes can still be placed. A set of registers is a number below 128, and a table is a set of such sets.
use Rattle.std.specs.Prelude.{◌≡◌, ◌<◌, length, ℕ, zero, suc, ◌==◌, ◌&&◌, ◌||◌, List, [], ◌∷◌, Bool, true, false, slice_index_or, bit_and, bit_or, if◌then◌else◌}
use Rattle.std.specs.Int.{bit_at}
use Rattle.register_search.specs.Assignment.{registers_of}
use Rattle.register_search.specs.declared.class.Group.{Group}
use Rattle.register_search.specs.declared.class.Group.TheVariants.{Absent, Exclusive, Numbered}
use Rattle.register_search.specs.declared.class.Class.{Class}
use Rattle.register_search.specs.declared.table.Table.{Table}

-- the table holds the set
abbrev pub holds : Table → ℕ → Bool
holds table set = bit_at table.sets set == 1

-- no register is in both sets
abbrev pub are_apart : ℕ → ℕ → Bool
are_apart a b = bit_and a b == 0

unfoldable pub some_below : ℕ → (ℕ → Bool) → Bool
some_below zero test = false
some_below (suc n) test = some_below n test || test n

unfoldable pub all_below : ℕ → (ℕ → Bool) → Bool
all_below zero test = true
all_below (suc n) test = all_below n test && test n

-- the choice is apart from the set, and with it the set is as wanted
abbrev pub leads_by : ℕ → (ℕ → Bool) → ℕ → Bool
leads_by choice wanted set = are_apart set (registers_of choice) && wanted (bit_or set (registers_of choice))

-- some of the choices leads from the set to one that is wanted
unfoldable pub leads : List Bool → (ℕ → Bool) → ℕ → Bool
leads choices wanted set = some_below 8 (λ choice. slice_index_or choices choice false && leads_by choice wanted set)

abbrev pub is_same : Group → Group → Bool
is_same Absent g = false
is_same Exclusive Absent = false
is_same Exclusive Exclusive = true
is_same Exclusive (Numbered b) = false
is_same (Numbered a) Absent = false
is_same (Numbered a) Exclusive = false
is_same (Numbered a) (Numbered b) = a == b

-- one class is placed, where it is of the group
abbrev pub through : Group → Class → (ℕ → Bool) → ℕ → Bool
through group class wanted set = if is_same group class.group then leads class.choices wanted set else wanted set

-- from the set the classes of the group can be placed, each apart from the set and from one another, so that the set is then as wanted
unfoldable pub leads_all : Group → List Class → (ℕ → Bool) → ℕ → Bool
leads_all group [] wanted set = wanted set
leads_all group (class ∷ classes) wanted set = leads_all group classes (through group class wanted) set

abbrev pub always : ℕ → Bool
always set = true

-- from the set each of the numbered groups can be placed
abbrev pub leads_numbered : List Class → ℕ → Bool
leads_numbered classes set = all_below 32 (λ number. leads_all (Numbered number) classes always set)

-- table n has the sets from which the classes of group n can be placed
pub record AreGroupTables (classes : List Class) (tables : List Table) : Type 0 where
  pub size : length tables ≡ 32
  pub each : (number set : ℕ) → number < 32 → set < 128 → holds (slice_index_or tables number (record { sets = 0 })) set ≡ leads_all (Numbered number) classes always set
