-- What a value comes to have as the values of cells are put to it.
use Rattle.std.specs.Prelude.{◌≡◌, ℕ, ◌/◌, ◌+◌, ◌==◌, ◌&&◌, ◌||◌, Bool, false, IsTrue, List}
use Rattle.std.specs.List.{list_any, range_with_len}
use Rattle.blk_deps.specs.Facts.{Facts, has_as_read}
use Rattle.blk_deps.specs.Fits.{is_dependence}
use Rattle.blk_deps.specs.Ground.{has_bit, has_cell_bit}
use Rattle.blk_deps.specs.Layout.{shown_value}
use Rattle.blk_deps.specs.Rules.{Used}
use Rattle.blk_deps.specs.declared.layout.Layout.{Layout}
use Rattle.blk_deps.specs.declared.fact.Property.{Property}
use Rattle.blk_deps.specs.declared.fact.Property.TheVariants.{Pair}
use Rattle.blk_deps.specs.declared.fact.Fact.TheVariants.{Has}

-- it has what it had, and this besides
pub record Adds (l : Layout) (more : Used) (old new : List ℕ) : Type 0 where
  pub each : (property : Property) → IsTrue (is_dependence property) → shown_value l new property
      ≡ (shown_value l old property || more property)

-- one of the first numbers passes, so many
unfoldable pub some_of : (ℕ → Bool) → ℕ → Bool
some_of test count = list_any test (range_with_len 0 count)

-- pairs alone
abbrev pub pairs_alone : Used → Used
pairs_alone used (Pair d u) = used (Pair d u)
pairs_alone used property = false

-- pairs of one place alone, of what was read from it
abbrev pub pairs_from : ℕ → Used → Used
pairs_from place used (Pair d u) = u == place && used (Pair d u)
pairs_from place used property = false

abbrev pub in_cell : Facts → ℕ → Used
in_cell facts c property = facts (Has c property)

-- of a cell of results, as it is read
abbrev pub of_result : List ℕ → Facts → Property → ℕ → Bool
of_result results facts property c = has_cell_bit results c && has_as_read facts c property

abbrev pub of_flag : ℕ → Facts → Property → ℕ → Bool
of_flag bits facts property f = has_bit bits f && has_as_read facts (148 + f) property

-- the pairs of a cell of a place that has to be as at the entry
abbrev pub of_kept : ℕ → Facts → Property → ℕ → Bool
of_kept kept facts property c = has_bit kept (c / 4) && pairs_alone (in_cell facts c) property
