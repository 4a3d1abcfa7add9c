-- What is changed and used at the end, by places.
use Rattle.std.specs.Prelude.{ℕ, ◌+◌, Bool}
use Rattle.std.specs.List.{list_any, range_with_len}
use Rattle.blk_deps.specs.Facts.{Facts}
use Rattle.blk_deps.specs.declared.fact.Property.TheVariants.{NotEntryOf}
use Rattle.blk_deps.specs.declared.fact.Fact.TheVariants.{Has, Unwritten}

-- the cell may not hold its own value of the entry
abbrev pub is_changed_cell : Facts → ℕ → Bool
is_changed_cell facts c = facts (Has c (NotEntryOf c))

-- some flag may not
unfoldable pub some_flag_changed : Facts → Bool
some_flag_changed facts = list_any (λ f. is_changed_cell facts (148 + f)) (range_with_len 0 6)

-- one of the first bytes of operand k isn't written yet, so many
unfoldable pub some_left : Facts → ℕ → ℕ → Bool
some_left facts k count = list_any (λ b. facts (Unwritten k b)) (range_with_len 0 count)
