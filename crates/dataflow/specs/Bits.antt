-- Facts as bits of rows of 64-bit words.
use Rattle.std.specs.Prelude.{ℕ, ◌+◌, ◌*◌, ◌/◌, ◌%◌, ◌==◌, List, Bool, slice_index}
use Rattle.std.specs.List.{between}
use Rattle.std.specs.Int.{bit_at}

-- bit n of the row; there are none past its words
abbrev pub facts_in : List ℕ → ℕ → Bool
facts_in row n = bit_at (slice_index row (n / 64)) (n % 64) == 1

-- row j of rows of `width` words, which lie one behind the other
abbrev pub row_of : ℕ → List ℕ → ℕ → List ℕ
row_of width words j = between (j * width) (j * width + width) words
