-- How words are spelt (C11 6.4.1 and 6.4.6; GCC manual, "Alternate Keywords"). The tables are NAMES and PUNCTUATORS.
use Rattle.std.specs.Prelude.{ℕ, Bool, List, ◌||◌, nat_eq, if◌then◌else◌, Option, unwrap_or, find, map, codes}
use Rattle.std.specs.Option.{option_map}
use Rattle.std.specs.Cmp.Lexicographic.{pointwise}
use Rattle.std.specs.List.{starts_with}
use Rattle.c_words.specs.declared.punct.Punct.{Punct}
use Rattle.c_words.specs.declared.punct.Punct.TheVariants.{Hash}
use Rattle.c_words.specs.declared.punct.TheConstants.{PUNCTUATORS}
use Rattle.c_words.specs.declared.word.Word.{Word}
use Rattle.c_words.specs.declared.word.Word.TheVariants.{Uncovered, Name}
use Rattle.c_words.specs.declared.spelling.TheConstants.{NAMES}

-- what the first row with this spelling has
unfoldable pub found : {T : Type 0} → List (List ℕ × T) → List ℕ → Option T
found rows spelling = option_map (λ row. row.1) (find (λ row. pointwise nat_eq row.0 spelling) rows)

-- GCC's other types, as `_Float128`, `__float80`, `_Decimal64` (GCC manual, "Floating Types", "Decimal Float")
abbrev pub is_uncovered : List ℕ → Bool
is_uncovered name = starts_with nat_eq name (codes "_Float") || starts_with nat_eq name (codes "__float") || starts_with nat_eq name (codes "_Decimal")

-- the word of a name that is in the table
unfoldable pub listed_word : List ℕ → Option Word
listed_word name = found (map (λ row. (row.0.now, row.1)) NAMES) name

-- what a name is to the grammar
unfoldable pub name_word : List ℕ → Word
name_word name = unwrap_or (listed_word name) (if is_uncovered name then Uncovered else Name)

-- `#` and `##`, which stand in no rule of the grammar, are in no row
unfoldable pub punct_of : List ℕ → Punct
punct_of spelling = unwrap_or (found (map (λ row. (row.0.now, row.1)) PUNCTUATORS) spelling) Hash
