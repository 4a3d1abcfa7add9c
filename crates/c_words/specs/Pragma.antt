-- The first `#pragma pack` of a text (GCC manual, "Structure-Layout Pragmas"). Tokens don't show it: its line is
-- white space.
use Rattle.std.specs.Prelude.{ℕ, Bool, true, false, List, [], ◌∷◌, ◌+◌, ◌-◌, ◌==◌, ◌||◌, ◌&&◌, nat_eq, nat_lt, if◌then◌else◌, Option, Some, None, codes, slice_index}
use Rattle.std.specs.List.{starts_with}
use Rattle.c_words.specs.declared.pragma.Sought.{Sought}
use Rattle.c_words.specs.declared.pragma.Sought.TheVariants as sought
use Rattle.c_words.specs.File.{File}

-- at the first of the bytes `pragma` is sought
abbrev pub at_pragma : List ℕ → Sought
at_pragma bytes = if starts_with nat_eq bytes (codes "pragma") then sought.Letters 5 else sought.Pragma

-- blanks, tabs, `(` and `"` may stand between the two words, and comments and spliced lines
abbrev pub between_words : ℕ → List ℕ → Sought
between_words b bytes =
    if (b == 32) || (b == 9) || (b == 40) || (b == 34) then sought.Pack
    else if b == 47 then sought.Slash
    else if b == 92 then sought.Backslash
    else at_pragma bytes

-- where the search stands behind the first of the bytes
unfoldable pub sought_behind : Sought → List ℕ → Sought
sought_behind s bytes = elim s [
  | sought.Pragma ↦ at_pragma bytes
  | sought.Letters left ↦ if nat_lt 1 left then sought.Letters (left - 1) else sought.Pack
  | sought.Pack ↦ between_words (slice_index bytes 0) bytes
  | sought.Slash ↦ if slice_index bytes 0 == 42 then sought.Comment else at_pragma bytes
  | sought.Comment ↦ if slice_index bytes 0 == 42 then sought.Star else sought.Comment
  | sought.Star ↦ if slice_index bytes 0 == 47 then sought.Pack else if slice_index bytes 0 == 42 then sought.Star
      else sought.Comment
  | sought.Backslash ↦ if slice_index bytes 0 == 10 then sought.Pack else at_pragma bytes
]

abbrev pub is_at_pack : Sought → List ℕ → Bool
is_at_pack sought.Pack bytes = starts_with nat_eq bytes (codes "pack")
is_at_pack _ bytes = false

-- the first place from the offset on, whose bytes are given, at which `pack` stands where it is sought
unfoldable pub pack_from : Sought → ℕ → List ℕ → Option ℕ
pack_from s i [] = None
pack_from s i (b ∷ bs) = if is_at_pack s (b ∷ bs) then Some i else pack_from (sought_behind s (b ∷ bs)) (i + 1) bs

-- The offset of the first `pack` behind `pragma`.
abbrev pub pack_of : List ℕ → Option ℕ
pack_of text = pack_from sought.Pragma 0 text

-- a `#pragma pack` stands before the offset
abbrev pub is_packed : File → ℕ → Bool
is_packed f place = elim (pack_of f.text) [ None ↦ false | Some pack ↦ nat_lt pack place ]
