-- The punctuators (C11 6.4.6, without digraphs), by their length.
use Rattle.std.specs.Prelude.{ℕ, Bool, true, false, List, [], ◌∷◌, ◌==◌, ◌&&◌, codes, if◌then◌else◌}
use Rattle.std.specs.List.{list_any}

abbrev pub threes : List (List ℕ)
threes = codes "..." ∷ codes "<<=" ∷ codes ">>=" ∷ []

abbrev pub twos : List (List ℕ)
twos = codes "->" ∷ codes "++" ∷ codes "--" ∷ codes "<<" ∷ codes ">>" ∷ codes "<=" ∷ codes ">=" ∷ codes "==" ∷ codes "!=" ∷ codes "&&"
    ∷ codes "||" ∷ codes "*=" ∷ codes "/=" ∷ codes "%=" ∷ codes "+=" ∷ codes "-=" ∷ codes "&=" ∷ codes "^=" ∷ codes "|=" ∷ codes "##" ∷ []

abbrev pub ones : List (List ℕ)
ones = codes "[" ∷ codes "]" ∷ codes "(" ∷ codes ")" ∷ codes "{" ∷ codes "}" ∷ codes "." ∷ codes "&" ∷ codes "*" ∷ codes "+" ∷ codes "-" ∷ codes "~"
    ∷ codes "!" ∷ codes "/" ∷ codes "%" ∷ codes "<" ∷ codes ">" ∷ codes "^" ∷ codes "|" ∷ codes "?" ∷ codes ":" ∷ codes ";" ∷ codes "=" ∷ codes "," ∷ codes "#" ∷ []

-- the bytes begin with the word
abbrev pub begins : List ℕ → List ℕ → Bool
begins [] bs = true
begins (w ∷ ws) [] = false
begins (w ∷ ws) (b ∷ bs) = (w == b) && begins ws bs

abbrev pub one_of : List (List ℕ) → List ℕ → Bool
one_of table bs = list_any (λ word. begins word bs) table

-- the length of the longest punctuator that the bytes begin with, or 0
unfoldable pub punctuator_len : List ℕ → ℕ
punctuator_len bs = if one_of threes bs then 3 else if one_of twos bs then 2 else if one_of ones bs then 1 else 0
