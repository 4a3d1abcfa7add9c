-- Places in a text as people count them.
use Rattle.std.specs.Prelude.{ℕ, List, [], ◌∷◌, ◌+◌, ◌==◌, if◌then◌else◌, not, take, count_by}
use Rattle.std.specs.List.{suffix_len}

-- the newlines before the offset
abbrev pub newlines_before : List ℕ → ℕ → ℕ
newlines_before text offset = count_by (λ b. b == 10) (take offset text)

-- the bytes before the offset since the last newline before it
abbrev pub bytes_since_newline : List ℕ → ℕ → ℕ
bytes_since_newline text offset = suffix_len (λ b. not (b == 10)) (take offset text)

-- Line and column, both counted from 1; a column is a number of bytes. This is this project's own rule.
abbrev pub line_col_of : List ℕ → ℕ → ℕ × ℕ
line_col_of text offset = (newlines_before text offset + 1, bytes_since_newline text offset + 1)

-- where the lines of the bytes begin that follow a newline among them, `i` being the offset of the first
unfoldable pub starts_after : ℕ → List ℕ → List ℕ
starts_after i [] = []
starts_after i (b ∷ bs) = if b == 10 then (i + 1) ∷ starts_after (i + 1) bs else starts_after (i + 1) bs

-- where the lines of a text begin
abbrev pub starts_of : List ℕ → List ℕ
starts_of text = 0 ∷ starts_after 0 text
