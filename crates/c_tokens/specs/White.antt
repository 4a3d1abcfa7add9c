-- White space (C11 6.4, 5.1.1.2; a line that begins with `#` is a directive that is left, as GCC's line markers are).
use Rattle.std.specs.Prelude.{◌≡◌, ◌≢◌, ℕ, true, false, List, ◌+◌, ◌-◌, ◌<◌, ◌≤◌, ◌⊎◌, length, slice_index}
use Rattle.c_tokens.specs.Bytes.{is_space, is_pair_at}
use Rattle.c_tokens.specs.Items.{opens_line}

-- the first `*/` from an offset on ends here
pub record IsCommentEnd (text : List ℕ) (from end : ℕ) : Type 0 where
  pub long_enough : from + 2 ≤ end
  pub closed : is_pair_at text (end - 2) 42 47 ≡ true
  pub first : (k : ℕ) → from ≤ k → k + 2 < end → is_pair_at text k 42 47 ≡ false

-- a newline stands here, with no backslash directly before it
pub record EndsLine (text : List ℕ) (at : ℕ) : Type 0 where
  pub newline : slice_index text at ≡ 10
  pub unspliced : slice_index text (at - 1) ≢ 92

-- the first such newline from an offset on, or the end of the text
pub record IsLineEnd (text : List ℕ) (from end : ℕ) : Type 0 where
  pub behind : from ≤ end
  pub inside : end ≤ length text
  pub first : (k : ℕ) → from ≤ k → k < end → EndsLine text k → ⊥
  pub ends : (end ≡ length text) ⊎ EndsLine text end

pub data IsWhitePiece (text : List ℕ) : ℕ → ℕ → Type 0 where
  space : (i : ℕ) → is_space (slice_index text i) ≡ true → IsWhitePiece text i (i + 1)
  splice : (i : ℕ) → is_pair_at text i 92 10 ≡ true → IsWhitePiece text i (i + 2)
  comment : (i e : ℕ) → is_pair_at text i 47 42 ≡ true → IsCommentEnd text (i + 2) e → IsWhitePiece text i e
  line_comment : (i e : ℕ) → is_pair_at text i 47 47 ≡ true → IsLineEnd text (i + 2) e → IsWhitePiece text i e
  directive : (i e : ℕ) → slice_index text i ≡ 35 → opens_line text i ≡ true → IsLineEnd text (i + 1) e → IsWhitePiece text i e

-- pieces of white space, one after the other
pub data IsWhite (text : List ℕ) : ℕ → ℕ → Type 0 where
  none : (i : ℕ) → IsWhite text i i
  more : (i e to : ℕ) → IsWhitePiece text i e → IsWhite text e to → IsWhite text i to
