-- What stands at an offset: white space, a token, or a fault.
use Rattle.std.specs.Prelude.{ℕ, Bool, true, false, List, ◌+◌, ◌==◌, ◌||◌, ◌&&◌, not, if◌then◌else◌, Option, Some, None, take, drop, reverse, find, slice_index, ◌<◌, ◌≤◌}
use Rattle.c_tokens.specs.Bytes.{is_space, is_blank, is_digit, begins_name, is_quote, is_pair_at}
use Rattle.c_tokens.specs.Ends.{name_end, number_end, literal_end, comment_end, line_end}
use Rattle.c_tokens.specs.Puncts.{punctuator_len}
use Rattle.c_tokens.specs.declared.token.TokenKind.{TokenKind}
use Rattle.c_tokens.specs.declared.token.TokenKind.TheVariants.{Name, Number, Char, Text, Punct}
use Rattle.c_tokens.specs.declared.item.Item.{Item}
use Rattle.c_tokens.specs.declared.item.Item.TheVariants.{White, Piece, OpenString, OpenComment, BadByte}

abbrev pub is_newline_or_none : Option ℕ → Bool
is_newline_or_none None = true
is_newline_or_none (Some b) = b == 10

-- Only blanks and tabs stand between the offset and the newline before it, or the beginning of the text.
unfoldable pub opens_line : List ℕ → ℕ → Bool
opens_line text i = is_newline_or_none (find (λ b. not (is_blank b)) (reverse (take i text)))

-- The quote of the literal that begins at the offset: there, or after a prefix `L`, `u`, `U` or `u8`.
unfoldable pub opening_at : List ℕ → ℕ → Option ℕ
opening_at text i =
    if is_quote (slice_index text i) then Some i
    else if ((slice_index text i == 76) || (slice_index text i == 117) || (slice_index text i == 85)) && is_quote (slice_index text (i + 1)) then Some (i + 1)
    else if is_pair_at text i 117 56 && is_quote (slice_index text (i + 2)) then Some (i + 2)
    else None

abbrev pub begins_number : List ℕ → ℕ → Bool
begins_number text i = is_digit (slice_index text i) || ((slice_index text i == 46) && is_digit (slice_index text (i + 1)))

abbrev pub literal_kind : ℕ → TokenKind
literal_kind quote = if quote == 34 then Text else Char

abbrev pub closed_literal : ℕ → Option ℕ → Item
closed_literal quote None = OpenString
closed_literal quote (Some e) = Piece (literal_kind quote) e

-- the literal with its quote at the offset
unfoldable pub literal_at : List ℕ → ℕ → Item
literal_at text q = closed_literal (slice_index text q) (literal_end (slice_index text q) false (q + 1) (drop (q + 1) text))

abbrev pub punctuator_item : ℕ → ℕ → Item
punctuator_item i n = if n == 0 then BadByte else Piece Punct (i + n)

-- what begins with no quote
unfoldable pub word_at : List ℕ → ℕ → Item
word_at text i =
    if begins_name (slice_index text i) then Piece Name (name_end text (i + 1))
    else if begins_number text i then Piece Number (number_end false (i + 1) (drop (i + 1) text))
    else punctuator_item i (punctuator_len (drop i text))

abbrev pub literal_or_word : List ℕ → ℕ → Option ℕ → Item
literal_or_word text i (Some q) = literal_at text q
literal_or_word text i None = word_at text i

-- the token at the offset
unfoldable pub piece_at : List ℕ → ℕ → Item
piece_at text i = literal_or_word text i (opening_at text i)

abbrev pub closed_comment : Option ℕ → Item
closed_comment None = OpenComment
closed_comment (Some e) = White e

-- White space is a byte of that class, a backslash before a newline, a comment, and a line that begins with `#`.
unfoldable pub item_at : List ℕ → ℕ → Item
item_at text i =
    if is_space (slice_index text i) then White (i + 1)
    else if is_pair_at text i 92 10 then White (i + 2)
    else if is_pair_at text i 47 42 then closed_comment (comment_end (i + 2) (drop (i + 2) text))
    else if is_pair_at text i 47 47 then White (line_end false (i + 2) (drop (i + 2) text))
    else if (slice_index text i == 35) && opens_line text i then White (line_end false (i + 1) (drop (i + 1) text))
    else piece_at text i

-- It ends behind its beginning, and inside the text.
abbrev pub EndsWithin : ℕ → ℕ → Item → Type 0
EndsWithin i n (White e) = (i < e) × (e ≤ n)
EndsWithin i n (Piece k e) = (i < e) × (e ≤ n)
EndsWithin i n _ = Unit {0}
