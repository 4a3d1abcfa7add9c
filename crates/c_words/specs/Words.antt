-- What the tokens of a file are to the grammar, by their index. Past the last there is none.
use Rattle.std.specs.Prelude.{◌≡◌, ℕ, Bool, true, false, List, [], ◌+◌, ◌==◌, ◌<◌, nat_lt, unwrap_or, if◌then◌else◌, Option, Some, None, length, map, slice_get, slice_index, slice_range}
use Rattle.c_tokens.specs.declared.token.Token.{Token}
use Rattle.c_tokens.specs.declared.token.TokenKind.{TokenKind}
use Rattle.c_tokens.specs.declared.token.TokenKind.TheVariants as kinds
use Rattle.c_tokens.specs.Closers.{closer_at, AreClosers}
use Rattle.c_words.specs.declared.word.Word.{Word}
use Rattle.c_words.specs.declared.word.Word.TheVariants as words
use Rattle.c_words.specs.declared.punct.Punct.TheVariants.{OpenParen}
use Rattle.c_words.specs.Spellings.{name_word, punct_of}
use Rattle.c_words.specs.File.{File}
use Rattle.c_words.specs.Pragma.{pack_of}

-- a string literal begins with its quote, or with a prefix
abbrev pub text_word : List ℕ → Word
text_word literal = if slice_index literal 0 == 34 then words.Text else words.PrefixedText

-- the words of names
abbrev pub is_name_word : Word → Bool
is_name_word words.Missing = false
is_name_word words.Number = false
is_name_word words.Char = false
is_name_word words.Text = false
is_name_word words.PrefixedText = false
is_name_word (words.Punct p) = false
is_name_word _ = true

-- what a token of the text is
abbrev pub word_of : List ℕ → Token → Word
word_of text t = elim t.kind [
  | kinds.Name ↦ name_word (slice_range text t.span.from t.span.to)
  | kinds.Number ↦ words.Number
  | kinds.Char ↦ words.Char
  | kinds.Text ↦ text_word (slice_range text t.span.from t.span.to)
  | kinds.Punct ↦ words.Punct (punct_of (slice_range text t.span.from t.span.to))
]

-- the token's kind is `Name`: an identifier, or any of the words
abbrev pub is_name_kind : TokenKind → Bool
is_name_kind kinds.Name = true
is_name_kind _ = false

-- what the token with this index is
unfoldable pub word_at : File → ℕ → Word
word_at file i = elim (slice_get file.tokens i) [ None ↦ words.Missing | Some t ↦ word_of file.text t ]

-- a name stands there, whatever its word
unfoldable pub is_name_at : File → ℕ → Bool
is_name_at file i = elim (slice_get file.tokens i) [ None ↦ false | Some t ↦ is_name_kind t.kind ]

-- its bytes, as they stand in the text
unfoldable pub bytes_at : File → ℕ → List ℕ
bytes_at file i = elim (slice_get file.tokens i) [ None ↦ [] | Some t ↦ slice_range file.text t.span.from t.span.to ]

-- the offset of its first byte; past the last token the text's length
unfoldable pub start_at : File → ℕ → ℕ
start_at file i = elim (slice_get file.tokens i) [ None ↦ length file.text | Some t ↦ t.span.from ]

-- the offset behind its last byte; past the last token the text's length
unfoldable pub end_at : File → ℕ → ℕ
end_at file i = elim (slice_get file.tokens i) [ None ↦ length file.text | Some t ↦ t.span.to ]

-- the index of the token that closes the bracket with this index
unfoldable pub closer_of : File → ℕ → Option ℕ
closer_of file i = closer_at file.text file.tokens i

abbrev pub opens_label : Word → Word → Bool
opens_label words.Asm (words.Punct OpenParen) = true
opens_label _ _ = false

-- The index behind the bracket group that opens here, or else behind the token; past the last token the index itself.
unfoldable pub past_group : File → ℕ → ℕ
past_group file i = if nat_lt i (length file.tokens) then unwrap_or (closer_of file i) i + 1 else i

-- Where `asm` and a parenthesis stand, the index behind what closes it (GCC manual, "Asm Labels"); else the index itself.
unfoldable pub behind_asm_label : File → ℕ → ℕ
behind_asm_label file i = if opens_label (word_at file i) (word_at file (i + 1)) then past_group file (i + 1) else i

-- What a source has found: each token's word, what closes each bracket, and the first `#pragma pack`.
pub record IsRead (text : List ℕ) (tokens : List Token) (words : List Word) (closers : List (Option ℕ))
    (pack : Option ℕ) : Type 0 where
  pub short : length text < 4294967296
  pub few : length tokens < 4294967296
  pub each_word : words ≡ map (word_of text) tokens
  pub each_closer : AreClosers text tokens closers
  pub first_pack : pack ≡ pack_of text
