-- Where statements end (C11 6.8).
use Rattle.std.specs.Prelude.{ℕ, Bool, ◌+◌, ◌-◌, ◌&&◌, nat_eq, codes, if◌then◌else◌, List, [], ◌∷◌, slice_index_or}
use Rattle.std.specs.Cmp.Lexicographic.{pointwise}
use Rattle.c_words.specs.File.{File}
use Rattle.c_words.specs.Words.{word_at, bytes_at, past_group}
use Rattle.c_words.specs.declared.word.Word.TheVariants as words
use Rattle.c_words.specs.declared.punct.Punct.{Punct}
use Rattle.c_words.specs.declared.punct.Punct.TheVariants as puncts
use Rattle.c_reader.specs.Marks.{is_name, is_open_brace, is_open_bracket, is_open_paren, is_colon}
use Rattle.c_decls.specs.declared.ends.Stop.TheVariants as stops
use Rattle.c_decls.specs.Ends.{behind_case, behind_semicolon, level_end}
use Rattle.c_tokens.specs.declared.token.Token.{Token}

abbrev pub spelt : File → ℕ → List ℕ → Bool
spelt f i word = pointwise nat_eq (bytes_at f i) word

-- the index behind the parentheses that follow the word at the index
abbrev pub behind_head : File → ℕ → ℕ
behind_head f i = if is_open_paren (word_at f (i + 1)) then past_group f (i + 1) else i + 1

-- `else` and what follows it belong to the `if` before (6.8.4.1, 3)
abbrev pub behind_else : (ℕ → ℕ) → File → Bool → ℕ → ℕ
behind_else end f is_if i = if is_if && spelt f i (codes "else") then end (i + 1) else i

-- behind an attribute of C23 stands the statement
abbrev pub bracket_end : (ℕ → ℕ) → File → ℕ → ℕ
bracket_end end f i = if is_open_bracket (word_at f (i + 1)) then end (past_group f i) else behind_semicolon f i

abbrev pub punct_end : (ℕ → ℕ) → File → ℕ → Punct → ℕ
punct_end end f i puncts.OpenBrace = past_group f i
punct_end end f i puncts.OpenBracket = bracket_end end f i
punct_end end f i puncts.CloseBrace = i
punct_end end f i puncts.CloseParen = i
punct_end end f i puncts.CloseBracket = i
punct_end end f i _ = behind_semicolon f i

-- `do` is followed by a statement and by `while (..);`
abbrev pub lead_end : (ℕ → ℕ) → File → ℕ → ℕ
lead_end end f i = if spelt f i (codes "do") then behind_semicolon f (end (i + 1)) else end (i + 1)

-- A brace behind a name and its parentheses belongs to a statement of another dialect, as `__transaction_atomic { .. }`, which ends
-- with that group (this project's own).
abbrev pub named_end : File → ℕ → ℕ
named_end f i =
    if is_open_brace (word_at f (behind_head f i)) then past_group f (behind_head f i) else behind_semicolon f i

-- where a statement ends that begins with no keyword
abbrev pub behind_statement : File → ℕ → ℕ
behind_statement f i = if is_name (word_at f i) then named_end f i else behind_semicolon f i

-- the label of a labelled statement is a name and a colon (6.8.1)
abbrev pub name_end : (ℕ → ℕ) → File → ℕ → ℕ
name_end end f i = if is_colon (word_at f (i + 1)) then end (i + 2) else named_end f i

abbrev pub head_end : (ℕ → ℕ) → File → ℕ → ℕ
head_end end f i = behind_else end f (spelt f i (codes "if")) (end (behind_head f i))

-- Where the statement ends that begins at the index, by where those end that begin behind it.
unfoldable pub statement_end_by : (ℕ → ℕ) → File → ℕ → ℕ
statement_end_by end f i = elim (word_at f i) [
  | words.For ↦ end (behind_head f i)
  | words.Attribute ↦ end (behind_head f i)
  | words.Head ↦ head_end end f i
  | words.Lead ↦ lead_end end f i
  | words.Case ↦ end (behind_case f i)
  | words.Default ↦ end (behind_case f i)
  | words.Name ↦ name_end end f i
  | words.Punct p ↦ punct_end end f i p
  | _ ↦ behind_semicolon f i
]

-- Where the statements end that begin at the indices from i on, one for each token; a statement behind the last token ends where it begins.
abbrev pub end_among : ℕ → List ℕ → ℕ → ℕ
end_among first ends i = slice_index_or ends (i - first) i

unfoldable pub statement_ends : File → ℕ → List Token → List ℕ
statement_ends f i [] = []
statement_ends f i (t ∷ ts) =
    let later = statement_ends f (i + 1) ts in statement_end_by (end_among (i + 1) later) f i ∷ later

-- where the statement ends that begins at the index
abbrev pub statement_end : File → ℕ → ℕ
statement_end f i = end_among 0 (statement_ends f 0 f.tokens) i

-- where the parts at the level of each index end, from i on, one for each token
unfoldable pub level_ends : File → ℕ → List Token → List ℕ
level_ends f i [] = []
level_ends f i (t ∷ ts) = level_end f stops.Semicolon i ∷ level_ends f (i + 1) ts
