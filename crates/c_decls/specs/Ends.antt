-- Where the parts of declarations and statements end.
use Rattle.std.specs.Prelude.{◌≤◌, ◌<◌, ℕ, zero, suc, nat_lt, Bool, true, false, ◌+◌, ◌-◌, ◌==◌, ◌&&◌, ◌||◌, not, if◌then◌else◌, Option, Some, None, length}
use Rattle.c_words.specs.File.{File}
use Rattle.c_words.specs.Words.{word_at, past_group, is_name_word}
use Rattle.c_words.specs.declared.word.Word.{Word}
use Rattle.c_words.specs.declared.word.Word.TheVariants as words
use Rattle.c_words.specs.declared.word.TagWord.{TagWord}
use Rattle.c_words.specs.declared.punct.Punct.{Punct}
use Rattle.c_words.specs.declared.punct.Punct.TheVariants as puncts
use Rattle.c_reader.specs.declared.next.Next.{Next}
use Rattle.c_reader.specs.declared.next.Next.TheVariants.{Done, More}
use Rattle.c_reader.specs.Repeat.{repeated}
use Rattle.c_reader.specs.Marks.{is_close_paren, is_name, is_open_bracket, is_open_paren, is_open_brace, is_comma, is_colon, is_question, is_semicolon, is_assign}
use Rattle.c_reader.specs.Specifiers.{tag_index, behind_tag}
use Rattle.c_decls.specs.declared.ends.Stop.{Stop}
use Rattle.c_decls.specs.declared.ends.Stop.TheVariants as stops

-- ---- the first token of a kind at a level of brackets

abbrev closes_punct : Punct → Bool
closes_punct puncts.CloseParen = true
closes_punct puncts.CloseBracket = true
closes_punct puncts.CloseBrace = true
closes_punct _ = false

abbrev pub closes : Word → Bool
closes (words.Punct p) = closes_punct p
closes _ = false

-- the tokens at which a part may end
abbrev pub stops_at : Stop → Word → Bool
stops_at stops.Semicolon w = is_semicolon w
stops_at stops.Comma w = is_comma w || is_semicolon w
stops_at stops.Assign w = is_assign w || is_semicolon w

abbrev pub level_step : File → Stop → ℕ → Unit {0} → Next (Unit {0}) ℕ
level_step f stop i u = if stops_at stop (word_at f i) || closes (word_at f i) then Done i else More tt (past_group f i)

abbrev pub level_stop : ℕ → Unit {0} → ℕ
level_stop i u = i

-- The index of the first token from i on, outside the brackets that open behind i, at which the part ends: one of the kind, or the
-- bracket that closes around it; the count of tokens where there is none.
abbrev pub level_end : File → Stop → ℕ → ℕ
level_end f stop i = repeated (level_step f stop) level_stop (length f.tokens) i tt

-- the index behind the part, its last token included unless that is a bracket that closes around it
abbrev pub behind_semicolon : File → ℕ → ℕ
behind_semicolon f i = if is_semicolon (word_at f (level_end f stops.Semicolon i)) then level_end f stops.Semicolon i + 1 else level_end f stops.Semicolon i

-- ---- labels

abbrev pub is_case : Word → Bool
is_case words.Case = true
is_case words.Default = true
is_case _ = false

abbrev pub case_by : File → ℕ → ℕ → Word → Next ℕ ℕ
case_by f i waiting w =
    if is_question w then More (waiting + 1) (i + 1)
    else if is_colon w then (if waiting == 0 then Done (i + 1) else More (waiting - 1) (i + 1))
    else if is_semicolon w || is_case w || closes w then Done i
    else More waiting (past_group f i)

-- `waiting`: how many `?` wait for their colon
unfoldable pub case_step : File → ℕ → ℕ → Next ℕ ℕ
case_step f i waiting = case_by f i waiting (word_at f i)

-- the case goes on, or ends, behind the index, with no more question marks than tokens
abbrev pub IsBehindCase : ℕ → Next ℕ ℕ → Type 0
IsBehindCase i (Done end) = i ≤ end
IsBehindCase i (More waiting j) = (i < j) × (waiting ≤ j)

abbrev pub IsCaseWithin : ℕ → Next ℕ ℕ → Type 0
IsCaseWithin count (Done end) = end ≤ count
IsCaseWithin count (More waiting j) = j ≤ count

abbrev pub case_stop : ℕ → ℕ → ℕ
case_stop i waiting = i

-- The index behind the colon of the `case` or `default` with this index (C11 6.8.1).
abbrev pub behind_case : File → ℕ → ℕ
behind_case f i = repeated (case_step f) case_stop (length f.tokens) (i + 1) 0

-- ---- statement expressions

-- a parenthesis with a block inside opens at the index (GCC manual, "Statement Exprs")
abbrev pub opens_block : File → ℕ → Bool
opens_block f i = is_open_paren (word_at f i) && is_open_brace (word_at f (i + 1))

-- ---- tags and bodies

abbrev pub tag_kind : Word → Option TagWord
tag_kind (words.Tag kind) = Some kind
tag_kind _ = None

-- the index behind a word and the parentheses that may follow it
abbrev pub behind_word : File → ℕ → ℕ
behind_word f i = if is_open_paren (word_at f (i + 1)) then past_group f (i + 1) else i + 1

abbrev pub type_step : File → ℕ → Unit {0} → Next (Unit {0}) ℕ
type_step f i u = if is_name_word (word_at f i) then More tt (behind_word f i) else Done i

-- the index behind the words of a type, as `typeof(x)` or `unsigned char`
abbrev pub behind_type : File → ℕ → ℕ
behind_type f i = repeated (type_step f) level_stop (length f.tokens) i tt

-- a colon stands behind the tag of `struct`, `union` or `enum` at the index, as before the type of an enumeration of C23
abbrev pub has_colon : File → ℕ → Bool
has_colon f i = is_colon (word_at f (behind_tag f (tag_index f i)))

-- the index of a brace behind a colon and a type, or that of the colon
abbrev pub behind_colon : File → ℕ → ℕ
behind_colon f colon = if is_open_brace (word_at f (behind_type f (colon + 1))) then behind_type f (colon + 1) else colon

-- the index behind the tag that `struct`, `union` or `enum` at the index has, and behind a type, where its body may begin
abbrev pub body_index : File → ℕ → ℕ
body_index f i = if has_colon f i then behind_colon f (behind_tag f (tag_index f i)) else behind_tag f (tag_index f i)

abbrev pub has_body : File → ℕ → Bool
has_body f i = is_open_brace (word_at f (body_index f i))

abbrev pub behind_tag_word : File → ℕ → ℕ
behind_tag_word f i = if has_body f i then past_group f (body_index f i) else i + 1
