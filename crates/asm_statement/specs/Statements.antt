-- The asm statements of a text.
use Rattle.std.specs.Prelude.{ℕ, Bool, true, false, List, [], ◌∷◌, ◌+◌, ◌&&◌, nat_lt, if◌then◌else◌, Option, Some, None, drop}
use Rattle.c_tokens.specs.declared.token.Token.{Token}
use Rattle.c_tokens.specs.Closers.{closer_at}
use Rattle.asm_core.specs.declared.mark.MarkKind.TheVariants as marks
use Rattle.asm_core.specs.declared.statement.Parts.{Parts}
use Rattle.asm_core.specs.declared.statement.Body.{Body}
use Rattle.asm_core.specs.declared.statement.Body.TheVariants as bodies
use Rattle.asm_core.specs.declared.statement.Statement.{Statement}
use Rattle.asm_statement.specs.declared.beginning.Beginning.{Beginning}
use Rattle.asm_statement.specs.Classes.{is_open_paren, is_word}
use Rattle.asm_statement.specs.Source.{class_of, class_at, start_at, span_of}
use Rattle.asm_statement.specs.Beginnings.{beginnings_of}
use Rattle.asm_statement.specs.Parts.{parts_at}

-- the index behind the words from the index i on
unfoldable pub words_end : Bool → List ℕ → ℕ → List Token → ℕ
words_end goto text i [] = i
words_end goto text i (t ∷ ts) = if is_word goto (class_of text t) then words_end goto text (i + 1) ts else i

-- the index behind the keyword and its words
abbrev pub behind_words : Bool → List ℕ → List Token → ℕ → ℕ
behind_words goto text ts keyword = words_end goto text (keyword + 1) (drop (keyword + 1) ts)

abbrev pub parenthesis_closer : List ℕ → List Token → ℕ → Option ℕ
parenthesis_closer text ts i = if is_open_paren (class_at text ts i) then closer_at text ts i else None

-- the index of the parenthesis that closes the statement with this keyword
unfoldable pub close_of : List ℕ → List Token → ℕ → Option ℕ
close_of text ts keyword = parenthesis_closer text ts (behind_words true text ts keyword)

-- with no parenthesis the keyword is the whole statement
abbrev pub last_of : ℕ → Option ℕ → ℕ
last_of keyword None = keyword
last_of keyword (Some close) = close

-- the next statement begins inside this one
abbrev pub is_nested : Option ℕ → Option ℕ → Bool
is_nested None close = false
is_nested (Some next) None = false
is_nested (Some next) (Some close) = nat_lt next close

abbrev pub outside : List Token → ℕ → Body
outside ts keyword = bodies.Outside (record { kind = marks.Statement; place = start_at ts keyword })

abbrev pub formed : List Token → ℕ → Option Parts → Body
formed ts keyword None = outside ts keyword
formed ts keyword (Some parts) = bodies.Parts parts

abbrev pub body_behind : List ℕ → List Token → ℕ → ℕ → Body
body_behind text ts keyword paren = if is_open_paren (class_at text ts paren) then formed ts keyword (parts_at text ts (paren + 1)) else outside ts keyword

-- The parts, or that the statement is outside: it stands in no open brace, behind attributes or a token that the
-- compiler cuts otherwise, has `goto`, has the beginning of another statement inside its span, or is of another form.
unfoldable pub body_of : List ℕ → List Token → Beginning → Option ℕ → Option ℕ → Body
body_of text ts b next close =
    if is_nested next close then outside ts b.at
    else if b.in_block && b.covered then body_behind text ts b.at (behind_words false text ts b.at)
    else outside ts b.at

unfoldable pub statement_at : List ℕ → List Token → Beginning → Option ℕ → Statement
statement_at text ts b next = record {
  span = span_of ts b.at (last_of b.at (close_of text ts b.at));
  body = body_of text ts b next (close_of text ts b.at);
}

abbrev pub first_of : List Beginning → Option ℕ
first_of [] = None
first_of (b ∷ bs) = Some b.at

unfoldable pub statements_from : List ℕ → List Token → List Beginning → List Statement
statements_from text ts [] = []
statements_from text ts (b ∷ bs) = statement_at text ts b (first_of bs) ∷ statements_from text ts bs

-- the statements in order of place
abbrev pub statements_of : List ℕ → List Token → List Statement
statements_of text ts = statements_from text ts (beginnings_of text ts)
