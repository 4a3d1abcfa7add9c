-- Where a declaration that isn't covered ends.
use Rattle.std.specs.Prelude.{◌≤◌, ◌<◌, ℕ, zero, suc, nat_lt, Bool, true, false, ◌+◌, ◌-◌, ◌==◌, ◌&&◌, ◌||◌, not, if◌then◌else◌, Option, Some, None, length}
use Rattle.c_words.specs.File.{File}
use Rattle.c_words.specs.Words.{word_at, past_group, is_name_word}
use Rattle.c_words.specs.declared.word.Word.{Word}
use Rattle.c_words.specs.declared.word.Word.TheVariants as words
use Rattle.c_reader.specs.declared.next.Next.{Next}
use Rattle.c_reader.specs.declared.next.Next.TheVariants.{Done, More}
use Rattle.c_reader.specs.Repeat.{repeated}
use Rattle.c_reader.specs.Marks.{is_close_paren, is_name, is_open_bracket, is_open_paren, is_open_brace, is_comma, is_semicolon, is_assign}
use Rattle.c_decls.specs.declared.ends.Stop.TheVariants as stops
use Rattle.c_decls.specs.declared.recovery.Uncovered.{Uncovered}
use Rattle.c_decls.specs.declared.recovery.Within.{Within}
use Rattle.c_decls.specs.declared.recovery.Within.TheVariants as withins
use Rattle.c_decls.specs.Ends.{behind_tag_word, closes, level_end, level_stop, tag_kind}

-- ---- old-style definitions of functions (6.9.1, 6)

abbrev pub names_step : File → ℕ → Unit {0} → Next (Unit {0}) ℕ
names_step f i u = if is_name (word_at f i) && is_comma (word_at f (i + 1)) then More tt (i + 2) else Done i

-- the index of the last of the names from the index on, with commas between them
abbrev pub last_name : File → ℕ → ℕ
last_name f i = repeated (names_step f) level_stop (length f.tokens) i tt

-- names alone stand in the parenthesis at the index
abbrev pub holds_names : File → ℕ → Bool
holds_names f i = is_name (word_at f (last_name f (i + 1))) && is_close_paren (word_at f (last_name f (i + 1) + 1))

-- a list of identifiers, which follows a declarator
abbrev pub is_identifier_list : File → ℕ → Bool
is_identifier_list f i =
    is_open_paren (word_at f i) && (is_name (word_at f (i - 1)) || is_close_paren (word_at f (i - 1))) && holds_names f i

abbrev pub lists_step : File → ℕ → ℕ → Unit {0} → Next (Unit {0}) Bool
lists_step f end i u =
    if nat_lt i end then (if is_identifier_list f i then Done true else More tt (i + 1)) else Done false

abbrev pub lists_stop : ℕ → Unit {0} → Bool
lists_stop i u = false

-- the group at the index is or has such a list
abbrev pub has_list : File → ℕ → Bool
has_list f i = repeated (lists_step f (past_group f i)) lists_stop (length f.tokens) i tt

-- The brace that directly follows a semicolon, that at the index or one of so many behind it.
unfoldable pub body_behind : File → ℕ → ℕ → Option ℕ
body_behind f zero i = None
body_behind f (suc more) i =
    if is_open_brace (word_at f (i + 1)) then Some (i + 1)
    else if is_semicolon (word_at f (level_end f stops.Semicolon (i + 1))) then body_behind f more (level_end f stops.Semicolon (i + 1))
    else None

-- ---- where a declaration that isn't covered ends

abbrev uncovered : ℕ → Option ℕ → Uncovered
uncovered end braces = record { end = end; braces = braces }

abbrev pub Ending : Type 0
Ending = Next Within Uncovered

abbrev pub is_initialiser : Within → Bool
is_initialiser withins.Initialiser = true
is_initialiser _ = false

abbrev pub is_parameters : Within → Bool
is_parameters (withins.Parameters listed) = true
is_parameters _ = false

-- how many tokens the last list of identifiers has, none without one
abbrev pub listed_by : Within → ℕ
listed_by (withins.Listed listed) = listed
listed_by (withins.Parameters listed) = listed
listed_by _ = 0

abbrev pub listed_in : File → ℕ → Within → ℕ
listed_in f i within = if has_list f i then past_group f i - i else listed_by within

-- a name that begins the declaration of a parameter behind such a list: it is no asm label and no attribute
abbrev pub begins_parameter : Word → Bool
begins_parameter words.Asm = false
begins_parameter words.Attribute = false
begins_parameter w = is_name_word w

abbrev pub with_list : ℕ → Bool → Within
with_list listed followed =
    if listed == 0 then withins.Declarators else if followed then withins.Parameters listed else withins.Listed listed

-- behind the group at the index
abbrev pub behind_list : File → ℕ → Within → Within
behind_list f i within =
    if is_initialiser within then within
    else with_list (listed_in f i within) (is_parameters within || begins_parameter (word_at f (past_group f i)))

abbrev ending_body : File → ℕ → Option ℕ → Uncovered
ending_body f i None = uncovered (i + 1) None
ending_body f i (Some brace) = uncovered (past_group f brace) (Some brace)

-- a parameter's declaration for each identifier may follow before the body
abbrev pub at_semicolon : File → ℕ → Within → Uncovered
at_semicolon f i (withins.Parameters listed) = ending_body f i (body_behind f listed i)
at_semicolon f i _ = uncovered (i + 1) None

abbrev pub behind_comma : Within → Within
behind_comma withins.Initialiser = withins.Declarators
behind_comma within = within

abbrev opens_list : Word → Bool
opens_list w = is_open_paren w || is_open_bracket w

abbrev pub uncovered_by : File → ℕ → Within → Word → Ending
uncovered_by f i within w =
    if is_semicolon w then Done (at_semicolon f i within)
    else if closes w then Done (uncovered i None)
    else if is_assign w then More withins.Initialiser (i + 1)
    else if is_comma w then More (behind_comma within) (i + 1)
    else if opens_list w then More (behind_list f i within) (past_group f i)
    else if is_open_brace w && not (is_initialiser within) then Done (uncovered (past_group f i) (Some i))
    else More within (past_group f i)

unfoldable pub uncovered_step : File → ℕ → Within → Ending
uncovered_step f i within = elim (tag_kind (word_at f i)) [
  | Some kind ↦ More within (behind_tag_word f i)
  | None ↦ uncovered_by f i within (word_at f i)
]

-- the part goes on, or ends, behind the index
abbrev pub IsBehindEnding : ℕ → Next Within Uncovered → Type 0
IsBehindEnding i (Done u) = i ≤ u.end
IsBehindEnding i (More within j) = i < j

abbrev pub uncovered_stop : ℕ → Within → Uncovered
uncovered_stop i within = uncovered i None

-- Where a declaration that isn't covered ends: behind the first semicolon at its level, or behind the first braces at its level that are
-- neither a body nor part of an initialiser, or with the body of a function whose list of identifiers the declarations of its parameters
-- follow (this project's own).
abbrev pub uncovered_at : File → ℕ → Uncovered
uncovered_at f i = repeated (uncovered_step f) uncovered_stop (length f.tokens) i withins.Declarators
