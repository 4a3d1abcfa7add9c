-- What is declared in a file, from its first token to its last.
use Rattle.std.specs.Prelude.{ℕ, Bool, false, ◌+◌, ◌-◌, ◌==◌, ◌&&◌, not, nat_lt, if◌then◌else◌, Option, Some, None, length}
use Rattle.c_words.specs.File.{File}
use Rattle.c_words.specs.Words.{word_at, end_at, past_group}
use Rattle.c_words.specs.declared.word.Word.{Word}
use Rattle.c_words.specs.declared.word.Word.TheVariants as words
use Rattle.c_scopes.specs.Seen.{Declared, no_declarations}
use Rattle.c_reader.specs.declared.next.Next.{Next}
use Rattle.c_reader.specs.declared.next.Next.TheVariants.{More}
use Rattle.c_reader.specs.Repeat.{repeated}
use Rattle.c_reader.specs.Marks.{is_colon, is_semicolon, is_name, is_open_brace, is_open_paren}
use Rattle.c_reader.specs.Attributes.{opens_attribute}
use Rattle.c_decls.specs.declared.ends.Stop.TheVariants as stops
use Rattle.c_decls.specs.declared.declaring.Ending.{Ending}
use Rattle.c_decls.specs.declared.declaring.Ending.TheVariants as endings
use Rattle.c_decls.specs.declared.items.Item.{Item}
use Rattle.c_decls.specs.declared.items.Item.TheVariants as items
use Rattle.c_decls.specs.declared.place.Frame.{Frame}
use Rattle.c_decls.specs.declared.place.Place.{Place}
use Rattle.c_decls.specs.Progress.{Read, read}
use Rattle.c_decls.specs.Ends.{behind_case, behind_semicolon, closes, level_end}
use Rattle.c_decls.specs.Statements.{behind_head, behind_statement, statement_end}
use Rattle.c_decls.specs.Hiding.{hidden_bodies, hidden_sealed}
use Rattle.c_decls.specs.Declarations.{declaration_or_hidden, hidden_declaration}
use Rattle.c_decls.specs.Items.{item_at}
use Rattle.c_decls.specs.Places.{at_item, beginning, block_entered, is_sealed, is_unread, last_frame, left, moved, passing}

-- What is seen, and where reading stands: the blocks that are open, and the index at which the next item begins; the tokens before it
-- are passed.
abbrev pub At : Type 0
At = Read Place

-- ---- an item begins

-- the tokens up to the index are an expression and what belongs to it
abbrev pub passed : File → ℕ → ℕ → ℕ → At → At
passed f to i end at = read (hidden_bodies f to i end at.seen) (at_item end at.found)

abbrev pub declared_to : File → ℕ → Read Ending → Place → At
declared_to f i r p = read r.seen (moved f i r.found p)

-- the declaration at the index, covered or not
abbrev pub declared_by : File → ℕ → ℕ → Declared → Item → Read Ending
declared_by f to i seen items.Declaration = declaration_or_hidden f to i seen
declared_by f to i seen _ = hidden_declaration f to i seen

abbrev pub item_declared : File → ℕ → ℕ → At → Item → At
item_declared f to i at items.Statement = passed f to i (behind_statement f i) at
item_declared f to i at item = declared_to f i (declared_by f to i at.seen item) at.found

-- the index at which the declaration's tokens end
abbrev pub ending_index : ℕ → Ending → ℕ
ending_index i (endings.Behind end) = end
ending_index i (endings.Body brace) = brace
ending_index i (endings.Skipped end braces) = end
ending_index i endings.Uncovered = i

-- the other parts of a `for` are expressions
abbrev pub others_passed : File → ℕ → ℕ → Read Ending → Place → At
others_passed f to i r p =
    read (hidden_bodies f to (ending_index (i + 2) r.found) (behind_head f i) r.seen) (at_item (behind_head f i) p)

-- the offset at which the scope of a `for`, or of another head that declares, ends: behind its statement (6.8.5, 5)
abbrev pub for_end : File → ℕ → ℕ
for_end f i = end_at f (statement_end f i - 1)

-- What its first part declares is seen to the end of its statement. Behind its parentheses the next item begins.
abbrev pub first_part : File → ℕ → ℕ → At → Item → At
first_part f to i at items.Statement = passed f to (i + 2) (behind_head f i) at
first_part f to i at item = others_passed f (for_end f i) i (declared_by f (for_end f i) (i + 2) at.seen item) at.found

abbrev pub for_begun : File → ℕ → ℕ → At → At
for_begun f to i at =
    if is_open_paren (word_at f (i + 1)) then first_part f to i at (item_at f at.seen (i + 2))
    else read at.seen (at_item (i + 1) at.found)

-- In the head of `if`, `while` or `switch` a declaration has a semicolon or an initialiser (C2Y 6.8.5).
abbrev pub may_declare_in_head : File → ℕ → Bool
may_declare_in_head f i =
    if is_open_paren (word_at f (i + 1)) then not (closes (word_at f (level_end f stops.Assign (i + 2)))) else false

abbrev pub head_begun : File → ℕ → ℕ → At → At
head_begun f to i at =
    if may_declare_in_head f i then first_part f to i at (item_at f at.seen (i + 2)) else passed f to (i + 1) (behind_head f i) at

-- an item begins again behind attributes of a statement, as behind a label
abbrev pub attribute_begun : File → ℕ → ℕ → At → Item → At
attribute_begun f to i at items.Statement = read at.seen (at_item (past_group f i) at.found)
attribute_begun f to i at item = item_declared f to i at item

-- what begins at the index in a block: an empty statement, a block, a label, a declaration or a statement
abbrev pub other_begun : File → ℕ → ℕ → At → Word → At
other_begun f to i at w =
    if is_semicolon w then read at.seen (at_item (i + 1) at.found)
    else if is_open_brace w then read at.seen (block_entered f i at.found)
    else if is_name w && is_colon (word_at f (i + 1)) then read at.seen (at_item (i + 2) at.found)
    else if opens_attribute f i then attribute_begun f to i at (item_at f at.seen i)
    else item_declared f to i at (item_at f at.seen i)

abbrev pub begun_by : File → ℕ → ℕ → At → Word → At
begun_by f to i at words.For = for_begun f to i at
begun_by f to i at words.Head = head_begun f to i at
begun_by f to i at words.Lead = read at.seen (at_item (i + 1) at.found)
begun_by f to i at words.Case = passed f to i (behind_case f i) at
begun_by f to i at words.Default = passed f to i (behind_case f i) at
begun_by f to i at words.StaticAssert = passed f to i (behind_semicolon f i) at
begun_by f to i at w = other_begun f to i at w

abbrev pub outer_begun : File → ℕ → At → Word → At
outer_begun f i at w =
    if is_semicolon w then read at.seen (at_item (i + 1) at.found)
    else declared_to f i (declaration_or_hidden f 4294967295 i at.seen) at.found

-- At file level all is declarations, but for stray semicolons and static assertions.
abbrev pub begun_outside : File → ℕ → At → Word → At
begun_outside f i at words.StaticAssert = passed f 4294967295 i (behind_semicolon f i) at
begun_outside f i at w = outer_begun f i at w

-- an item in the innermost block, or at file level, or the end of the block
abbrev pub begun : File → ℕ → At → Option Frame → At
begun f i at None = begun_outside f i at (word_at f i)
begun f i at (Some frame) =
    if frame.close == i then read at.seen (left at.found) else begun_by f (end_at f frame.close) i at (word_at f i)

-- ---- the walk

abbrev pub Step : Type 0
Step = Next At Declared

-- The item that begins at the index, if one does.
abbrev pub begun_at : File → ℕ → At → At
begun_at f i at = if nat_lt i at.found.next then at else begun f i at (last_frame at.found.frames)

-- The token itself is passed, and a block in a statement expression may open there, also where an item begins. Braces with statements
-- that are read as no block are passed over, and in them no name has a type.
abbrev pub gone_on : File → ℕ → At → Step
gone_on f i at =
    if is_sealed i at.found.sealed then More at (past_group f i)
    else if is_unread f i at.found then More (read (hidden_sealed f i at.seen) at.found) (past_group f i)
    else More (read at.seen (passing f i at.found)) (i + 1)

unfoldable pub walk_step : File → ℕ → At → Step
walk_step f i at = gone_on f i (begun_at f i at)

abbrev pub walk_end : ℕ → At → Declared
walk_end i at = at.seen

-- What a file declares, in the order in which it is read, and its structs and unions.
abbrev pub declarations_of : File → Declared
declarations_of f = repeated (walk_step f) walk_end (length f.tokens) 0 (read no_declarations beginning)
