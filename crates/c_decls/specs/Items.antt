-- What begins in a block or at file level: declarations, labels, statements (C11 6.8.2, 6.9; GNU C's extensions).
use Rattle.std.specs.Prelude.{ℕ, Bool, true, false, ◌+◌, ◌&&◌, ◌||◌, not, if◌then◌else◌, is_some, length}
use Rattle.c_words.specs.File.{File}
use Rattle.c_words.specs.Words.{word_at, bytes_at, start_at, is_name_at, past_group}
use Rattle.c_words.specs.declared.word.Word.{Word}
use Rattle.c_words.specs.declared.word.Word.TheVariants as words
use Rattle.c_scopes.specs.Seen.{Declared, kind_of, visible_type}
use Rattle.c_reader.specs.declared.next.Next.{Next}
use Rattle.c_reader.specs.declared.next.Next.TheVariants.{Done, More}
use Rattle.c_reader.specs.Repeat.{repeated}
use Rattle.c_reader.specs.Marks.{is_colon, is_open_paren, is_semicolon, is_star}
use Rattle.c_reader.specs.Attributes.{attributes_at, opens_attribute}
use Rattle.c_reader.specs.Specifiers.{begins_specifier}
use Rattle.c_decls.specs.declared.items.Item.{Item}
use Rattle.c_decls.specs.declared.items.Item.TheVariants as items

abbrev pub is_extension : Word → Bool
is_extension words.Extension = true
is_extension _ = false

abbrev pub extension_step : File → ℕ → Unit {0} → Next (Unit {0}) ℕ
extension_step f i u = if is_extension (word_at f i) then More tt (i + 1) else Done i

abbrev pub extension_stop : ℕ → Unit {0} → ℕ
extension_stop i u = i

-- the index behind each `__extension__` from the index on
abbrev pub behind_extensions : File → ℕ → ℕ
behind_extensions f i = repeated (extension_step f) extension_stop (length f.tokens) i tt

-- a statement of attributes alone, as `__attribute__((fallthrough));`
abbrev is_attribute_statement : File → ℕ → Bool
is_attribute_statement f i = is_semicolon (word_at f (attributes_at f i).end)

abbrev pub attribute_item : File → ℕ → Item
attribute_item f i = if is_attribute_statement f i then items.Statement else items.Declaration

abbrev pub specifier_item : File → Declared → ℕ → Item
specifier_item f seen i = if begins_specifier f seen i then items.Declaration else items.Statement

-- the name has no type there: it isn't declared, or what it means isn't known
abbrev pub is_untyped : File → Declared → ℕ → Bool
is_untyped f seen i = not (is_some (visible_type seen (bytes_at f i) (start_at f i)))

-- the name is declared without a type
abbrev pub is_hidden : File → Declared → ℕ → Bool
is_hidden f seen i = is_some (kind_of seen (bytes_at f i) (start_at f i)) && is_untyped f seen i

-- a parenthesis behind the name at the index goes with a declarator, or with what stands before one: a name follows it
abbrev pub declares_in_parentheses : File → Declared → ℕ → Bool
declares_in_parentheses f seen i = is_open_paren (word_at f (i + 1)) && (is_hidden f seen i || is_name_at f (past_group f (i + 1)))

-- A name without a type may stand for a type: one that is a compiler's own, or a typedef name that was hidden for longer than its
-- scope. With a star or a parenthesis behind it it may declare.
abbrev pub may_declare : File → Declared → ℕ → Bool
may_declare f seen i = (is_star (word_at f (i + 1)) && is_untyped f seen i) || declares_in_parentheses f seen i

abbrev pub name_item : File → Declared → ℕ → Item
name_item f seen i =
    if is_colon (word_at f (i + 1)) then items.Statement
    else if begins_specifier f seen i then items.Declaration
    else if is_name_at f (i + 1) || may_declare f seen i then items.Uncovered
    else items.Statement

-- What begins at the index, behind its `__extension__`s: a declaration by its first specifier; one that isn't covered by its first
-- word, by two names of which the first is no keyword, or by a hidden name that may declare; else a statement or a label.
abbrev pub item_by : File → Declared → ℕ → Word → Item
item_by f seen i words.Uncovered = items.Uncovered
item_by f seen i words.Attribute = attribute_item f i
item_by f seen i words.Name = name_item f seen i
item_by f seen i w = specifier_item f seen i

abbrev pub item_behind : File → Declared → ℕ → Item
item_behind f seen i = item_by f seen i (word_at f i)

-- Such attributes aren't covered, nor is the declaration that they begin.
abbrev pub attributed : Item → Item
attributed items.Statement = items.Statement
attributed item = items.Uncovered

abbrev pub item_or_attributed : File → Declared → ℕ → Item
item_or_attributed f seen i =
    if opens_attribute f i then attributed (item_behind f seen (past_group f i)) else item_behind f seen i

unfoldable pub item_at : File → Declared → ℕ → Item
item_at f seen i = item_or_attributed f seen (behind_extensions f i)
