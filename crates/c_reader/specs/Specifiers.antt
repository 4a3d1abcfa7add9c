-- The specifiers of a declaration or a type name (C11 6.7, 6.7.2; GCC manual, "Typeof").
use Rattle.std.specs.Prelude.{◌≡◌, ℕ, Bool, true, false, ◌+◌, ◌&&◌, ◌||◌, ◌==◌, not, if◌then◌else◌, List, [], length, Option, Some, None, slice_get, unwrap_or, is_some}
use Rattle.std.specs.Option.{option_map}
use Rattle.c_types.specs.Types.{wrapped}
use Rattle.c_types.specs.declared.ctype.CType.{CType, Pointer, Int, Unknown, out-CType}
use Rattle.c_types.specs.declared.ctype.CType.TheOpen.{CType-F}
use Rattle.c_words.specs.File.{File}
use Rattle.c_words.specs.Words.{word_at, bytes_at, start_at, end_at, past_group}
use Rattle.c_words.specs.declared.word.Word.{Word}
use Rattle.c_words.specs.declared.word.Word.TheVariants as words
use Rattle.c_words.specs.declared.word.TagWord.{TagWord}
use Rattle.c_words.specs.declared.word.TagWord.TheVariants as tag_words
use Rattle.c_scopes.specs.Seen.{Declared, kind_of, visible_type, tag_type}
use Rattle.c_scopes.specs.declared.declaration.NameKind.{NameKind}
use Rattle.c_scopes.specs.declared.declaration.NameKind.TheVariants as kinds
use Rattle.c_reader.specs.declared.basics.Basics.{Basics}
use Rattle.c_reader.specs.declared.next.Next.{Next}
use Rattle.c_reader.specs.declared.next.Next.TheVariants.{Done, More}
use Rattle.c_reader.specs.declared.grammar.Level.TheVariants as levels
use Rattle.c_reader.specs.declared.grammar.Context.{Context}
use Rattle.c_reader.specs.declared.grammar.Context.TheVariants as contexts
use Rattle.c_reader.specs.declared.grammar.Typed.{Typed}
use Rattle.c_reader.specs.declared.grammar.TypeName.{TypeName}
use Rattle.c_reader.specs.declared.grammar.Specifiers.{Specifiers}
use Rattle.c_reader.specs.declared.found.Found.{Found}
use Rattle.c_reader.specs.Repeat.{repeated}
use Rattle.c_reader.specs.Marks.{is_name, is_open_paren, is_open_brace}
use Rattle.c_reader.specs.Basics.{no_basics, with_basic, basics_type, is_empty}
use Rattle.c_reader.specs.Attributes.{no_attributes, both, attributes_at, begins_attribute}
use Rattle.c_reader.specs.Grammar.{Inner}

-- ---- which words begin a type

-- a typedef name, and no other name
abbrev pub is_typedef_kind : Option NameKind → Bool
is_typedef_kind (Some kinds.Typedef) = true
is_typedef_kind _ = false

-- the name at the index is a typedef name there
abbrev pub names_type : File → Declared → ℕ → Bool
names_type f seen i = is_typedef_kind (kind_of seen (bytes_at f i) (start_at f i))

-- `named`: a name here is a typedef name
abbrev pub begins_type_word : Bool → Word → Bool
begins_type_word named words.Name = named
begins_type_word named words.Qualifier = true
begins_type_word named (words.Basic b) = true
begins_type_word named words.VaList = true
begins_type_word named (words.Tag t) = true
begins_type_word named words.Typeof = true
begins_type_word named words.Attribute = true
begins_type_word named _ = false

-- a type name begins at the index
abbrev pub begins_type : File → Declared → ℕ → Bool
begins_type f seen i = begins_type_word (names_type f seen i) (word_at f i)

abbrev pub begins_specifier_word : Bool → Word → Bool
begins_specifier_word named words.Typedef = true
begins_specifier_word named words.Register = true
begins_specifier_word named words.Specifier = true
begins_specifier_word named words.Extension = true
begins_specifier_word named w = begins_type_word named w

-- a declaration's specifier stands at the index
abbrev pub begins_specifier : File → Declared → ℕ → Bool
begins_specifier f seen i = begins_specifier_word (names_type f seen i) (word_at f i)

-- ---- tags

abbrev same_bool : Bool → Bool → Bool
same_bool true b = b
same_bool false b = not b

-- the tag names a struct where a struct is asked, a union where a union is
abbrev joined_as : Declared → Bool → ℕ → Bool
joined_as seen joined number = elim (slice_get seen.tags.list number) [ None ↦ false | Some t ↦ same_bool t.joined joined ]

abbrev pub is_joined_as : Declared → Bool → CType-F CType → Bool
is_joined_as seen joined (CType-F.Tagged number) = joined_as seen joined number
is_joined_as seen joined _ = false

abbrev is_enumeration : CType-F CType → Bool
is_enumeration CType-F.Enumeration = true
is_enumeration _ = false

abbrev pub tag_fits : Declared → TagWord → CType-F CType → Bool
tag_fits seen tag_words.Struct t = is_joined_as seen false t
tag_fits seen tag_words.Union t = is_joined_as seen true t
tag_fits seen tag_words.Enum t = is_enumeration t

abbrev fitting : Declared → TagWord → Option CType → CType
fitting seen kind None = Unknown
fitting seen kind (Some t) = if tag_fits seen kind (out-CType t) then t else Unknown

-- What `struct`, `union` or `enum` with a tag names at a place of the file: a tag of another kind, or none, is Unknown.
-- A body without a tag is declared under the empty tag (this project's own).
abbrev pub tagged_type : Declared → TagWord → List ℕ → ℕ → CType
tagged_type seen kind tag place = fitting seen kind (tag_type seen tag place)

-- the index behind the keyword and the attributes behind it, where the tag may stand
abbrev pub tag_index : File → ℕ → ℕ
tag_index f i = (attributes_at f (i + 1)).end

-- the index behind the tag, if one stands there
abbrev pub behind_tag : File → ℕ → ℕ
behind_tag f j = if is_name (word_at f j) then j + 1 else j

-- the tag's bytes, none without a tag
abbrev pub tag_bytes : File → ℕ → List ℕ
tag_bytes f j = if is_name (word_at f j) then bytes_at f j else []

-- the offset from which on the tag is seen: behind it, or behind what stands before the body
abbrev pub tag_place : File → ℕ → ℕ
tag_place f j = if is_name (word_at f j) then end_at f j else start_at f j

-- a body stands in declarations alone
abbrev pub allows_body : Inner → Context → Bool
allows_body n contexts.Declaration = n.body
allows_body n contexts.Expression = false

abbrev tag_behind : File → Declared → Inner → Context → TagWord → ℕ → Option TypeName
tag_behind f seen n context kind j =
    if is_open_brace (word_at f (behind_tag f j))
    then (if allows_body n context
    then Some (record { ctype = tagged_type seen kind (tag_bytes f j) (tag_place f j); end = (attributes_at f (past_group f (behind_tag f j))).end })
    else None)
    else if is_name (word_at f j)
    then Some (record { ctype = tagged_type seen kind (tag_bytes f j) (tag_place f j); end = j + 1 })
    else None

-- `struct`, `union` or `enum` with a tag, a body or both; the bodies are passed over
unfoldable pub tag_at : File → Declared → Inner → Context → TagWord → ℕ → Option TypeName
tag_at f seen n context kind i = tag_behind f seen n context kind (tag_index f i)

-- ---- typeof

abbrev of_value : Typed → TypeName
of_value x = record { ctype = x.value.ctype; end = x.end }

-- a type name, or an expression with its own type
abbrev pub typeof_inside : File → Declared → Inner → ℕ → Option TypeName
typeof_inside f seen n i = if begins_type f seen i then n.type_name i else option_map of_value (n.expression levels.Comma i)

abbrev pub filling : ℕ → Option TypeName → CType
filling past None = Unknown
filling past (Some t) = if t.end + 1 == past then t.ctype else Unknown

-- The type that `typeof` with the parenthesis at the index names. It is Unknown where its inside has no type.
unfoldable pub typeof_type : File → Declared → Inner → ℕ → CType
typeof_type f seen n paren = filling (past_group f paren) (typeof_inside f seen n (paren + 1))

-- ---- one specifier, and all

-- before the first specifier
abbrev pub nothing_found : Found
nothing_found = record { basics = no_basics; other = None; is_typedef = false; is_register = false; attributes = no_attributes }

-- a type was named
abbrev pub has_type : Found → Bool
has_type found = is_some found.other || not (is_empty found.basics)

abbrev pub Turn : Type 0
Turn = Next Found (Option Specifiers)

-- where the specifiers have ended
abbrev pub EndsAt : ℕ → Next Found Specifiers → Type 0
EndsAt i (Done s) = s.end ≡ i
EndsAt i (More found j) = Unit {0}

abbrev uncovered : Turn
uncovered = Done None

-- the type that is named, by the words of an arithmetic type or otherwise
abbrev pub type_found : Basics → Option CType → Option CType
type_found basics (Some t) = Some t
type_found basics None = basics_type basics

abbrev specified : Found → ℕ → CType → Specifiers
specified found i t = record { ctype = t; is_typedef = found.is_typedef; is_register = found.is_register; attributes = found.attributes; end = i }

-- what the specifiers say that end before the index; they name a type
abbrev pub finished : Found → ℕ → Option Specifiers
finished found i = option_map (specified found i) (type_found found.basics found.other)

-- one type alone
abbrev pub with_other : Found → CType → ℕ → Turn
with_other found t end = if has_type found then uncovered else More (record found { other = Some t }) end

-- one word of an arithmetic type more
abbrev pub with_basics : Found → ℕ → Option Basics → Turn
with_basics found i None = uncovered
with_basics found i (Some basics) = if is_some found.other then uncovered else More (record found { basics = basics }) (i + 1)

-- a storage class stands in declarations alone
abbrev pub stored : Context → Found → ℕ → Turn
stored contexts.Declaration found i = More found (i + 1)
stored contexts.Expression found i = uncovered

abbrev pub with_attributes : File → Found → ℕ → Turn
with_attributes f found i =
    if begins_attribute f i
    then More (record found { attributes = both found.attributes (attributes_at f i).attributes }) (attributes_at f i).end
    else uncovered

abbrev pub with_typeof : File → Declared → Inner → Found → ℕ → Turn
with_typeof f seen n found i =
    if is_open_paren (word_at f (i + 1)) then with_other found (typeof_type f seen n (i + 1)) (past_group f (i + 1)) else uncovered

abbrev pub with_tag : Found → Option TypeName → Turn
with_tag found None = uncovered
with_tag found (Some t) = with_other found t.ctype t.end

-- the type of a typedef name, which is Unknown where it is declared without one
abbrev pub typedef_type : File → Declared → ℕ → CType
typedef_type f seen i = unwrap_or (visible_type seen (bytes_at f i) (start_at f i)) Unknown

-- A typedef name is a specifier where no other type was named.
abbrev pub with_name : File → Declared → Found → ℕ → Turn
with_name f seen found i =
    if not (has_type found) && names_type f seen i
    then with_other found (typedef_type f seen i) (i + 1)
    else Done (finished found i)

-- `__builtin_va_list` is a pointer to char (System V ABI, Intel386 supplement).
abbrev pub va_list : CType
va_list = wrapped Pointer (Int 1 true)

-- the specifier at the index, beside those that were found; another token ends them
unfoldable pub specifier_step : File → Declared → Inner → Context → ℕ → Found → Turn
specifier_step f seen n context i found = elim (word_at f i) [
  | words.Typedef ↦ stored context (record found { is_typedef = true }) i
  | words.Register ↦ stored context (record found { is_register = true }) i
  | words.Specifier ↦ stored context found i
  | words.Extension ↦ stored context found i
  | words.Qualifier ↦ More found (i + 1)
  | words.Basic b ↦ with_basics found i (with_basic b found.basics)
  | words.VaList ↦ with_other found va_list (i + 1)
  | words.Tag kind ↦ with_tag found (tag_at f seen n context kind i)
  | words.Typeof ↦ with_typeof f seen n found i
  | words.Attribute ↦ with_attributes f found i
  | words.Name ↦ with_name f seen found i
  | _ ↦ Done (finished found i)
]

-- a declaration ends before the file does
abbrev pub nothing_read : ℕ → Found → Option Specifiers
nothing_read i found = None

-- the specifiers from the index on, if they are covered
abbrev pub specifiers_at : File → Declared → Inner → Context → ℕ → Option Specifiers
specifiers_at f seen n context i = repeated (specifier_step f seen n context) nothing_read (length f.tokens) i nothing_found
