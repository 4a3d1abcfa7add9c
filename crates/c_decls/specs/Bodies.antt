-- The bodies of structs, unions and enumerations (C11 6.7.2.1, 6.7.2.2).
use Rattle.std.specs.Prelude.{ℕ, zero, suc, Bool, ◌&&◌, if◌then◌else◌, Option, Some, None, slice_set}
use Rattle.c_types.specs.declared.ctype.CType.{CType, out-CType}
use Rattle.c_types.specs.declared.ctype.CType.TheOpen.{CType-F}
use Rattle.c_types.specs.declared.tag.Tag.{Tag}
use Rattle.c_types.specs.declared.tag.Layout.{Layout}
use Rattle.c_types.specs.Layouts.{layout_of}
use Rattle.c_words.specs.File.{File}
use Rattle.c_words.specs.Pragma.{is_packed}
use Rattle.c_words.specs.Words.{start_at}
use Rattle.c_words.specs.declared.word.TagWord.{TagWord}
use Rattle.c_scopes.specs.Seen.{Declared, tag_type, with_tags}
use Rattle.c_reader.specs.Specifiers.{tag_index, tag_bytes, tag_place}
use Rattle.c_decls.specs.declared.members.Members.{Members}
use Rattle.c_decls.specs.Ends.{body_index}
use Rattle.c_decls.specs.Hiding.{body_place, hidden_body, is_enum}
use Rattle.c_decls.specs.Tags.{Bodies, is_union, opened}
use Rattle.c_decls.specs.Members.{Found, members_in}
use Rattle.c_decls.specs.Enumerators.{enum_declared, is_plain_body}

-- a struct or union whose member's size isn't known, with an attribute that changes sizes, or that ends behind a `#pragma pack`,
-- has no layout
abbrev pub layout_in : File → ℕ → Bool → Declared → Members → Option Layout
layout_in f i joined seen m =
    if is_packed f (body_place f i) then None
    else if m.sized && is_plain_body f i then layout_of seen.tags (body_place f i) joined m.types
    else None

-- It has its members and its size from the closing brace on (6.7.2.1, 8).
abbrev pub tag_of : File → ℕ → Bool → Found → Tag
tag_of f i joined r = record {
  joined = joined;
  names = r.found.names;
  members = r.found.types;
  layout = layout_in f i joined r.seen r.found;
  known_from = body_place f i;
}

abbrev pub number_by : CType-F CType → Option ℕ
number_by (CType-F.Tagged number) = Some number
number_by _ = None

abbrev pub number_in : Option CType → Option ℕ
number_in None = None
number_in (Some t) = number_by (out-CType t)

-- the number of the struct or union that was declared at its tag
abbrev pub tag_number : File → ℕ → Declared → Option ℕ
tag_number f j seen = number_in (tag_type seen (tag_bytes f j) (tag_place f j))

abbrev pub completed : Tag → Declared → Option ℕ → Declared
completed t seen None = seen
completed t seen (Some number) = with_tags (slice_set seen.tags.list number t) seen

-- The struct or union whose keyword has this index is declared, and completed by its body.
abbrev pub struct_declared : File → ℕ → ℕ → Bodies → Bool → ℕ → Declared → Declared
struct_declared f to depth body joined i seen =
    let r = members_in f to depth body (body_index f i) (opened f to joined (tag_index f i) seen) in
    completed (tag_of f i joined r) r.seen (tag_number f (tag_index f i) r.seen)

-- What the body at a keyword declares, where so many levels of nesting may still come; a deeper one hides its names.
unfoldable pub body_declared : File → ℕ → ℕ → TagWord → ℕ → Declared → Declared
body_declared f to zero kind i seen = hidden_body f (start_at f i) to kind i seen
body_declared f to (suc depth) kind i seen =
    if is_enum kind then enum_declared f to depth i seen
    else struct_declared f to depth (body_declared f to depth) (is_union kind) i seen
