-- The members of structs and unions (C11 6.7.2.1).
use Rattle.std.specs.Prelude.{ℕ, Bool, true, false, ◌+◌, ◌&&◌, ◌||◌, nat_lt, not, if◌then◌else◌, Option, Some, None, length, List, [], ◌∷◌, ◌++◌}
use Rattle.c_types.specs.declared.ctype.CType.{CType, Unknown, out-CType}
use Rattle.c_types.specs.declared.ctype.CType.TheOpen.{CType-F}
use Rattle.c_words.specs.File.{File}
use Rattle.c_words.specs.Words.{word_at, bytes_at, past_group}
use Rattle.c_words.specs.declared.word.Word.{Word}
use Rattle.c_words.specs.declared.word.Word.TheVariants as words
use Rattle.c_scopes.specs.Seen.{Declared}
use Rattle.c_reader.specs.declared.next.Next.{Next}
use Rattle.c_reader.specs.declared.next.Next.TheVariants.{Done, More}
use Rattle.c_reader.specs.declared.attributes.Attributes.{Attributes}
use Rattle.c_reader.specs.declared.attributes.Asked.{Asked}
use Rattle.c_reader.specs.declared.attributes.Mode.{Mode}
use Rattle.c_reader.specs.declared.attributes.Mode.TheVariants as modes
use Rattle.c_reader.specs.declared.grammar.Context.TheVariants.{Declaration}
use Rattle.c_reader.specs.declared.grammar.Shape.TheVariants.{Named}
use Rattle.c_reader.specs.declared.grammar.Specifiers.{Specifiers}
use Rattle.c_reader.specs.declared.grammar.Declarator.{Declarator}
use Rattle.c_reader.specs.Repeat.{repeated}
use Rattle.c_reader.specs.Marks.{is_name, is_comma, is_colon, is_semicolon}
use Rattle.c_reader.specs.Attributes.{both, attributes_from}
use Rattle.c_reader.specs.Specifiers.{specifiers_at, names_type, tag_index}
use Rattle.c_reader.specs.Declarators.{declarator_at}
use Rattle.c_reader.specs.Nesting.{inner}
use Rattle.c_decls.specs.declared.ends.Stop.TheVariants as stops
use Rattle.c_decls.specs.declared.members.Members.{Members}
use Rattle.c_decls.specs.Progress.{Read, read, finding}
use Rattle.c_decls.specs.Ends.{behind_semicolon, closes, has_body, level_end, opens_block}
use Rattle.c_decls.specs.Hiding.{hidden_bodies}
use Rattle.c_decls.specs.Tags.{Bodies, named_tags}

abbrev pub no_members : Members
no_members = record { names = []; types = []; sized = true; covered = true }

-- What was read, and the members so far.
abbrev pub Found : Type 0
Found = Read Members

-- ---- one member

abbrev pub is_unasked : Mode → Bool
is_unasked modes.Unasked = true
is_unasked _ = false

-- no attribute changes where members lie
abbrev pub is_plain : Attributes → Bool
is_plain a = not a.vector && not a.aligned && is_unasked a.mode

abbrev pub member_type : Attributes → CType → CType
member_type a t = if a.vector || not (is_unasked a.mode) then Unknown else t

-- one member more, with which the whole has a size or has none
abbrev pub with_member : List ℕ → CType → Bool → Members → Members
with_member name t sized m = record m { names = m.names ++ name ∷ []; types = m.types ++ t ∷ []; sized = m.sized && sized }

abbrev pub without_size : Members → Members
without_size m = record m { sized = false }

-- the declaration isn't covered
abbrev pub uncovered : Members → Members
uncovered m = record m { covered = false }

-- ---- the declarators of a declaration of members

-- a turn over members, and over what is seen beside them
abbrev pub Turn : Type 0
Turn = Next Members Members

abbrev pub Reading : Type 0
Reading = Next Found Found

unfoldable pub next_declarator : File → ℕ → Members → Turn
next_declarator f i m =
    if is_comma (word_at f i) then More m (i + 1)
    else if is_semicolon (word_at f i) || closes (word_at f i) then Done m
    else Done (uncovered m)

-- a bit-field leaves the struct without a size
abbrev pub bit_field : File → ℕ → ℕ → Found → Reading
bit_field f to colon r =
    let end = level_end f stops.Comma (colon + 1) in
    finding (hidden_bodies f to (colon + 1) end r.seen) (next_declarator f end (without_size r.found))

abbrev pub name_of : File → Option ℕ → List ℕ
name_of f None = []
name_of f (Some i) = bytes_at f i

abbrev pub asked_of : File → Specifiers → Declarator → Asked
asked_of f s d = attributes_from f (both s.attributes d.attributes) d.end

abbrev pub member_declared : File → ℕ → Specifiers → Found → Declarator → Reading
member_declared f to s r d =
    let asked = asked_of f s d in
    if is_colon (word_at f asked.end)
    then bit_field f to asked.end (read r.seen (with_member (name_of f d.name) Unknown false r.found))
    else finding r.seen (next_declarator f asked.end (with_member (name_of f d.name) (member_type asked.attributes d.ctype) (is_plain asked.attributes) r.found))

abbrev declared_again : File → ℕ → Specifiers → Found → Option Declarator → Reading
declared_again f to s r None = Done (read r.seen (uncovered r.found))
declared_again f to s r (Some d) = member_declared f to s r d

abbrev pub declarator_in : File → ℕ → Specifiers → ℕ → Declared → Option Declarator
declarator_in f depth s j seen = declarator_at f seen (inner f seen depth) Declaration Named s.ctype j

-- The tags in a declarator and in the attributes behind it are declared before its type is known. What a body in it declares is seen in parameters alone (6.2.1, 4), and is hidden.
abbrev pub tags_within : File → ℕ → Bodies → ℕ → ℕ → Declared → Declared
tags_within f to body j end seen = hidden_bodies f to j end (named_tags f to body j end seen)

abbrev with_tags_in : File → ℕ → ℕ → Bodies → Specifiers → ℕ → Found → Option Declarator → Reading
with_tags_in f to depth body s j r None = Done (read r.seen (uncovered r.found))
with_tags_in f to depth body s j r (Some d) =
    let seen = tags_within f to body j (asked_of f s d).end r.seen in
    declared_again f to s (read seen r.found) (declarator_in f depth s j seen)

unfoldable pub member_step : File → ℕ → ℕ → Bodies → Specifiers → ℕ → Found → Reading
member_step f to depth body s j r =
    if is_colon (word_at f j) then bit_field f to j r
    else with_tags_in f to depth body s j r (declarator_in f depth s j r.seen)

abbrev pub unended : ℕ → Found → Found
unended i r = read r.seen (uncovered r.found)

abbrev pub declarators_from : File → ℕ → ℕ → Bodies → Specifiers → ℕ → Found → Found
declarators_from f to depth body s i r = repeated (member_step f to depth body s) unended (length f.tokens) i r

abbrev pub declarators_read : File → ℕ → ℕ → Bodies → Specifiers → Found → Found
declarators_read f to depth body s r = declarators_from f to depth body s s.end r

-- ---- a declaration of members

abbrev pub is_tagged : CType-F CType → Bool
is_tagged (CType-F.Tagged number) = true
is_tagged _ = false

abbrev pub is_static_assert : Word → Bool
is_static_assert words.StaticAssert = true
is_static_assert _ = false

abbrev pub is_tag_word : Word → Bool
is_tag_word (words.Tag kind) = true
is_tag_word _ = false

abbrev pub tag_step : File → ℕ → ℕ → Unit {0} → Next (Unit {0}) ℕ
tag_step f end i u = if nat_lt i end && not (is_tag_word (word_at f i)) then More tt (past_group f i) else Done i

abbrev pub tag_stop : ℕ → Unit {0} → ℕ
tag_stop i u = i

-- the index of the first `struct`, `union` or `enum` between two indices, outside brackets
abbrev pub tag_word_from : File → ℕ → ℕ → ℕ
tag_word_from f i end = repeated (tag_step f end) tag_stop (length f.tokens) i tt

-- a body follows, with no tag before it
abbrev pub has_untagged_body : File → ℕ → Bool
has_untagged_body f keyword = has_body f keyword && not (is_name (word_at f (tag_index f keyword)))

-- a struct or union that has a body and no tag
abbrev pub is_unnamed : File → ℕ → Specifiers → Bool
is_unnamed f i s = is_tagged (out-CType s.ctype) && has_untagged_body f (tag_word_from f i s.end)

-- The members of an unnamed struct or union without a tag are the outer one's; with a tag it is no member (6.7.2.1, 13).
unfoldable pub without_declarator : File → ℕ → Specifiers → Members → Members
without_declarator f i s m =
    if is_unnamed f i s then with_member [] (member_type s.attributes s.ctype) (is_plain s.attributes) m else m

abbrev pub behind_specifiers : File → ℕ → ℕ → Bodies → ℕ → Found → Option Specifiers → Found
behind_specifiers f to depth body i r None = read r.seen (uncovered r.found)
behind_specifiers f to depth body i r (Some s) =
    if is_semicolon (word_at f s.end) || closes (word_at f s.end) then read r.seen (without_declarator f i s r.found)
    else declarators_read f to depth body s r

abbrev pub specifiers_in : File → ℕ → ℕ → Declared → Option Specifiers
specifiers_in f depth i seen = specifiers_at f seen (inner f seen depth) Declaration i

abbrev specified : File → ℕ → ℕ → Bodies → ℕ → Found → Option Specifiers → Found
specified f to depth body i r None = read r.seen (uncovered r.found)
specified f to depth body i r (Some s) =
    let seen = named_tags f to body i s.end r.seen in
    behind_specifiers f to depth body i (read seen r.found) (specifiers_in f depth i seen)

-- what is seen behind a declaration of members, and what it declares
unfoldable pub member_declaration : File → ℕ → ℕ → Bodies → ℕ → Declared → Found
member_declaration f to depth body i seen = specified f to depth body i (read seen no_members) (specifiers_in f depth i seen)

-- ---- a declaration of members that isn't covered

-- each name in it that is no typedef name there is a member of which nothing is known
abbrev pub unknown_by : File → Declared → ℕ → Members → Word → Turn
unknown_by f seen i m words.Name = if names_type f seen i then More m (i + 1) else More (with_member (bytes_at f i) Unknown false m) (i + 1)
unknown_by f seen i m w = if opens_block f i then More m (past_group f i) else More m (i + 1)

unfoldable pub unknown_step : File → Declared → ℕ → ℕ → Members → Turn
unknown_step f seen end i m = if nat_lt i end then unknown_by f seen i m (word_at f i) else Done m

abbrev pub members_so_far : ℕ → Members → Members
members_so_far i m = m

abbrev pub unknown_from : File → Declared → ℕ → ℕ → Members → Members
unknown_from f seen end i m = repeated (unknown_step f seen end) members_so_far (length f.tokens) i m

abbrev pub unknown_members : File → Declared → ℕ → ℕ → Members
unknown_members f seen i end = unknown_from f seen end i (without_size no_members)

-- ---- the members between the braces

abbrev pub appended : Members → Members → Members
appended before more = record before { names = before.names ++ more.names; types = before.types ++ more.types; sized = before.sized && more.sized }

-- bodies in what isn't covered hide their names
abbrev pub covered_or_unknown : File → ℕ → ℕ → Found → Found
covered_or_unknown f to i r =
    if r.found.covered then r
    else (let end = level_end f stops.Semicolon i in
    let seen = hidden_bodies f to i end r.seen in
    read seen (unknown_members f seen i end))

abbrev with_appended : Members → ℕ → Found → Reading
with_appended before next r = More (read r.seen (appended before r.found)) next

-- a static assertion declares nothing, and hides what bodies in it do
abbrev pub assertion_passed : File → ℕ → ℕ → Found → Reading
assertion_passed f to i r = More (read (hidden_bodies f to i (behind_semicolon f i) r.seen) r.found) (behind_semicolon f i)

unfoldable pub members_step : File → ℕ → ℕ → Bodies → ℕ → Found → Reading
members_step f to depth body i r =
    if closes (word_at f i) then Done r
    else if is_semicolon (word_at f i) then More r (i + 1)
    else if is_static_assert (word_at f i) then assertion_passed f to i r
    else with_appended r.found (behind_semicolon f i) (covered_or_unknown f to i (member_declaration f to depth body i r.seen))

abbrev pub found_at_end : ℕ → Found → Found
found_at_end i r = r

abbrev pub members_from : File → ℕ → ℕ → Bodies → ℕ → Found → Found
members_from f to depth body i r = repeated (members_step f to depth body) found_at_end (length f.tokens) i r

-- the members of the body whose brace has this index
abbrev pub members_in : File → ℕ → ℕ → Bodies → ℕ → Declared → Found
members_in f to depth body brace seen = members_from f to depth body (brace + 1) (read seen no_members)
