-- Enumerations and their constants (C11 6.7.2.2).
use Rattle.std.specs.Prelude.{ℕ, Bool, true, false, ◌+◌, ◌-◌, ◌==◌, ◌&&◌, not, if◌then◌else◌, Option, Some, None, length, List, ℤ, pos, negsuc, ◌+ℤ◌, int_le, int_lt, is_some}
use Rattle.std.specs.Option.{option_and_then}
use Rattle.c_types.specs.declared.ctype.CType.{CType, Int, Enumeration}
use Rattle.c_words.specs.File.{File}
use Rattle.c_words.specs.Words.{word_at, bytes_at, end_at, past_group}
use Rattle.c_scopes.specs.Seen.{Declared}
use Rattle.c_scopes.specs.declared.declaration.Entity.TheVariants as entities
use Rattle.c_scopes.specs.declared.declaration.NameKind.TheVariants as kinds
use Rattle.c_values.specs.declared.value.Constant.{Constant}
use Rattle.c_values.specs.declared.value.Constant.TheVariants.{Known}
use Rattle.c_reader.specs.declared.next.Next.{Next}
use Rattle.c_reader.specs.declared.next.Next.TheVariants.{Done, More}
use Rattle.c_reader.specs.declared.grammar.Level.TheVariants as levels
use Rattle.c_reader.specs.declared.grammar.Typed.{Typed}
use Rattle.c_reader.specs.Repeat.{repeated}
use Rattle.c_reader.specs.Marks.{is_name, is_comma, is_assign, is_close_brace}
use Rattle.c_reader.specs.Attributes.{attributes_at, both}
use Rattle.c_reader.specs.Specifiers.{tag_index, tag_bytes, tag_place}
use Rattle.c_reader.specs.Nesting.{inner}
use Rattle.c_decls.specs.declared.ends.Stop.TheVariants as stops
use Rattle.c_decls.specs.declared.enumerated.Enumerated.{Enumerated}
use Rattle.c_decls.specs.Progress.{Read, read, finding}
use Rattle.c_decls.specs.Ends.{body_index, has_colon, level_end}
use Rattle.c_decls.specs.Hiding.{body_place, declared, hidden_bodies, hidden_enumerators, hidden_name}
use Rattle.c_decls.specs.Members.{is_plain}

-- What was read, with the value of the next constant where none is written, and whether all values so far are known.
abbrev pub Found : Type 0
Found = Read Enumerated

-- a value that an int has
abbrev pub is_int : ℤ → Bool
is_int v = int_le (negsuc 2147483647) v && int_le v (pos 2147483647)

abbrev pub int_value : Constant → Option ℤ
int_value (Known v) = if is_int v then Some v else None
int_value _ = None

-- one more, as long as it is an int's
abbrev pub successor_of : ℤ → Option ℤ
successor_of v = if int_lt v (pos 2147483647) then Some (v +ℤ pos 1) else None

abbrev pub successor : Option ℤ → Option ℤ
successor value = option_and_then successor_of value

abbrev pub value_ending : ℕ → Option Typed → Option ℤ
value_ending end None = None
value_ending end (Some x) = if x.end == end then int_value x.value.constant else None

-- the value behind the `=` at the index, of an expression that ends where its part does
abbrev pub written_value : File → ℕ → ℕ → Declared → Option ℤ
written_value f depth i seen = value_ending (level_end f stops.Comma (i + 1)) ((inner f seen depth).expression levels.Conditional (i + 1))

-- A constant is an int, seen from behind its value on; one without a known value is a name without a type.
abbrev pub constant_declared : List ℕ → Option ℤ → ℕ → ℕ → Declared → Declared
constant_declared name None from to seen = hidden_name name from to seen
constant_declared name (Some v) from to seen = declared name (entities.Name (kinds.Constant (Some v))) (Some (Int 4 true)) from to seen

-- a turn over what was read, and over what is seen beside it
abbrev pub Turn : Type 0
Turn = Next Enumerated Enumerated

abbrev pub Reading : Type 0
Reading = Next Found Found

abbrev pub malformed : Enumerated → Enumerated
malformed e = record e { known = false }

unfoldable pub next_enumerator : File → ℕ → Enumerated → Turn
next_enumerator f i e =
    if is_comma (word_at f i) then More e (i + 1)
    else if is_close_brace (word_at f i) then Done e
    else Done (malformed e)

-- behind a constant with that value
abbrev pub behind_value : Option ℤ → Enumerated → Enumerated
behind_value value e = record { next = successor value; known = e.known && is_some value }

-- the constant at the index, whose part ends at the index `end`
abbrev pub enumerated : File → ℕ → ℕ → ℕ → Option ℤ → Found → Reading
enumerated f to i end value r =
    finding (constant_declared (bytes_at f i) value (end_at f (end - 1)) to r.seen) (next_enumerator f end (behind_value value r.found))

-- the name at the index, with its attributes up to the index `behind`
abbrev pub named_at : File → ℕ → ℕ → ℕ → ℕ → Found → Reading
named_at f to depth i behind r =
    if is_assign (word_at f behind)
    then (let end = level_end f stops.Comma (behind + 1) in
    enumerated f to i end (written_value f depth behind r.seen) (read (hidden_bodies f to (behind + 1) end r.seen) r.found))
    else enumerated f to i behind r.found.next r

-- bodies in the attributes behind the name at the index hide their names
abbrev pub attributes_passed : File → ℕ → ℕ → ℕ → Found → Found
attributes_passed f to i behind r = read (hidden_bodies f to (i + 1) behind r.seen) r.found

unfoldable pub enumerator_step : File → ℕ → ℕ → ℕ → Found → Reading
enumerator_step f to depth i r =
    if is_name (word_at f i)
    then (let behind = (attributes_at f (i + 1)).end in named_at f to depth i behind (attributes_passed f to i behind r))
    else if is_close_brace (word_at f i) then Done r
    else Done (read r.seen (malformed r.found))

abbrev pub none_enumerated : Enumerated
none_enumerated = record { next = Some (pos 0); known = true }

abbrev pub unended : ℕ → Found → Found
unended i r = read r.seen (malformed r.found)

abbrev pub enumerators_from : File → ℕ → ℕ → ℕ → Found → Found
enumerators_from f to depth i r = repeated (enumerator_step f to depth) unended (length f.tokens) i r

-- the constants of the body whose brace has this index
abbrev pub enumerators_in : File → ℕ → ℕ → ℕ → Declared → Found
enumerators_in f to depth brace seen = enumerators_from f to depth (brace + 1) (read seen none_enumerated)

-- all values are known, and so is the type, which C23 lets a colon behind the tag name (6.7.2.2 there)
abbrev pub is_known : File → ℕ → Enumerated → Bool
is_known f i e = e.known && not (has_colon f i)

-- Where that isn't so, the constants have no type behind the body (this project's own).
abbrev pub settled : File → ℕ → ℕ → Found → Declared
settled f to i r = if is_known f i r.found then r.seen else hidden_enumerators f (body_place f i) to (body_index f i) r.seen

abbrev pub enumeration_type : Bool → Option CType
enumeration_type known = if known then Some Enumeration else None

-- what attributes before and behind the body ask for changes its size
abbrev pub is_plain_body : File → ℕ → Bool
is_plain_body f i = is_plain (both (attributes_at f (i + 1)).attributes (attributes_at f (past_group f (body_index f i))).attributes)

-- The enumeration whose keyword has this index is declared with its constants. It has the type only where all values and the type are known.
abbrev pub enum_declared : File → ℕ → ℕ → ℕ → Declared → Declared
enum_declared f to depth i seen =
    let r = enumerators_in f to depth (body_index f i) seen in
    declared (tag_bytes f (tag_index f i)) entities.Tag (enumeration_type (is_known f i r.found && is_plain_body f i)) (tag_place f (tag_index f i)) to (settled f to i r)
