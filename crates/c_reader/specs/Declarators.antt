-- Declarators, the parameters of functions and type names (C11 6.7.6, 6.7.6.3, 6.7.7).
use Rattle.std.specs.Prelude.{◌≡◌, ◌<◌, ℕ, Bool, true, false, ◌+◌, ◌==◌, ◌&&◌, ◌||◌, not, if◌then◌else◌, List, [], ◌∷◌, ◌++◌, length, Option, Some, None, ℤ, pos, negsuc, nat_lt}
use Rattle.std.specs.Option.{option_and_then, option_map}
use Rattle.c_types.specs.Types.{wrapped}
use Rattle.c_types.specs.declared.ctype.CType.{CType, Pointer, Array, VariableArray, Function, Unknown, out-CType}
use Rattle.c_types.specs.declared.ctype.CType.TheOpen.{CType-F}
use Rattle.c_words.specs.File.{File}
use Rattle.c_words.specs.Words.{word_at, past_group}
use Rattle.c_words.specs.declared.word.Word.{Word}
use Rattle.c_words.specs.declared.word.Word.TheVariants as words
use Rattle.c_scopes.specs.Seen.{Declared}
use Rattle.c_values.specs.declared.value.Constant.{Constant}
use Rattle.c_values.specs.declared.value.Constant.TheVariants.{Known}
use Rattle.c_reader.specs.declared.next.Next.{Next}
use Rattle.c_reader.specs.declared.next.Next.TheVariants.{Done, More}
use Rattle.c_reader.specs.declared.grammar.Level.TheVariants as levels
use Rattle.c_reader.specs.declared.grammar.Context.{Context}
use Rattle.c_reader.specs.declared.grammar.Context.TheVariants as contexts
use Rattle.c_reader.specs.declared.grammar.Shape.{Shape}
use Rattle.c_reader.specs.declared.grammar.Shape.TheVariants as shapes
use Rattle.c_reader.specs.declared.grammar.Typed.{Typed}
use Rattle.c_reader.specs.declared.grammar.TypeName.{TypeName}
use Rattle.c_reader.specs.declared.grammar.Specifiers.{Specifiers}
use Rattle.c_reader.specs.declared.grammar.Declarator.{Declarator}
use Rattle.c_reader.specs.declared.grammar.Parameter.{Parameter}
use Rattle.c_reader.specs.declared.grammar.Parameters.{Parameters}
use Rattle.c_reader.specs.declared.parameters.ReadParameter.{ReadParameter}
use Rattle.c_reader.specs.declared.attributes.Attributes.{Attributes}
use Rattle.c_reader.specs.declared.attributes.Asked.{Asked}
use Rattle.c_reader.specs.declared.pointers.Pointers.{Pointers}
use Rattle.c_reader.specs.declared.suffix.Suffix.{Suffix}
use Rattle.c_reader.specs.declared.suffix.Suffix.TheVariants as suffixes
use Rattle.c_reader.specs.declared.suffix.Suffixes.{Suffixes}
use Rattle.c_reader.specs.Repeat.{repeated}
use Rattle.c_reader.specs.Marks.{is_name, is_open_paren, is_close_paren, is_open_bracket, is_close_bracket, is_comma, is_star, is_ellipsis, is_void}
use Rattle.c_reader.specs.Attributes.{no_attributes, both, attributes_at, attributes_from, begins_attribute, typed_with}
use Rattle.c_reader.specs.Specifiers.{begins_specifier, specifiers_at}
use Rattle.c_reader.specs.Grammar.{Inner}

-- ---- pointers, with their qualifiers and attributes

abbrev pub Pointing : Type 0
Pointing = Next Pointers Pointers

abbrev pub pointed : Pointers → ℕ → Pointers
pointed p i = record p { end = i }

-- With `aligned` or `packed` directly behind a star or a parenthesis the type so far isn't known: gcc counts them in
-- `typeof`.
abbrev pub aligned_type : Attributes → CType → CType
aligned_type a t = if a.aligned then Unknown else t

abbrev pub with_attributes : Asked → Pointers → Pointers
with_attributes asked p =
    record p { ctype = aligned_type asked.attributes p.ctype; attributes = both p.attributes asked.attributes }

abbrev with_group : File → ℕ → Pointers → Pointing
with_group f i p =
    if begins_attribute f i then More (with_attributes (attributes_at f i) p) (attributes_at f i).end
    else Done (pointed p i)

abbrev with_star : ℕ → Pointers → Bool → Pointing
with_star i p true = More (record p { ctype = wrapped Pointer p.ctype }) (i + 1)
with_star i p false = Done (pointed p i)

unfoldable pub pointer_step : File → ℕ → Pointers → Pointing
pointer_step f i p = elim (word_at f i) [
  | words.Qualifier ↦ More p (i + 1)
  | words.Attribute ↦ with_group f i p
  | words.Punct q ↦ with_star i p (is_star (words.Punct q))
  | _ ↦ Done (pointed p i)
]

-- where the stars have ended
abbrev pub EndsAt : ℕ → Pointing → Type 0
EndsAt i (Done p) = p.end ≡ i
EndsAt i (More p j) = Unit {0}

abbrev pub pointers_end : ℕ → Pointers → Pointers
pointers_end i p = pointed p i

-- the type behind the stars from the index on
abbrev pub pointers_at : File → CType → ℕ → Pointers
pointers_at f base i = repeated (pointer_step f) pointers_end (length f.tokens) i (record { ctype = base; attributes = no_attributes; end = i })

-- ---- arrays and functions

-- the type with the suffixes: the last of them lies next to the base (C11 6.7.6, 5)
abbrev pub suffixed : Suffix → CType → CType
suffixed suffixes.Flexible t = wrapped (λ e. Array e None) t
suffixed (suffixes.Length n) t = wrapped (λ e. Array e (Some n)) t
suffixed suffixes.Variable t = wrapped VariableArray t
suffixed suffixes.Parameters t = wrapped Function t

unfoldable pub suffixed_by : List Suffix → CType → CType
suffixed_by [] t = t
suffixed_by (s ∷ ss) t = suffixed s (suffixed_by ss t)

abbrev pub is_array_word : Word → Bool
is_array_word words.Qualifier = true
is_array_word words.Specifier = true
is_array_word _ = false

abbrev pub qualifier_stop : ℕ → Unit {0} → ℕ
qualifier_stop i u = i

abbrev pub qualifier_step : File → ℕ → Unit {0} → Next (Unit {0}) ℕ
qualifier_step f i u = if is_array_word (word_at f i) then More tt (i + 1) else Done i

-- the index behind `static` and the qualifiers that may stand in brackets (C11 6.7.6.3, 7)
abbrev pub behind_qualifiers : File → ℕ → ℕ
behind_qualifiers f i = repeated (qualifier_step f) qualifier_stop (length f.tokens) i tt

abbrev number_of : ℤ → Option ℕ
number_of (pos n) = if nat_lt n 18446744073709551616 then Some n else None
number_of (negsuc n) = None

-- how many elements a length stands for
abbrev pub length_of : Constant → Option ℕ
length_of (Known n) = number_of n
length_of _ = None

abbrev measured : Option ℕ → Suffix
measured None = suffixes.Variable
measured (Some n) = suffixes.Length n

abbrev by_length : ℕ → Option Typed → Suffix
by_length past None = suffixes.Variable
by_length past (Some x) = if x.end + 1 == past then measured (length_of x.value.constant) else suffixes.Variable

-- What the brackets from the index on say, in which the length begins at the index `inside`: only empty ones are flexible. A length
-- that isn't a known constant of at least 0 leaves the array without a known length.
unfoldable pub array_suffix : File → Inner → ℕ → ℕ → Suffix
array_suffix f n bracket inside =
    if is_close_bracket (word_at f inside) then suffixes.Flexible
    else by_length (past_group f bracket) (n.expression levels.Assignment inside)

abbrev pub Suffixing : Type 0
Suffixing = Next (List Suffix) (Option Suffixes)

abbrev pub SuffixesEndAt : ℕ → Next (List Suffix) Suffixes → Type 0
SuffixesEndAt i (Done found) = found.end ≡ i
SuffixesEndAt i (More list j) = Unit {0}

abbrev with_parameters : List Suffix → Option Parameters → Suffixing
with_parameters found None = Done None
with_parameters found (Some p) = More (found ++ suffixes.Parameters ∷ []) p.end

-- two brackets are an attribute of C23, which isn't covered
abbrev array_behind : File → Inner → ℕ → List Suffix → Suffixing
array_behind f n i found =
    if is_open_bracket (word_at f (i + 1)) then Done None
    else More (found ++ array_suffix f n i (behind_qualifiers f (i + 1)) ∷ []) (past_group f i)

abbrev suffix_by : File → Inner → Context → ℕ → List Suffix → Word → Suffixing
suffix_by f n context i found w =
    if is_open_bracket w then array_behind f n i found
    else if is_open_paren w then with_parameters found (n.parameters context i)
    else Done (Some (record { list = found; end = i }))

unfoldable pub suffix_step : File → Inner → Context → ℕ → List Suffix → Suffixing
suffix_step f n context i found = suffix_by f n context i found (word_at f i)

abbrev pub no_suffixes : ℕ → List Suffix → Option Suffixes
no_suffixes i found = None

abbrev pub suffixes_at : File → Inner → Context → ℕ → Option Suffixes
suffixes_at f n context i = repeated (suffix_step f n context) no_suffixes (length f.tokens) i []

-- ---- declarators

abbrev pub wants_name : Shape → Bool
wants_name shapes.Named = true
wants_name _ = false

abbrev pub may_name : Shape → Bool
may_name shapes.Abstract = false
may_name _ = true

abbrev pub begins_parameters : File → Declared → ℕ → Bool
begins_parameters f seen i = is_close_paren (word_at f i) || begins_specifier f seen i

-- In a declarator that may be without a name a parenthesis opens parameters where a specifier or its partner follows it, attributes
-- between them aside (C11 6.7.6.3, 11; GCC manual, "Attribute Syntax"); else a declarator.
abbrev pub opens_declarator : File → Declared → Shape → ℕ → Bool
opens_declarator f seen shape i =
    is_open_paren (word_at f i) && (wants_name shape || not (begins_parameters f seen (attributes_at f (i + 1)).end))

abbrev pub parameters_behind : File → ℕ → Option ℕ
parameters_behind f i = if is_open_paren (word_at f i) then Some i else None

-- the parameters next to the name: directly behind it, or behind the parentheses around it, which end before the index
abbrev pub parameters_next : File → ℕ → Option ℕ → Option ℕ
parameters_next f i None = parameters_behind f i
parameters_next f i (Some paren) = Some paren

abbrev pub named_by : File → Pointers → Option ℕ → ℕ → Suffixes → Declarator
named_by f p name i found = record {
  name = name;
  ctype = suffixed_by found.list p.ctype;
  parameters = parameters_behind f i;
  attributes = p.attributes;
  end = found.end;
}

abbrev around : File → Pointers → ℕ → Suffixes → Declarator → Declarator
around f p past found d =
    record d { parameters = parameters_next f past d.parameters; attributes = both p.attributes d.attributes; end = found.end }

abbrev inside_parens : File → Pointers → ℕ → Suffixes → Option Declarator → Option Declarator
inside_parens f p past found None = None
inside_parens f p past found (Some d) = if d.end + 1 == past then Some (around f p past found d) else None

-- what stands in parentheses is declared with the type that stands around it
abbrev nested_with : File → Inner → Context → Shape → Pointers → Option Suffixes → Option Declarator
nested_with f n context shape p None = None
nested_with f n context shape p (Some found) =
    inside_parens f p (past_group f p.end) found (n.declarator context shape (suffixed_by found.list p.ctype) (p.end + 1))

abbrev pub in_parentheses : File → Inner → Context → Shape → Pointers → Option Declarator
in_parentheses f n context shape p = nested_with f n context shape p (suffixes_at f n context (past_group f p.end))

-- the declarator behind its pointers
unfoldable pub declarator_behind : File → Declared → Inner → Context → Shape → Pointers → Option Declarator
declarator_behind f seen n context shape p =
    if is_name (word_at f p.end) && may_name shape
    then option_map (named_by f p (Some p.end) (p.end + 1)) (suffixes_at f n context (p.end + 1))
    else if opens_declarator f seen shape p.end
    then in_parentheses f n context shape p
    else if wants_name shape then None
    else option_map (named_by f p None p.end) (suffixes_at f n context p.end)

abbrev pub declarator_at : File → Declared → Inner → Context → Shape → CType → ℕ → Option Declarator
declarator_at f seen n context shape base i = declarator_behind f seen n context shape (pointers_at f base i)

-- ---- parameters

abbrev adjusted_at : CType → CType-F CType → CType
adjusted_at t (CType-F.Array element length) = wrapped Pointer element
adjusted_at t (CType-F.VariableArray element) = wrapped Pointer element
adjusted_at t (CType-F.Function gives) = wrapped Pointer t
adjusted_at t _ = t

-- a parameter is a pointer where it is declared as an array or a function (C11 6.7.6.3, 7 and 8)
abbrev pub adjusted : CType → CType
adjusted t = adjusted_at t (out-CType t)

-- its attributes may stand behind it too
abbrev pub declared_parameter : File → Specifiers → Declarator → ReadParameter
declared_parameter f s d =
    let asked = attributes_from f (both s.attributes d.attributes) d.end in
    record { parameter = record { name = d.name; ctype = typed_with asked.attributes false (adjusted d.ctype) }; end = asked.end }

abbrev parameter_behind : File → Declared → Inner → Context → Option Specifiers → Option ReadParameter
parameter_behind f seen n context None = None
parameter_behind f seen n context (Some s) =
    option_map (declared_parameter f s) (declarator_at f seen n context shapes.Parameter s.ctype s.end)

unfoldable pub parameter_at : File → Declared → Inner → Context → ℕ → Option ReadParameter
parameter_at f seen n context i = parameter_behind f seen n context (specifiers_at f seen n context i)

abbrev pub Listing : Type 0
Listing = Next (List Parameter) (Option Parameters)

abbrev pub ParametersEndBehind : ℕ → Next (List Parameter) Parameters → Type 0
ParametersEndBehind i (Done found) = i < found.end
ParametersEndBehind i (More list j) = Unit {0}

abbrev listed : List Parameter → ℕ → Listing
listed found end = Done (Some (record { list = found; end = end }))

abbrev behind_parameter : File → List Parameter → Option ReadParameter → Listing
behind_parameter f found None = Done None
behind_parameter f found (Some r) =
    if is_comma (word_at f r.end) then More (found ++ r.parameter ∷ []) (r.end + 1)
    else if is_close_paren (word_at f r.end) then listed (found ++ r.parameter ∷ []) (r.end + 1)
    else Done None

-- one parameter, or the `...` behind the last
unfoldable pub parameters_step : File → Declared → Inner → Context → ℕ → List Parameter → Listing
parameters_step f seen n context i found =
    if is_ellipsis (word_at f i) then (if is_close_paren (word_at f (i + 1)) then listed found (i + 2) else Done None)
    else behind_parameter f found (parameter_at f seen n context i)

abbrev pub no_parameters : ℕ → List Parameter → Option Parameters
no_parameters i found = None

-- parameters from the index on, one at least
abbrev pub listed_parameters : File → Declared → Inner → Context → ℕ → Option Parameters
listed_parameters f seen n context i = repeated (parameters_step f seen n context) no_parameters (length f.tokens) i []

-- The parameters in the parentheses that open at the index: none in `()` and `(void)` (C11 6.7.6.3). A list of names alone isn't covered.
unfoldable pub parameters_at : File → Declared → Inner → Context → ℕ → Option Parameters
parameters_at f seen n context paren =
    if is_close_paren (word_at f (paren + 1)) then Some (record { list = []; end = paren + 2 })
    else if is_void (word_at f (paren + 1)) && is_close_paren (word_at f (paren + 2)) then Some (record { list = []; end = paren + 3 })
    else listed_parameters f seen n context (paren + 1)

-- ---- type names

-- as of a typedef name `aligned` and `packed` count: gcc counts them in `typeof`
abbrev pub named_type : File → Specifiers → Declarator → Option TypeName
named_type f s d =
    let asked = attributes_from f (both s.attributes d.attributes) d.end in
    option_map (λ t. record { ctype = t; end = asked.end }) (typed_with asked.attributes true d.ctype)

abbrev type_behind : File → Declared → Inner → Option Specifiers → Option TypeName
type_behind f seen n None = None
type_behind f seen n (Some s) = option_and_then (named_type f s) (declarator_at f seen n contexts.Expression shapes.Abstract s.ctype s.end)

-- the type name at the index, if its type is known
unfoldable pub type_name_at : File → Declared → Inner → ℕ → Option TypeName
type_name_at f seen n i = type_behind f seen n (specifiers_at f seen n contexts.Expression i)
