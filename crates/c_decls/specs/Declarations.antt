-- Declarations (C11 6.7) and what they declare.
use Rattle.std.specs.Prelude.{ℕ, Bool, true, false, ◌<◌, ◌+◌, ◌-◌, ◌==◌, ◌&&◌, not, if◌then◌else◌, Option, Some, None, length, List, [], ◌∷◌}
use Rattle.c_types.specs.declared.ctype.CType.{CType, out-CType}
use Rattle.c_types.specs.declared.ctype.CType.TheOpen.{CType-F}
use Rattle.c_words.specs.File.{File}
use Rattle.c_words.specs.Words.{word_at, bytes_at, start_at, end_at, past_group, behind_asm_label}
use Rattle.c_scopes.specs.Seen.{Declared}
use Rattle.c_scopes.specs.declared.declaration.Entity.{Entity}
use Rattle.c_scopes.specs.declared.declaration.Entity.TheVariants as entities
use Rattle.c_scopes.specs.declared.declaration.NameKind.TheVariants as kinds
use Rattle.c_reader.specs.declared.next.Next.{Next}
use Rattle.c_reader.specs.declared.next.Next.TheVariants.{Done, More}
use Rattle.c_reader.specs.declared.attributes.Asked.{Asked}
use Rattle.c_reader.specs.declared.grammar.Context.TheVariants.{Declaration}
use Rattle.c_reader.specs.declared.grammar.Specifiers.{Specifiers}
use Rattle.c_reader.specs.declared.grammar.Declarator.{Declarator}
use Rattle.c_reader.specs.declared.grammar.Parameter.{Parameter}
use Rattle.c_reader.specs.declared.grammar.Parameters.{Parameters}
use Rattle.c_reader.specs.Repeat.{repeated}
use Rattle.c_reader.specs.Marks.{is_comma, is_semicolon, is_assign, is_open_brace}
use Rattle.c_reader.specs.Attributes.{both, attributes_from, typed_with}
use Rattle.c_reader.specs.Declarators.{parameters_at}
use Rattle.c_reader.specs.Nesting.{inner}
use Rattle.c_decls.specs.declared.ends.Stop.TheVariants as stops
use Rattle.c_decls.specs.declared.declaring.Ending.{Ending}
use Rattle.c_decls.specs.declared.declaring.Ending.TheVariants as endings
use Rattle.c_decls.specs.Progress.{Read, read}
use Rattle.c_decls.specs.Ends.{level_end}
use Rattle.c_decls.specs.Recovery.{uncovered_at}
use Rattle.c_decls.specs.Hiding.{declared, hidden_name, hidden_bodies, hidden_by, hiding_of}
use Rattle.c_decls.specs.Tags.{Bodies, lone_tag, named_tags}
use Rattle.c_decls.specs.Members.{declarator_in, name_of, specifiers_in, tags_within}
use Rattle.c_decls.specs.Bodies.{body_declared}

-- what bodies declare in a scope
abbrev pub bodies_in : File → ℕ → Bodies
bodies_in f to = body_declared f to 64

-- ---- what a declarator declares

abbrev pub entity_of : Specifiers → Entity
entity_of s = if s.is_typedef then entities.Name kinds.Typedef else entities.Name kinds.Other

-- The type of the declared name. A register variable with an asm label is placed by it, and not by the compiler alone: it has none
-- (GCC manual, "Explicit Register Variables").
abbrev pub declared_type : File → Specifiers → Declarator → Asked → Option CType
declared_type f s d asked =
    if s.is_register && not (behind_asm_label f d.end == d.end) then None else typed_with asked.attributes s.is_typedef d.ctype

-- the attributes of the declaration and of the declarator, those behind it and its asm label among them
abbrev pub attributes_of : File → Specifiers → Declarator → Asked
attributes_of f s d = attributes_from f (both s.attributes d.attributes) (behind_asm_label f d.end)

-- the name is seen from the end of its declarator on (6.2.1, 7)
abbrev pub name_declared : File → ℕ → Specifiers → Declarator → Declared → Declared
name_declared f to s d seen =
    declared (name_of f d.name) (entity_of s) (declared_type f s d (attributes_of f s d)) (end_at f (d.end - 1)) to seen

-- ---- the parameters of a function in its body

abbrev pub parameter_declared : File → ℕ → Parameter → Declared → Declared
parameter_declared f brace p seen = elim p.name [
  | None ↦ seen
  | Some i ↦ declared (bytes_at f i) (entities.Name kinds.Other) p.ctype (start_at f brace) (end_at f (past_group f brace - 1)) seen
]

unfoldable pub parameters_listed : File → ℕ → List Parameter → Declared → Declared
parameters_listed f brace [] seen = seen
parameters_listed f brace (p ∷ ps) seen = parameters_listed f brace ps (parameter_declared f brace p seen)

abbrev pub listed : File → ℕ → Declared → Option Parameters → Declared
listed f brace seen None = seen
listed f brace seen (Some ps) = parameters_listed f brace ps.list seen

abbrev pub parameters_in : File → ℕ → Declared → Option Parameters
parameters_in f paren seen = parameters_at f seen (inner f seen 64) Declaration paren

-- In the list itself the names before hide earlier meanings, and have no type: what is made of one isn't known (this project's own).
abbrev pub parameter_hidden : File → ℕ → Parameter → Declared → Declared
parameter_hidden f paren p seen = elim p.name [
  | None ↦ seen
  | Some i ↦ hidden_name (bytes_at f i) (end_at f i) (end_at f (past_group f paren - 1)) seen
]

unfoldable pub parameters_hidden : File → ℕ → List Parameter → Declared → Declared
parameters_hidden f paren [] seen = seen
parameters_hidden f paren (p ∷ ps) seen = parameters_hidden f paren ps (parameter_hidden f paren p seen)

abbrev pub hidden_in_list : File → ℕ → Declared → Option Parameters → Declared
hidden_in_list f paren seen None = seen
hidden_in_list f paren seen (Some ps) = parameters_hidden f paren ps.list seen

abbrev pub with_hidden : File → ℕ → Declared → Declared
with_hidden f paren seen = hidden_in_list f paren seen (parameters_in f paren seen)

abbrev pub listed_with : File → ℕ → ℕ → Declared → Declared
listed_with f paren brace seen = listed f brace seen (parameters_in f paren seen)

-- parameters are seen in the body alone
abbrev pub parameters_declared : File → ℕ → ℕ → Declared → Declared
parameters_declared f paren brace seen = listed_with f paren brace (with_hidden f paren seen)

-- ---- the declarators of a declaration

-- Where a declaration ends, and what is seen behind it.
abbrev pub Found : Type 0
Found = Read Ending

abbrev pub Reading : Type 0
Reading = Next Declared Found

-- the body at which it ends stands in the file
abbrev pub StandsIn : File → Ending → Type 0
StandsIn f (endings.Body brace) = brace < length f.tokens
StandsIn f _ = Unit {0}

-- a turn goes on behind an index
abbrev pub GoesOn : File → ℕ → Next (Unit {0}) Ending → Type 0
GoesOn f i (Done e) = StandsIn f e
GoesOn f i (More u j) = i < j

-- one turn: where the declaration ends, or the index of its next declarator
abbrev pub declaring : Declared → Next (Unit {0}) Ending → Reading
declaring seen (Done e) = Done (read seen e)
declaring seen (More u i) = More seen i

abbrev pub ended : Declared → Ending → Reading
ended seen e = Done (read seen e)

abbrev pub next_declarator : File → ℕ → Declared → Reading
next_declarator f i seen =
    if is_comma (word_at f i) then More seen (i + 1)
    else if is_semicolon (word_at f i) then ended seen (endings.Behind (i + 1))
    else ended seen endings.Uncovered

-- an initialiser goes to the next comma or semicolon at its level
abbrev pub initialised : File → ℕ → ℕ → Declared → Reading
initialised f to i seen =
    let end = level_end f stops.Comma (i + 1) in next_declarator f end (hidden_bodies f to (i + 1) end seen)

abbrev function_at : CType-F CType → Bool
function_at (CType-F.Function gives) = true
function_at _ = false

abbrev pub is_function : CType → Bool
is_function t = function_at (out-CType t)

-- the parameters of a function whose body may follow: the first declarator's (6.9.1)
abbrev pub body_parameters : Specifiers → ℕ → Declarator → Option ℕ
body_parameters s j d = if (s.end == j) && not s.is_typedef && is_function d.ctype then d.parameters else None

abbrev pub begins_body : File → Option ℕ → ℕ → Declared → Reading
begins_body f None i seen = ended seen endings.Uncovered
begins_body f (Some paren) i seen = ended (parameters_declared f paren i seen) (endings.Body i)

abbrev pub behind_declarator : File → ℕ → Option ℕ → ℕ → Declared → Reading
behind_declarator f to paren i seen =
    if is_assign (word_at f i) then initialised f to i seen
    else if is_open_brace (word_at f i) then begins_body f paren i seen
    else next_declarator f i seen

abbrev pub declared_again : File → ℕ → Specifiers → ℕ → Declared → Option Declarator → Reading
declared_again f to s j seen None = ended seen endings.Uncovered
declared_again f to s j seen (Some d) =
    behind_declarator f to (body_parameters s j d) (attributes_of f s d).end (name_declared f to s d seen)

-- the tags in the declarator are declared before its type is known
abbrev pub again : File → ℕ → Specifiers → ℕ → Declared → Reading
again f to s j seen = declared_again f to s j seen (declarator_in f 64 s j seen)

abbrev pub with_tags_in : File → ℕ → Specifiers → ℕ → Declared → Option Declarator → Reading
with_tags_in f to s j seen None = ended seen endings.Uncovered
with_tags_in f to s j seen (Some d) = again f to s j (tags_within f to (bodies_in f to) j (attributes_of f s d).end seen)

unfoldable pub declarator_step : File → ℕ → Specifiers → ℕ → Declared → Reading
declarator_step f to s j seen = with_tags_in f to s j seen (declarator_in f 64 s j seen)

abbrev pub unended : ℕ → Declared → Found
unended i seen = read seen endings.Uncovered

abbrev pub declarators_declared : File → ℕ → Specifiers → Declared → Found
declarators_declared f to s seen = repeated (declarator_step f to s) unended (length f.tokens) s.end seen

-- ---- declarations

abbrev pub behind_specifiers : File → ℕ → Declared → Option Specifiers → Found
behind_specifiers f to seen None = read seen endings.Uncovered
behind_specifiers f to seen (Some s) =
    if is_semicolon (word_at f s.end) then read seen (endings.Behind (s.end + 1)) else declarators_declared f to s seen

abbrev pub specified_again : File → ℕ → ℕ → Declared → Found
specified_again f to i seen = behind_specifiers f to seen (specifiers_in f 64 i seen)

abbrev pub specified : File → ℕ → ℕ → Declared → Option Specifiers → Found
specified f to i seen None = read seen endings.Uncovered
specified f to i seen (Some s) = specified_again f to i (named_tags f to (bodies_in f to) i s.end (lone_tag f to i seen))

-- The declaration at the index, in a scope that ends at the offset `to`: what is seen behind it, and where it ends.
unfoldable pub declaration_at : File → ℕ → ℕ → Declared → Found
declaration_at f to i seen = specified f to i seen (specifiers_in f 64 i seen)

abbrev pub uncovered_found : File → ℕ → ℕ → Declared → Found
uncovered_found f to i seen =
    read (hidden_by f (hiding_of i to (uncovered_at f i)) seen) (endings.Skipped (uncovered_at f i).end (uncovered_at f i).braces)

abbrev pub or_hidden : File → ℕ → ℕ → Found → Found
or_hidden f to i r = elim r.found [
  | endings.Uncovered ↦ uncovered_found f to i r.seen
  | _ ↦ r
]

-- A declaration that isn't covered hides the names in it.
abbrev pub declaration_or_hidden : File → ℕ → ℕ → Declared → Found
declaration_or_hidden f to i seen = or_hidden f to i (declaration_at f to i seen)

abbrev pub hidden_declaration : File → ℕ → ℕ → Declared → Found
hidden_declaration f to i seen = uncovered_found f to i seen
