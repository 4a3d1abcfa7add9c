-- Which declaration a name has at a place of the file: C11 6.2.1 (scopes) and 6.2.3 (name spaces).
use Rattle.std.specs.Prelude.{◌≡◌, ℕ, ◌≤◌, ◌<◌, Bool, true, false, ◌&&◌, nat_le, nat_lt, nat_eq, List, [], ◌∷◌, ◌++◌, All, find, reverse, Option, Some, None}
use Rattle.std.specs.Cmp.Lexicographic.{pointwise}
use Rattle.std.specs.Option.{option_and_then}
use Rattle.asm_core.specs.declared.span.Span.{Span}
use Rattle.c_types.specs.declared.ctype.CType.{CType}
use Rattle.c_types.specs.declared.tag.Tag.{Tag}
use Rattle.c_types.specs.declared.tag.Tags.{Tags}
use Rattle.c_scopes.specs.declared.declaration.NameKind.{NameKind}
use Rattle.c_scopes.specs.declared.declaration.Entity.{Entity}
use Rattle.c_scopes.specs.declared.declaration.NameSpace.{NameSpace}
use Rattle.c_scopes.specs.declared.declaration.Declaration.{Declaration}

-- the declarations of a file in their order, and its structs and unions
pub record Declared : Type 0 where
  pub declarations : List Declaration
  pub tags : Tags

abbrev pub no_declarations : Declared
no_declarations = record { declarations = []; tags = record { list = [] } }

-- with one more declaration, behind the others
abbrev pub with_declaration : Declaration → Declared → Declared
with_declaration d declared = record { declarations = declared.declarations ++ d ∷ []; tags = declared.tags }

abbrev pub with_tags : List Tag → Declared → Declared
with_tags tags declared = record { declarations = declared.declarations; tags = record { list = tags } }

-- ---- which declaration a name has

abbrev pub space_of : Entity → NameSpace
space_of Entity.Tag = NameSpace.Tag
space_of (Entity.Name kind) = NameSpace.Ordinary

abbrev pub same_space : NameSpace → NameSpace → Bool
same_space NameSpace.Tag NameSpace.Tag = true
same_space NameSpace.Ordinary NameSpace.Ordinary = true
same_space _ _ = false

abbrev pub has_name : NameSpace → List ℕ → Declaration → Bool
has_name space name d = same_space (space_of d.entity) space && pointwise nat_eq name d.name

abbrev pub is_seen : ℕ → Span → Bool
is_seen place seen = nat_le seen.from place && nat_lt place seen.to

abbrev pub declares : NameSpace → List ℕ → ℕ → Declaration → Bool
declares space name place d = has_name space name d && is_seen place d.seen

-- the last that passes the test
abbrev pub last_of : {A : Type 0} → (A → Bool) → List A → Option A
last_of test xs = find test (reverse xs)

-- An inner scope ends before the outer one and begins behind it, and what it declares hides what the outer one does (C11 6.2.1, 4): so the last that is seen counts.
abbrev pub declaration_of : Declared → NameSpace → List ℕ → ℕ → Option Declaration
declaration_of declared space name place = last_of (declares space name place) declared.declarations

-- the type of an ordinary name
abbrev pub visible_type : Declared → List ℕ → ℕ → Option CType
visible_type declared name place =
    option_and_then (λ (d : Declaration). d.ctype) (declaration_of declared NameSpace.Ordinary name place)

abbrev kind_in : Entity → Option NameKind
kind_in (Entity.Name kind) = Some kind
kind_in Entity.Tag = None

-- what an ordinary name stands for
abbrev pub kind_of : Declared → List ℕ → ℕ → Option NameKind
kind_of declared name place =
    option_and_then (λ (d : Declaration). kind_in d.entity) (declaration_of declared NameSpace.Ordinary name place)

-- the type that a tag names
abbrev pub tag_type : Declared → List ℕ → ℕ → Option CType
tag_type declared tag place =
    option_and_then (λ (d : Declaration). d.ctype) (declaration_of declared NameSpace.Tag tag place)

-- ---- what that says

-- the name is declared so, and the place lies in the scope
pub record IsSeenAs (space : NameSpace) (name : List ℕ) (place : ℕ) (d : Declaration) : Type 0 where
  pub is_space : space_of d.entity ≡ space
  pub is_name : d.name ≡ name
  pub from : d.seen.from ≤ place
  pub to : place < d.seen.to

abbrev pub NoneSeen : NameSpace → List ℕ → ℕ → List Declaration → Type 0
NoneSeen space name place ds = All (λ d. IsSeenAs space name place d → ⊥) ds

-- one of the list that is seen so, and none behind it is
pub record IsLastSeen (space : NameSpace) (name : List ℕ) (place : ℕ) (ds : List Declaration) (d : Declaration) : Type 0 where
  pub before : List Declaration
  pub behind : List Declaration
  pub among : ds ≡ before ++ d ∷ behind
  pub seen : IsSeenAs space name place d
  pub last : NoneSeen space name place behind
