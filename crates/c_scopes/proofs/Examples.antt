-- Worked examples: `typedef enum T T; void f(void) { enum { T = 7 } x; }`, each name seen from where C11 6.2.1, 7 says.
use Rattle.std.proofs.Common.{◌≡◌, ℕ, List, [], ◌∷◌, Option, Some, None, pos, refl}
use Rattle.std.specs.Prelude.{codes}
use Rattle.c_types.specs.declared.ctype.CType.{CType, Enumeration, Unknown}
use Rattle.c_scopes.specs.declared.declaration.NameKind.{NameKind}
use Rattle.c_scopes.specs.declared.declaration.Entity.{Entity}
use Rattle.c_scopes.specs.declared.declaration.NameSpace.{NameSpace}
use Rattle.c_scopes.specs.declared.declaration.Declaration.{Declaration}
use Rattle.c_scopes.specs.Seen.{Declared, declaration_of, kind_of, tag_type, visible_type}

abbrev declared : List ℕ → Entity → Option CType → ℕ → ℕ → Declaration
declared name entity ctype from to = record { name = name; entity = entity; ctype = ctype; seen = record { from = from; to = to } }

abbrev tag : Declaration
tag = declared (codes "T") Entity.Tag (Some Enumeration) 14 90

abbrev synonym : Declaration
synonym = declared (codes "T") (Entity.Name NameKind.Typedef) (Some Enumeration) 16 90

abbrev function : Declaration
function = declared (codes "f") (Entity.Name NameKind.Other) (Some Unknown) 24 90

abbrev constant : Declaration
constant = declared (codes "T") (Entity.Name (NameKind.Constant (Some (pos 7)))) (Some Unknown) 48 54

abbrev object : Declaration
object = declared (codes "x") (Entity.Name NameKind.Other) None 52 54

abbrev file : Declared
file = record { declarations = tag ∷ synonym ∷ function ∷ constant ∷ object ∷ []; tags = record { list = [] } }

-- nothing is seen before its declaration
before : declaration_of file NameSpace.Ordinary (codes "T") 15 ≡ None
before = refl

-- The tag is seen from its own end on, and it is no ordinary name.
tag_first : declaration_of file NameSpace.Tag (codes "T") 14 ≡ Some tag
tag_first = refl

then_synonym : kind_of file (codes "T") 16 ≡ Some NameKind.Typedef
then_synonym = refl

just_before : kind_of file (codes "T") 47 ≡ Some NameKind.Typedef
just_before = refl

-- the inner name hides the outer one
hidden : kind_of file (codes "T") 48 ≡ Some (NameKind.Constant (Some (pos 7)))
hidden = refl

inner_type : visible_type file (codes "T") 53 ≡ Some Unknown
inner_type = refl

-- A tag of the same spelling isn't hidden by an ordinary name.
tag_stays : tag_type file (codes "T") 53 ≡ Some Enumeration
tag_stays = refl

-- where the inner scope has ended, the outer name is seen again
again : visible_type file (codes "T") 54 ≡ Some Enumeration
again = refl

-- a declaration without a type
untyped : visible_type file (codes "x") 53 ≡ None
untyped = refl

its_kind : kind_of file (codes "x") 53 ≡ Some NameKind.Other
its_kind = refl

ended : kind_of file (codes "x") 54 ≡ None
ended = refl

at_end : kind_of file (codes "f") 90 ≡ None
at_end = refl

not_a_tag : tag_type file (codes "f") 30 ≡ None
not_a_tag = refl

other_name : kind_of file (codes "TT") 53 ≡ None
other_name = refl
