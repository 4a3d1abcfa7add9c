-- What is noted for each name.
use Rattle.std.specs.Prelude.{ℕ, nat_eq, List, unwrap_or, Vec}
use Rattle.std.specs.declared.hash.FoldHasher.{FoldHasher}
use Rattle.std.specs.declared.hash.BuildHasherDefault.{BuildHasherDefault}
use Rattle.std.specs.declared.alloc.Global.{Global}
use Rattle.std.specs.HashMap.{HashMap, get_by}
use Rattle.std.specs.Cmp.Lexicographic.{pointwise}
use Rattle.c_scopes.specs.declared.declaration.NameSpace.{NameSpace}
use Rattle.c_scopes.specs.declared.heads.Heads.{Heads}

abbrev pub Counts : Type 0
Counts = HashMap (Vec ℕ Global) ℕ (BuildHasherDefault FoldHasher)

-- 0 for a name that isn't in the map
abbrev pub count_in : Counts → List ℕ → ℕ
count_in counts name = unwrap_or (get_by (λ key. pointwise nat_eq name key.items) counts) 0

-- how many declarations there are up to the last one of the name
abbrev pub head_of : Heads → NameSpace → List ℕ → ℕ
head_of heads NameSpace.Tag name = count_in heads.tags name
head_of heads NameSpace.Ordinary name = count_in heads.ordinary name
