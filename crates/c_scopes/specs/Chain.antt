-- The chains of declarations of one name along which a look-up goes back: this project's own.
use Rattle.std.specs.Prelude.{◌≡◌, ℕ, ◌+◌, ◌-◌, ◌≤◌, ◌<◌, Bool, true, ◌||◌, nat_le, nat_lt, List, length, take, Some, slice_get}
use Rattle.c_scopes.specs.declared.declaration.NameSpace.{NameSpace}
use Rattle.c_scopes.specs.declared.declaration.Declaration.{Declaration}
use Rattle.c_scopes.specs.declared.chain.Run.{Run}
use Rattle.c_scopes.specs.declared.chain.Link.{Link}
use Rattle.c_scopes.specs.declared.index.Index.{Index}
use Rattle.c_scopes.specs.Seen.{declares, has_name, last_of, space_of}
use Rattle.c_scopes.specs.Head.{head_of}

abbrev pub always : ℕ → Type 0
always place = Unit {0}

-- No declaration of the run is seen at the place.
abbrev pub is_outside : Run → ℕ → Bool
is_outside run place = nat_lt place run.earliest || nat_le run.latest place

abbrev pub Outside : Run → ℕ → Type 0
Outside run place = is_outside run place ≡ true

-- At these places a look-up of the name among the first `from` may go on with the first `to`, the last of which has the name.
pub record LeadsTo (ds : List Declaration) (space : NameSpace) (name : List ℕ) (At : ℕ → Type 0) (from to : ℕ) : Type 0 where
  pub back : to ≤ from
  pub own : (d : Declaration) → 0 < to → slice_get ds (to - 1) ≡ Some d → has_name space name d ≡ true
  pub none_between : (place : ℕ) → At place → last_of (declares space name place) (take from ds) ≡ last_of (declares space name place) (take to ds)

-- the link of the declaration at k
pub record IsLink (ds : List Declaration) (k : ℕ) (d : Declaration) (l : Link) : Type 0 where
  pub before : LeadsTo ds (space_of d.entity) d.name always k l.before
  pub run : LeadsTo ds (space_of d.entity) d.name (Outside l.run) (k + 1) l.run.before
  pub back : l.run.before ≤ k
  pub fits : l.run.length + l.run.before ≤ k + 1

pub record IsLinked (ds : List Declaration) (ls : List Link) : Type 0 where
  pub each : length ls ≡ length ds
  pub links : (k : ℕ) (d : Declaration) (l : Link) → slice_get ds k ≡ Some d → slice_get ls k ≡ Some l → IsLink ds k d l

-- From the end a look-up leads to what is noted for the name.
abbrev pub AreHeads : List Declaration → (NameSpace → List ℕ → ℕ) → Type 0
AreHeads ds head = (space : NameSpace) (name : List ℕ) → LeadsTo ds space name always (length ds) (head space name)

pub record IsIndex (x : Index) : Type 0 where
  pub linked : IsLinked x.declarations.items x.links.items
  pub heads : AreHeads x.declarations.items (head_of x.heads)
