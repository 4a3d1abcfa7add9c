-- What is found is seen, and nothing behind it is.
use Rattle.std.proofs.Common.{◌≡◌, ℕ, ◌≤◌, ◌<◌, Bool, true, false, ◌&&◌, nat_le, nat_lt, nat_eq, List, Option, Some, None, refl, sym, arith}
use Rattle.std.specs.Prelude.{MatchOption}
use Rattle.std.specs.Cmp.Lexicographic.{pointwise, same_text, other_text}
use Rattle.std.proofs.lemmas.Bool.Decides.{nat_tests}
use Rattle.c_scopes.specs.declared.declaration.NameSpace.{NameSpace}
use Rattle.c_scopes.specs.declared.declaration.Declaration.{Declaration}
use Rattle.c_scopes.specs.Seen.{IsLastSeen, IsSeenAs, NoneSeen, declares, has_name, is_seen, last_of, same_space, space_of}
use Rattle.c_scopes.proofs.LastOf.{IsLast, last_of-is_last}

same_space-is : (a b : NameSpace) → same_space a b ≡ true → a ≡ b
same_space-is NameSpace.Tag NameSpace.Tag e = refl
same_space-is NameSpace.Ordinary NameSpace.Ordinary e = refl
same_space-is NameSpace.Tag NameSpace.Ordinary e = cc
same_space-is NameSpace.Ordinary NameSpace.Tag e = cc

same_space-self : (a : NameSpace) → same_space a a ≡ true
same_space-self NameSpace.Tag = refl
same_space-self NameSpace.Ordinary = refl

and-left : (a b : Bool) → (a && b) ≡ true → a ≡ true
and-left true b e = refl
and-left false b e = e

and-right : (a b : Bool) → (a && b) ≡ true → b ≡ true
and-right true b e = e
and-right false b e = cc

and-both : (a b : Bool) → a ≡ true → b ≡ true → (a && b) ≡ true
and-both true b e f = f
and-both false b e f = e

same_name : (a b : List ℕ) → pointwise nat_eq a b ≡ true → b ≡ a
same_name a b e = sym (same_text a b (sym e))

self_name : (a : List ℕ) → pointwise nat_eq a a ≡ true
self_name a = told (pointwise nat_eq a a) refl
  where
    told : (b : Bool) → b ≡ pointwise nat_eq a a → pointwise nat_eq a a ≡ true
    told true e = sym e
    told false e = absurd (other_text a a e refl)

seen_from : (place : ℕ) (from to : ℕ) → (nat_le from place && nat_lt place to) ≡ true → from ≤ place
seen_from place from to e = let h = and-left (nat_le from place) (nat_lt place to) e in grind (arith, nat_tests)

seen_to : (place : ℕ) (from to : ℕ) → (nat_le from place && nat_lt place to) ≡ true → place < to
seen_to place from to e = let h = and-right (nat_le from place) (nat_lt place to) e in grind (arith, nat_tests)

seen_within : (place : ℕ) (from to : ℕ) → from ≤ place → place < to → (nat_le from place && nat_lt place to) ≡ true
seen_within place from to f t = and-both (nat_le from place) (nat_lt place to) (grind (arith, nat_tests)) (grind (arith, nat_tests))

-- the space and the name of a declaration that has the name
pub name_of : (space : NameSpace) (name : List ℕ) (d : Declaration) → has_name space name d ≡ true → (space_of d.entity ≡ space) × (d.name ≡ name)
name_of space name d named = (
  same_space-is (space_of d.entity) space (and-left (same_space (space_of d.entity) space) (pointwise nat_eq name d.name) named),
  same_name name d.name (and-right (same_space (space_of d.entity) space) (pointwise nat_eq name d.name) named),
)

pub own_name : (d : Declaration) → has_name (space_of d.entity) d.name d ≡ true
own_name d = and-both (same_space (space_of d.entity) (space_of d.entity)) (pointwise nat_eq d.name d.name) (same_space-self (space_of d.entity)) (self_name d.name)

pub seen_as : (space : NameSpace) (name : List ℕ) (place : ℕ) (d : Declaration) → declares space name place d ≡ true → IsSeenAs space name place d
seen_as space name place d e =
    let named = and-left (has_name space name d) (is_seen place d.seen) e in
    let seen = and-right (has_name space name d) (is_seen place d.seen) e in
    record {
      is_space = (name_of space name d named).0;
      is_name = (name_of space name d named).1;
      from = seen_from place d.seen.from d.seen.to seen;
      to = seen_to place d.seen.from d.seen.to seen;
    }

declares_from : (space : NameSpace) (name : List ℕ) (place : ℕ) (d : Declaration) → IsSeenAs space name place d → declares space name place d ≡ true
declares_from space name place d h =
    and-both (has_name space name d) (is_seen place d.seen)
    (and-both (same_space (space_of d.entity) space) (pointwise nat_eq name d.name)
    (rw h.is_space (same_space-self space))
    (rw h.is_name (self_name name)))
    (seen_within place d.seen.from d.seen.to h.from h.to)

pub not_seen_as : (space : NameSpace) (name : List ℕ) (place : ℕ) (d : Declaration) → declares space name place d ≡ false → IsSeenAs space name place d → ⊥
not_seen_as space name place d e h = let yes = declares_from space name place d h in cc

as_last_seen : (space : NameSpace) (name : List ℕ) (place : ℕ) (ds : List Declaration) (found : Option Declaration)
    → MatchOption found (NoneSeen space name place ds) (IsLast (IsSeenAs space name place) (λ d. IsSeenAs space name place d → ⊥) ds)
    → MatchOption found (NoneSeen space name place ds) (IsLastSeen space name place ds)
as_last_seen space name place ds None h = h
as_last_seen space name place ds (Some d) h = record { before = h.before; behind = h.behind; among = h.among; seen = h.passes; last = h.last }

pub is_last_seen : (space : NameSpace) (name : List ℕ) (place : ℕ) (ds : List Declaration) (found : Option Declaration)
    → found ≡ last_of (declares space name place) ds
    → MatchOption found (NoneSeen space name place ds) (IsLastSeen space name place ds)
is_last_seen space name place ds found e =
    as_last_seen space name place ds found
    (rw e (last_of-is_last (IsSeenAs space name place) (λ d. IsSeenAs space name place d → ⊥) (declares space name place) (seen_as space name place) (not_seen_as space name place) ds))
