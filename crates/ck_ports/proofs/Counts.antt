-- Counts of faults over several calls.
use Rattle.std.proofs.Common.{◌≡◌, ◌⊎◌, inl, inr, ℕ, ◌≤◌, List, Bool, IsTrue, sym, ◌∙◌, subst, ap, arith}
use Rattle.ck_ports.specs.Faults.{Faults, Rose, RisesAt, CountsAt}

-- a count that has risen stays risen
pub rose_still : (a b c : ℕ) → Rose a b → b ≤ c → Rose a c
rose_still a b c (inl lt) le = inl (omega arith)
rose_still a b c (inr top) le = inr (omega arith)

-- a rise before a call that counts at the same name
pub rises_still : (tells : Bool) (name : List ℕ) (a b c : Faults) → RisesAt tells name a b → CountsAt tells name b c → RisesAt tells name a c
rises_still tells name a b c rises counts = record { rose = rose_still a.count b.count c.count rises.rose counts.never_falls; at_name = at_name }
  where
    at_name : IsTrue tells → c.name ≡ name
    at_name told = elim counts.either [
      | inl same ↦ ap (λ (f : Faults). f.name) same ∙ rises.at_name told
      | inr later ↦ later.at_name told
    ]

-- two calls that count at one name
pub counts_both : (tells : Bool) (name : List ℕ) (a b c : Faults) → CountsAt tells name a b → CountsAt tells name b c → CountsAt tells name a c
counts_both tells name a b c first then =
    record { never_falls = omega (arith, first.never_falls, then.never_falls); either = either }
  where
    either : (c ≡ a) ⊎ RisesAt tells name a c
    either = elim first.either [
      | inl same ↦ subst (λ f. (c ≡ f) ⊎ RisesAt tells name f c) same then.either
      | inr rises ↦ inr (rises_still tells name a b c rises then)
    ]

-- the same rise where names are told by another that is the same
pub rises_named : (tells t : Bool) (name n : List ℕ) (a b : Faults) → t ≡ tells → (IsTrue tells → n ≡ name) → RisesAt t n a b → RisesAt tells name a b
rises_named tells t name n a b same_tells same_name rises = record {
  rose = rises.rose;
  at_name = λ told. rises.at_name (subst IsTrue (sym same_tells) told) ∙ same_name told;
}

-- and the same counting
pub counts_named : (tells t : Bool) (name n : List ℕ) (a b : Faults) → t ≡ tells → (IsTrue tells → n ≡ name) → CountsAt t n a b → CountsAt tells name a b
counts_named tells t name n a b same_tells same_name counts = record { never_falls = counts.never_falls; either = either }
  where
    either : (b ≡ a) ⊎ RisesAt tells name a b
    either = elim counts.either [
      | inl same ↦ inl same
      | inr rises ↦ inr (rises_named tells t name n a b same_tells same_name rises)
    ]
