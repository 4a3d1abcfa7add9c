-- To have the same company is to have an equal one.
use Rattle.std.proofs.Common.{◌≡◌, refl, subst, List, true}
use Rattle.std.specs.Cmp.Lexicographic.{pointwise_decides}
use Rattle.asm_core.specs.Company.{company_of, same_held, same_company}
use Rattle.asm_core.specs.declared.sym.Place.{Place}
use Rattle.asm_core.specs.declared.company.Places.{Places}
use Rattle.asm_core.specs.declared.company.Held.{Held}

pub held_is : (h k : Held) → same_held h k ≡ true → h ≡ k
held_is Held.Nothing Held.Nothing e = refl
held_is Held.All Held.All e = refl
held_is Held.Low Held.Low e = refl
held_is Held.High Held.High e = refl
held_is Held.Nothing Held.All e = cc
held_is Held.Nothing Held.Low e = cc
held_is Held.Nothing Held.High e = cc
held_is Held.All Held.Nothing e = cc
held_is Held.All Held.Low e = cc
held_is Held.All Held.High e = cc
held_is Held.Low Held.Nothing e = cc
held_is Held.Low Held.All e = cc
held_is Held.Low Held.High e = cc
held_is Held.High Held.Nothing e = cc
held_is Held.High Held.All e = cc
held_is Held.High Held.Low e = cc

pub held_self : (h : Held) → same_held h h ≡ true
held_self Held.Nothing = refl
held_self Held.All = refl
held_self Held.Low = refl
held_self Held.High = refl

-- the words of a company are compared one by one
held_decides : (h k : Held) → (same_held h k ≡ true → h ≡ k) × (h ≡ k → same_held h k ≡ true)
held_decides h k = (held_is h k, λ e. subst (λ x. same_held h x ≡ true) e (held_self h))

-- So two places have the same company exactly where the lists are equal: sameness is an equality, and so transitive.
pub company_is : (p q : Place) (xs ys : List Places) → same_company p xs q ys ≡ true → company_of p xs ≡ company_of q ys
unfolding same_company
company_is p q xs ys e = (pointwise_decides held_decides (company_of p xs) (company_of q ys)).0 e

pub company_same : (p q : Place) (xs ys : List Places) → company_of p xs ≡ company_of q ys → same_company p xs q ys ≡ true
unfolding same_company
company_same p q xs ys e = (pointwise_decides held_decides (company_of p xs) (company_of q ys)).1 e
