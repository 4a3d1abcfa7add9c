-- Where all of some things are alike, so are those of fewer: to be alike is an equality, and the first is compared with
-- each other one.
use Rattle.std.proofs.Common.{◌≡◌, inl, inr, ℕ, ◌==◌, ◌&&◌, ◌||◌, not, List, [], ◌∷◌, slice_get, Bool, true, false, Option, None, Some, option_map, refl, sym, ap, subst, ◌∙◌}
use Rattle.std.specs.Cmp.{IsEquivalence}
use Rattle.std.specs.List.{list_any}
use Rattle.std.proofs.lemmas.Bool.{and_parts, and_from, eqb-true, eq-eqb}
use Rattle.std.proofs.lemmas.Option.{slice_get-map}
use Rattle.asm_core.specs.Lists.{IsMember, count_from}
use Rattle.asm_core.specs.Company.{places_of, all_places, company_of, same_in_register, same_companies, same_if_there}
use Rattle.asm_core.specs.Reading.Chosen.{width_bytes, same_width}
use Rattle.asm_core.specs.contracts.inst.OpEq.TheImpl.Laws.{laws-law}
use Rattle.asm_core.specs.declared.reg.Reg.{Reg}
use Rattle.asm_core.specs.declared.sym.Place.{Place}
use Rattle.asm_core.specs.declared.sym.Sym.{Sym}
use Rattle.asm_core.specs.declared.company.Held.{Held}
use Rattle.asm_core.specs.declared.company.Places.{Places}
use Rattle.asm_core.specs.declared.shape.Shape.{Shape}
use Rattle.asm_core.specs.declared.interface.Interface.{Interface}
use Rattle.asm_core.proofs.CompanyLaws.{company_is, company_same}
use Rattle.blk_check.specs.Readable.{same_op, read_alike}

-- ---- the first and each other one

module _ {A : Type 0} (Same : A → A → Bool) where
  abbrev pub differs : List A → Bool
  differs [] = false
  differs (x ∷ xs) = list_any (λ y. not (Same x y)) xs

  each_same : (x : A) (xs : List A) → list_any (λ y. not (Same x y)) xs ≡ false → (z : A) → IsMember z xs
      → Same x z ≡ true
  each_same x [] none z member = absurd member
  each_same x (y ∷ ys) none z member =
      by (λ others later. each_same x ys others z later) (Same x y) refl
      (subst (λ b. (not b || list_any (λ w. not (Same x w)) ys) ≡ false) refl none) member
    where
      by : (list_any (λ w. not (Same x w)) ys ≡ false → IsMember z ys → Same x z ≡ true) → (b : Bool) → Same x y ≡ b
          → (not b || list_any (λ w. not (Same x w)) ys) ≡ false → IsMember z (y ∷ ys) → Same x z ≡ true
      by rest true e others (inl same) = ap (Same x) same ∙ e
      by rest true e others (inr later) = rest others later
      by rest false e others m = cc

  none_differ : (x : A) (xs : List A) → ((z : A) → IsMember z xs → Same x z ≡ true)
      → list_any (λ y. not (Same x y)) xs ≡ false
  none_differ x [] each = refl
  none_differ x (y ∷ ys) each = rw (each y (inl refl)) (none_differ x ys (λ z member. each z (inr member)))

  module _ (is : IsEquivalence Same) where
    all_same : (xs : List A) → differs xs ≡ false → (y z : A) → IsMember y xs → IsMember z xs → Same y z ≡ true
    all_same [] none y z first second = absurd first
    all_same (x ∷ xs) none y z first second = sym (is.congr x y z (to y first)) ∙ to z second
      where
        to : (w : A) → IsMember w (x ∷ xs) → Same x w ≡ true
        to w (inl same) = ap (Same x) same ∙ is.refl x
        to w (inr later) = each_same x xs none w later

    pub fewer_alike : (xs ys : List A) → ((z : A) → IsMember z ys → IsMember z xs) → differs xs ≡ false
        → differs ys ≡ false
    fewer_alike xs [] within none = refl
    fewer_alike xs (y ∷ ys) within none =
        none_differ y ys (λ z member. all_same xs none y z (within y (inl refl)) (within z (inr member)))

-- to have the same of something is an equivalence
pub kernel : {A B : Type 0} (f : A → B) (Same : A → A → Bool) → ((x y : A) → Same x y ≡ true → f x ≡ f y)
    → ((x y : A) → f x ≡ f y → Same x y ≡ true) → IsEquivalence Same
kernel f Same is same = record {
  refl = λ x. same x x refl;
  symm = λ x y. both (Same x y) (Same y x) (λ e. same y x (sym (is x y e))) (λ e. same x y (sym (is y x e)));
  congr = λ x y z e. both (Same x z) (Same y z) (λ g. same y z (sym (is x y e) ∙ is x z g))
      (λ g. same x z (is x y e ∙ is y z g));
}
  where
    both : (a b : Bool) → (a ≡ true → b ≡ true) → (b ≡ true → a ≡ true) → a ≡ b
    both true b up down = sym (up refl)
    both false true up down = down refl
    both false false up down = refl

-- ---- companies

pub register_alike : (i : Interface) (r : Reg)
    → IsEquivalence (λ s t. same_in_register r (all_places i s) (all_places i t))
register_alike i r =
    kernel (λ s. company_of (Place.Reg r) (all_places i s))
    (λ s t. same_in_register r (all_places i s) (all_places i t))
    (λ s t. company_is (Place.Reg r) (Place.Reg r) (all_places i s) (all_places i t))
    (λ s t. company_same (Place.Reg r) (Place.Reg r) (all_places i s) (all_places i t))

-- the companies of an operand that is there
abbrev companies_of : List Places → Places → List (List Held)
companies_of xs (Places.One p) = company_of p xs ∷ []
companies_of xs Places.Pair = company_of (Place.Reg Reg.Eax) xs ∷ company_of (Place.Reg Reg.Edx) xs ∷ []

first_is : {A : Type 0} (x y : A) (xs ys : List A) → x ∷ xs ≡ y ∷ ys → x ≡ y
first_is x y xs ys e = cc

second_is : {A : Type 0} (x y : A) (xs ys : List A) → x ∷ xs ≡ y ∷ ys → xs ≡ ys
second_is x y xs ys e = cc

companies_are : (xs ys : List Places) (x y : Places) → same_companies xs ys x y ≡ true
    → companies_of xs x ≡ companies_of ys y
companies_are xs ys (Places.One p) (Places.One q) e = ap (λ c. c ∷ []) (company_is p q xs ys e)
companies_are xs ys Places.Pair Places.Pair e =
    let parts = and_parts (same_in_register Reg.Eax xs ys) (same_in_register Reg.Edx xs ys) e in
    ap (λ c. c ∷ company_of (Place.Reg Reg.Edx) xs ∷ [])
    (company_is (Place.Reg Reg.Eax) (Place.Reg Reg.Eax) xs ys parts.0)
    ∙ ap (λ c. company_of (Place.Reg Reg.Eax) ys ∷ c ∷ [])
    (company_is (Place.Reg Reg.Edx) (Place.Reg Reg.Edx) xs ys parts.1)
companies_are xs ys (Places.One p) Places.Pair e = cc
companies_are xs ys Places.Pair (Places.One q) e = cc

companies_same : (xs ys : List Places) (x y : Places) → companies_of xs x ≡ companies_of ys y
    → same_companies xs ys x y ≡ true
companies_same xs ys (Places.One p) (Places.One q) e =
    company_same p q xs ys (first_is (company_of p xs) (company_of q ys) [] [] e)
companies_same xs ys Places.Pair Places.Pair e =
    let rest = second_is (company_of (Place.Reg Reg.Eax) xs) (company_of (Place.Reg Reg.Eax) ys)
    (company_of (Place.Reg Reg.Edx) xs ∷ []) (company_of (Place.Reg Reg.Edx) ys ∷ []) e in
    and_from (same_in_register Reg.Eax xs ys) (same_in_register Reg.Edx xs ys)
    (company_same (Place.Reg Reg.Eax) (Place.Reg Reg.Eax) xs ys
    (first_is (company_of (Place.Reg Reg.Eax) xs) (company_of (Place.Reg Reg.Eax) ys)
    (company_of (Place.Reg Reg.Edx) xs ∷ []) (company_of (Place.Reg Reg.Edx) ys ∷ []) e))
    (company_same (Place.Reg Reg.Edx) (Place.Reg Reg.Edx) xs ys
    (first_is (company_of (Place.Reg Reg.Edx) xs) (company_of (Place.Reg Reg.Edx) ys) [] [] rest))
companies_same xs ys (Places.One p) Places.Pair e =
    let rest = second_is (company_of p xs) (company_of (Place.Reg Reg.Eax) ys) []
    (company_of (Place.Reg Reg.Edx) ys ∷ []) e in
    cc
companies_same xs ys Places.Pair (Places.One q) e =
    let rest = second_is (company_of (Place.Reg Reg.Eax) xs) (company_of q ys)
    (company_of (Place.Reg Reg.Edx) xs ∷ []) [] e in
    cc

module _ (i : Interface) (k : ℕ) where
  abbrev pub same_at : Shape → Shape → Bool
  same_at s t =
      same_if_there (all_places i s) (all_places i t) (slice_get (all_places i s) k) (slice_get (all_places i t) k)

  place_at : (s : Shape)
      → slice_get (all_places i s) k ≡ option_map (places_of i s) (slice_get (count_from 0 i.operands) k)
  place_at s = slice_get-map (places_of i s) (count_from 0 i.operands) k

  by_number : (found : Option ℕ) → slice_get (count_from 0 i.operands) k ≡ found → IsEquivalence same_at
  by_number None e =
      kernel {B = ℕ} (λ s. 0) same_at (λ s t g. refl) (λ s t g.
      let here = place_at s ∙ ap (option_map (places_of i s)) e in
      rw here refl)
  by_number (Some n) e =
      kernel (λ s. companies_of (all_places i s) (places_of i s n)) same_at
      (λ s t g. companies_are (all_places i s) (all_places i t) (places_of i s n) (places_of i t n)
      (sym (made s t) ∙ g))
      (λ s t g. made s t ∙ companies_same (all_places i s) (all_places i t) (places_of i s n) (places_of i t n) g)
    where
      there : (s : Shape) → slice_get (all_places i s) k ≡ Some (places_of i s n)
      there s = place_at s ∙ ap (option_map (places_of i s)) e

      made : (s t : Shape)
          → same_at s t ≡ same_companies (all_places i s) (all_places i t) (places_of i s n) (places_of i t n)
      made s t =
          ap (λ o. same_if_there (all_places i s) (all_places i t) o (slice_get (all_places i t) k)) (there s)
          ∙ ap (same_if_there (all_places i s) (all_places i t) (Some (places_of i s n))) (there t)

  pub operand_alike : IsEquivalence same_at
  operand_alike = by_number (slice_get (count_from 0 i.operands) k) refl

-- ---- readings

width_same : (v w u : Sym) → same_width v.width w.width ≡ true → same_width v.width u.width ≡ same_width w.width u.width
width_same v w u e = ap (λ n. n == width_bytes u.width) (eqb-true (width_bytes v.width) (width_bytes w.width) e)

pub read_alike_is : IsEquivalence read_alike
read_alike_is = record { refl = itself; symm = turned; congr = onward }
  where
    itself : (o : Option Sym) → read_alike o o ≡ true
    itself None = refl
    itself (Some a) =
        and_from (same_op a.op a.op) (same_width a.width a.width) (laws-law.refl a.op)
        (eq-eqb (width_bytes a.width) (width_bytes a.width) refl)

    both : (a b : Bool) → (a ≡ true → b ≡ true) → (b ≡ true → a ≡ true) → a ≡ b
    both true b up down = sym (up refl)
    both false true up down = down refl
    both false false up down = refl

    swapped : (m n : ℕ) → (m == n) ≡ (n == m)
    swapped m n =
        both (m == n) (n == m) (λ e. eq-eqb n m (sym (eqb-true m n e))) (λ e. eq-eqb m n (sym (eqb-true n m e)))

    turned : (o p : Option Sym) → read_alike o p ≡ read_alike p o
    turned None None = refl
    turned None (Some b) = refl
    turned (Some a) None = refl
    turned (Some a) (Some b) =
        ap (λ t. t && same_width a.width b.width) (laws-law.symm a.op b.op)
        ∙ ap (λ t. same_op b.op a.op && t) (swapped (width_bytes a.width) (width_bytes b.width))

    onward : (o p q : Option Sym) → read_alike o p ≡ true → read_alike o q ≡ read_alike p q
    onward None None q e = refl
    onward None (Some b) q e = cc
    onward (Some a) None q e = cc
    onward (Some a) (Some b) None e = refl
    onward (Some a) (Some b) (Some d) e =
        let parts = and_parts (same_op a.op b.op) (same_width a.width b.width) e in
        ap (λ t. t && same_width a.width d.width) (laws-law.congr a.op b.op d.op parts.0)
        ∙ ap (λ t. same_op b.op d.op && t) (width_same a b d parts.1)
