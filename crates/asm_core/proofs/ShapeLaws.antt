-- What each shape of an interface is made of.
use Rattle.std.proofs.Common.{◌≡◌, ◌⊎◌, inl, inr, ℕ, zero, suc, ◌+◌, ◌<◌, List, [], ◌∷◌, ◌++◌, length, map, Option, None, Some, slice_get, option_to_list, refl, sym, ap, subst, ◌∙◌, length-append, arith}
use Rattle.std.specs.List.{flat_map}
use Rattle.asm_core.specs.Lists.{count_from, IsMember}
use Rattle.asm_core.specs.Shape.{letter_kinds, kinds_after, kind_lists, alternative_of, alternatives_of, shapes_of}
use Rattle.asm_core.specs.WellFormed.{IsInterface}
use Rattle.asm_core.specs.declared.shape.Kind.{Kind}
use Rattle.asm_core.specs.declared.shape.Shape.{Shape}
use Rattle.asm_core.specs.declared.interface.AltIface.{AltIface}
use Rattle.asm_core.specs.declared.interface.OperandIface.{OperandIface}
use Rattle.asm_core.specs.declared.interface.Interface.{Interface}

-- ---- members of lists

member_append : {A : Type 0} (x : A) (xs ys : List A) → IsMember x (xs ++ ys) → IsMember x xs ⊎ IsMember x ys
member_append x [] ys m = inr m
member_append x (y ∷ xs) ys m = elim m [
  | inl e ↦ inl (inl e)
  | inr n ↦ elim (member_append x xs ys n) [ inl a ↦ inl (inr a) | inr b ↦ inr b ]
]

record IsFrom {A B : Type 0} (f : A → List B) (y : B) (xs : List A) : Type 0 where
  from : A
  member : IsMember from xs
  here : IsMember y (f from)

from_flat : {A B : Type 0} (f : A → List B) (y : B) (xs : List A) → IsMember y (flat_map f xs) → IsFrom f y xs
from_flat f y [] m = absurd m
from_flat f y (x ∷ xs) m = elim (member_append y (f x) (flat_map f xs) m) [
  | inl a ↦ record { from = x; member = inl refl; here = a }
  | inr b ↦ let r = from_flat f y xs b in record { from = r.from; member = inr r.member; here = r.here }
]

record IsImage {A B : Type 0} (f : A → B) (y : B) (xs : List A) : Type 0 where
  from : A
  member : IsMember from xs
  image : y ≡ f from

from_map : {A B : Type 0} (f : A → B) (y : B) (xs : List A) → IsMember y (map f xs) → IsImage f y xs
from_map f y [] m = absurd m
from_map f y (x ∷ xs) m = elim m [
  | inl e ↦ record { from = x; member = inl refl; image = e }
  | inr n ↦ let r = from_map f y xs n in record { from = r.from; member = inr r.member; image = r.image }
]

-- ---- kinds of operands

append_inside : {A : Type 0} (xs ys : List A) (k : ℕ) (x : A) → slice_get xs k ≡ Some x → slice_get (xs ++ ys) k ≡ Some x
append_inside [] ys k x h = cc
append_inside (y ∷ xs) ys zero x h = h
append_inside (y ∷ xs) ys (suc k) x h = append_inside xs ys k x h

append_last : {A : Type 0} (xs : List A) (y : A) (ys : List A) → slice_get (xs ++ y ∷ ys) (length xs) ≡ Some y
append_last [] y ys = refl
append_last (x ∷ xs) y ys = append_last xs y ys

-- the kind that stands at an operand: one of its letters', or that of its output
pub record IsKindFor (kinds : List Kind) (n : ℕ) (alt : AltIface) : Type 0 where
  pub kind : Kind
  pub here : slice_get kinds n ≡ Some kind
  pub untied : alt.tied ≡ None → IsMember kind (letter_kinds alt)
  pub tied : (t : ℕ) → alt.tied ≡ Some t → slice_get kinds t ≡ Some kind

record IsKinds (before : List Kind) (alts : List AltIface) (kinds : List Kind) : Type 0 where
  begins : (k : ℕ) (x : Kind) → slice_get before k ≡ Some x → slice_get kinds k ≡ Some x
  each : (j n : ℕ) (alt : AltIface) → slice_get alts j ≡ Some alt → n ≡ length before + j → IsKindFor kinds n alt

in_option : {A : Type 0} (o : Option A) (x : A) → IsMember x (option_to_list o) → o ≡ Some x
in_option None x m = absurd m
in_option (Some y) x m = elim m [ inl e ↦ ap Some (sym e) | inr n ↦ absurd n ]

kind_for : (before kinds : List Kind) (alt : AltIface) (kind : Kind) (n : ℕ) → IsMember kind (kinds_after before alt) → ((k : ℕ) (x : Kind) → slice_get before k ≡ Some x → slice_get kinds k ≡ Some x)
    → slice_get kinds n ≡ Some kind → IsKindFor kinds n alt
kind_for before kinds alt kind n m begins here = record {
  kind = kind;
  here = here;
  untied = λ none. subst (IsMember kind) (ap by_tie none) m;
  tied = λ t some. begins t kind (in_option (slice_get before t) kind (subst (IsMember kind) (ap by_tie some) m));
}
  where
    by_tie : Option ℕ → List Kind
    by_tie t = elim t [ None ↦ letter_kinds alt | Some k ↦ option_to_list (slice_get before k) ]

kinds_of : (before : List Kind) (alts : List AltIface) (kinds : List Kind) → IsMember kinds (kind_lists before alts) → IsKinds before alts kinds
kinds_of before [] kinds m = elim m [
  | inl e ↦ record { begins = λ k x h. ap (λ l. slice_get l k) e ∙ h; each = λ j n alt is at. cc }
  | inr n ↦ absurd n
]
kinds_of before (alt ∷ alts) kinds m =
    let f = from_flat (λ kind. kind_lists (before ++ kind ∷ []) alts) kinds (kinds_after before alt) m in
    let rest = kinds_of (before ++ f.from ∷ []) alts kinds f.here in
    let begins : (k : ℕ) (x : Kind) → slice_get before k ≡ Some x → slice_get kinds k ≡ Some x = λ k x h. rest.begins k x (append_inside before (f.from ∷ []) k x h) in
    record { begins = begins; each = at f.from f.member begins rest }
  where
    at : (kind : Kind) → IsMember kind (kinds_after before alt) → ((k : ℕ) (x : Kind) → slice_get before k ≡ Some x → slice_get kinds k ≡ Some x) → IsKinds (before ++ kind ∷ []) alts kinds
        → (j n : ℕ) (a : AltIface) → slice_get (alt ∷ alts) j ≡ Some a → n ≡ length before + j → IsKindFor kinds n a
    at kind member begins rest zero n a is place =
        let same : alt ≡ a = cc in
        let here : n ≡ length before = omega arith in
        subst (IsKindFor kinds n) same (kind_for before kinds alt kind n member begins (ap (slice_get kinds) here ∙ rest.begins (length before) kind (append_last before kind [])))
    at kind member begins rest (suc j) n a is place =
        let long : length (before ++ kind ∷ []) ≡ length before + 1 = length-append before (kind ∷ []) in
        rest.each j n a is (omega arith)

-- ---- alternatives

pub inside_get : {A : Type 0} (xs : List A) (k : ℕ) → k < length xs → (x : A) × (slice_get xs k ≡ Some x)
inside_get [] k lt = absurd (omega arith)
inside_get (x ∷ xs) zero lt = (x, refl)
inside_get (x ∷ xs) (suc k) lt = inside_get xs k (let below : k < length xs = omega arith in below)

counted : {A : Type 0} (xs : List A) (n a : ℕ) → IsMember a (count_from n xs) → a < n + length xs
counted [] n a m = absurd m
counted (x ∷ xs) n a m = elim m [
  | inl e ↦ omega arith
  | inr m ↦ let lt = counted xs (n + 1) a m in omega arith
]

alternative_at : (os : List OperandIface) (a : ℕ) → ((k : ℕ) (o : OperandIface) → slice_get os k ≡ Some o → (alt : AltIface) × (slice_get o.alts a ≡ Some alt))
    → (k : ℕ) (o : OperandIface) → slice_get os k ≡ Some o → slice_get (flat_map (λ (o : OperandIface). option_to_list (slice_get o.alts a)) os) k ≡ slice_get o.alts a
alternative_at [] a all k o is = cc
alternative_at (q ∷ os) a all k o is =
    let first = all 0 q refl in
    ap (λ x. slice_get (option_to_list x ++ flat_map (λ (o : OperandIface). option_to_list (slice_get o.alts a)) os) k) first.1 ∙ behind (alternative_at os a (λ j. all (suc j))) k is first.0 first.1
  where
    behind : ((j : ℕ) (b : OperandIface) → slice_get os j ≡ Some b → slice_get (flat_map (λ (o : OperandIface). option_to_list (slice_get o.alts a)) os) j ≡ slice_get b.alts a) → (k : ℕ) → slice_get (q ∷ os) k ≡ Some o → (alt : AltIface) → slice_get q.alts a ≡ Some alt
        → slice_get (alt ∷ flat_map (λ (o : OperandIface). option_to_list (slice_get o.alts a)) os) k ≡ slice_get o.alts a
    behind rest zero is alt e = let same : q ≡ o = cc in sym e ∙ ap (λ (x : OperandIface). slice_get x.alts a) same
    behind rest (suc k) is alt e = rest k o is

below_first : (os : List OperandIface) (a k : ℕ) (o : OperandIface) → IsMember a (elim os [ [] ↦ 0 ∷ [] | q ∷ qs ↦ count_from 0 q.alts ]) → slice_get os k ≡ Some o
    → (q : OperandIface) × (slice_get os 0 ≡ Some q) × (a < length q.alts)
below_first [] a k o m is = cc
below_first (q ∷ os) a k o m is = (q, refl, let lt = counted q.alts 0 a m in omega arith)

-- ---- the operands of a shape

-- what the shape's alternative allows operand k, and its kind
pub record IsInShape (i : Interface) (s : Shape) (k : ℕ) (o : OperandIface) : Type 0 where
  pub allowed : AltIface
  pub is_allowed : slice_get o.alts s.alternative ≡ Some allowed
  pub kind : IsKindFor s.kinds k allowed

module _ (i : Interface) (interface : IsInterface i) (a : ℕ) (kinds : List Kind) (listed : IsMember a (alternatives_of i)) (made : IsMember kinds (kind_lists [] (alternative_of i a))) where
  alternative : (k : ℕ) (o : OperandIface) → slice_get i.operands k ≡ Some o → (alt : AltIface) × (slice_get o.alts a ≡ Some alt)
  alternative k o is =
      let first = below_first i.operands a k o listed is in
      let counts = interface.counts k 0 o first.0 is first.1 in
      inside_get o.alts a (let lt = first.2 in omega arith)

  kind_at : (k : ℕ) (o : OperandIface) (alt : AltIface) → slice_get i.operands k ≡ Some o → slice_get o.alts a ≡ Some alt → IsKindFor kinds k alt
  kind_at k o alt is is_alt = (kinds_of [] (alternative_of i a) kinds made).each k k alt (alternative_at i.operands a alternative k o is ∙ is_alt) (omega arith)

  at_shape : (k : ℕ) (o : OperandIface) → slice_get i.operands k ≡ Some o → IsInShape i (record { alternative = a; kinds = kinds }) k o
  at_shape k o is = let alt = alternative k o is in record { allowed = alt.0; is_allowed = alt.1; kind = kind_at k o alt.0 is alt.1 }

-- a shape gives each operand an alternative and a kind
pub record IsShape (i : Interface) (s : Shape) : Type 0 where
  pub each : (k : ℕ) (o : OperandIface) → slice_get i.operands k ≡ Some o → IsInShape i s k o

pub is_shape : (i : Interface) (s : Shape) → IsInterface i → IsMember s (shapes_of i) → IsShape i s
is_shape i s interface m =
    let f = from_flat (λ a. map (λ kinds. record { alternative = a; kinds = kinds }) (kind_lists [] (alternative_of i a))) s (alternatives_of i) m in
    let g = from_map (λ kinds. record { alternative = f.from; kinds = kinds }) s (kind_lists [] (alternative_of i f.from)) f.here in
    subst (IsShape i) (sym g.image) (record { each = at_shape i interface f.from g.from f.member g.member })
