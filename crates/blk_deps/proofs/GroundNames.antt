-- The first operand at a place, and how the place is named.
use Rattle.std.proofs.Common.{◌≡◌, ℕ, zero, suc, ◌+◌, ◌<◌, ◌≤◌, ◌&&◌, List, [], ◌∷◌, ◌++◌, length, drop, slice_get, Option, None, Some, Bool, true, false, refl, sym, ap, ◌∙◌, arith}
use Rattle.std.specs.List.{filter, find}
use Rattle.std.proofs.Common.{inl, inr, length-append}
use Rattle.std.proofs.lemmas.Bool.{cases_lt}
use Rattle.asm_core.specs.Lists.{count_from}
use Rattle.asm_core.specs.declared.finding.Cell.{Cell}
use Rattle.asm_core.specs.declared.shape.Shape.{Shape}
use Rattle.asm_core.specs.declared.interface.Interface.{Interface}
use Rattle.asm_core.proofs.CountLaws.{counted_more, counted_all}
use Rattle.blk_deps.specs.Operands.{numbers_in, holds, holders, is_output_at, first_output, bare_name, name_of}
use Rattle.blk_deps.specs.Holding.{is_of, AreNames}
use Rattle.blk_deps.specs.declared.ground.registers.Of.{Of}

-- ---- the first number that passes

finds_here : (test : ℕ → Bool) (x : ℕ) (xs : List ℕ) → test x ≡ true → find test (x ∷ xs) ≡ Some x
finds_here test x xs e = rw e refl

finds_later : (test : ℕ → Bool) (x : ℕ) (xs : List ℕ) → test x ≡ false → find test (x ∷ xs) ≡ find test xs
finds_later test x xs e = rw e refl

pub first_here : {A : Type 0} (xs : List A) (test : ℕ → Bool) (k : ℕ) (found : Option ℕ) → k < length xs → test k ≡ true
    → find test (count_from k (drop k xs)) ≡ found → Some k ≡ found
first_here xs test k found lt e rest = sym (finds_here test k (count_from (k + 1) (drop (k + 1) xs)) e)
    ∙ sym (ap (find test) (counted_more xs k k lt)) ∙ rest

pub first_later : {A : Type 0} (xs : List A) (test : ℕ → Bool) (k : ℕ) (found : Option ℕ) → k < length xs
    → test k ≡ false → find test (count_from k (drop k xs)) ≡ found
    → find test (count_from (k + 1) (drop (k + 1) xs)) ≡ found
first_later xs test k found lt e rest = sym (finds_later test k (count_from (k + 1) (drop (k + 1) xs)) e)
    ∙ sym (ap (find test) (counted_more xs k k lt)) ∙ rest

pub first_none : {A : Type 0} (xs : List A) (test : ℕ → Bool) (k : ℕ) (found : Option ℕ) → length xs ≤ k
    → find test (count_from k (drop k xs)) ≡ found → None ≡ found
first_none xs test k found le rest = sym (ap (find test) (counted_all xs k k le)) ∙ rest

-- ---- what is kept of a list

find_kept : (p q : ℕ → Bool) (xs : List ℕ) → find p (filter q xs) ≡ find (λ x. p x && q x) xs
find_kept p q [] = refl
find_kept p q (x ∷ xs) = go (q x) (p x) refl refl (find_kept p q xs)
  where
    go : (b a : Bool) → q x ≡ b → p x ≡ a → find p (filter q xs) ≡ find (λ x. p x && q x) xs
        → find p (filter q (x ∷ xs)) ≡ find (λ x. p x && q x) (x ∷ xs)
    go true true e f rest = rw (e, f) refl
    go true false e f rest = rw (e, f) rest
    go false true e f rest = rw (e, f) rest
    go false false e f rest = rw (e, f) rest

none_kept : (q : ℕ → Bool) (xs : List ℕ) → find q xs ≡ None → filter q xs ≡ []
none_kept q [] e = refl
none_kept q (x ∷ xs) e = go (q x) refl (none_kept q xs)
  where
    go : (b : Bool) → q x ≡ b → (find q xs ≡ None → filter q xs ≡ []) → filter q (x ∷ xs) ≡ []
    go true f rest = let found = finds_here q x xs f in cc
    go false f rest = rw f (rest (sym (finds_later q x xs f) ∙ e))

-- the list, and that its first one is this
record BeginsWith (xs : List ℕ) (x : ℕ) : Type 0 where
  rest : List ℕ
  is : xs ≡ x ∷ rest

first_kept : (q : ℕ → Bool) (xs : List ℕ) (y : ℕ) → find q xs ≡ Some y → BeginsWith (filter q xs) y
first_kept q [] y e = cc
first_kept q (x ∷ xs) y e = go (q x) refl (first_kept q xs y)
  where
    go : (b : Bool) → q x ≡ b → (find q xs ≡ Some y → BeginsWith (filter q xs) y) → BeginsWith (filter q (x ∷ xs)) y
    go true f rest = let found = finds_here q x xs f in let same : x
        ≡ y = cc in record { rest = filter q xs; is = rw f (ap (λ z. z ∷ filter q xs) same) }
    go false f rest = rw f (rest (sym (finds_later q x xs f) ∙ e))

-- ---- names

named_output : (i : Interface) (js : List ℕ) (none : Cell) (o : ℕ) → find (is_output_at i) js ≡ Some o
    → first_output i js js none ≡ Cell.Operand o
named_output i [] none o e = cc
named_output i (j ∷ js) none o e = ap (λ (x : Option ℕ). elim x
    [ None ↦ Cell.Operand j | Some output ↦ Cell.Operand output ]) e

named_input : (i : Interface) (js rest : List ℕ) (j : ℕ) (none : Cell) → js ≡ j ∷ rest → find (is_output_at i) js ≡ None
    → first_output i js js none ≡ Cell.Operand j
named_input i js rest j none is e =
    ap (λ ks. first_output i js ks none) is
    ∙ ap (λ (x : Option ℕ). elim x [ None ↦ Cell.Operand j | Some output ↦ Cell.Operand output ]) e

pub by_output : (i : Interface) (s : Shape) (p o : ℕ)
    → find (λ k. is_of Of.Outputs i k && holds i s p k) (numbers_in i) ≡ Some o → Cell.Operand o ≡ name_of i s p
by_output i s p o e = sym (named_output i (holders i s p) (bare_name p) o
    (find_kept (is_output_at i) (holds i s p) (numbers_in i) ∙ e))

pub by_input : (i : Interface) (s : Shape) (p j : ℕ)
    → find (λ k. is_of Of.Outputs i k && holds i s p k) (numbers_in i) ≡ None
    → find (λ k. is_of Of.Operands i k && holds i s p k) (numbers_in i) ≡ Some j → Cell.Operand j ≡ name_of i s p
by_input i s p j none e =
    let first = first_kept (holds i s p) (numbers_in i) j e in
    sym (named_input i (holders i s p) first.rest j (bare_name p) first.is
    (find_kept (is_output_at i) (holds i s p) (numbers_in i) ∙ none))

pub by_itself : (i : Interface) (s : Shape) (p : ℕ)
    → find (λ k. is_of Of.Operands i k && holds i s p k) (numbers_in i) ≡ None → bare_name p ≡ name_of i s p
by_itself i s p e = sym (ap (λ js. first_output i (holders i s p) js (bare_name p))
    (none_kept (holds i s p) (numbers_in i) e))

-- ---- the list of names

named_inside : (xs : List Cell) (y : Cell) (k : ℕ) → k < length xs → slice_get (xs ++ y ∷ []) k ≡ slice_get xs k
named_inside [] y k lt = absurd (omega arith)
named_inside (x ∷ xs) y zero lt = refl
named_inside (x ∷ xs) y (suc k) lt = named_inside xs y k (let below : k < length xs = omega arith in below)

named_last : (xs : List Cell) (y : Cell) → slice_get (xs ++ y ∷ []) (length xs) ≡ Some y
named_last [] y = refl
named_last (x ∷ xs) y = named_last xs y

pub no_names : (i : Interface) (s : Shape) → AreNames i s 0 []
no_names i s = record { length = refl; each = λ p lt. absurd (omega arith) }

pub one_name_more : (i : Interface) (s : Shape) (p : ℕ) (names next : List Cell) (name : Cell) → name ≡ name_of i s p
    → next ≡ names ++ name ∷ [] → AreNames i s p names → AreNames i s (p + 1) next
one_name_more i s p names next name is joined below = record {
  length = ap length joined ∙ omega (arith, length-append names (name ∷ []), below.length);
  each = λ q lt. ap (λ xs. slice_get xs q) joined ∙ elim (cases_lt q p) [
    | inl inside ↦ named_inside names name q (omega (arith, below.length)) ∙ below.each q inside
    | inr last ↦
        let here : q ≡ p = omega arith in
        ap (slice_get (names ++ name ∷ [])) (here ∙ sym below.length) ∙ named_last names name
        ∙ ap Some (is ∙ ap (name_of i s) (sym here))
  ];
}
