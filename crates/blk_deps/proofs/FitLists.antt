-- What holds of all items of lists, and of both of two answers.
use Rattle.std.proofs.Common.{ℕ, zero, suc, ◌+◌, ◌<◌, ◌&&◌, ◌||◌, Bool, true, false, IsTrue, All, List, [], ◌∷◌, slice_index_or, if◌then◌else◌, refl, sym, true≢false, arith}
use Rattle.std.specs.List.{range_with_len, flat_map}
use Rattle.std.proofs.lemmas.List.Elements.{All-nil, All-cons, All-append}

pub both_true : (a b : Bool) → IsTrue (a && b) → IsTrue a × IsTrue b
both_true true b h = (refl, h)
both_true false b h = absurd (true≢false (sym h))

pub true_both : (a b : Bool) → IsTrue a → IsTrue b → IsTrue (a && b)
true_both true b h k = k
true_both false b h k = absurd (true≢false (sym h))

pub either_true : (a b : Bool) → IsTrue a → IsTrue (a || b)
either_true true b h = refl
either_true false b h = absurd (true≢false (sym h))

pub or_true : (a b : Bool) → IsTrue b → IsTrue (a || b)
or_true true b h = refl
or_true false b h = h

module _ {X : Type 0} (P : X → Type 0) where
  -- it holds whatever the item is
  pub all_of_each : (xs : List X) → ((x : X) → P x) → All P xs
  all_of_each xs each k d lt = each (slice_index_or xs k d)

  pub all_of_one : (x : X) → P x → All P (x ∷ [])
  all_of_one x h = All-cons P x [] h (All-nil P)

  pub all_of_two : (x y : X) → P x → P y → All P (x ∷ y ∷ [])
  all_of_two x y h k = All-cons P x (y ∷ []) h (all_of_one y k)

  -- of a list that is there only where the test is true
  pub all_where : (test : Bool) (xs : List X) → (IsTrue test → All P xs) → All P (if test then xs else [])
  all_where true xs h = h refl
  all_where false xs h = All-nil P

  pub one_where : (test : Bool) (x : X) → (IsTrue test → P x) → All P (if test then x ∷ [] else [])
  one_where test x h = all_where test (x ∷ []) (λ is. all_of_one x (h is))

  pub all_flat : {A : Type 0} (f : A → List X) (xs : List A) → ((x : A) → All P (f x)) → All P (flat_map f xs)
  all_flat f [] each = All-nil P
  all_flat f (x ∷ xs) each = All-append P (f x) (flat_map f xs) (each x) (all_flat f xs each)

  pub all_of_range : (f : ℕ → List X) (a count : ℕ) → ((n : ℕ) → n < a + count → All P (f n)) → All P (flat_map f (range_with_len a count))
  all_of_range f a zero each = All-nil P
  all_of_range f a (suc count) each =
      All-append P (f a) (flat_map f (range_with_len (a + 1) count)) (each a (omega arith)) (all_of_range f (a + 1) count (λ n within. each n (omega (arith, within))))
