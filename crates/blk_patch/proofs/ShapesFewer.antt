-- An interface with more items has no more shapes than the one with fewer.
use Rattle.std.proofs.Common.{◌≡◌, ◌⊎◌, inl, inr, ℕ, ◌≤◌, is_some, List, [], ◌∷◌, ◌++◌, length, Bool, true, false, Option, None, Some, slice_get, option_to_list, refl, sym, ap, subst, ◌∙◌, arith}
use Rattle.std.specs.List.{flat_map}
use Rattle.std.proofs.lemmas.List.{length-map, length-append}
use Rattle.asm_core.specs.Shape.{letter_kinds, kinds_after, kind_lists, alternative_of, alternatives_of, shapes_of}
use Rattle.asm_core.specs.declared.shape.Kind.{Kind}
use Rattle.asm_core.specs.declared.interface.AltIface.{AltIface}
use Rattle.asm_core.specs.declared.interface.OperandIface.{OperandIface}
use Rattle.asm_core.specs.declared.interface.Interface.{Interface}
use Rattle.blk_patch.proofs.MoreItems.{has_letters, IsMoreAlternative, IsMoreOperand, IsMore, AreMore, AreBoth, more_at}
use Rattle.blk_patch.proofs.ShapesDown.{kinds_by, shape_of, shapes_in, same_numbers}

module _ {A B : Type 0} where
  flat_shorter : (f g : A → List B) → ((x : A) → length (f x) ≤ length (g x)) → (xs : List A)
      → length (flat_map f xs) ≤ length (flat_map g xs)
  flat_shorter f g each [] = omega arith
  flat_shorter f g each (x ∷ xs) =
      let one = each x in
      let others = flat_shorter f g each xs in
      let left = length-append (f x) (flat_map f xs) in
      let right = length-append (g x) (flat_map g xs) in
      omega (arith, one, others, left, right)

  one_more : (g : A → List B) (x : A) (xs : List A) → length (flat_map g xs) ≤ length (flat_map g (x ∷ xs))
  one_more g x xs = let long = length-append (g x) (flat_map g xs) in omega (arith, long)

-- the first kinds are the second, or the second without the register
abbrev AreKindsOf : List Kind → List Kind → Type 0
AreKindsOf xs ys = (ys ≡ xs) ⊎ (ys ≡ Kind.Register ∷ xs)

kinds_of : (a b mem number : Bool) → (a ≡ true → b ≡ true) → AreKindsOf (kinds_by a mem number) (kinds_by b mem number)
kinds_of true true mem number up = inl refl
kinds_of true false mem number up = let wrong : false ≡ true = up refl in cc
kinds_of false true mem number up = inr refl
kinds_of false false mem number up = inl refl

letters_of : (old new : AltIface) → IsMoreAlternative old new → AreKindsOf (letter_kinds new) (letter_kinds old)
letters_of old new less =
    subst (λ number. AreKindsOf (letter_kinds new) (kinds_by (has_letters old) old.mem number))
    (ap is_some less.numbers)
    (subst (λ mem. AreKindsOf (letter_kinds new) (kinds_by (has_letters old) mem (is_some new.numbers))) less.mem
    (kinds_of (has_letters new) (has_letters old) new.mem (is_some new.numbers) less.letters))

after_of : (before : List Kind) (old new : AltIface) → IsMoreAlternative old new
    → AreKindsOf (kinds_after before new) (kinds_after before old)
after_of before old new less = by old.tied refl
  where
    by : (t : Option ℕ) → old.tied ≡ t → AreKindsOf (kinds_after before new) (kinds_after before old)
    by None e = let f : new.tied ≡ None = less.tied ∙ e in rw (e, f) (letters_of old new less)
    by (Some k) e = let f : new.tied ≡ Some k = less.tied ∙ e in rw (e, f) (inl refl)

shorter_by : (xs ys : List Kind) → AreKindsOf xs ys → (f g : Kind → List (List Kind))
    → ((kind : Kind) → length (f kind) ≤ length (g kind)) → length (flat_map f xs) ≤ length (flat_map g ys)
shorter_by xs ys (inl e) f g each =
    subst (λ l. length (flat_map f xs) ≤ length (flat_map g l)) (sym e) (flat_shorter f g each xs)
shorter_by xs ys (inr e) f g each =
    let less = flat_shorter f g each xs in
    let more = one_more g Kind.Register xs in
    subst (λ l. length (flat_map f xs) ≤ length (flat_map g l)) (sym e) (omega (arith, less, more))

lists_shorter : (before : List Kind) (olds news : List AltIface) → AreMore IsMoreAlternative olds news
    → length (kind_lists before news) ≤ length (kind_lists before olds)
lists_shorter before [] [] are = omega arith
lists_shorter before [] (y ∷ ys) are = absurd are
lists_shorter before (x ∷ xs) [] are = absurd are
lists_shorter before (x ∷ xs) (y ∷ ys) are =
    shorter_by (kinds_after before y) (kinds_after before x) (after_of before x y are.0)
    (λ kind. kind_lists (before ++ kind ∷ []) ys) (λ kind. kind_lists (before ++ kind ∷ []) xs)
    (λ kind. lists_shorter (before ++ kind ∷ []) xs ys are.1)

module _ (a : ℕ) where
  abbrev allowed : OperandIface → List AltIface
  allowed o = option_to_list (slice_get o.alts a)

  more_first : (x y : Option AltIface) → AreBoth IsMoreAlternative x y → (xs ys : List AltIface)
      → AreMore IsMoreAlternative xs ys → AreMore IsMoreAlternative (option_to_list x ++ xs) (option_to_list y ++ ys)
  more_first None None both xs ys are = are
  more_first None (Some y) both xs ys are = absurd both
  more_first (Some x) None both xs ys are = absurd both
  more_first (Some x) (Some y) both xs ys are = (both, are)

  more_all : (os qs : List OperandIface) → AreMore IsMoreOperand os qs
      → AreMore IsMoreAlternative (flat_map allowed os) (flat_map allowed qs)
  more_all [] [] are = tt
  more_all [] (q ∷ qs) are = absurd are
  more_all (o ∷ os) [] are = absurd are
  more_all (o ∷ os) (q ∷ qs) are =
      more_first (slice_get o.alts a) (slice_get q.alts a)
      (more_at IsMoreAlternative o.alts q.alts are.0.alternatives a) (flat_map allowed os) (flat_map allowed qs)
      (more_all os qs are.1)

module _ (old new : Interface) (is : IsMore old new) where
  shapes_shorter : (a : ℕ) → length (shapes_in new a) ≤ length (shapes_in old a)
  shapes_shorter a =
      let less =
      lists_shorter [] (alternative_of old a) (alternative_of new a)
      (more_all a old.operands new.operands is.operands) in
      let left = length-map (kind_lists [] (alternative_of new a)) (shape_of a) in
      let right = length-map (kind_lists [] (alternative_of old a)) (shape_of a) in
      omega (arith, less, left, right)

  pub shapes_fewer : length (shapes_of new) ≤ length (shapes_of old)
  shapes_fewer =
      subst (λ numbers. length (flat_map (shapes_in new) numbers) ≤ length (shapes_of old))
      (sym (same_numbers old new is))
      (flat_shorter (shapes_in new) (shapes_in old) shapes_shorter (alternatives_of old))
