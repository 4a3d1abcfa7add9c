-- Items leave memory small that is only written: they add no shape, and take none of the written operands' sizes.
use Rattle.std.proofs.Common.{◌≡◌, ◌⊎◌, inl, inr, ℕ, suc, ◌+◌, ◌≤◌, ◌==◌, ◌&&◌, ◌||◌, not, List, [], ◌∷◌, ◌++◌, length, map, Bool, true, false, IsTrue, Option, None, Some, bit_and, slice_get, option_to_list, refl, sym, ap, subst, ◌∙◌, arith, if◌then◌else◌}
use Rattle.std.specs.List.{list_any, flat_map}
use Rattle.std.specs.Option.{option_map}
use Rattle.std.proofs.lemmas.Bool.{and_parts, not-true, eqb-true}
use Rattle.std.proofs.lemmas.Option.{slice_get-map}
use Rattle.asm_core.specs.Lists.{count_from, IsMember}
use Rattle.asm_core.specs.Placement.{is_output, is_input, tie_root}
use Rattle.asm_core.specs.Shape.{letter_kinds, kinds_after, kind_lists, alternative_of, alternatives_of, shapes_of}
use Rattle.asm_core.proofs.ReadingLaws.OperandsBack.{root_is}
use Rattle.asm_core.specs.declared.reg.RegSet.{RegSet}
use Rattle.asm_core.specs.declared.shape.Kind.{Kind}
use Rattle.asm_core.specs.declared.shape.Shape.{Shape}
use Rattle.asm_core.specs.declared.interface.AltIface.{AltIface}
use Rattle.asm_core.specs.declared.interface.OperandIface.{OperandIface}
use Rattle.asm_core.specs.declared.interface.Interface.{Interface}
use Rattle.blk_deps.specs.Operands.{IsSmall, in_memory, operand_has, size_at, is_input_at, numbers_in, has_address, has_tied, is_written_only}
use Rattle.blk_patch.specs.Items.{has, registers_with, alternative_with, operand_with, operands_with, with_items}
use Rattle.blk_patch.specs.declared.item.Item.{Item}
use Rattle.blk_patch.proofs.WithLaws.{operands_long, with_at, unread_before}

-- ---- members

-- each member of the first is one of the second
abbrev pub IsWithin : {A : Type 0} → List A → List A → Type 0
IsWithin {A} xs ys = (x : A) → IsMember x xs → IsMember x ys

module _ {A : Type 0} where
  in_front : (xs ys : List A) (x : A) → IsMember x xs → IsMember x (xs ++ ys)
  in_front [] ys x m = absurd m
  in_front (z ∷ xs) ys x (inl e) = inl e
  in_front (z ∷ xs) ys x (inr m) = inr (in_front xs ys x m)

  pub in_back : (xs ys : List A) (x : A) → IsMember x ys → IsMember x (xs ++ ys)
  in_back [] ys x m = m
  in_back (z ∷ xs) ys x m = inr (in_back xs ys x m)

  parted : (xs ys : List A) (x : A) → IsMember x (xs ++ ys) → IsMember x xs ⊎ IsMember x ys
  parted [] ys x m = inr m
  parted (z ∷ xs) ys x (inl e) = inl (inl e)
  parted (z ∷ xs) ys x (inr m) = elim (parted xs ys x m) [ inl a ↦ inl (inr a) | inr b ↦ inr b ]

module _ {A B : Type 0} where
  into_flat : (f : A → List B) (xs : List A) (x : A) (z : B) → IsMember x xs → IsMember z (f x)
      → IsMember z (flat_map f xs)
  into_flat f [] x z m h = absurd m
  into_flat f (y ∷ xs) x z (inl e) h = in_front (f y) (flat_map f xs) z (subst (λ a. IsMember z (f a)) e h)
  into_flat f (y ∷ xs) x z (inr m) h = in_back (f y) (flat_map f xs) z (into_flat f xs x z m h)

  pub flat_within : (f g : A → List B) → ((x : A) → IsWithin (f x) (g x)) → (xs ys : List A) → IsWithin xs ys
      → IsWithin (flat_map f xs) (flat_map g ys)
  flat_within f g each [] ys within z m = absurd m
  flat_within f g each (x ∷ xs) ys within z m = elim (parted (f x) (flat_map f xs) z m) [
    | inl here ↦ into_flat g ys x z (within x (inl refl)) (each x z here)
    | inr later ↦ flat_within f g each xs ys (λ y n. within y (inr n)) z later
  ]

  into_map : (f : A → B) (ys : List A) (x : A) (z : B) → z ≡ f x → IsMember x ys → IsMember z (map f ys)
  into_map f [] x z e m = absurd m
  into_map f (y ∷ ys) x z e (inl same) = inl (e ∙ ap f same)
  into_map f (y ∷ ys) x z e (inr m) = inr (into_map f ys x z e m)

  pub map_within : (f : A → B) (xs ys : List A) → IsWithin xs ys → IsWithin (map f xs) (map f ys)
  map_within f [] ys within z m = absurd m
  map_within f (x ∷ xs) ys within z (inl e) = into_map f ys x z e (within x (inl refl))
  map_within f (x ∷ xs) ys within z (inr m) = map_within f xs ys (λ y n. within y (inr n)) z m

  pub count_same : (xs : List A) (ys : List B) (n : ℕ) → length xs ≡ length ys → count_from n xs ≡ count_from n ys
  count_same [] [] n e = refl
  count_same [] (y ∷ ys) n e = absurd (omega (arith, e))
  count_same (x ∷ xs) [] n e = absurd (omega (arith, e))
  count_same (x ∷ xs) (y ∷ ys) n e = ap (λ l. n ∷ l) (count_same xs ys (n + 1) (omega (arith, e)))

any_same : {A : Type 0} (p q : A → Bool) → ((x : A) → p x ≡ q x) → (xs : List A) → list_any p xs ≡ list_any q xs
any_same p q e [] = refl
any_same p q e (x ∷ xs) = rw (e x, any_same p q e xs) refl

-- ---- kinds

-- what stands in the first alternative stands in the second
pub record IsFewer (x y : AltIface) : Type 0 where
  pub tied : x.tied ≡ y.tied
  pub kinds : IsWithin (letter_kinds x) (letter_kinds y)

abbrev pub AreFewer : List AltIface → List AltIface → Type 0
AreFewer [] [] = Unit {0}
AreFewer (x ∷ xs) (y ∷ ys) = IsFewer x y × AreFewer xs ys
AreFewer xs ys = ⊥

kinds_within : (before : List Kind) (x y : AltIface) → IsFewer x y
    → IsWithin (kinds_after before x) (kinds_after before y)
kinds_within before x y fewer = by x.tied refl
  where
    by : (t : Option ℕ) → x.tied ≡ t → IsWithin (kinds_after before x) (kinds_after before y)
    by None e = let e2 : y.tied ≡ None = sym fewer.tied ∙ e in rw (e, e2) fewer.kinds
    by (Some k) e = let e2 : y.tied ≡ Some k = sym fewer.tied ∙ e in rw (e, e2) (λ z m. m)

pub lists_within : (before : List Kind) (xs ys : List AltIface) → AreFewer xs ys
    → IsWithin (kind_lists before xs) (kind_lists before ys)
lists_within before [] [] fewer z m = m
lists_within before [] (y ∷ ys) fewer z m = absurd fewer
lists_within before (x ∷ xs) [] fewer z m = absurd fewer
lists_within before (x ∷ xs) (y ∷ ys) fewer z m =
    flat_within (λ kind. kind_lists (before ++ kind ∷ []) xs) (λ kind. kind_lists (before ++ kind ∷ []) ys)
    (λ kind. lists_within (before ++ kind ∷ []) xs ys fewer.1) (kinds_after before x) (kinds_after before y)
    (kinds_within before x y fewer.0) z m

pub if_within : (a b : Bool) (xs ys : List Kind) → (a ≡ true → b ≡ true)
    → IsWithin ((if a then Kind.Register ∷ [] else []) ++ xs ++ ys) ((if b then Kind.Register ∷ [] else []) ++ xs ++ ys)
if_within false false xs ys up z m = m
if_within false true xs ys up z m = inr m
if_within true false xs ys up z m = let e : false ≡ true = up refl in cc
if_within true true xs ys up z m = m

module _ (items : List Item) where
  some_registers : (k : ℕ) (pair : Bool) (regs : RegSet) → (pair || not ((registers_with items k regs).0 == 0)) ≡ true
      → (pair || not (regs.0 == 0)) ≡ true
  some_registers k true regs e = refl
  some_registers k false regs e = by (has items (Item.Byte k)) refl
    where
      none : (b : Bool) → (regs.0 == 0) ≡ b → not (bit_and regs.0 15 == 0) ≡ true → not (regs.0 == 0) ≡ true
      none false z h = rw z refl
      none true z h = let zero_is : regs.0 ≡ 0 = eqb-true regs.0 0 z in let wrong : not
          (bit_and 0 15 == 0) ≡ true = rw zero_is at h in cc

      by : (b : Bool) → has items (Item.Byte k) ≡ b → not (regs.0 == 0) ≡ true
      by true h = none (regs.0 == 0) refl (rw h at e)
      by false h = rw h at e

  fewer_with : (k : ℕ) (output : Bool) (alt : AltIface) → IsFewer (alternative_with items k output alt) alt
  fewer_with k output alt = record {
    tied = refl;
    kinds = if_within _ _ _ _ (some_registers k alt.pair alt.regs);
  }

  module _ (a : ℕ) where
    abbrev allowed : OperandIface → List AltIface
    allowed o = option_to_list (slice_get o.alts a)

    one_fewer : (k : ℕ) (o : OperandIface) (xs ys : List AltIface) → AreFewer xs ys
        → AreFewer (allowed (operand_with items k o) ++ xs) (allowed o ++ ys)
    one_fewer k o xs ys fewer = by (slice_get o.alts a) refl
      where
        f : AltIface → AltIface
        f = alternative_with items k (is_output o.role)

        by : (found : Option AltIface) → slice_get o.alts a ≡ found
            → AreFewer (allowed (operand_with items k o) ++ xs) (allowed o ++ ys)
        by None e = let e2 : slice_get (operand_with items k o).alts a ≡ None = slice_get-map
            (alternative_with items k (is_output o.role)) o.alts a ∙ ap
            (option_map (alternative_with items k (is_output o.role))) e in
            rw (e, e2) fewer
        by (Some alt) e = let e2 : slice_get (operand_with items k o).alts a ≡ Some
            (alternative_with items k (is_output o.role) alt) = slice_get-map
            (alternative_with items k (is_output o.role)) o.alts a ∙ ap
            (option_map (alternative_with items k (is_output o.role))) e in
            rw (e, e2) (fewer_with k (is_output o.role) alt, fewer)

    all_fewer : (k : ℕ) (os : List OperandIface) → AreFewer (flat_map allowed (operands_with items k os))
        (flat_map allowed os)
    unfolding operands_with
    all_fewer k [] = tt
    all_fewer k (o ∷ os) = one_fewer k o (flat_map allowed (operands_with items (k + 1) os)) (flat_map allowed os)
        (all_fewer (k + 1) os)

-- ---- what stands at an operand

module _ (w : Interface) (k : ℕ) where
  input_there : (o : OperandIface) → slice_get w.operands k ≡ Some o → is_input_at w k ≡ is_input o.role
  input_there o e = rw (e, is_input_at, operand_has) refl

  input_nowhere : slice_get w.operands k ≡ None → is_input_at w k ≡ false
  input_nowhere e = rw (e, is_input_at, operand_has) refl

  size_there : (o : OperandIface) → slice_get w.operands k ≡ Some o → size_at w k ≡ o.size
  size_there o e = rw (e, size_at) refl

  size_nowhere : slice_get w.operands k ≡ None → size_at w k ≡ 0
  size_nowhere e = rw (e, size_at) refl

-- ---- shapes

module _ (items : List Item) (i : Interface) where
  abbrev patched : Interface
  patched = with_items items i

  alternatives_same : alternatives_of patched ≡ alternatives_of i
  unfolding with_items operands_with
  alternatives_same = by i.operands refl
    where
      by : (os : List OperandIface) → i.operands ≡ os → alternatives_of patched ≡ alternatives_of i
      by [] e = rw e refl
      by (o ∷ os) e = rw e (count_same (operand_with items 0 o).alts o.alts 0
          (length_mapped (alternative_with items 0 (is_output o.role)) o.alts))
        where
          length_mapped : (f : AltIface → AltIface) (xs : List AltIface) → length (map f xs) ≡ length xs
          length_mapped f [] = refl
          length_mapped f (x ∷ xs) = ap suc (length_mapped f xs)

  pub shapes_before : IsWithin (shapes_of patched) (shapes_of i)
  unfolding with_items
  shapes_before =
      flat_within (λ a. map (λ kinds. record { alternative = a; kinds = kinds })
      (kind_lists [] (alternative_of patched a)))
      (λ a. map (λ kinds. record { alternative = a; kinds = kinds }) (kind_lists [] (alternative_of i a)))
      (λ a. map_within (λ kinds. record { alternative = a; kinds = kinds }) (kind_lists [] (alternative_of patched a))
      (kind_lists [] (alternative_of i a))
      (lists_within [] (alternative_of patched a) (alternative_of i a) (all_fewer items a 0 i.operands)))
      (alternatives_of patched) (alternatives_of i)
      (subst (λ l. IsWithin l (alternatives_of i)) (sym alternatives_same) (λ x m. m))

  -- ---- operands in a shape

  module _ (s : Shape) where
    pub root_same : (k : ℕ) → tie_root patched s k ≡ tie_root i s k
    root_same k = by (slice_get i.operands k) refl
      where
        in_alternative : (o : OperandIface) → slice_get i.operands k ≡ Some o → (found : Option AltIface)
            → slice_get o.alts s.alternative ≡ found → tie_root patched s k ≡ tie_root i s k
        in_alternative o e None f =
            root_is patched s k (operand_with items k o) None
            (with_at items i k ∙ ap (option_map (operand_with items k)) e)
            (slice_get-map (alternative_with items k (is_output o.role)) o.alts s.alternative ∙ ap
            (option_map (alternative_with items k (is_output o.role))) f)
            ∙ sym (root_is i s k o None e f)
        in_alternative o e (Some alt) f =
            root_is patched s k (operand_with items k o) (Some (alternative_with items k (is_output o.role) alt))
            (with_at items i k ∙ ap (option_map (operand_with items k)) e)
            (slice_get-map (alternative_with items k (is_output o.role)) o.alts s.alternative ∙ ap
            (option_map (alternative_with items k (is_output o.role))) f)
            ∙ sym (root_is i s k o (Some alt) e f)

        by : (found : Option OperandIface) → slice_get i.operands k ≡ found → tie_root patched s k ≡ tie_root i s k
        by None e = let e2 : slice_get patched.operands k ≡ None = with_at items i k ∙ ap
            (option_map (operand_with items k)) e in rw (e, e2) refl
        by (Some o) e = in_alternative o e (slice_get o.alts s.alternative) refl

    pub numbers_same : numbers_in patched ≡ numbers_in i
    unfolding with_items
    numbers_same = count_same (operands_with items 0 i.operands) i.operands 0 (operands_long items 0 i.operands)

    tied_same : (k : ℕ) → has_tied patched s k ≡ has_tied i s k
    tied_same k =
        any_same (λ j. not (j == k) && tie_root patched s j == k) (λ j. not (j == k) && tie_root i s j == k)
        (λ j. ap (λ root. not (j == k) && root == k) (root_same j)) (numbers_in patched)
        ∙ ap (list_any (λ j. not (j == k) && tie_root i s j == k)) numbers_same

    input_before : (k : ℕ) → is_input_at patched k ≡ false → is_input_at i k ≡ false
    input_before k h = by (slice_get i.operands k) refl
      where
        by : (found : Option OperandIface) → slice_get i.operands k ≡ found → is_input_at i k ≡ false
        by None e = input_nowhere i k e
        by (Some o) e =
            input_there i k o e
            ∙ unread_before items k o.role (sym (input_there patched k (operand_with items k o)
            (with_at items i k ∙ ap (option_map (operand_with items k)) e)) ∙ h)

    pub size_same : (k : ℕ) → size_at patched k ≡ size_at i k
    size_same k = by (slice_get i.operands k) refl
      where
        by : (found : Option OperandIface) → slice_get i.operands k ≡ found → size_at patched k ≡ size_at i k
        by None e = size_nowhere patched k (with_at items i k ∙ ap (option_map (operand_with items k)) e) ∙ sym
            (size_nowhere i k e)
        by (Some o) e = size_there patched k (operand_with items k o)
            (with_at items i k ∙ ap (option_map (operand_with items k)) e) ∙ sym (size_there i k o e)

    address_same : (k : ℕ) → has_address patched s k ≡ has_address i s k
    address_same k = ap (λ root. in_memory s k && root == k) (root_same k)

    written_before : (k : ℕ) → is_written_only patched s k ≡ true → is_written_only i s k ≡ true
    written_before k h =
        let parts = and_parts (not (is_input_at patched k)) (not (has_tied patched s k)) h in
        let input = input_before k (not-true (is_input_at patched k) parts.0) in
        let tied = sym (tied_same k) ∙ not-true (has_tied patched s k) parts.1 in
        rw (input, tied) refl

    both_before : (k : ℕ) → IsTrue (has_address patched s k && is_written_only patched s k)
        → IsTrue (has_address i s k && is_written_only i s k)
    both_before k h =
        let parts = and_parts (has_address patched s k) (is_written_only patched s k) h in
        let address = sym (address_same k) ∙ parts.0 in
        let written = written_before k parts.1 in
        rw (address, written) refl

  pub is_small : IsSmall i → IsSmall patched
  is_small small = record {
    each = λ s k member h. subst (λ n. n ≤ 64) (sym (size_same s k))
        (small.each s k (shapes_before s member) (both_before s k h));
  }
