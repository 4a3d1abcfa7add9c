-- Items as sets: which are among others, and lists in which none stands twice.
use Rattle.std.proofs.Common.{◌≡◌, ◌⊎◌, inl, inr, ℕ, ◌==◌, ◌||◌, List, [], ◌∷◌, ◌++◌, map, true, false, refl, sym, ap, subst, ◌∙◌}
use Rattle.std.specs.List.{list_any, AllByRecursion, IsDistinct}
use Rattle.std.proofs.Math.Dec.{eqb}
use Rattle.std.proofs.lemmas.Bool.{eq-eqb, eqb-true, or_cases, or_left, or_right}
use Rattle.std.proofs.lemmas.List.{map-append}
use Rattle.std.proofs.lemmas.List.Folds.{list_any-append}
use Rattle.blk_patch.specs.Items.{has, item_number}
use Rattle.blk_patch.specs.Least.{AreWithin, AreDistinct}
use Rattle.blk_patch.specs.declared.item.Item.{Item}

pub within_itself : (items : List Item) → AreWithin items items
within_itself items x h = h

pub within_on : (a b c : List Item) → AreWithin a b → AreWithin b c → AreWithin a c
within_on a b c first second x h = second x (first x h)

-- ---- lists that are joined

pub has_joined : (a b : List Item) (x : Item) → has (a ++ b) x ≡ (has a x || has b x)
unfolding has
has_joined a b x = list_any-append (λ y. item_number x == item_number y) a b

pub has_first : (y : Item) (items : List Item) (x : Item)
    → has (y ∷ items) x ≡ (item_number x == item_number y || has items x)
unfolding has
has_first y items x = refl

-- items with one number are the same
pub has_same : (items : List Item) (x y : Item) → item_number x ≡ item_number y → has items x ≡ has items y
unfolding has
has_same items x y e = ap (λ n. list_any (λ z. n == item_number z) items) e

pub has_itself : (x : Item) (items : List Item) → has (x ∷ items) x ≡ true
has_itself x items =
    has_first x items x
    ∙ or_left (item_number x == item_number x) (has items x) (eq-eqb (item_number x) (item_number x) refl)

pub none_there : (x : Item) → has [] x ≡ true → ⊥
unfolding has
none_there x h = let wrong : false ≡ true = h in cc

pub joined_parts : (a b : List Item) (x : Item) → has (a ++ b) x ≡ true → (has a x ≡ true) ⊎ (has b x ≡ true)
joined_parts a b x h = or_cases (has a x) (has b x) (sym (has_joined a b x) ∙ h)

pub in_left : (a b : List Item) → AreWithin a (a ++ b)
in_left a b x h = has_joined a b x ∙ or_left (has a x) (has b x) h

pub in_right : (a b : List Item) → AreWithin b (a ++ b)
in_right a b x h = has_joined a b x ∙ or_right (has a x) (has b x) h

pub in_rest : (y : Item) (items : List Item) → AreWithin items (y ∷ items)
in_rest y items x h = has_first y items x ∙ or_right (item_number x == item_number y) (has items x) h

pub joined_within : (a b c d : List Item) → AreWithin a c → AreWithin b d → AreWithin (a ++ b) (c ++ d)
joined_within a b c d left right x h = elim (joined_parts a b x h) [
  | inl l ↦ in_left c d x (left x l)
  | inr r ↦ in_right c d x (right x r)
]

-- without an item that stands between others
pub others_within : (a : List Item) (y : Item) (b : List Item) → AreWithin (a ++ b) (a ++ y ∷ b)
others_within a y b = joined_within a b a (y ∷ b) (within_itself a) (in_rest y b)

-- what is among all of them but isn't that one is among the others
pub others_left : (part a : List Item) (y : Item) (b : List Item) → AreWithin part (a ++ y ∷ b) → has part y ≡ false
    → AreWithin part (a ++ b)
others_left part a y b within absent x h = elim (joined_parts a (y ∷ b) x (within x h)) [
  | inl l ↦ in_left a b x l
  | inr r ↦ elim (or_cases (item_number x == item_number y) (has b x) (sym (has_first y b x) ∙ r)) [
    | inl same ↦ (
        let e = eqb-true (item_number x) (item_number y) same in
        let wrong : false ≡ true = sym absent ∙ sym (has_same part x y e) ∙ h in
        cc)
    | inr later ↦ in_right a b x later
  ]
]

-- items that are added one by one are among those that hold them
pub none_within : (items : List Item) → AreWithin [] items
unfolding has
none_within items x h = let wrong : false ≡ true = h in cc

pub one_within : (y : Item) (items : List Item) → has items y ≡ true → AreWithin (y ∷ []) items
one_within y items there x h =
    elim (or_cases (item_number x == item_number y) (has [] x) (sym (has_first y [] x) ∙ h)) [
      | inl same ↦ has_same items x y (eqb-true (item_number x) (item_number y) same) ∙ there
      | inr none ↦ none_within items x none
    ]

pub pushed_within : (a : List Item) (y : Item) (items : List Item) → AreWithin a items → has items y ≡ true
    → AreWithin (a ++ y ∷ []) items
pushed_within a y items within there x h = elim (joined_parts a (y ∷ []) x h) [
  | inl l ↦ within x l
  | inr r ↦ one_within y items there x r
]

-- ---- none stands twice

module _ (P : ℕ → Type 0) where
  all_others : (a : List ℕ) (n : ℕ) (b : List ℕ) → AllByRecursion P (a ++ n ∷ b) → AllByRecursion P (a ++ b)
  all_others [] n b all = all.1
  all_others (m ∷ a) n b all = (all.0, all_others a n b all.1)

distinct_others : (a : List ℕ) (n : ℕ) (b : List ℕ) → IsDistinct eqb (a ++ n ∷ b) → IsDistinct eqb (a ++ b)
unfolding IsDistinct
distinct_others [] n b distinct = distinct.1
distinct_others (m ∷ a) n b distinct =
    (all_others (λ y. eqb m y ≡ false) a n b distinct.0, distinct_others a n b distinct.1)

pub others_distinct : (a : List Item) (x : Item) (b : List Item) → AreDistinct (a ++ x ∷ b) → AreDistinct (a ++ b)
others_distinct a x b distinct =
    subst (IsDistinct eqb) (sym (map-append item_number a b))
    (distinct_others (map item_number a) (item_number x) (map item_number b)
    (subst (IsDistinct eqb) (map-append item_number a (x ∷ b)) distinct))
