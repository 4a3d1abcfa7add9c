-- The numbers of groups, class by class.
use Rattle.std.proofs.Common.{◌≡◌, ℕ, zero, suc, ◌<◌, List, [], ◌∷◌, Bool, true, Some, slice_get, refl, sym, ap, ◌∙◌}
use Rattle.std.specs.List.{list_all}
use Rattle.std.proofs.lemmas.Bool.{and_parts, and_from, ltb-true, lt-ltb}
use Rattle.register_search.specs.Assignment.{is_below_32, HasFewGroups}
use Rattle.register_search.specs.declared.class.Group.{Group}
use Rattle.register_search.specs.declared.class.Group.TheVariants.{Absent, Exclusive, Numbered}
use Rattle.register_search.specs.declared.class.Class.{Class}

abbrev small : Class → Bool
small c = is_below_32 c.group

-- each number is below 32
abbrev pub AreNumbersBelow : List Class → Type 0
AreNumbersBelow classes = (k : ℕ) (c : Class) (g : ℕ) → slice_get classes k ≡ Some c → c.group ≡ Numbered g → g < 32

first_below : (c d : Class) (g : ℕ) → small c ≡ true → Some c ≡ Some d → d.group ≡ Numbered g → g < 32
first_below c d g h is e = ltb-true g 32 (ap is_below_32 (sym e) ∙ ap small (let same : d ≡ c = cc in same) ∙ h)

pub numbers_below : (classes : List Class) → HasFewGroups classes → AreNumbersBelow classes
numbers_below [] few k c g is e = cc
numbers_below (d ∷ cs) few zero c g is e = first_below d c g (and_parts (small d) (list_all small cs) few).0 is e
numbers_below (d ∷ cs) few (suc k) c g is e = numbers_below cs (and_parts (small d) (list_all small cs) few).1 k c g is e

one_small : (g : Group) → ((n : ℕ) → g ≡ Numbered n → n < 32) → is_below_32 g ≡ true
one_small Absent h = refl
one_small Exclusive h = refl
one_small (Numbered n) h = lt-ltb n 32 (h n refl)

pub few_groups : (classes : List Class) → AreNumbersBelow classes → HasFewGroups classes
few_groups [] h = refl
few_groups (c ∷ cs) h = and_from (small c) (list_all small cs) (one_small c.group (λ n e. h 0 c n refl e)) (few_groups cs (λ k d g. h (suc k) d g))
