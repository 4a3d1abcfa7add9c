-- Choices settled one class after the other.
use Rattle.std.specs.Prelude.{◌≡◌, ℕ, ◌<◌, List, true, Some, slice_get, slice_set, bit_and}
use Rattle.register_search.specs.Assignment.{registers_of, may_take, are_rivals, with_choice, IsAssignment, HasAssignment}
use Rattle.register_search.specs.declared.class.Group.{Group}
use Rattle.register_search.specs.declared.class.Class.{Class}

-- class k, which is c, is left this choice alone
abbrev pub narrowed : List Class → ℕ → Class → ℕ → List Class
narrowed classes k c choice = slice_set classes k (with_choice choice c)

-- the first choice of class k with which the classes have an assignment
pub record IsFirst (classes : List Class) (k : ℕ) (c : Class) (choice : ℕ) : Type 0 where
  pub below : choice < 8
  pub taken : may_take c choice ≡ true
  pub there : HasAssignment (narrowed classes k c choice)
  pub least : (other : ℕ) → other < choice → may_take c other ≡ true → HasAssignment (narrowed classes k c other) → ⊥

-- class k is left that choice alone
pub record IsFirstOf (old new : List Class) (k : ℕ) : Type 0 where
  pub class : Class
  pub choice : ℕ
  pub is_class : slice_get old k ≡ Some class
  pub first : IsFirst old k class choice
  pub is_new : new ≡ narrowed old k class choice

-- the class may take this choice alone
pub record IsOnlyChoice (class : Class) (choice : ℕ) : Type 0 where
  pub below : choice < 8
  pub only : (other : ℕ) → other < 8 → may_take class other ≡ true → other ≡ choice

-- in each assignment class k is apart from the registers
abbrev pub IsTakenByRivals : List Class → ℕ → ℕ → Type 0
IsTakenByRivals classes k registers = (choice_of : ℕ → ℕ) → IsAssignment classes choice_of → bit_and registers (registers_of (choice_of k)) ≡ 0

-- a choice of the class that is apart from the registers
pub record IsBeside (class : Class) (choice registers : ℕ) : Type 0 where
  pub below : choice < 8
  pub taken : may_take class choice ≡ true
  pub apart : bit_and (registers_of choice) registers ≡ 0

-- what is apart from the class's choice, where the groups are rivals, is apart from these registers
abbrev pub NeedsBesides : Class → Group → ℕ → Type 0
NeedsBesides class group registers = (choice others : ℕ) → (are_rivals class.group group ≡ true → IsBeside class choice others) → bit_and registers others ≡ 0
