-- Assignments of registers to classes. There are seven registers, from 0, and a choice is the number of one of the eight sets of them that a class may take.
use Rattle.std.specs.Prelude.{◌≡◌, ◌≢◌, ℕ, ◌==◌, ◌<◌, ◌≤◌, List, [], ◌∷◌, length, Bool, true, false, IsTrue, nat_lt, Some, slice_get, slice_set, slice_index, slice_index_or, bit_and, replicate}
use Rattle.std.specs.List.{list_all}
use Rattle.register_search.specs.declared.class.Group.{Group}
use Rattle.register_search.specs.declared.class.Group.TheVariants.{Absent, Exclusive, Numbered}
use Rattle.register_search.specs.declared.class.Class.{Class}

-- the registers that a choice takes, bit n standing for register n: each alone, or the two of the pair
abbrev pub registers_of : ℕ → ℕ
registers_of choice = slice_index (1 ∷ 2 ∷ 4 ∷ 8 ∷ 16 ∷ 32 ∷ 64 ∷ 9 ∷ []) choice

-- the class may take the choice
abbrev pub may_take : Class → ℕ → Bool
may_take class choice = slice_index_or class.choices choice false

-- a class of the group takes registers
abbrev pub takes_registers : Group → Bool
takes_registers Absent = false
takes_registers Exclusive = true
takes_registers (Numbered a) = true

-- classes of these groups must have no register in common
abbrev pub are_rivals : Group → Group → Bool
are_rivals Absent g = false
are_rivals Exclusive Absent = false
are_rivals Exclusive Exclusive = true
are_rivals Exclusive (Numbered b) = true
are_rivals (Numbered a) Absent = false
are_rivals (Numbered a) Exclusive = true
are_rivals (Numbered a) (Numbered b) = a == b

-- class k takes the choice `choice_of k`, one that it may take, and rivals have no register in common
pub record IsAssignment (classes : List Class) (choice_of : ℕ → ℕ) : Type 0 where
  pub below : (k : ℕ) (c : Class) → slice_get classes k ≡ Some c → takes_registers c.group ≡ true → choice_of k < 8
  pub taken : (k : ℕ) (c : Class) → slice_get classes k ≡ Some c → takes_registers c.group ≡ true → may_take c (choice_of k) ≡ true
  pub apart : (k j : ℕ) (c d : Class) → slice_get classes k ≡ Some c → slice_get classes j ≡ Some d → k ≢ j → are_rivals c.group d.group ≡ true
      → bit_and (registers_of (choice_of k)) (registers_of (choice_of j)) ≡ 0

abbrev pub HasAssignment : List Class → Type 0
HasAssignment classes = (choice_of : ℕ → ℕ) × IsAssignment classes choice_of

-- the two agree on the classes below k
abbrev pub AgreeBelow : List Class → ℕ → (ℕ → ℕ) → (ℕ → ℕ) → Type 0
AgreeBelow classes k one other = (i : ℕ) (c : Class) → i < k → slice_get classes i ≡ Some c → takes_registers c.group ≡ true → one i ≡ other i

-- no other assignment has an earlier choice at the first class where the two differ
pub record IsLeast (classes : List Class) (choice_of : ℕ → ℕ) : Type 0 where
  pub assigned : IsAssignment classes choice_of
  pub least : (other : ℕ → ℕ) → IsAssignment classes other → (k : ℕ) (c : Class) → slice_get classes k ≡ Some c → takes_registers c.group ≡ true
      → AgreeBelow classes k other choice_of → choice_of k ≤ other k

-- the class with one choice alone
abbrev pub with_choice : ℕ → Class → Class
with_choice choice class = record class { choices = slice_set (replicate 8 false) choice true }

-- each class that takes registers is left the choice of the least assignment
pub record IsSettled (old new : List Class) : Type 0 where
  pub choice_of : ℕ → ℕ
  pub least : IsLeast old choice_of
  pub size : length new ≡ length old
  pub settled : (k : ℕ) (c : Class) → slice_get old k ≡ Some c → takes_registers c.group ≡ true → slice_get new k ≡ Some (with_choice (choice_of k) c)

-- the numbers of groups are below 32
abbrev pub is_below_32 : Group → Bool
is_below_32 Absent = true
is_below_32 Exclusive = true
is_below_32 (Numbered number) = nat_lt number 32

abbrev pub HasFewGroups : List Class → Type 0
HasFewGroups classes = IsTrue (list_all (λ (c : Class). is_below_32 c.group) classes)
