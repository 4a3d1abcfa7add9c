-- Words on lists that the other definitions share.
use Rattle.std.specs.Prelude.{◌≡◌, ◌⊎◌, ℕ, ◌+◌, List, [], ◌∷◌, Option, None, Some, slice_get}

-- as many numbers as the list has items, upwards from n
abbrev pub count_from : {A : Type 0} → ℕ → List A → List ℕ
count_from n [] = []
count_from n (x ∷ xs) = n ∷ count_from (n + 1) xs

-- the item stands in the list
abbrev pub IsMember : {A : Type 0} → A → List A → Type 0
IsMember x [] = ⊥
IsMember x (y ∷ ys) = (x ≡ y) ⊎ IsMember x ys

-- no item stands in both lists
abbrev pub AreApart : {A : Type 0} → List A → List A → Type 0
AreApart {A} xs ys = (x : A) → IsMember x xs → IsMember x ys → ⊥

-- the value of that number, if there is one
abbrev pub flattened : {A : Type 0} → Option (Option A) → Option A
flattened None = None
flattened (Some o) = o

abbrev pub optional_at : {A : Type 0} → List (Option A) → ℕ → Option A
optional_at xs number = flattened (slice_get xs number)
