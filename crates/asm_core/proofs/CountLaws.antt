-- Numbers counted along a list, one at a time.
use Rattle.std.proofs.Common.{◌≡◌, ℕ, ◌+◌, ◌<◌, ◌≤◌, List, [], ◌∷◌, length, drop, ap, arith}
use Rattle.std.proofs.lemmas.List.{drop_all, drop_more}
use Rattle.asm_core.specs.Lists.{count_from}

-- the first number and the others
pub counted_more : {A : Type 0} (xs : List A) (k m : ℕ) → k < length xs → count_from m (drop k xs) ≡ m ∷ count_from (m + 1) (drop (k + 1) xs)
counted_more [] k m lt = absurd (omega arith)
counted_more (x ∷ xs) k m lt = ap (count_from m) (drop_more (x ∷ xs) k x lt)

-- behind the last
pub counted_all : {A : Type 0} (xs : List A) (k m : ℕ) → length xs ≤ k → count_from m (drop k xs) ≡ []
counted_all xs k m le = ap (count_from m) (drop_all k xs le)
