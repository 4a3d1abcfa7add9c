-- Truth values, and pairs of places.
use Rattle.std.proofs.Common.{◌≡◌, None, Some, inl, inr, ℕ, ◌+◌, ◌<◌, ◌||◌, Bool, true, false, refl, sym, ap, subst, ◌∙◌, arith}
use Rattle.std.specs.List.{list_any, range_with_len}
use Rattle.std.proofs.lemmas.Bool.{cases_Bool, cases_eq, both_ways, and_parts, ltb-true, lt-leb}
use Rattle.std.proofs.lemmas.List.Folds.{list_any_at}
use Rattle.std.proofs.lemmas.List.FromFn.{length-range_with_len, get_or-range_with_len}
use Rattle.blk_deps.specs.Cells.{is_byte, is_hand, place_of}
use Rattle.blk_deps.specs.Facts.{Facts, is_paired}
use Rattle.blk_deps.specs.declared.fact.Property.TheVariants.{Pair}
use Rattle.blk_deps.specs.declared.fact.Fact.TheVariants.{Has}
use Rattle.blk_frame.specs.World.{Placed, is_register_byte}

-- a test of the numbers below n
pub some_below : (test : ℕ → Bool) (n k : ℕ) → k < n → test k ≡ true → list_any test (range_with_len 0 n) ≡ true
some_below test n k lt holds =
    list_any_at test (range_with_len 0 n) k 0 (subst (λ m. k < m) (sym (length-range_with_len 0 n)) lt)
    (ap test (get_or-range_with_len 0 n k 0 lt) ∙ ap test (zero_and k) ∙ holds)
  where
    zero_and : (k : ℕ) → 0 + k ≡ k
    zero_and k = omega arith

pub by_truth : {P : Type 0} (b : Bool) → (b ≡ true → P) → (b ≡ false → P) → P
by_truth b where_true otherwise = elim (cases_Bool b) [ inl e ↦ where_true e | inr e ↦ otherwise e ]

pub either_false : (x y : Bool) → (x || y) ≡ false → (x ≡ false) × (y ≡ false)
either_false false false h = (refl, refl)
either_false false true h = absurd (both_ways true h refl)
either_false true y h = absurd (both_ways true h refl)

-- a cell of a place has a place below 37, and is no hand
pub place_below : (c : ℕ) → is_byte c ≡ true → place_of c < 37
place_below c is = let lt = ltb-true c 148 is in omega (arith, lt)

pub byte_no_hand : (c : ℕ) → is_byte c ≡ true → is_hand c ≡ false
byte_no_hand c is = let lt = ltb-true c 148 is in lt-leb 218 c (omega (arith, lt))

-- a value that has no pair is good
pub none_paired : (s : Facts) (c d p : ℕ) → d < 37 → p < 37 → is_paired s c ≡ false → s (Has c (Pair d p)) ≡ true → ⊥
none_paired s c d p dlt plt none has =
    both_ways _ none (some_below (λ q. list_any (λ e. s (Has c (Pair e q))) (range_with_len 0 37)) 37 p plt
    (some_below (λ e. s (Has c (Pair e p))) 37 d dlt has))

pub byte_placed : (x : Placed) (c : ℕ) → is_register_byte x c ≡ true → x.in_register (place_of c) ≡ true
byte_placed x c is = (and_parts _ _ is).1

-- where an answer in numbers follows from something and from its contrary, it holds
pub either_way : {P : Type 0} (a b : ℕ) → (P → a ≡ b) → ((P → ⊥) → a ≡ b) → a ≡ b
either_way a b if_so if_not = elim (cases_eq a b) [ inl same ↦ same | inr other ↦ if_not (λ is. other (if_so is)) ]

pub same_some : {A : Type 0} (a b : A) → Some a ≡ Some b → a ≡ b
same_some a b e = ap (λ o. elim o [ None ↦ a | Some h ↦ h ]) e
