-- One number more of a range, and one item more of a list.
use Rattle.std.proofs.Common.{◌≡◌, ℕ, zero, suc, ◌+◌, List, [], ◌∷◌, ◌++◌, map, append_assoc, Result, Ok, Err, OnOk, ap, sym, ◌∙◌, arith}
use Rattle.std.specs.List.{range_with_len, flat_map}
use Rattle.std.proofs.lemmas.List.{map-append, append-nil}
use Rattle.std.proofs.lemmas.Grind.{flat_map-append}

pub range_more : (a n : ℕ) → range_with_len a (n + 1) ≡ range_with_len a n ++ (a + n) ∷ []
range_more a zero = ap (λ b. b ∷ []) (same a)
  where
    same : (a : ℕ) → a ≡ a + 0
    same a = omega arith
range_more a (suc n) =
    let count : suc n + 1 ≡ suc (n + 1) = omega arith in
    let last : a + 1 + n ≡ a + suc n = omega arith in
    rw count (ap (λ xs. a ∷ xs) (range_more (a + 1) n ∙ ap (λ b. range_with_len (a + 1) n ++ b ∷ []) last))

-- the next number of a range is appended
pub range_next : (a n x : ℕ) (start old new : List ℕ) → old ≡ start ++ range_with_len a n → new ≡ old ++ x ∷ [] → x
    ≡ a + n → new ≡ start ++ range_with_len a (n + 1)
range_next a n x start old new is more last =
    more ∙ ap (λ xs. xs ++ x ∷ []) is ∙ append_assoc start (range_with_len a n) (x ∷ [])
    ∙ ap (λ b. start ++ (range_with_len a n ++ b ∷ [])) last ∙ ap (λ xs. start ++ xs) (sym (range_more a n))

-- what the next number of a range gives is appended
pub map_next : {X : Type 0} (f : ℕ → X) (n : ℕ) (start old new : List X) (x : X) → old ≡ start
    ++ map f (range_with_len 0 n) → new ≡ old ++ x ∷ [] → x ≡ f n
    → new ≡ start ++ map f (range_with_len 0 (n + 1))
map_next f n start old new x is more last =
    let zero_more : 0 + n ≡ n = omega arith in
    more ∙ ap (λ xs. xs ++ x ∷ []) is ∙ append_assoc start (map f (range_with_len 0 n)) (x ∷ [])
    ∙ ap (λ b. start ++ (map f (range_with_len 0 n) ++ b ∷ [])) (last ∙ ap f (sym zero_more))
    ∙ ap (λ xs. start ++ xs)
    (sym (map-append f (range_with_len 0 n) ((0 + n) ∷ [])) ∙ ap (map f) (sym (range_more 0 n)))

pub flat_map_next : {X : Type 0} (f : ℕ → List X) (n : ℕ) (start old new : List X) → old ≡ start
    ++ flat_map f (range_with_len 0 n) → new ≡ old ++ f n
    → new ≡ start ++ flat_map f (range_with_len 0 (n + 1))
flat_map_next f n start old new is more =
    let zero_more : 0 + n ≡ n = omega arith in
    more ∙ ap (λ xs. xs ++ f n) is ∙ append_assoc start (flat_map f (range_with_len 0 n)) (f n)
    ∙ ap (λ xs. start ++ (flat_map f (range_with_len 0 n) ++ xs)) (ap f (sym zero_more) ∙ sym (append-nil (f (0 + n))))
    ∙ ap (λ xs. start ++ xs)
    (sym (flat_map-append f (range_with_len 0 n) ((0 + n) ∷ [])) ∙ ap (flat_map f) (sym (range_more 0 n)))

-- two lists are appended, one after the other
pub map_both : {A X E : Type 0} (f : A → X) (xs ys : List A) (start between new : List X) (r : Result (Unit {0}) E)
    → between ≡ start ++ map f xs
    → OnOk r (new ≡ between ++ map f ys) → OnOk r (new ≡ start ++ map f (xs ++ ys))
map_both f xs ys start between new (Ok x) first second =
    second ∙ ap (λ zs. zs ++ map f ys) first ∙ append_assoc start (map f xs) (map f ys)
    ∙ ap (λ zs. start ++ zs) (sym (map-append f xs ys))
map_both f xs ys start between new (Err e) first second = second
