-- The ends of names, numbers and literals are the farthest, by recursion on the bytes.
use Rattle.std.proofs.Common.{◌≡◌, ℕ, zero, suc, ◌+◌, ◌-◌, ◌<◌, ◌≤◌, Bool, true, false, List, [], ◌∷◌, take, length, cond, refl, arith, ◌==◌, ◌||◌, ◌&&◌, ◌∙◌, Option, Some, None}
use Rattle.std.specs.List.{prefix_len, list_all}
use Rattle.c_tokens.specs.Bytes.{continues_number, is_exponent, is_sign}
use Rattle.c_tokens.specs.Ends.{number_end, literal_end}
use Rattle.c_tokens.specs.Spelling.{is_rest_of_number, is_rest_of_literal, is_empty}

pub all_of_prefix : (p : ℕ → Bool) (xs : List ℕ) → list_all p (take (prefix_len p xs) xs) ≡ true
all_of_prefix p [] = refl
all_of_prefix p (x ∷ xs) = elim (p x) as (λ t. p x ≡ t → list_all p (take (cond t (1 + prefix_len p xs) 0) (x ∷ xs)) ≡ true) [
  | true ↦ λ e. let one : 1 + prefix_len p xs ≡ suc (prefix_len p xs) = omega arith in rw one (rw e (all_of_prefix p xs))
  | false ↦ λ e. refl
] refl

pub not_all_of_more : (p : ℕ → Bool) (xs : List ℕ) (m : ℕ) → prefix_len p xs < m → m ≤ length xs → list_all p (take m xs) ≡ false
not_all_of_more p [] m lt le = absurd (omega arith)
not_all_of_more p (x ∷ xs) zero lt le = absurd (omega arith)
not_all_of_more p (x ∷ xs) (suc m) lt le = elim (p x) as (λ t. p x ≡ t → cond t (1 + prefix_len p xs) 0 < suc m → (t && list_all p (take m xs)) ≡ false) [
  | true ↦ λ e lt. not_all_of_more p xs m (omega arith) (omega arith)
  | false ↦ λ e lt. refl
] refl lt

pub number_end-le : (x : Bool) (i : ℕ) (xs : List ℕ) → i ≤ number_end x i xs
unfolding number_end
number_end-le x i [] = omega arith
number_end-le x i (b ∷ bs) = elim (continues_number b || (x && is_sign b)) as (λ t. i ≤ cond t (number_end (is_exponent b) (i + 1) bs) i) [
  | true ↦ let more = number_end-le (is_exponent b) (i + 1) bs in omega arith
  | false ↦ omega arith
]

pub number_end-fits : (x : Bool) (i : ℕ) (xs : List ℕ) → number_end x i xs ≤ i + length xs
unfolding number_end
number_end-fits x i [] = omega arith
number_end-fits x i (b ∷ bs) =
    elim (continues_number b || (x && is_sign b)) as
    (λ t. cond t (number_end (is_exponent b) (i + 1) bs) i ≤ i + length (b ∷ bs)) [
      | true ↦ let more = number_end-fits (is_exponent b) (i + 1) bs in omega arith
      | false ↦ omega arith
    ]

pub number_to_end : (x : Bool) (i : ℕ) (xs : List ℕ) → is_rest_of_number x (take (number_end x i xs - i) xs) ≡ true
unfolding number_end is_rest_of_number
number_to_end x i [] = elim (i - i) as (λ n. is_rest_of_number x (take n []) ≡ true) [ zero ↦ refl | suc n ↦ refl ]
number_to_end x i (b ∷ bs) = elim (continues_number b || (x && is_sign b)) as (λ t. (continues_number b || (x && is_sign b)) ≡ t → is_rest_of_number x (take (cond t (number_end (is_exponent b) (i + 1) bs) i - i) (b ∷ bs)) ≡ true) [
  | true ↦ λ e.
      let more = number_end-le (is_exponent b) (i + 1) bs in
      let one : number_end (is_exponent b) (i + 1) bs - i ≡ suc (number_end (is_exponent b) (i + 1) bs - (i + 1)) = omega arith in
      rw one (rw e (number_to_end (is_exponent b) (i + 1) bs))
  | false ↦ λ e. let nought : i - i ≡ 0 = omega arith in rw nought refl
] refl

pub number_no_more : (x : Bool) (i : ℕ) (xs : List ℕ) (m : ℕ) → number_end x i xs < i + m → m ≤ length xs → is_rest_of_number x (take m xs) ≡ false
unfolding number_end is_rest_of_number
number_no_more x i [] m lt le = absurd (omega arith)
number_no_more x i (b ∷ bs) zero lt le = let more = number_end-le x i (b ∷ bs) in absurd (omega arith)
number_no_more x i (b ∷ bs) (suc m) lt le = elim (continues_number b || (x && is_sign b)) as (λ t. cond t (number_end (is_exponent b) (i + 1) bs) i < i + suc m → (t && is_rest_of_number (is_exponent b) (take m bs)) ≡ false) [
  | true ↦ λ lt. number_no_more (is_exponent b) (i + 1) bs m (omega arith) (omega arith)
  | false ↦ λ lt. refl
] lt

-- where a literal ends, and what it spells
pub record IsClosed (q : ℕ) (t : Bool) (i : ℕ) (xs : List ℕ) (e : ℕ) : Type 0 where
  pub behind : i < e
  pub inside : e ≤ i + length xs
  pub spelt : is_rest_of_literal q t (take (e - i) xs) ≡ true
  pub longest : (m : ℕ) → e < i + m → m ≤ length xs → is_rest_of_literal q t (take m xs) ≡ false

abbrev pub Closing : ℕ → Bool → ℕ → List ℕ → Option ℕ → Type 0
Closing q t i xs (Some e) = IsClosed q t i xs e
Closing q t i xs None = (m : ℕ) → m ≤ length xs → is_rest_of_literal q t (take m xs) ≡ false

later : (q : ℕ) (t u : Bool) (i b : ℕ) (bs : List ℕ) (r : Option ℕ) → ((ys : List ℕ) → is_rest_of_literal q t (b ∷ ys) ≡ is_rest_of_literal q u ys)
    → Closing q u (i + 1) bs r → Closing q t i (b ∷ bs) r
unfolding is_rest_of_literal
later q t u i b bs None step c = none
  where
    none : (m : ℕ) → m ≤ length (b ∷ bs) → is_rest_of_literal q t (take m (b ∷ bs)) ≡ false
    none zero le = refl
    none (suc m) le = step (take m bs) ∙ c m (omega arith)
later q t u i b bs (Some e) step c = record {
  behind = let before = c.behind in omega arith;
  inside = let within = c.inside in omega arith;
  spelt = let before = c.behind in let one : e - i ≡ suc (e - (i + 1)) = omega arith in rw one (step (take (e - (i + 1)) bs) ∙ c.spelt);
  longest = longest;
}
  where
    longest : (m : ℕ) → e < i + m → m ≤ length (b ∷ bs) → is_rest_of_literal q t (take m (b ∷ bs)) ≡ false
    longest zero lt le = refl
    longest (suc m) lt le = step (take m bs) ∙ c.longest m (omega arith) (omega arith)

closed_here : (q i b : ℕ) (bs : List ℕ) → ((ys : List ℕ) → is_rest_of_literal q false (b ∷ ys) ≡ is_empty ys) → Closing q false i (b ∷ bs) (Some (i + 1))
unfolding is_rest_of_literal
closed_here q i b bs step = record {
  behind = omega arith;
  inside = omega arith;
  spelt = let one : i + 1 - i ≡ 1 = omega arith in rw one (step []);
  longest = longest;
}
  where
    not_empty : (m : ℕ) (ys : List ℕ) → 0 < m → m ≤ length ys → is_empty (take m ys) ≡ false
    not_empty zero ys lt le = absurd (omega arith)
    not_empty (suc m) [] lt le = absurd (omega arith)
    not_empty (suc m) (y ∷ ys) lt le = refl

    longest : (m : ℕ) → i + 1 < i + m → m ≤ length (b ∷ bs) → is_rest_of_literal q false (take m (b ∷ bs)) ≡ false
    longest zero lt le = refl
    longest (suc m) lt le = step (take m bs) ∙ not_empty m bs (omega arith) (omega arith)

pub closing : (q : ℕ) (t : Bool) (i : ℕ) (xs : List ℕ) → Closing q t i xs (literal_end q t i xs)
unfolding literal_end is_rest_of_literal
closing q t i [] = λ m le. nothing m
  where
    nothing : (m : ℕ) → is_rest_of_literal q t (take m []) ≡ false
    nothing zero = refl
    nothing (suc m) = refl
closing q true i (b ∷ bs) = later q true false i b bs (literal_end q false (i + 1) bs) (λ ys. refl) (closing q false (i + 1) bs)
closing q false i (b ∷ bs) =
    elim (b == q) as (λ t. (b == q) ≡ t → Closing q false i (b ∷ bs) (cond t (Some (i + 1)) (cond (b == 92) (literal_end q true (i + 1) bs) (cond (b == 10) None (literal_end q false (i + 1) bs))))) [
      | true ↦ λ e. closed_here q i b bs (λ ys. rw e refl)
      | false ↦ λ e. elim (b == 92) as (λ t. (b == 92) ≡ t → Closing q false i (b ∷ bs) (cond t (literal_end q true (i + 1) bs) (cond (b == 10) None (literal_end q false (i + 1) bs)))) [
        | true ↦ λ f. later q false true i b bs (literal_end q true (i + 1) bs) (λ ys. rw (e, f) refl) (closing q true (i + 1) bs)
        | false ↦ λ f. elim (b == 10) as (λ t. (b == 10) ≡ t → Closing q false i (b ∷ bs) (cond t None (literal_end q false (i + 1) bs))) [
          | true ↦ λ g. stopped q b bs (λ ys. rw (e, f, g) refl)
          | false ↦ λ g. later q false false i b bs (literal_end q false (i + 1) bs) (λ ys. rw (e, f, g) refl) (closing q false (i + 1) bs)
        ] refl
      ] refl
    ] refl
  where
    stopped : (q b : ℕ) (bs : List ℕ) → ((ys : List ℕ) → is_rest_of_literal q false (b ∷ ys) ≡ false) → (m : ℕ) → m ≤ length (b ∷ bs) → is_rest_of_literal q false (take m (b ∷ bs)) ≡ false
    stopped q b bs step zero le = refl
    stopped q b bs step (suc m) le = step (take m bs)
