-- A punctuator is the longest of the table's.
use Rattle.std.proofs.Common.{◌≡◌, ℕ, zero, suc, ◌<◌, ◌≤◌, Bool, true, false, List, [], ◌∷◌, take, length, cond, refl, arith, ◌==◌, ◌||◌, ◌&&◌, sym, ◌∙◌, subst, eq-eqb}
use Rattle.std.proofs.lemmas.List.{length-take-le}
use Rattle.std.proofs.lemmas.Bool.{eqb-true}
use Rattle.c_tokens.specs.Puncts.{threes, twos, ones, begins, one_of, punctuator_len}
use Rattle.c_tokens.specs.Spelling.{is_word_of, is_punctuator}
use Rattle.c_tokens.proofs.PunctLemmas.{and_left, and_right, all_of_len, one_of_fits}

begins_take : (w bs : List ℕ) → begins w bs ≡ true → begins w (take (length w) bs) ≡ true
begins_take [] bs h = refl
begins_take (w ∷ ws) [] h = cc
begins_take (w ∷ ws) (b ∷ bs) h = rw (and_left (w == b) (begins ws bs) h) (begins_take ws bs (and_right (w == b) (begins ws bs) h))

begins_more : (w bs : List ℕ) (m : ℕ) → begins w bs ≡ false → begins w (take m bs) ≡ false
begins_more [] bs m h = cc
begins_more (w ∷ ws) [] zero h = refl
begins_more (w ∷ ws) [] (suc m) h = refl
begins_more (w ∷ ws) (b ∷ bs) zero h = refl
begins_more (w ∷ ws) (b ∷ bs) (suc m) h = elim (w == b) as (λ t. (t && begins ws bs) ≡ false → (t && begins ws (take m bs)) ≡ false) [ true ↦ λ h. begins_more ws bs m h | false ↦ λ h. refl ] h

word_there : (k : ℕ) (table : List (List ℕ)) (bs : List ℕ) → all_of_len k table ≡ true → one_of table bs ≡ true → is_word_of table (take k bs) ≡ true
word_there k [] bs a h = cc
word_there k (w ∷ ws) bs a h =
    let fits = one_of_fits k (w ∷ ws) bs a h in
    let cut : length (take k bs) ≡ k = length-take-le k bs fits in
    let size : length w ≡ k = eqb-true (length w) k (and_left (length w == k) (all_of_len k ws) a) in
    elim (begins w bs) as (λ t. begins w bs ≡ t → (t || one_of ws bs) ≡ true → is_word_of (w ∷ ws) (take k bs) ≡ true) [
      | true ↦ λ e _.
          let same : (length w == length (take k bs)) ≡ true = eq-eqb _ _ (size ∙ sym cut) in
          let whole : begins w (take k bs) ≡ true = let P : ℕ → Type 0 = λ n. begins w (take n bs) ≡ true in subst P size (begins_take w bs e) in
          rw (same, whole) refl
      | false ↦ λ _ more. let rest = word_there k ws bs (and_right (length w == k) (all_of_len k ws) a) more in or_right _ _ rest
    ] refl h
  where
    or_right : (x y : Bool) → y ≡ true → (x || y) ≡ true
    or_right true y h = refl
    or_right false y h = h

or_first : (x y : Bool) → (x || y) ≡ false → x ≡ false
or_first true y h = h
or_first false y h = refl

or_second : (x y : Bool) → (x || y) ≡ false → y ≡ false
or_second true y h = cc
or_second false y h = h

word_gone : (k : ℕ) (table : List (List ℕ)) (bs : List ℕ) (m : ℕ) → all_of_len k table ≡ true → m ≤ length bs → (m ≡ k → one_of table bs ≡ false) → is_word_of table (take m bs) ≡ false
word_gone k [] bs m a le h = refl
word_gone k (w ∷ ws) bs m a le h =
    let cut : length (take m bs) ≡ m = length-take-le m bs le in
    let size : length w ≡ k = eqb-true (length w) k (and_left (length w == k) (all_of_len k ws) a) in
    let rest = word_gone k ws bs m (and_right (length w == k) (all_of_len k ws) a) le (λ e. or_second (begins w bs) (one_of ws bs) (h e)) in
    elim (length w == length (take m bs)) as (λ t. (length w == length (take m bs)) ≡ t → ((t && begins w (take m bs)) || is_word_of ws (take m bs)) ≡ false) [
      | true ↦ λ e.
          let is : m ≡ k = sym cut ∙ sym (eqb-true _ _ e) ∙ size in
          rw (begins_more w bs m (or_first (begins w bs) (one_of ws bs) (h is))) rest
      | false ↦ λ _. rest
    ] refl

-- the bytes of this length are a punctuator, and no more are
pub record IsWord (bs : List ℕ) (n : ℕ) : Type 0 where
  pub spelt : 0 < n → is_punctuator (take n bs) ≡ true
  pub longest : (m : ℕ) → n < m → m ≤ length bs → is_punctuator (take m bs) ≡ false
  pub none : n ≡ 0 → one_of ones bs ≡ false

gone : (bs : List ℕ) (m : ℕ) → m ≤ length bs → (m ≡ 3 → one_of threes bs ≡ false) → (m ≡ 2 → one_of twos bs ≡ false) → (m ≡ 1 → one_of ones bs ≡ false) → is_punctuator (take m bs) ≡ false
gone bs m le a b c = rw (word_gone 3 threes bs m refl le a, word_gone 2 twos bs m refl le b, word_gone 1 ones bs m refl le c) refl

pub punctuator : (bs : List ℕ) → IsWord bs (punctuator_len bs)
unfolding punctuator_len
punctuator bs =
    elim (one_of threes bs) as (λ t. one_of threes bs ≡ t → IsWord bs (cond t 3 (cond (one_of twos bs) 2 (cond (one_of ones bs) 1 0)))) [
      | true ↦ λ a. record {
        spelt = λ lt. rw (word_there 3 threes bs refl a) refl;
        longest = λ m lt le. gone bs m le (λ e. absurd (omega arith)) (λ e. absurd (omega arith)) (λ e. absurd (omega arith));
        none = λ e. absurd (omega arith);
      }
      | false ↦ λ a. elim (one_of twos bs) as (λ t. one_of twos bs ≡ t → IsWord bs (cond t 2 (cond (one_of ones bs) 1 0))) [
        | true ↦ λ b. record {
          spelt = λ lt. rw (word_there 2 twos bs refl b) (first_or _ _);
          longest = λ m lt le. gone bs m le (λ e. a) (λ e. absurd (omega arith)) (λ e. absurd (omega arith));
          none = λ e. absurd (omega arith);
        }
        | false ↦ λ b. elim (one_of ones bs) as (λ t. one_of ones bs ≡ t → IsWord bs (cond t 1 0)) [
          | true ↦ λ c. record {
            spelt = λ lt. rw (word_there 1 ones bs refl c) (last_or _);
            longest = λ m lt le. gone bs m le (λ e. a) (λ e. b) (λ e. absurd (omega arith));
            none = λ e. absurd (omega arith);
          }
          | false ↦ λ c. record {
            spelt = λ lt. absurd (omega arith);
            longest = λ m lt le. gone bs m le (λ e. a) (λ e. b) (λ e. c);
            none = λ e. c;
          }
        ] refl
      ] refl
    ] refl
  where
    first_or : (x y : Bool) → ((x || true) || y) ≡ true
    first_or true y = refl
    first_or false y = refl

    last_or : (x : Bool) → (x || true) ≡ true
    last_or true = refl
    last_or false = refl
