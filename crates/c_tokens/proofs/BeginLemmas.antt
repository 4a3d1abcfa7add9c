-- What the bytes of a token tell of the place where it begins.
use Rattle.std.proofs.Common.{◌≡◌, ℕ, zero, suc, ◌+◌, ◌<◌, ◌≤◌, inl, inr, Bool, true, false, List, [], ◌∷◌, take, drop, length, get_or, refl, arith, ◌==◌, ◌||◌, ◌&&◌, sym, ◌∙◌, subst, Some, None, length-take, get_or-take, get_or-drop, add-zero, not}
use Rattle.std.specs.List.{list_all}
use Rattle.std.proofs.lemmas.List.{get_or_past}
use Rattle.std.proofs.lemmas.Bool.{eqb-true, cases_lt, not-true, or_cases, or_parts, or_left, or_right, and_from}
use Rattle.c_tokens.specs.Bytes.{begins_name, continues_name, is_digit, is_quote}
use Rattle.c_tokens.specs.Puncts.{threes, twos, ones, begins, one_of}
use Rattle.c_tokens.specs.Items.{begins_number, opening_at}
use Rattle.c_tokens.specs.Spelling.{is_name, is_number, begins_with_digit, is_rest_of_number, is_quoted, is_literal, is_word_of, is_punctuator}
use Rattle.c_tokens.proofs.PunctLemmas.{and_left, and_right}
use Rattle.c_tokens.proofs.ByteLemmas.{begins_prefix, begins_literal, digit_or_dot, quote_some, digit_some, quote_ends_name, prefix_no_quote, prefix_some}

-- bytes from an offset on
byte_in : (text : List ℕ) (i n j : ℕ) → j < n → get_or (take n (drop i text)) j 0 ≡ get_or text (i + j) 0
byte_in text i n j lt = get_or-take n (drop i text) j 0 lt ∙ get_or-drop i text j 0

pub first_byte : (text : List ℕ) (i n : ℕ) → 0 < n → get_or (take n (drop i text)) 0 0 ≡ get_or text i 0
first_byte text i n lt =
    let P : ℕ → Type 0 = λ k. get_or (take n (drop i text)) 0 0 ≡ get_or text k 0 in
    subst P (add-zero i) (byte_in text i n 0 lt)

-- a byte that is not 0 is there
byte_seen : (text : List ℕ) (i n j : ℕ) → 0 < get_or (take n (drop i text)) j 0
    → get_or text (i + j) 0 ≡ get_or (take n (drop i text)) j 0
byte_seen text i n j some = elim (cases_lt j n) [
  | inl lt ↦ sym (byte_in text i n j lt)
  | inr ge ↦
      let short : length (take n (drop i text)) ≤ n = rw (length-take n (drop i text)) (omega arith) in
      let gone = get_or_past (take n (drop i text)) j 0 (omega (arith, short)) in
      absurd (omega (arith, some, gone))
]

first_seen : (text : List ℕ) (i n : ℕ) → 0 < get_or (take n (drop i text)) 0 0
    → get_or text i 0 ≡ get_or (take n (drop i text)) 0 0
first_seen text i n some =
    let P : ℕ → Type 0 = λ k. get_or text k 0 ≡ get_or (take n (drop i text)) 0 0 in
    subst P (add-zero i) (byte_seen text i n 0 some)

-- a name
name_begins : (bs : List ℕ) → is_name bs ≡ true → begins_name (get_or bs 0 0) ≡ true
name_begins [] h = cc
name_begins (b ∷ bs) h = and_left (begins_name b) (list_all continues_name bs) h

no_quote_in : (bs : List ℕ) (j : ℕ) → list_all continues_name bs ≡ true → is_quote (get_or bs j 0) ≡ false
no_quote_in [] j h = refl
no_quote_in (b ∷ bs) zero h = quote_ends_name b (and_left (continues_name b) (list_all continues_name bs) h)
no_quote_in (b ∷ bs) (suc j) h = no_quote_in bs j (and_right (continues_name b) (list_all continues_name bs) h)

no_quote : (bs : List ℕ) (j : ℕ) → is_name bs ≡ true → is_quote (get_or bs j 0) ≡ false
no_quote [] j h = refl
no_quote (b ∷ bs) zero h =
    quote_ends_name b (or_left (begins_name b) (is_digit b) (and_left (begins_name b) (list_all continues_name bs) h))
no_quote (b ∷ bs) (suc j) h = no_quote_in bs j (and_right (begins_name b) (list_all continues_name bs) h)

pub name_there : (text : List ℕ) (i n : ℕ) → 0 < n → is_name (take n (drop i text)) ≡ true
    → begins_name (get_or text i 0) ≡ true
name_there text i n lt h = rw (first_byte text i n lt) at (name_begins (take n (drop i text)) h)

pub no_quote_there : (text : List ℕ) (i n j : ℕ) → j < n → is_name (take n (drop i text)) ≡ true
    → is_quote (get_or text (i + j) 0) ≡ false
no_quote_there text i n j lt h = rw (byte_in text i n j lt) at (no_quote (take n (drop i text)) j h)

-- a number
number_begins : (bs : List ℕ) → is_number bs ≡ true
    → (is_digit (get_or bs 0 0) || ((get_or bs 0 0 == 46) && is_digit (get_or bs 1 0))) ≡ true
number_begins [] h = cc
number_begins (b ∷ bs) h =
    let is = digit_first bs in
    rw is at (and_left (is_digit b || ((b == 46) && begins_with_digit bs)) (is_rest_of_number false bs) h)
  where
    digit_first : (bs : List ℕ) → begins_with_digit bs ≡ is_digit (get_or bs 0 0)
    digit_first [] = refl
    digit_first (b ∷ bs) = refl

pub number_there : (text : List ℕ) (i n : ℕ) → 0 < n → is_number (take n (drop i text)) ≡ true
    → begins_number text i ≡ true
number_there text i n lt h =
    let bs = take n (drop i text) in
    elim (or_cases (is_digit (get_or bs 0 0)) ((get_or bs 0 0 == 46) && is_digit (get_or bs 1 0))
    (number_begins bs h)) [
      | inl d ↦ or_left (is_digit (get_or text i 0)) _ (rw (first_byte text i n lt) at d)
      | inr e ↦
          let dot = and_left (get_or bs 0 0 == 46) (is_digit (get_or bs 1 0)) e in
          let digit = and_right (get_or bs 0 0 == 46) (is_digit (get_or bs 1 0)) e in
          let there = byte_seen text i n 1 (digit_some (get_or bs 1 0) digit) in
          or_right (is_digit (get_or text i 0)) _
          (and_from (get_or text i 0 == 46) (is_digit (get_or text (i + 1) 0)) (rw (first_byte text i n lt) at dot)
          (rw there digit))
    ]

pub begins_with_digit_or_dot : (text : List ℕ) (i : ℕ) → begins_number text i ≡ true
    → digit_or_dot (get_or text i 0) ≡ true
begins_with_digit_or_dot text i h =
    either (is_digit (get_or text i 0)) (get_or text i 0 == 46) (is_digit (get_or text (i + 1) 0)) h
  where
    either : (d p q : Bool) → (d || (p && q)) ≡ true → (d || p) ≡ true
    either true p q h = refl
    either false p q h = and_left p q h

-- a literal: its quote stands first, or behind a prefix
pub data Prefixed (k : ℕ) (bs : List ℕ) : Type 0 where
  plain : get_or bs 0 0 ≡ k → Prefixed k bs
  lettered : begins_prefix (get_or bs 0 0) ≡ true → get_or bs 1 0 ≡ k → Prefixed k bs
  eight : get_or bs 0 0 ≡ 117 → get_or bs 1 0 ≡ 56 → get_or bs 2 0 ≡ k → Prefixed k bs

quoted_first : (k : ℕ) (bs : List ℕ) → is_quoted k bs ≡ true → get_or bs 0 0 ≡ k
quoted_first k [] h = cc
quoted_first k (b ∷ bs) h = eqb-true b k (and_left (b == k) _ h)

letter_first : (k n : ℕ) (bs : List ℕ) → begins_prefix n ≡ true
    → (begins (n ∷ []) bs && is_quoted k (drop 1 bs)) ≡ true → Prefixed k bs
letter_first k n [] p h = cc
letter_first k n (b ∷ bs) p h =
    let is : n ≡ b = eqb-true n b (and_left (n == b) true (and_left ((n == b) && true) (is_quoted k bs) h)) in
    lettered (rw is at p) (quoted_first k bs (and_right ((n == b) && true) (is_quoted k bs) h))

eight_first : (k : ℕ) (bs : List ℕ) → (begins (117 ∷ 56 ∷ []) bs && is_quoted k (drop 2 bs)) ≡ true → Prefixed k bs
eight_first k [] h = cc
eight_first k (b ∷ []) h = let gone : false ≡ true = and_right ((117 == b) && false) false h in cc
eight_first k (b ∷ c ∷ bs) h =
    let word = and_left ((117 == b) && ((56 == c) && true)) (is_quoted k bs) h in
    let first : 117 ≡ b = eqb-true 117 b (and_left (117 == b) ((56 == c) && true) word) in
    let second : 56 ≡ c = eqb-true 56 c (and_left (56 == c) true (and_right (117 == b) ((56 == c) && true) word)) in
    eight (sym first) (sym second)
    (quoted_first k bs (and_right ((117 == b) && ((56 == c) && true)) (is_quoted k bs) h))

literal_first : (k : ℕ) (bs : List ℕ) → is_literal k bs ≡ true → Prefixed k bs
literal_first k bs h = elim (or_cases _ _ h) [
  | inr e ↦ eight_first k bs e
  | inl h3 ↦ elim (or_cases _ _ h3) [
    | inr d ↦ letter_first k 85 bs refl d
    | inl h2 ↦ elim (or_cases _ _ h2) [
      | inr c ↦ letter_first k 117 bs refl c
      | inl h1 ↦ elim (or_cases _ _ h1) [ inr b ↦ letter_first k 76 bs refl b | inl a ↦ plain (quoted_first k bs a) ]
    ]
  ]
]

-- a literal with this quote begins at the offset
pub record OpensWith (text : List ℕ) (i k : ℕ) : Type 0 where
  pub quote : ℕ
  pub opens : opening_at text i ≡ Some quote
  pub there : get_or text quote 0 ≡ k

at_plain : (text : List ℕ) (i k : ℕ) → is_quote k ≡ true → get_or text i 0 ≡ k → OpensWith text i k
unfolding opening_at
at_plain text i k e f = record { quote = i; opens = rw (f, e) refl; there = f }

at_letter : (text : List ℕ) (i k : ℕ) → is_quote k ≡ true → begins_prefix (get_or text i 0) ≡ true
    → get_or text (i + 1) 0 ≡ k → OpensWith text i k
unfolding opening_at
at_letter text i k e p f =
    record { quote = i + 1; opens = rw (prefix_no_quote (get_or text i 0) p, p, f, e) refl; there = f }

at_eight : (text : List ℕ) (i k : ℕ) → is_quote k ≡ true → get_or text i 0 ≡ 117 → get_or text (i + 1) 0 ≡ 56
    → get_or text (i + 2) 0 ≡ k → OpensWith text i k
unfolding opening_at
at_eight text i k e f g h = record { quote = i + 2; opens = rw (f, g, h, e) refl; there = h }

pub literal_there : (text : List ℕ) (i n k : ℕ) → is_quote k ≡ true → is_literal k (take n (drop i text)) ≡ true
    → OpensWith text i k
literal_there text i n k e h = placed (literal_first k (take n (drop i text)) h)
  where
    some : 0 < k
    some = quote_some k e

    placed : Prefixed k (take n (drop i text)) → OpensWith text i k
    placed (plain a) = at_plain text i k e (first_seen text i n (omega (arith, a, some)) ∙ a)
    placed (lettered p a) =
        let first = first_seen text i n (prefix_some (get_or (take n (drop i text)) 0 0) p) in
        at_letter text i k e (rw first p) (byte_seen text i n 1 (omega (arith, a, some)) ∙ a)
    placed (eight a b c) =
        at_eight text i k e (first_seen text i n (omega (arith, a)) ∙ a)
        (byte_seen text i n 1 (omega (arith, b)) ∙ b) (byte_seen text i n 2 (omega (arith, c, some)) ∙ c)

pub no_opening : (text : List ℕ) (i : ℕ) → begins_literal (get_or text i 0) ≡ false → opening_at text i ≡ None
unfolding opening_at
no_opening text i h =
    let b = get_or text i 0 in
    let parts = or_parts (is_quote b) (begins_prefix b) h in
    let two = or_parts ((b == 76) || (b == 117)) (b == 85) parts.1 in
    let eighth = or_parts (b == 76) (b == 117) two.0 in
    rw (parts.0, parts.1, eighth.1) refl

-- a punctuator
same_word : (w bs : List ℕ) → length w ≡ length bs → begins w bs ≡ true → w ≡ bs
same_word [] [] l h = refl
same_word [] (b ∷ bs) l h = absurd (omega (arith, l))
same_word (w ∷ ws) [] l h = cc
same_word (w ∷ ws) (b ∷ bs) l h =
    let first = eqb-true w b (and_left (w == b) (begins ws bs) h) in
    let rest = same_word ws bs (omega (arith, l)) (and_right (w == b) (begins ws bs) h) in
    rw (first, rest) refl

-- what holds of each word of a table holds of its words
word_has : (p : List ℕ → Bool) (table : List (List ℕ)) (bs : List ℕ) → list_all p table ≡ true
    → is_word_of table bs ≡ true → p bs ≡ true
word_has p [] bs a h = cc
word_has p (w ∷ ws) bs a h = elim (or_cases ((length w == length bs) && begins w bs) (is_word_of ws bs) h) [
  | inl e ↦
      let same =
      same_word w bs (eqb-true (length w) (length bs) (and_left (length w == length bs) (begins w bs) e))
      (and_right (length w == length bs) (begins w bs) e) in
      let P : List ℕ → Type 0 = λ xs. p xs ≡ true in
      subst P same (and_left (p w) (list_all p ws) a)
  | inr more ↦ word_has p ws bs (and_right (p w) (list_all p ws) a) more
]

punctuator_has : (p : List ℕ → Bool) (bs : List ℕ) → list_all p threes ≡ true → list_all p twos ≡ true
    → list_all p ones ≡ true → is_punctuator bs ≡ true → p bs ≡ true
punctuator_has p bs a b c h = elim (or_cases (is_word_of threes bs || is_word_of twos bs) (is_word_of ones bs) h) [
  | inl two ↦ elim (or_cases (is_word_of threes bs) (is_word_of twos bs) two)
      [ inl x ↦ word_has p threes bs a x | inr y ↦ word_has p twos bs b y ]
  | inr z ↦ word_has p ones bs c z
]

-- the first byte of a punctuator is one, and begins nothing else
abbrev begins_punctuator : ℕ → Bool
begins_punctuator b = one_of ones (b ∷ []) && not (begins_name b || is_digit b || begins_literal b)

pub record PunctuatorThere (text : List ℕ) (i n : ℕ) : Type 0 where
  pub first : one_of ones (get_or text i 0 ∷ []) ≡ true
  pub no_name : begins_name (get_or text i 0) ≡ false
  pub no_digit : is_digit (get_or text i 0) ≡ false
  pub no_literal : opening_at text i ≡ None
  pub no_number : 1 < n → ((get_or text i 0 == 46) && is_digit (get_or text (i + 1) 0)) ≡ false

pub punctuator_there : (text : List ℕ) (i n : ℕ) → 0 < n → is_punctuator (take n (drop i text)) ≡ true
    → PunctuatorThere text i n
punctuator_there text i n lt h =
    let bs = take n (drop i text) in
    let is : begins_punctuator (get_or bs 0 0) ≡ true =
    punctuator_has (λ xs. begins_punctuator (get_or xs 0 0)) bs refl refl refl h in
    let begun : begins_punctuator (get_or text i 0) ≡ true = rw (first_byte text i n lt) at is in
    let first = and_left (one_of ones (get_or text i 0 ∷ [])) _ begun in
    let others = not-true _ (and_right (one_of ones (get_or text i 0 ∷ [])) _ begun) in
    let three =
    or_parts (begins_name (get_or text i 0) || is_digit (get_or text i 0)) (begins_literal (get_or text i 0)) others in
    let two = or_parts (begins_name (get_or text i 0)) (is_digit (get_or text i 0)) three.0 in
    let dot =
    not-true _ (punctuator_has (λ xs. not ((get_or xs 0 0 == 46) && is_digit (get_or xs 1 0))) bs refl refl refl h) in
    record {
      first = first;
      no_name = two.0;
      no_digit = two.1;
      no_literal = no_opening text i three.1;
      no_number = λ more. rw (first_byte text i n lt, byte_in text i n 1 more) at dot;
    }
