-- A name, a number, a literal and a punctuator are each the longest of its kind.
use Rattle.std.proofs.Common.{◌≡◌, ℕ, zero, suc, ◌+◌, ◌-◌, ◌<◌, ◌≤◌, inl, inr, Bool, true, false, List, [], ◌∷◌, take, drop, length, get_or, cond, refl, arith, ◌==◌, ◌||◌, ◌&&◌, ap, sym, ◌∙◌, subst, Option, Some, None, length-drop, get_or-drop, add-zero}
use Rattle.std.specs.Prelude.{slice_range}
use Rattle.std.specs.List.{prefix_len, take_while}
use Rattle.std.proofs.lemmas.List.{drop_more, drop-drop}
use Rattle.std.proofs.lemmas.List.Folds.{length-prefix_len}
use Rattle.std.proofs.lemmas.Bool.{eqb-true, cases_lt}
use Rattle.c_tokens.specs.declared.token.TokenKind.{TokenKind}
use Rattle.c_tokens.specs.declared.token.TokenKind.TheVariants.{Name, Number}
use Rattle.c_tokens.specs.Bytes.{begins_name, continues_name, is_digit, is_letter, is_quote, is_pair_at, continues_number, is_exponent, is_sign}
use Rattle.c_tokens.specs.Ends.{name_end, number_end}
use Rattle.c_tokens.specs.Items.{begins_number, opening_at, literal_kind}
use Rattle.c_tokens.specs.Spelling.{spells, is_rest_of_literal, begins_with_digit}
use Rattle.c_tokens.specs.Cut.{IsOpenLiteral}
use Rattle.c_tokens.proofs.LongestLemmas.{all_of_prefix, not_all_of_more, number_end-le, number_end-fits, number_to_end, number_no_more, IsClosed}
use Rattle.c_tokens.proofs.EndSteps.{take_while-le}
use Rattle.c_tokens.proofs.ByteLemmas.{quote_cases}
use Rattle.c_tokens.proofs.PunctLemmas.{and_left, and_right}
use Rattle.c_tokens.proofs.WhiteLemmas.{past}

-- The bytes between the offsets are a token, and no more bytes are one of its kind.
pub record IsLongest (text : List ℕ) (kind : TokenKind) (from to : ℕ) : Type 0 where
  pub some : from < to
  pub inside : to ≤ length text
  pub spelt : spells kind (slice_range text from to) ≡ true
  pub longest : (later : ℕ) → to < later → later ≤ length text → spells kind (slice_range text from later) ≡ false

and_no : (a : Bool) → (a && false) ≡ false
and_no true = refl
and_no false = refl

or_yes : (a : Bool) → (a || true) ≡ true
or_yes true = refl
or_yes false = refl

or_no : (a : Bool) → (a || false) ≡ a
or_no true = refl
or_no false = refl

pub longest_name : (text : List ℕ) (a : ℕ) → a < length text → begins_name (get_or text a 0) ≡ true → IsLongest text Name a (name_end text (a + 1))
unfolding name_end
longest_name text a lt b =
    let rest = drop (a + 1) text in
    let len = length-prefix_len continues_name rest in
    let size = length-drop (a + 1) text in
    let fits = take_while-le continues_name rest in
    record {
      some = omega arith;
      inside = omega (arith, size, fits);
      spelt =
          let n : a + 1 + length (take_while continues_name rest) - a ≡ suc (prefix_len continues_name rest) = omega (arith, len) in
          rw (n, drop_more text a 0 lt) (rw b (all_of_prefix continues_name rest));
      longest = λ later gt le.
          let m : later - a ≡ suc (later - (a + 1)) = omega arith in
          rw (m, drop_more text a 0 lt) (rw (b, not_all_of_more continues_name rest (later - (a + 1)) (omega (arith, len)) (omega (arith, size))) refl);
    }

-- a number's first byte, and a digit behind a leading `.`
digit_behind : (x : Bool) (i m : ℕ) (xs : List ℕ) → is_digit (get_or xs 0 0) ≡ true → number_end x i xs ≤ i + m → begins_with_digit (take m xs) ≡ true
unfolding number_end
digit_behind x i m [] d le = cc
digit_behind x i zero (b ∷ bs) d le =
    let goes : (continues_number b || (x && is_sign b)) ≡ true = first_true b (x && is_sign b) d in
    let more = number_end-le (is_exponent b) (i + 1) bs in
    let here : number_end (is_exponent b) (i + 1) bs ≤ i + 0 = rw goes at le in
    absurd (omega arith)
  where
    first_true : (b : ℕ) (y : Bool) → is_digit b ≡ true → (continues_number b || y) ≡ true
    first_true b y e = rw (e, or_yes (is_letter b)) refl
digit_behind x i (suc m) (b ∷ bs) d le = d

pub longest_number : (text : List ℕ) (a : ℕ) → a < length text → begins_number text a ≡ true → IsLongest text Number a (number_end false (a + 1) (drop (a + 1) text))
longest_number text a lt b =
    let rest = drop (a + 1) text in
    let further = number_end-le false (a + 1) rest in
    let size = length-drop (a + 1) text in
    let fits = number_end-fits false (a + 1) rest in
    record {
      some = omega arith;
      inside = omega (arith, size, fits);
      spelt =
          let n : number_end false (a + 1) rest - a ≡ suc (number_end false (a + 1) rest - (a + 1)) = omega arith in
          let next : get_or rest 0 0 ≡ get_or text (a + 1) 0 = rw (get_or-drop (a + 1) text 0 0, add-zero) refl in
          let first = either (is_digit (get_or text a 0)) (get_or text a 0 == 46) (is_digit (get_or text (a + 1) 0)) (begins_with_digit (take (number_end false (a + 1) rest - (a + 1)) rest)) b
          (λ d. digit_behind false (a + 1) (number_end false (a + 1) rest - (a + 1)) rest (rw next d) (omega arith)) in
          rw (n, drop_more text a 0 lt) (rw first (number_to_end false (a + 1) rest));
      longest = λ later gt le.
          let m : later - a ≡ suc (later - (a + 1)) = omega arith in
          rw (m, drop_more text a 0 lt) (rw (number_no_more false (a + 1) rest (later - (a + 1)) (omega arith) (omega (arith, size))) (and_no _));
    }
  where
    either : (d p q r : Bool) → (d || (p && q)) ≡ true → (q ≡ true → r ≡ true) → (d || (p && r)) ≡ true
    either true p q r h k = refl
    either false true q r h k = k h
    either false false q r h k = h

-- a number that begins with `.` is two bytes at least
pub number_of_two : (text : List ℕ) (a : ℕ) → begins_number text a ≡ true → is_digit (get_or text a 0) ≡ false
    → a + 1 < number_end false (a + 1) (drop (a + 1) text)
number_of_two text a b d = elim (cases_lt (a + 1) (number_end false (a + 1) (drop (a + 1) text))) [
  | inl lt ↦ lt
  | inr ge ↦
      let dot : ((get_or text a 0 == 46) && is_digit (get_or text (a + 1) 0)) ≡ true = rw d at b in
      let digit = and_right (get_or text a 0 == 46) (is_digit (get_or text (a + 1) 0)) dot in
      let next : get_or (drop (a + 1) text) 0 0 ≡ get_or text (a + 1) 0 =
      rw (get_or-drop (a + 1) text 0 0, add-zero) refl in
      let gone = digit_behind false (a + 1) 0 (drop (a + 1) text) (rw next digit) (omega arith) in
      cc
]

-- a literal's quote stands behind a prefix of p bytes: which bytes spell a literal is told by those behind the quote
pub record Opened (k : ℕ) (bs : List ℕ) (p : ℕ) : Type 0 where
  pub same : (m n : ℕ) → n ≡ p + 1 + m → spells (literal_kind k) (take n bs) ≡ is_rest_of_literal k false (take m (drop (p + 1) bs))
  pub short : (n : ℕ) → n ≤ p → spells (literal_kind k) (take n bs) ≡ false

double : (ys : List ℕ) → Opened 34 (34 ∷ ys) 0
double ys = record {
  same = λ m n e. let s : n ≡ suc m = omega arith in rw s (simp or_no);
  short = λ n le. let s : n ≡ 0 = omega arith in rw s refl;
}

single : (ys : List ℕ) → Opened 39 (39 ∷ ys) 0
single ys = record {
  same = λ m n e. let s : n ≡ suc m = omega arith in rw s (simp or_no);
  short = λ n le. let s : n ≡ 0 = omega arith in rw s refl;
}

wide_double : (ys : List ℕ) → Opened 34 (76 ∷ 34 ∷ ys) 1
wide_double ys = record {
  same = λ m n e. let s : n ≡ suc (suc m) = omega arith in rw s (simp or_no);
  short = few;
}
  where
    few : (n : ℕ) → n ≤ 1 → spells (literal_kind 34) (take n (76 ∷ 34 ∷ ys)) ≡ false
    few zero le = refl
    few (suc zero) le = refl
    few (suc (suc n)) le = absurd (omega arith)

wide_single : (ys : List ℕ) → Opened 39 (76 ∷ 39 ∷ ys) 1
wide_single ys = record {
  same = λ m n e. let s : n ≡ suc (suc m) = omega arith in rw s (simp or_no);
  short = few;
}
  where
    few : (n : ℕ) → n ≤ 1 → spells (literal_kind 39) (take n (76 ∷ 39 ∷ ys)) ≡ false
    few zero le = refl
    few (suc zero) le = refl
    few (suc (suc n)) le = absurd (omega arith)

sixteen_double : (ys : List ℕ) → Opened 34 (117 ∷ 34 ∷ ys) 1
sixteen_double ys = record {
  same = λ m n e. let s : n ≡ suc (suc m) = omega arith in rw s (simp or_no);
  short = few;
}
  where
    few : (n : ℕ) → n ≤ 1 → spells (literal_kind 34) (take n (117 ∷ 34 ∷ ys)) ≡ false
    few zero le = refl
    few (suc zero) le = refl
    few (suc (suc n)) le = absurd (omega arith)

sixteen_single : (ys : List ℕ) → Opened 39 (117 ∷ 39 ∷ ys) 1
sixteen_single ys = record {
  same = λ m n e. let s : n ≡ suc (suc m) = omega arith in rw s (simp or_no);
  short = few;
}
  where
    few : (n : ℕ) → n ≤ 1 → spells (literal_kind 39) (take n (117 ∷ 39 ∷ ys)) ≡ false
    few zero le = refl
    few (suc zero) le = refl
    few (suc (suc n)) le = absurd (omega arith)

thirty_two_double : (ys : List ℕ) → Opened 34 (85 ∷ 34 ∷ ys) 1
thirty_two_double ys = record {
  same = λ m n e. let s : n ≡ suc (suc m) = omega arith in rw s (simp or_no);
  short = few;
}
  where
    few : (n : ℕ) → n ≤ 1 → spells (literal_kind 34) (take n (85 ∷ 34 ∷ ys)) ≡ false
    few zero le = refl
    few (suc zero) le = refl
    few (suc (suc n)) le = absurd (omega arith)

thirty_two_single : (ys : List ℕ) → Opened 39 (85 ∷ 39 ∷ ys) 1
thirty_two_single ys = record {
  same = λ m n e. let s : n ≡ suc (suc m) = omega arith in rw s (simp or_no);
  short = few;
}
  where
    few : (n : ℕ) → n ≤ 1 → spells (literal_kind 39) (take n (85 ∷ 39 ∷ ys)) ≡ false
    few zero le = refl
    few (suc zero) le = refl
    few (suc (suc n)) le = absurd (omega arith)

eight_double : (ys : List ℕ) → Opened 34 (117 ∷ 56 ∷ 34 ∷ ys) 2
eight_double ys = record {
  same = λ m n e. let s : n ≡ suc (suc (suc m)) = omega arith in rw s refl;
  short = few;
}
  where
    few : (n : ℕ) → n ≤ 2 → spells (literal_kind 34) (take n (117 ∷ 56 ∷ 34 ∷ ys)) ≡ false
    few zero le = refl
    few (suc zero) le = refl
    few (suc (suc zero)) le = refl
    few (suc (suc (suc n))) le = absurd (omega arith)

eight_single : (ys : List ℕ) → Opened 39 (117 ∷ 56 ∷ 39 ∷ ys) 2
eight_single ys = record {
  same = λ m n e. let s : n ≡ suc (suc (suc m)) = omega arith in rw s refl;
  short = few;
}
  where
    few : (n : ℕ) → n ≤ 2 → spells (literal_kind 39) (take n (117 ∷ 56 ∷ 39 ∷ ys)) ≡ false
    few zero le = refl
    few (suc zero) le = refl
    few (suc (suc zero)) le = refl
    few (suc (suc (suc n))) le = absurd (omega arith)

plain_opened : (k : ℕ) (ys : List ℕ) → is_quote k ≡ true → Opened k (k ∷ ys) 0
plain_opened k ys e = elim (quote_cases k e) [
  | inl is ↦ let P : ℕ → Type 0 = λ n. Opened n (n ∷ ys) 0 in subst P (sym is) (double ys)
  | inr is ↦ let P : ℕ → Type 0 = λ n. Opened n (n ∷ ys) 0 in subst P (sym is) (single ys)
]

letter_opened : (f k : ℕ) (ys : List ℕ) → ((f == 76) || (f == 117) || (f == 85)) ≡ true → is_quote k ≡ true → Opened k (f ∷ k ∷ ys) 1
letter_opened f k ys l e =
    elim (f == 76) as (λ t. (f == 76) ≡ t → (t || (f == 117) || (f == 85)) ≡ true → Opened k (f ∷ k ∷ ys) 1) [
      | true ↦ λ is h. by_quote 76 (eqb-true f 76 is) (wide_double ys) (wide_single ys)
      | false ↦ λ _ h. elim (f == 117) as (λ t. (f == 117) ≡ t → (t || (f == 85)) ≡ true → Opened k (f ∷ k ∷ ys) 1) [
        | true ↦ λ is h. by_quote 117 (eqb-true f 117 is) (sixteen_double ys) (sixteen_single ys)
        | false ↦ λ _ h. by_quote 85 (eqb-true f 85 h) (thirty_two_double ys) (thirty_two_single ys)
      ] refl h
    ] refl l
  where
    by_quote : (n : ℕ) → f ≡ n → Opened 34 (n ∷ 34 ∷ ys) 1 → Opened 39 (n ∷ 39 ∷ ys) 1 → Opened k (f ∷ k ∷ ys) 1
    by_quote n is d s = elim (quote_cases k e) [
      | inl q ↦ rw (is, q) d
      | inr q ↦ rw (is, q) s
    ]

eight_opened : (k : ℕ) (ys : List ℕ) → is_quote k ≡ true → Opened k (117 ∷ 56 ∷ k ∷ ys) 2
eight_opened k ys e = elim (quote_cases k e) [ inl q ↦ rw q (eight_double ys) | inr q ↦ rw q (eight_single ys) ]

-- where the quote stands, and what it opens
pub record Opening (text : List ℕ) (a q : ℕ) : Type 0 where
  pub len : ℕ
  pub there : q ≡ a + len
  pub inside : q < length text
  pub quoted : is_quote (get_or text q 0) ≡ true
  pub opened : Opened (get_or text q 0) (drop a text) len

abbrev pub Opens : List ℕ → ℕ → Option ℕ → Type 0
Opens text a (Some q) = Opening text a q
Opens text a None = is_quote (get_or text a 0) ≡ false

quote_inside : (text : List ℕ) (i : ℕ) → is_quote (get_or text i 0) ≡ true → i < length text
quote_inside text i e = elim (cases_lt i (length text)) [ inl lt ↦ lt | inr ge ↦ absurd (let none : is_quote 0 ≡ true = rw (past text i ge) at e in cc) ]

pub opening : (text : List ℕ) (a : ℕ) → a < length text → Opens text a (opening_at text a)
unfolding opening_at
opening text a lt =
    elim (is_quote (get_or text a 0)) as (λ t. is_quote (get_or text a 0) ≡ t → Opens text a (cond t (Some a) (cond (lettered && is_quote (get_or text (a + 1) 0)) (Some (a + 1)) (cond (eighth && is_quote (get_or text (a + 2) 0)) (Some (a + 2)) None)))) [
      | true ↦ λ e. record {
        len = 0;
        there = omega arith;
        inside = lt;
        quoted = e;
        opened = rw (drop_more text a 0 lt) (plain_opened (get_or text a 0) (drop (a + 1) text) e);
      }
      | false ↦ λ e. elim (lettered && is_quote (get_or text (a + 1) 0)) as (λ t. (lettered && is_quote (get_or text (a + 1) 0)) ≡ t → Opens text a (cond t (Some (a + 1)) (cond (eighth && is_quote (get_or text (a + 2) 0)) (Some (a + 2)) None))) [
        | true ↦ λ f.
            let quote = and_right lettered (is_quote (get_or text (a + 1) 0)) f in
            let there = quote_inside text (a + 1) quote in
            record {
              len = 1;
              there = refl;
              inside = there;
              quoted = quote;
              opened = rw (drop_more text a 0 lt, drop_more text (a + 1) 0 there) (letter_opened (get_or text a 0) (get_or text (a + 1) 0) (drop (a + 1 + 1) text) (and_left lettered (is_quote (get_or text (a + 1) 0)) f) quote);
            }
        | false ↦ λ f. elim (eighth && is_quote (get_or text (a + 2) 0)) as (λ t. (eighth && is_quote (get_or text (a + 2) 0)) ≡ t → Opens text a (cond t (Some (a + 2)) None)) [
          | true ↦ λ g. by_eight (and_left eighth (is_quote (get_or text (a + 2) 0)) g) (and_right eighth (is_quote (get_or text (a + 2) 0)) g)
          | false ↦ λ g. e
        ] refl
      ] refl
    ] refl
  where
    lettered : Bool
    lettered = (get_or text a 0 == 76) || (get_or text a 0 == 117) || (get_or text a 0 == 85)

    eighth : Bool
    eighth = is_pair_at text a 117 56

    by_eight : eighth ≡ true → is_quote (get_or text (a + 2) 0) ≡ true → Opening text a (a + 2)
    by_eight p quote =
        let there = quote_inside text (a + 2) quote in
        let first = eqb-true (get_or text a 0) 117 (and_left (get_or text a 0 == 117) (get_or text (a + 1) 0 == 56) p) in
        let second = eqb-true (get_or text (a + 1) 0) 56 (and_right (get_or text a 0 == 117) (get_or text (a + 1) 0 == 56) p) in
        let next : a + 1 < length text = omega arith in
        let two : a + 1 + 1 ≡ a + 2 = omega arith in
        record {
          len = 2;
          there = refl;
          inside = there;
          quoted = quote;
          opened = rw (drop_more text a 0 lt, drop_more text (a + 1) 0 next, two, drop_more text (a + 2) 0 there, first, second) (eight_opened (get_or text (a + 2) 0) (drop (a + 2 + 1) text) quote);
        }

-- the bytes behind a literal's quote
behind_quote : (text : List ℕ) (a q : ℕ) (o : Opening text a q) → drop (o.len + 1) (drop a text) ≡ drop (q + 1) text
behind_quote text a q o =
    let there = o.there in
    let sum : a + (o.len + 1) ≡ q + 1 = omega arith in
    drop-drop (o.len + 1) a text ∙ ap (λ n. drop n text) sum

pub longest_literal : (text : List ℕ) (a q e : ℕ) → Opening text a q → IsClosed (get_or text q 0) false (q + 1) (drop (q + 1) text) e → IsLongest text (literal_kind (get_or text q 0)) a e
longest_literal text a q e o c =
    let there = o.there in
    let behind = c.behind in
    let size = length-drop (q + 1) text in
    let fits = c.inside in
    let starts = o.inside in
    record {
      some = omega arith;
      inside = omega (arith, size, fits, starts);
      spelt = o.opened.same (e - (q + 1)) (e - a) (omega arith) ∙ rw (behind_quote text a q o) c.spelt;
      longest = λ later gt le. o.opened.same (later - (q + 1)) (later - a) (omega arith) ∙ rw (behind_quote text a q o) (c.longest (later - (q + 1)) (omega arith) (omega (arith, size)));
    }

pub open_literal : (text : List ℕ) (a q : ℕ) → opening_at text a ≡ Some q → Opening text a q
    → ((m : ℕ) → m ≤ length (drop (q + 1) text) → is_rest_of_literal (get_or text q 0) false (take m (drop (q + 1) text)) ≡ false) → IsOpenLiteral text a
open_literal text a q is o none = record {
  quote = q;
  opens = is;
  unclosed = λ later le. elim (cases_lt (o.len) (later - a)) [
    | inl long ↦
        let there = o.there in
        let size = length-drop (q + 1) text in
        o.opened.same (later - (q + 1)) (later - a) (omega arith) ∙ rw (behind_quote text a q o) (none (later - (q + 1)) (omega (arith, size)))
    | inr few ↦ o.opened.short (later - a) few
  ];
}
