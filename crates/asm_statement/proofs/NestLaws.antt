-- A statement that begins inside another one ends inside it.
use Rattle.std.proofs.Common.{◌≡◌, ℕ, zero, suc, ◌+◌, ◌-◌, ◌<◌, ◌≤◌, inl, inr, Bool, true, false, List, [], ◌∷◌, length, drop, All, refl, sym, ap, ◌∙◌, subst, arith, Option, Some, None, Result, Ok, IfOk, if◌then◌else◌}
use Rattle.std.proofs.lemmas.List.Elements.{All-nil, All-cons}
use Rattle.std.proofs.lemmas.Bool.{cases_lt}
use Rattle.c_tokens.specs.declared.token.Token.{Token}
use Rattle.c_tokens.specs.Cut.{IsOrdered}
use Rattle.c_tokens.specs.Closers.{closer_at}
use Rattle.c_tokens.specs.Tokens.{tokens_of}
use Rattle.asm_core.specs.declared.memory.Memory.{Memory}
use Rattle.asm_core.specs.declared.statement.Statement.{Statement}
use Rattle.asm_statement.specs.declared.class.Class.{Class}
use Rattle.asm_statement.specs.declared.class.Class.TheVariants.{Keyword, CloseParen, CloseBracket, CloseBrace}
use Rattle.asm_statement.specs.declared.beginning.Beginning.{Beginning}
use Rattle.asm_statement.specs.Classes.{is_open_paren, is_word}
use Rattle.asm_statement.specs.Source.{class_of, class_at, end_at, span_of}
use Rattle.asm_statement.specs.Beginnings.{beginnings_of}
use Rattle.asm_statement.specs.Statements.{words_end, behind_words, close_of, last_of, statement_at, statements_from, statements_of}
use Rattle.asm_statement.specs.Laws.{IsApartOrInside, AreNested}
use Rattle.asm_statement.proofs.MarkLaws.{opens_class, closes_class}
use Rattle.asm_statement.proofs.ClosingLaws.{class_known, class_there, left, left_other, left_open, left_close, left_last, left_past, left_from, left_inside, closer_open, closer_inside}
use Rattle.asm_statement.proofs.OpenLaws.{ends_at, opens_not}
use Rattle.asm_statement.proofs.SpanLaws.{here, behind}
use Rattle.asm_statement.proofs.ListPlaces.{paren_opens, if_some}
use Rattle.asm_statement.proofs.BeginLaws.{AreKeywords, next_there, all_found}
use Rattle.asm_statement.proofs.TokenOrder.{tokens_ordered}
use Rattle.asm_statement.proofs.StatementPlaces.{words_low, answer_has}

module _ (text : List ℕ) (ts : List Token) where
  -- the search ends at `c` from the index on, with some depth
  record Reaches (i c : ℕ) : Type 0 where
    pub depth : ℕ
    pub is : left text ts depth i ≡ Some c

  one_further : (d i c : ℕ) → left text ts d i ≡ Some c → i < c → Reaches (i + 1) c
  one_further d i c is low = by_class (opens_class (class_at text ts i)) (closes_class (class_at text ts i)) refl refl
    where
      lt : i < length ts
      lt = left_inside text ts d i c is

      by_depth : (k : ℕ) → d ≡ k → opens_class (class_at text ts i) ≡ false
          → closes_class (class_at text ts i) ≡ true → Reaches (i + 1) c
      by_depth zero same a b =
          let both : Some i ≡ Some c = sym (left_last text ts i lt a b) ∙ rw same at is in
          let equal : i ≡ c = cc in
          absurd (omega (arith, equal, low))
      by_depth (suc k) same a b =
          let deeper : d ≡ k + 1 = omega arith in
          record { depth = k; is = sym (left_close text ts k i lt a b) ∙ rw deeper at is }

      by_class : (x y : Bool) → opens_class (class_at text ts i) ≡ x → closes_class (class_at text ts i) ≡ y
          → Reaches (i + 1) c
      by_class true y a b = record { depth = d + 1; is = sym (left_open text ts d i lt a) ∙ is }
      by_class false true a b = by_depth d refl a b
      by_class false false a b = record { depth = d; is = sym (left_other text ts d i lt a b) ∙ is }

  further_on : (m d i c : ℕ) → left text ts d i ≡ Some c → i + m ≤ c → Reaches (i + m) c
  further_on zero d i c is le =
      let same : i ≡ i + 0 = omega arith in
      record { depth = d; is = ap (λ (j : ℕ). left text ts d j) (sym same) ∙ is }
  further_on (suc m) d i c is le =
      let next = one_further d i c is (omega (arith, le)) in
      let there : i + 1 + m ≡ i + suc m = omega arith in
      subst (λ j. Reaches j c) there (further_on m next.depth (i + 1) c next.is (omega (arith, le)))

  -- with less depth it ends sooner
  record Sooner (d i c : ℕ) : Type 0 where
    pub at : ℕ
    pub is : left text ts d i ≡ Some at
    pub low : at < c

  sooner : (k d e i c : ℕ) → length ts ≡ i + k → left text ts (d + 1 + e) i ≡ Some c → Sooner d i c
  sooner zero d e i c size is = absurd (let no : None ≡ Some c = sym (left_past text ts (d + 1 + e) i (omega
      (arith, size))) ∙ is in cc)
  sooner (suc k) d e i c size is =
      by_class (opens_class (class_at text ts i)) (closes_class (class_at text ts i)) refl refl
      (λ f is'. sooner k f e (i + 1) c (omega (arith, size)) is')
    where
      lt : i < length ts
      lt = omega (arith, size)

      Deeper : Type 0
      Deeper = (f : ℕ) → left text ts (f + 1 + e) (i + 1) ≡ Some c → Sooner f (i + 1) c

      by_depth : (f : ℕ) → d ≡ f → opens_class (class_at text ts i) ≡ false
          → closes_class (class_at text ts i) ≡ true → Deeper → Sooner d i c
      by_depth zero same a b more =
          let sum : d + 1 + e ≡ e + 1 = omega (arith, same) in
          let behind_it : left text ts e (i + 1) ≡ Some c =
          sym (left_close text ts e i lt a b) ∙ sym (ap (λ (m : ℕ). left text ts m i) sum) ∙ is in
          let low = left_from text ts e (i + 1) c behind_it in
          record {
            at = i;
            is = ap (λ (m : ℕ). left text ts m i) same
                ∙ left_last text ts i lt a b;
            low = omega (arith, low);
          }
      by_depth (suc f) same a b more =
          let sum : d + 1 + e ≡ f + 1 + e + 1 = omega (arith, same) in
          let deeper : d ≡ f + 1 = omega (arith, same) in
          let s = more f (sym (left_close text ts (f + 1 + e) i lt a b)
          ∙ sym (ap (λ (m : ℕ). left text ts m i) sum) ∙ is) in
          record {
            at = s.at;
            is = ap (λ (m : ℕ). left text ts m i) deeper ∙ left_close text ts f i lt a b
                ∙ s.is;
            low = s.low;
          }

      by_class : (x y : Bool) → opens_class (class_at text ts i) ≡ x → closes_class (class_at text ts i) ≡ y
          → Deeper → Sooner d i c
      by_class true y a b more =
          let sum : d + 1 + e + 1 ≡ d + 1 + 1 + e = omega arith in
          let s = more (d + 1) (sym (ap (λ (m : ℕ). left text ts m (i + 1)) sum)
          ∙ sym (left_open text ts (d + 1 + e) i lt a) ∙ is) in
          record { at = s.at; is = left_open text ts d i lt a ∙ s.is; low = s.low }
      by_class false true a b more = by_depth d refl a b more
      by_class false false a b more =
          let s = more d (sym (left_other text ts (d + 1 + e) i lt a b) ∙ is) in
          record { at = s.at; is = left_other text ts d i lt a b ∙ s.is; low = s.low }

  -- a bracket inside another pair is closed inside it
  pairs_nest : (o c p q : ℕ) → o < length ts → opens_class (class_at text ts o) ≡ true → closer_at text ts o ≡ Some c
      → o < p → p < c → opens_class (class_at text ts p) ≡ true → closer_at text ts p ≡ Some q → q < c
  pairs_nest o c p q lt a outer low high opening inner =
      let outer' : left text ts 0 (o + 1) ≡ Some c = sym (closer_open text ts o lt a) ∙ outer in
      let there : o + 1 + (p - (o + 1)) ≡ p = omega (arith, low) in
      let within : c < length ts = closer_inside text ts o c lt a outer in
      let at_p = subst (λ j. Reaches j c) there (further_on (p - (o + 1)) 0 (o + 1) c outer' (omega
      (arith, low, high))) in
      let inside : p < length ts = omega (arith, high, within) in
      let sum : at_p.depth + 1 ≡ 0 + 1 + at_p.depth = omega arith in
      let deep : left text ts (0 + 1 + at_p.depth) (p + 1) ≡ Some c =
      sym (ap (λ (m : ℕ). left text ts m (p + 1)) sum) ∙ sym (left_open text ts at_p.depth p inside opening)
      ∙ at_p.is in
      let s = sooner (length ts - (p + 1)) 0 at_p.depth (p + 1) c (omega (arith, inside)) deep in
      let both : Some s.at ≡ Some q = sym s.is ∙ sym (closer_open text ts p inside opening) ∙ inner in
      let same : s.at ≡ q = cc in
      let less = s.low in
      omega (arith, same, less)

  -- what closes a bracket is a closing bracket
  closer_closes : (o c : ℕ) → o < length ts → opens_class (class_at text ts o) ≡ true
      → closer_at text ts o ≡ Some c → closes_class (class_at text ts c) ≡ true
  closer_closes o c lt a closed =
      let inner : left text ts 0 (o + 1) ≡ Some c = sym (closer_open text ts o lt a) ∙ closed in
      let low = left_from text ts 0 (o + 1) c inner in
      let there : o + 1 + (c - (o + 1)) ≡ c = omega (arith, low) in
      let at_c = subst (λ j. Reaches j c) there (further_on (c - (o + 1)) 0 (o + 1) c inner (omega (arith, low))) in
      ends_at text ts at_c.depth c at_c.is

  -- ---- the words behind a keyword

  words_are : (xs : List Token) (i j : ℕ) → xs ≡ drop i ts → i ≤ j → j < words_end true text i xs
      → is_word true (class_at text ts j) ≡ true
  unfolding words_end
  words_are [] i j is le lt = absurd (omega (arith, le, lt))
  words_are (t ∷ xs) i j is le lt =
      let there = next_there text ts i t xs is in
      let same : class_at text ts i ≡ class_of text t = class_known text ts i t there.1 in
      by_word (is_word true (class_of text t)) refl same lt (λ low short. words_are xs (i + 1) j there.2 low short)
    where
      by_word : (b : Bool) → is_word true (class_of text t) ≡ b → class_at text ts i ≡ class_of text t
          → j < (if b then words_end true text (i + 1) xs else i)
          → (i + 1 ≤ j → j < words_end true text (i + 1) xs → is_word true
          (class_at text ts j) ≡ true) → is_word true (class_at text ts j) ≡ true
      by_word false e same short more = absurd (omega (arith, le, short))
      by_word true e same short more = elim (cases_lt i j) [
        | inl less ↦ more (omega (arith, less)) short
        | inr ge ↦
            let equal : j ≡ i = omega (arith, le, ge) in
            ap (λ (k : ℕ). is_word true (class_at text ts k)) equal ∙ ap (is_word true) same ∙ e
      ]

  -- a token that is no word stands behind the words
  behind_them : (i j : ℕ) → i ≤ j → is_word true (class_at text ts j) ≡ false → words_end true text i (drop i ts) ≤ j
  behind_them i j le no_word = elim (cases_lt j (words_end true text i (drop i ts))) [
    | inl less ↦
        let word = words_are (drop i ts) i j refl le less in
        absurd (let no : true ≡ false = sym word ∙ no_word in cc)
    | inr ge ↦ ge
  ]

closing_no_word : (c : Class) → closes_class c ≡ true → is_word true c ≡ false
closing_no_word CloseParen h = refl
closing_no_word CloseBracket h = refl
closing_no_word CloseBrace h = refl
closing_no_word _ h = absurd (let no : false ≡ true = h in cc)

-- ---- statements

module _ (text : List ℕ) (ts : List Token) (n : ℕ) (ordered : IsOrdered 0 ts n) where
  ends_upwards : (i j : ℕ) → i ≤ j → j < length ts → end_at ts i ≤ end_at ts j
  ends_upwards i j le lt = elim (cases_lt i j) [
    | inl less ↦
        let next = behind text ts n ordered i j less lt in
        let last = here text ts n ordered j lt in
        let some = last.0 in
        omega (arith, next, some)
    | inr ge ↦
        let same : i ≡ j = omega (arith, le, ge) in
        let P : ℕ → Type 0 = λ k. end_at ts i ≤ end_at ts k in
        subst P same (omega arith)
  ]

  -- the parenthesis of a statement
  record IsClosed (k c : ℕ) : Type 0 where
    pub paren : is_open_paren (class_at text ts (behind_words true text ts k)) ≡ true
    pub closer : closer_at text ts (behind_words true text ts k) ≡ Some c

  is_closed : (k c : ℕ) → close_of text ts k ≡ Some c → IsClosed k c
  unfolding close_of
  is_closed k c e =
      let parts = if_some (is_open_paren (class_at text ts (behind_words true text ts k))) (closer_at text ts
      (behind_words true text ts k)) c e in
      record { paren = parts.0; closer = parts.1 }

  class_of_keyword : (k p : ℕ) → class_at text ts k ≡ Keyword → is_open_paren (class_at text ts p) ≡ true → p ≡ k → ⊥
  class_of_keyword k p keyword paren same =
      let no : false ≡ true = sym (ap is_open_paren keyword)
      ∙ ap (λ (j : ℕ). is_open_paren (class_at text ts j)) (sym same) ∙ paren in cc

  inner_closed : (k l c q : ℕ) → k < l → l ≤ c → class_at text ts l ≡ Keyword → IsClosed k c → IsClosed l q → q < c
  inner_closed k l c q less le keyword outer inner =
      let paren = behind_words true text ts k in
      let paren' = behind_words true text ts l in
      let there : paren < length ts = class_there text ts is_open_paren refl paren outer.paren in
      let opening = paren_opens (class_at text ts paren) outer.paren in
      let closes = closer_closes text ts paren c there opening outer.closer in
      let not_word : is_word true (class_at text ts l) ≡ false = ap (is_word true) keyword in
      let before_it : paren ≤ l = behind_them text ts (k + 1) l (omega (arith, less)) not_word in
      let other = class_of_keyword l paren keyword outer.paren in
      let further : l + 1 ≤ paren' = words_low text true (l + 1) (drop (l + 1) ts) in
      let not_closed : l ≡ c → ⊥ = λ same.
      let no : false ≡ true = sym (ap closes_class keyword)
      ∙ ap (λ (j : ℕ). closes_class (class_at text ts j)) same ∙ closes in cc in
      let up : paren' ≤ c = behind_them text ts (l + 1) c (omega (arith, le, not_closed)) (closing_no_word
      (class_at text ts c) closes) in
      let not_end : paren' ≡ c → ⊥ = λ same.
      let opened : opens_class (class_at text ts c) ≡ true = ap (λ (j : ℕ). opens_class (class_at text ts j))
      (sym same) ∙ paren_opens (class_at text ts paren') inner.paren in
      let no : false ≡ true = sym (opens_not text ts (class_at text ts c) closes) ∙ opened in cc in
      pairs_nest text ts paren c paren' q there opening outer.closer (omega (arith, before_it, other, further))
      (omega (arith, up, not_end))
      (paren_opens (class_at text ts paren') inner.paren) inner.closer

  spans_nest : (k l : ℕ) (o p : Option ℕ) → close_of text ts k ≡ o → close_of text ts l ≡ p → k < l
      → l < length ts → class_at text ts l ≡ Keyword
      → IsApartOrInside (span_of ts k (last_of k o)) (span_of ts l (last_of l p))
  spans_nest k l None p _ _ less lt keyword = inl (behind text ts n ordered k l less lt)
  spans_nest k l (Some c) p closed inner less lt keyword = elim (cases_lt c l) [
    | inl apart ↦ inl (behind text ts n ordered c l apart lt)
    | inr le ↦ inr (by_inner p inner le)
  ]
    where
      within : c < length ts
      within =
          let outer = is_closed k c closed in
          let paren = behind_words true text ts k in
          let there : paren < length ts = class_there text ts is_open_paren refl paren outer.paren in
          closer_inside text ts paren c there (paren_opens (class_at text ts paren) outer.paren) outer.closer

      by_inner : (p : Option ℕ) → close_of text ts l ≡ p → l ≤ c → end_at ts (last_of l p) ≤ end_at ts c
      by_inner None _ le = ends_upwards l c le within
      by_inner (Some q) inner le =
          let low = inner_closed k l c q less le keyword (is_closed k c closed) (is_closed l q inner) in
          ends_upwards q c (omega (arith, low)) within

  later_ones : (k from : ℕ) (bs : List Beginning) → k < from → AreKeywords text ts from bs
      → All (λ (later : Statement). IsApartOrInside (span_of ts k (last_of k (close_of text ts k))) later.span)
      (statements_from text ts bs)
  unfolding statements_from statement_at
  later_ones k from [] less h = All-nil (λ (later : Statement). IsApartOrInside (span_of ts k (last_of k
      (close_of text ts k))) later.span)
  later_ones k from (b ∷ bs) less h =
      let further : k < b.at = (let low = h.0 in omega (arith, less, low)) in
      All-cons (λ (later : Statement). IsApartOrInside (span_of ts k (last_of k
      (close_of text ts k))) later.span) _ (statements_from text ts bs)
      (spans_nest k b.at (close_of text ts k) (close_of text ts b.at) refl refl further h.1 h.2)
      (later_ones k (b.at + 1) bs (omega (arith, further)) h.4)

  nested_from : (k : ℕ) (bs : List Beginning) → AreKeywords text ts k bs → AreNested (statements_from text ts bs)
  unfolding statements_from statement_at
  nested_from k [] h = tt
  nested_from k (b ∷ bs) h = (later_ones b.at (b.at + 1) bs (omega arith) h.4, nested_from (b.at + 1) bs h.4)

  pub nested_all : AreNested (statements_of text ts)
  nested_all = nested_from 0 (beginnings_of text ts) (all_found text ts).keywords

module _ (text : List ℕ) (ts : List Token) (r : Result (List Statement) Memory) (tokens : tokens_of text ≡ Ok ts)
    (is : IfOk r (λ ss. ss ≡ statements_of text ts)) where
  pub answer_nested : IfOk r AreNested
  answer_nested = answer_has AreNested (statements_of text ts) r (nested_all text ts (length text)
      (tokens_ordered text ts tokens)) is
