-- The laws of all statements of a text.
use Rattle.std.proofs.Common.{◌≡◌, ℕ, ◌+◌, ◌-◌, ◌<◌, ◌≤◌, inl, inr, Bool, true, false, List, [], ◌∷◌, ◌&&◌, length, drop, All, refl, sym, ap, ◌∙◌, subst, arith, Option, Some, None, Result, Ok, Err, IfOk, if◌then◌else◌}
use Rattle.std.proofs.lemmas.List.Elements.{All-nil, All-cons}
use Rattle.std.proofs.lemmas.Bool.{ltb-false}
use Rattle.c_tokens.specs.declared.token.Token.{Token}
use Rattle.c_tokens.specs.Cut.{IsOrdered}
use Rattle.c_tokens.specs.Tokens.{tokens_of}
use Rattle.c_tokens.specs.Closers.{closer_at}
use Rattle.asm_core.specs.declared.memory.Memory.{Memory}
use Rattle.asm_core.specs.declared.statement.Parts.{Parts}
use Rattle.asm_core.specs.declared.statement.Body.{Body}
use Rattle.asm_core.specs.declared.statement.Body.TheVariants as bodies
use Rattle.asm_core.specs.declared.statement.Statement.{Statement}
use Rattle.asm_statement.specs.declared.class.Class.{Class}
use Rattle.asm_statement.specs.declared.class.Class.TheVariants.{Keyword, OpenParen, Qualifier}
use Rattle.asm_statement.specs.declared.beginning.Beginning.{Beginning}
use Rattle.asm_statement.specs.Classes.{is_open_paren, is_close_paren, is_word}
use Rattle.asm_statement.specs.Source.{class_of, class_at, start_at, end_at, span_of}
use Rattle.asm_statement.specs.Beginnings.{beginnings_of}
use Rattle.asm_statement.specs.Parts.{parts_at}
use Rattle.asm_statement.specs.Statements.{words_end, behind_words, close_of, last_of, is_nested, outside, formed, body_behind, body_of, statement_at, first_of, statements_from, statements_of}
use Rattle.asm_statement.specs.Laws.{AnyBegins, BeginsWell, AreAll, IsRising, offsets_of, AreApartParts, IsApart, behind_body, StandApart}
use Rattle.asm_statement.proofs.ClosingLaws.{class_known, class_there, closer_behind}
use Rattle.asm_statement.proofs.TokenOrder.{tokens_ordered}
use Rattle.asm_statement.proofs.SpanLaws.{here, behind, IsUpTo}
use Rattle.asm_statement.proofs.ListPlaces.{paren_opens, paren_closes}
use Rattle.asm_statement.proofs.PartPlaces.{parts_read}
use Rattle.asm_statement.proofs.BeginLaws.{AreKeywords, IsBegun, next_there, all_found}

-- ---- the words behind a keyword

module _ (text : List ℕ) where
  pub words_low : (goto : Bool) (i : ℕ) (xs : List Token) → i ≤ words_end goto text i xs
  unfolding words_end
  words_low goto i [] = omega arith
  words_low goto i (t ∷ xs) = by_word (is_word goto (class_of text t)) (words_low goto (i + 1) xs)
    where
      by_word : (b : Bool) → i + 1 ≤ words_end goto text (i + 1) xs
          → i ≤ (if b then words_end goto text (i + 1) xs else i)
      by_word true more = omega arith
      by_word false more = omega arith

-- a word is one also where `goto` counts
word_too : (c : Class) → is_word false c ≡ true → is_word true c ≡ true
word_too Qualifier h = refl
word_too _ h = absurd (let no : false ≡ true = h in cc)

no_word : (c : Class) → is_open_paren c ≡ true → is_word true c ≡ false
no_word OpenParen h = refl
no_word _ h = absurd (let no : false ≡ true = h in cc)

-- ---- one statement

module _ (text : List ℕ) (ts : List Token) (n : ℕ) (ordered : IsOrdered 0 ts n) where
  -- no token from the index on begins before the offset
  abbrev IsBehind : ℕ → ℕ → Type 0
  IsBehind z k = (j : ℕ) → k ≤ j → j < length ts → z ≤ start_at ts j

  words_same : (xs : List Token) (i : ℕ) → xs ≡ drop i ts
      → is_open_paren (class_at text ts (words_end false text i xs)) ≡ true
      → words_end true text i xs ≡ words_end false text i xs
  unfolding words_end
  words_same [] i is paren = refl
  words_same (t ∷ xs) i is paren =
      let there = next_there text ts i t xs is in
      by_word (is_word false (class_of text t)) refl (class_known text ts i t there.1) paren (words_same xs
      (i + 1) there.2)
    where
      by_word : (b : Bool) → is_word false (class_of text t) ≡ b → class_at text ts i ≡ class_of text t
          → is_open_paren (class_at text ts (if b then words_end false text (i + 1) xs else i)) ≡ true
          → (is_open_paren (class_at text ts (words_end false text (i + 1) xs)) ≡ true → words_end true text
          (i + 1) xs ≡ words_end false text (i + 1) xs)
          → (if is_word true (class_of text t) then words_end true text (i + 1) xs else i) ≡
          (if b then words_end false text (i + 1) xs else i)
      by_word true e same paren more = rw (word_too (class_of text t) e) (more paren)
      by_word false e same paren more =
          let here : is_open_paren (class_of text t) ≡ true = sym (ap is_open_paren same) ∙ paren in
          rw (no_word (class_of text t) here) refl

  -- what the body says where it has parts
  record HasParts (b : Beginning) (next close : Option ℕ) (parts : Parts) : Type 0 where
    pub apart : is_nested next close ≡ false
    pub paren : is_open_paren (class_at text ts (behind_words false text ts b.at)) ≡ true
    pub read : parts_at text ts (behind_words false text ts b.at + 1) ≡ Some parts

  is_outside : (k : ℕ) (parts : Parts) → outside ts k ≡ bodies.Parts parts → ⊥
  is_outside k parts e = cc

  same_parts : (x y : Parts) → bodies.Parts x ≡ bodies.Parts y → x ≡ y
  same_parts x y e = cc

  formed_parts : (k : ℕ) (parts : Parts) (o : Option Parts) → formed ts k o ≡ bodies.Parts parts → o ≡ Some parts
  formed_parts k parts None e = absurd (is_outside k parts e)
  formed_parts k parts (Some x) e = ap (λ (p : Parts). Some p) (same_parts x parts e)

  has_parts : (b : Beginning) (next close : Option ℕ) (parts : Parts)
      → body_of text ts b next close ≡ bodies.Parts parts → HasParts b next close parts
  unfolding body_of
  has_parts b next close parts e = by_nested (is_nested next close) refl e
    where
      paren : ℕ
      paren = behind_words false text ts b.at

      by_paren : (t : Bool) → is_open_paren (class_at text ts paren) ≡ t → is_nested next close ≡ false
          → (if t then formed ts b.at (parts_at text ts
          (paren + 1)) else outside ts b.at) ≡ bodies.Parts parts → HasParts b next close parts
      by_paren true p apart e = record {
        apart = apart;
        paren = p;
        read = formed_parts b.at parts (parts_at text ts
            (paren + 1)) e;
      }
      by_paren false p apart e = absurd (is_outside b.at parts e)

      by_cover : (t : Bool) → is_nested next close ≡ false
          → (if t then body_behind text ts b.at paren else outside ts b.at) ≡ bodies.Parts parts
          → HasParts b next close parts
      by_cover true apart e = by_paren (is_open_paren (class_at text ts paren)) refl apart e
      by_cover false apart e = absurd (is_outside b.at parts e)

      by_nested : (t : Bool) → is_nested next close ≡ t
          → (if t then outside ts b.at else if b.in_block && b.covered then body_behind text ts b.at paren else
          outside ts b.at) ≡ bodies.Parts parts
          → HasParts b next close parts
      by_nested true apart e = absurd (is_outside b.at parts e)
      by_nested false apart e = by_cover (b.in_block && b.covered) apart e

  -- a statement with parts, from its keyword on
  record IsWhole (b : Beginning) (parts : Parts) : Type 0 where
    pub close : ℕ
    pub closed : close_of text ts b.at ≡ Some close
    pub there : close < length ts
    pub closes : is_close_paren (class_at text ts close) ≡ true
    pub placed : AreApartParts (start_at ts b.at) parts (end_at ts close)

  closed_by : (b : Beginning) (close : ℕ) → is_open_paren (class_at text ts (behind_words false text ts b.at)) ≡ true
      → closer_at text ts (behind_words false text ts b.at) ≡ Some close → close_of text ts b.at ≡ Some close
  unfolding close_of
  closed_by b close paren closer =
      let same = words_same (drop (b.at + 1) ts) (b.at + 1) refl paren in
      rw same (rw paren closer)

  whole : (b : Beginning) (next close : Option ℕ) (parts : Parts) → b.at < length ts → HasParts b next close parts
      → IsWhole b parts
  whole b next close parts lt has =
      let paren = behind_words false text ts b.at in
      let low : b.at + 1 ≤ paren = words_low text false (b.at + 1) (drop (b.at + 1) ts) in
      let inside : paren < length ts = class_there text ts is_open_paren refl paren has.paren in
      let keyword = here text ts n ordered b.at lt in
      let next_one = behind text ts n ordered b.at paren (omega (arith, low)) inside in
      let opening = here text ts n ordered paren inside in
      let same : paren + 1 - 1 ≡ paren = omega arith in
      let up : IsUpTo text ts n ordered (start_at ts b.at) (paren + 1) = record {
        some = omega arith;
        within = omega (arith, inside);
        low = rw same (let a = keyword.0 in let c = opening.0 in omega (arith, a, next_one, c));
      } in
      let read = parts_read text ts n ordered (start_at ts b.at) (paren + 1) parts up has.read in
      let there : read.close < length ts = class_there text ts is_close_paren refl read.close read.closes in
      let ends = paren_closes (class_at text ts read.close) read.closes in
      record {
        close = read.close;
        closed = closed_by b read.close has.paren
            (closer_behind text ts paren read.close inside there (paren_opens
            (class_at text ts paren) has.paren) ends.0 ends.1 read.over);
        there = there;
        closes = read.closes;
        placed = read.placed;
      }

  -- ---- all of them

  abbrev Keywords : ℕ → List Beginning → Type 0
  Keywords k bs = AreKeywords text ts k bs

  -- the next statement begins behind one with parts
  not_nested : (k close : ℕ) (bs : List Beginning) → is_close_paren (class_at text ts close) ≡ true
      → is_nested (first_of bs) (Some close) ≡ false → Keywords k bs → Keywords (close + 1) bs
  not_nested k close [] closes apart h = tt
  not_nested k close (b ∷ bs) closes apart h =
      let le : close ≤ b.at = ltb-false b.at close apart in
      let other : close ≡ b.at → ⊥ = λ same.
      let paren : is_close_paren Keyword ≡ true = sym (ap is_close_paren h.2)
      ∙ ap (λ (j : ℕ). is_close_paren (class_at text ts j)) (sym same) ∙ closes in
      let no : false ≡ true = paren in cc in
      (omega (arith, le, other), h.1, h.2, h.3, h.4)

  IsNext : List Beginning → Type 0
  IsNext bs = (k from : ℕ) → Keywords k bs → IsBehind from k → from ≤ n → StandApart from
      (statements_from text ts bs) n

  by_body : (b : Beginning) (bs : List Beginning) (k from : ℕ) → Keywords k (b ∷ bs) → IsBehind from k → from ≤ n
      → IsNext bs
      → (body : Body) → body_of text ts b (first_of bs) (close_of text ts b.at) ≡ body
      → IsApart from (span_of ts b.at (last_of b.at (close_of text ts b.at))) body
      × StandApart (behind_body from (span_of ts b.at (last_of b.at (close_of text ts b.at))) body)
      (statements_from text ts bs) n
  unfolding IsNext
  by_body b bs k from h low le more (bodies.Outside mark) e =
      (tt, more (b.at + 1) from h.4 (λ j further lt. low j (let first = h.0 in omega (arith, first, further)) lt) le)
  by_body b bs k from h low le more (bodies.Parts parts) e =
      let has = has_parts b (first_of bs) (close_of text ts b.at) parts e in
      let w = whole b (first_of bs) (close_of text ts b.at) parts h.1 has in
      let ends : end_at ts w.close ≡ end_at ts (last_of b.at (close_of text ts b.at)) =
      ap (λ (o : Option ℕ). end_at ts (last_of b.at o)) (sym w.closed) in
      let apart : is_nested (first_of bs) (Some w.close) ≡ false =
      subst (λ (o : Option ℕ). is_nested (first_of bs) o ≡ false) w.closed has.apart in
      let rest = more (w.close + 1) (end_at ts w.close) (not_nested (b.at + 1) w.close bs w.closes apart h.4)
      (λ j further lt. behind text ts n ordered w.close j (omega (arith, further)) lt)
      (here text ts n ordered w.close w.there).1 in (
        (low b.at h.0 h.1, subst (λ z. AreApartParts (start_at ts b.at) parts z) ends w.placed),
        subst (λ z. StandApart z (statements_from text ts bs) n) ends rest,
      )

  apart_from : (bs : List Beginning) → IsNext bs
  unfolding IsNext statements_from statement_at
  apart_from [] = λ k from h low le. le
  apart_from (b ∷ bs) = λ k from h low le.
      by_body b bs k from h low le (apart_from bs) (body_of text ts b (first_of bs) (close_of text ts b.at)) refl

  rising_from : (bs : List Beginning) (k from : ℕ) → Keywords k bs → IsBehind from k → from ≤ n
      → IsRising from (offsets_of (statements_from text ts bs)) n
  unfolding statements_from statement_at
  rising_from [] k from h low le = le
  rising_from (b ∷ bs) k from h low le =
      let begin = here text ts n ordered b.at h.1 in
      let some = begin.0 in
      let within = begin.1 in (
        low b.at h.0 h.1,
        rising_from bs (b.at + 1) (start_at ts b.at + 1) h.4
            (λ j further lt. let next = behind text ts n ordered b.at j (omega (arith, further)) lt in omega
            (arith, some, next)) (omega (arith, some, within)),
      )

  begun : (i : ℕ) (bs : List Beginning) → IsBegun text ts i bs
      → AnyBegins (start_at ts i) (statements_from text ts bs)
  unfolding statements_from statement_at
  begun i [] h = h
  begun i (b ∷ bs) (inl same) = inl (ap (start_at ts) same)
  begun i (b ∷ bs) (inr h) = inr (begun i bs h)

  begin_well : (bs : List Beginning) (k : ℕ) → Keywords k bs → All (BeginsWell text ts) (statements_from text ts bs)
  unfolding statements_from statement_at
  begin_well [] k h = All-nil (BeginsWell text ts)
  begin_well (b ∷ bs) k h =
      All-cons (BeginsWell text ts) _ (statements_from text ts bs)
      (record { at = b.at; offset = refl; keyword = h.2; allowed = h.3 }) (begin_well bs (b.at + 1) h.4)

  -- ---- the laws

  found_all : AreAll text ts (statements_of text ts)
  found_all =
      let found = all_found text ts in
      record {
        found = λ i keyword. elim (found.each i (omega arith) keyword) [
          | inl is ↦ inl (begun i
              (beginnings_of text ts) is)
          | inr none ↦ inr none
        ];
        only = begin_well (beginnings_of text ts) 0 found.keywords;
      }

  rising_all : IsRising 0 (offsets_of (statements_of text ts)) n
  rising_all = rising_from (beginnings_of text ts) 0 0 (all_found text ts).keywords (λ j _ _. omega arith)
      (omega arith)

  apart_all : StandApart 0 (statements_of text ts) n
  unfolding IsNext
  apart_all = apart_from (beginnings_of text ts) 0 0 (all_found text ts).keywords (λ j _ _. omega arith) (omega arith)

-- what is true of the statements is true of an answer that is these
pub answer_has : (P : List Statement → Type 0) (ss : List Statement) (r : Result (List Statement) Memory) → P ss
    → IfOk r (λ xs. xs ≡ ss) → IfOk r P
answer_has P ss (Ok xs) h is = subst P (sym is) h
answer_has P ss (Err e) h is = tt

module _ (text : List ℕ) (ts : List Token) (r : Result (List Statement) Memory) (tokens : tokens_of text ≡ Ok ts)
    (is : IfOk r (λ ss. ss ≡ statements_of text ts)) where
  pub answer_all : IfOk r (AreAll text ts)
  answer_all = answer_has (AreAll text ts) (statements_of text ts) r (found_all text ts (length text)
      (tokens_ordered text ts tokens)) is

  pub answer_rising : IfOk r (λ ss. IsRising 0 (offsets_of ss) (length text))
  answer_rising = answer_has (λ ss. IsRising 0 (offsets_of ss) (length text)) (statements_of text ts) r
      (rising_all text ts (length text) (tokens_ordered text ts tokens)) is

  pub answer_apart : IfOk r (λ ss. StandApart 0 ss (length text))
  answer_apart = answer_has (λ ss. StandApart 0 ss (length text)) (statements_of text ts) r (apart_all text ts
      (length text) (tokens_ordered text ts tokens)) is
