-- Which brackets are open before a token, and what each of them is.
use Rattle.std.proofs.Common.{◌≡◌, ℕ, ◌+◌, ◌-◌, ◌<◌, ◌≤◌, ◌⊎◌, inl, inr, Bool, true, false, List, [], ◌∷◌, ◌++◌, ◌&&◌, length, take, refl, sym, ap, ◌∙◌, subst, arith, Option, Some, None, slice_get, length-append, take_at}
use Rattle.std.proofs.lemmas.Bool.{cases_lt, cases_Bool}
use Rattle.c_tokens.specs.declared.token.Token.{Token}
use Rattle.c_tokens.specs.Closers.{closer_at}
use Rattle.asm_statement.specs.declared.class.Class.{Class}
use Rattle.asm_statement.specs.declared.class.Class.TheVariants.{CloseParen, CloseBracket, CloseBrace}
use Rattle.asm_statement.specs.declared.beginning.Opened.{Opened}
use Rattle.asm_statement.specs.declared.beginning.Before.{Before}
use Rattle.asm_statement.specs.Classes.{is_open_paren}
use Rattle.asm_statement.specs.Source.{class_at}
use Rattle.asm_statement.specs.Beginnings.{innermost, is_head}
use Rattle.asm_statement.specs.Laws.{class_before, holds_attributes, MayBegin}
use Rattle.asm_statement.proofs.MarkLaws.{opens_class, closes_class}
use Rattle.asm_statement.proofs.ClosingLaws.{left, left_other, left_open, left_close, left_last, left_from, left_inside, closer_open, closer_other, closer_past}

-- a bracket that is open, with its index
pub record OpenAt : Type 0 where
  pub at : ℕ
  pub opened : Opened

-- the innermost is the last
abbrev pub stacked : List OpenAt → List Opened
stacked [] = []
stacked (e ∷ es) = stacked es ++ e.opened ∷ []

last_length : (xs : List Opened) (x : Opened) → length (xs ++ x ∷ []) - 1 ≡ length xs
last_length xs x = let more = length-append xs (x ∷ []) in omega (arith, more)

last_get : (xs : List Opened) (x : Opened) → slice_get (xs ++ x ∷ []) (length xs) ≡ Some x
last_get [] x = refl
last_get (y ∷ ys) x = last_get ys x

pub innermost_is : (xs : List Opened) (x : Opened) → innermost (xs ++ x ∷ []) ≡ Some x
innermost_is xs x = rw (last_length xs x) (last_get xs x)

without_last : (xs : List Opened) (x : Opened) → take (length (xs ++ x ∷ []) - 1) (xs ++ x ∷ []) ≡ xs
without_last xs x = rw (last_length xs x) (take_at xs (x ∷ []) (length xs) refl)

module _ (text : List ℕ) (ts : List Token) where
  -- what is kept of the bracket is what stands at its index
  pub record IsEntry (e : OpenAt) : Type 0 where
    pub head : e.opened.head ≡ (is_open_paren (class_at text ts e.at) && is_head (class_before text ts e.at))
    pub may_begin : e.opened.attributes ≡ true → MayBegin text ts e.at
    pub holds : e.opened.attributes ≡ true
        → holds_attributes (class_before text ts e.at) (class_at text ts e.at) ≡ true
    pub held : MayBegin text ts e.at → holds_attributes (class_before text ts e.at) (class_at text ts e.at) ≡ true
        → e.opened.attributes ≡ true

  -- Before the token k these are open, the innermost first; `d` are open inside them.
  abbrev pub AreOpen : ℕ → ℕ → List OpenAt → Type 0
  AreOpen k d [] = Unit {0}
  AreOpen k d (e ∷ es) = (closer_at text ts e.at ≡ left text ts d k) × IsEntry e × AreOpen k (d + 1) es

  abbrev pub IsOpened : ℕ → List OpenAt → Type 0
  IsOpened o [] = ⊥
  IsOpened o (e ∷ es) = (e.at ≡ o) ⊎ IsOpened o es

  pub record IsStack (k : ℕ) (opened : List Opened) : Type 0 where
    pub stack : List OpenAt
    pub same : opened ≡ stacked stack
    pub are_open : AreOpen k 0 stack
    pub each : (o c : ℕ) → o < k → k ≤ c → closer_at text ts o ≡ Some c → IsOpened o stack

  shifted : (k d f : ℕ) (es : List OpenAt) → ((j : ℕ) → left text ts (d + j) k ≡ left text ts (f + j) (k + 1))
      → AreOpen k d es → AreOpen (k + 1) f es
  shifted k d f [] steps h = tt
  shifted k d f (e ∷ es) steps h =
      let a : d + 0 ≡ d = omega arith in
      let b : f + 0 ≡ f = omega arith in
      let here : left text ts d k ≡ left text ts f (k + 1) =
      ap (λ (m : ℕ). left text ts m k) (sym a) ∙ steps 0 ∙ ap (λ (m : ℕ). left text ts m (k + 1)) b in (
        h.0 ∙ here,
        h.1,
        shifted k (d + 1) (f + 1) es
            (λ j.
            let a : d + 1 + j ≡ d + (j + 1) = omega arith in
            let b : f + 1 + j ≡ f + (j + 1) = omega arith in
            rw (a, b) (steps (j + 1))) h.2,
      )

  module _ (k : ℕ) (lt : k < length ts) where
    pub stack_other : (opened : List Opened) → opens_class (class_at text ts k) ≡ false
        → closes_class (class_at text ts k) ≡ false → IsStack k opened → IsStack (k + 1) opened
    stack_other opened a b s = record {
      stack = s.stack;
      same = s.same;
      are_open = shifted k 0 0 s.stack (λ j. left_other text ts (0 + j) k lt a b) s.are_open;
      each = λ o c low high is. elim (cases_lt o k) [
        | inl less ↦ s.each o c less (omega (arith, high)) is
        | inr ge ↦
            let here : o ≡ k = omega (arith, low, ge) in
            let none : closer_at text ts o ≡ None = rw here (closer_other text ts k lt a) in
            absurd (let no : None ≡ Some c = sym none ∙ is in cc)
      ];
    }

    pub stack_open : (opened : List Opened) (o : Opened) → opens_class (class_at text ts k) ≡ true
        → IsEntry (record { at = k; opened = o }) → IsStack k opened → IsStack (k + 1) (opened ++ o ∷ [])
    stack_open opened o a entry s = record {
      stack = (record { at = k; opened = o }) ∷ s.stack;
      same = ap (λ (xs : List Opened). xs ++ o ∷ []) s.same;
      are_open = (
        closer_open text ts k lt a,
        entry,
        shifted k 0 (0 + 1) s.stack
            (λ j. let sum : 0 + 1 + j ≡ 0 + j + 1 = omega arith in
            rw sum (left_open text ts (0 + j) k lt a)) s.are_open,
      );
      each = λ p c low high is. elim (cases_lt p k) [
        | inl less ↦ inr (s.each p c less (omega (arith, high)) is)
        | inr ge ↦ inl (omega (arith, low, ge))
      ];
    }

    -- the innermost is closed here
    closed_top : (e : OpenAt) → opens_class (class_at text ts k) ≡ false
        → closes_class (class_at text ts k) ≡ true → closer_at text ts e.at ≡ left text ts 0 k
        → closer_at text ts e.at ≡ Some k
    closed_top e a b open_there = open_there ∙ left_last text ts k lt a b

    pub stack_close : (opened : List Opened) → opens_class (class_at text ts k) ≡ false
        → closes_class (class_at text ts k) ≡ true → IsStack k opened
        → IsStack (k + 1) (take (length opened - 1) opened)
    stack_close opened a b s =
        let P : List Opened → Type 0 = λ xs. IsStack (k + 1) (take (length xs - 1) xs) in
        subst P (sym s.same) (by_stack s.stack s.are_open s.each)
      where
        not_here : (p c : ℕ) → p < k + 1 → k + 1 ≤ c → closer_at text ts p ≡ Some c → p < k
        not_here p c low high is = elim (cases_lt p k) [
          | inl less ↦ less
          | inr ge ↦
              let here : p ≡ k = omega (arith, low, ge) in
              let none : closer_at text ts p ≡ None = rw here (closer_other text ts k lt a) in
              absurd (let no : None ≡ Some c = sym none ∙ is in cc)
        ]

        not_top : (e : OpenAt) (es : List OpenAt) (p c : ℕ) → closer_at text ts e.at ≡ left text ts 0 k
            → k + 1 ≤ c → closer_at text ts p ≡ Some c → IsOpened p (e ∷ es) → IsOpened p es
        not_top e es p c top high is (inr inside) = inside
        not_top e es p c top high is (inl same) =
            let closed : closer_at text ts p ≡ Some k = rw same at (closed_top e a b top) in
            let both : Some k ≡ Some c = sym closed ∙ is in
            let equal : k ≡ c = cc in
            absurd (omega (arith, equal, high))

        by_stack : (es : List OpenAt) → AreOpen k 0 es
            → ((o c : ℕ) → o < k → k ≤ c → closer_at text ts o ≡ Some c → IsOpened o es)
            → IsStack (k + 1) (take (length (stacked es) - 1) (stacked es))
        by_stack [] are_open each = record {
          stack = [];
          same = refl;
          are_open = tt;
          each = λ p c low high is. each p c (not_here p c low high is) (omega (arith, high)) is;
        }
        by_stack (e ∷ es) are_open each = record {
          stack = es;
          same = without_last (stacked es) e.opened;
          are_open = shifted k (0 + 1) 0 es
              (λ j. let sum : 0 + 1 + j ≡ 0 + j + 1 = omega arith in rw sum (left_close text ts
              (0 + j) k lt a b)) are_open.2;
          each = λ p c low high is. not_top e es p c are_open.0 high is (each p c (not_here p c low high is) (omega
              (arith, high)) is);
        }

  -- ---- the bracket that a token closes

  pub closer_low : (o c : ℕ) → closer_at text ts o ≡ Some c → o < c
  closer_low o c is = elim (cases_lt o (length ts)) [
    | inl inside ↦ elim (cases_Bool (opens_class (class_at text ts o))) [
      | inl opening ↦
          let inner : left text ts 0 (o + 1) ≡ Some c = sym (closer_open text ts o inside opening) ∙ is in
          let low = left_from text ts 0 (o + 1) c inner in
          omega (arith, low)
      | inr other ↦ absurd (let no : None ≡ Some c = sym (closer_other text ts o inside other) ∙ is in cc)
    ]
    | inr past ↦ absurd (let no : None ≡ Some c = sym (closer_past text ts o past) ∙ is in cc)
  ]

  -- a token at which the search ends closes a bracket
  pub ends_at : (d k : ℕ) → left text ts d k ≡ Some k → closes_class (class_at text ts k) ≡ true
  ends_at d k is = by_class (opens_class (class_at text ts k)) (closes_class (class_at text ts k)) refl refl
    where
      inside : k < length ts
      inside = left_inside text ts d k k is

      by_class : (x y : Bool) → opens_class (class_at text ts k) ≡ x → closes_class (class_at text ts k) ≡ y
          → closes_class (class_at text ts k) ≡ true
      by_class x true a b = b
      by_class true false a b =
          let low = left_from text ts (d + 1) (k + 1) k (sym (left_open text ts d k inside a) ∙ is) in
          absurd (omega (arith, low))
      by_class false false a b =
          let low = left_from text ts d (k + 1) k (sym (left_other text ts d k inside a b) ∙ is) in
          absurd (omega (arith, low))

  pub opens_not : (c : Class) → closes_class c ≡ true → opens_class c ≡ false
  opens_not CloseParen h = refl
  opens_not CloseBracket h = refl
  opens_not CloseBrace h = refl
  opens_not _ h = absurd (let no : false ≡ true = h in cc)

  -- the innermost open bracket, which the token k closes
  pub record IsInnermost (k o : ℕ) (opened : List Opened) : Type 0 where
    pub entry : OpenAt
    pub index : entry.at ≡ o
    pub is_entry : IsEntry entry
    pub top : innermost opened ≡ Some entry.opened
    pub closes : closes_class (class_at text ts k) ≡ true

  not_deeper : (k o d : ℕ) (es : List OpenAt) → closer_at text ts o ≡ Some k → AreOpen k (d + 1) es
      → IsOpened o es → ⊥
  not_deeper k o d (e ∷ es) is are_open (inr inside) = not_deeper k o (d + 1) es is are_open.2 inside
  not_deeper k o d (e ∷ es) is are_open (inl same) =
      let there : left text ts (d + 1) k ≡ Some k = sym are_open.0 ∙ ap (λ (i : ℕ). closer_at text ts i) same ∙ is in
      let inside = left_inside text ts (d + 1) k k there in
      let b = ends_at (d + 1) k there in
      let a = opens_not (class_at text ts k) b in
      let low = left_from text ts d (k + 1) k (sym (left_close text ts d k inside a b) ∙ there) in
      omega (arith, low)
  not_deeper k o d [] is are_open inside = inside

  pub closes_innermost : (k o : ℕ) (opened : List Opened) → IsStack k opened → closer_at text ts o ≡ Some k
      → IsInnermost k o opened
  closes_innermost k o opened s is =
      subst (IsInnermost k o) (sym s.same) (by_stack s.stack s.are_open (s.each o k (closer_low o k is)
      (omega arith) is))
    where
      by_stack : (es : List OpenAt) → AreOpen k 0 es → IsOpened o es → IsInnermost k o (stacked es)
      by_stack [] are_open inside = absurd inside
      by_stack (e ∷ es) are_open (inr inside) = absurd (not_deeper k o 0 es is are_open.2 inside)
      by_stack (e ∷ es) are_open (inl same) =
          let there : left text ts 0 k ≡ Some k = sym are_open.0 ∙ ap (λ (i : ℕ). closer_at text ts i) same ∙ is in
          record {
            entry = e;
            index = same;
            is_entry = are_open.1;
            top = innermost_is
                (stacked es) e.opened;
            closes = ends_at 0 k there;
          }

  -- the token closes the innermost, if there is one
  pub record HasTop (k : ℕ) (opened : List Opened) (o : Opened) : Type 0 where
    pub at : ℕ
    pub is_entry : IsEntry (record { at = at; opened = o })
    pub closed : closer_at text ts at ≡ Some k

  pub top_closed : (k : ℕ) (opened : List Opened) (o : Opened) → k < length ts
      → closes_class (class_at text ts k) ≡ true → IsStack k opened → innermost opened ≡ Some o → HasTop k opened o
  top_closed k opened o lt b s top = by_stack s.stack s.are_open (subst (λ
      (xs : List Opened). innermost xs ≡ Some o) s.same top)
    where
      by_stack : (es : List OpenAt) → AreOpen k 0 es → innermost (stacked es) ≡ Some o → HasTop k opened o
      by_stack [] are_open top = absurd (let no : ◌≡◌ {A = Option Opened} None (Some o) = top in cc)
      by_stack (e ∷ es) are_open top =
          let same : e.opened ≡ o = (let both : Some e.opened ≡ Some o =
          sym (innermost_is (stacked es) e.opened) ∙ top in cc) in
          let P : Opened → Type 0 = λ x. IsEntry (record { at = e.at; opened = x }) in
          record {
            at = e.at;
            is_entry = subst P same are_open.1;
            closed = are_open.0 ∙ left_last text ts k lt (opens_not (class_at text ts k) b) b;
          }
