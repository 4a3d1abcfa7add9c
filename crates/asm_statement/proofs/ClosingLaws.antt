-- How the search for a closing bracket goes over tokens.
use Rattle.std.proofs.Common.{◌≡◌, ℕ, zero, suc, ◌+◌, ◌-◌, ◌<◌, ◌≤◌, Bool, true, false, List, [], ◌∷◌, ◌==◌, Option, Some, None, IfSome, slice_get, length, drop, get_or, refl, sym, ap, ◌∙◌, arith, length-drop, inl, inr, if◌then◌else◌}
use Rattle.std.proofs.lemmas.List.{drop_all, drop_more}
use Rattle.std.proofs.lemmas.Bool.{cases_lt, ne_eqb, false≢true}
use Rattle.std.proofs.lemmas.Option.{slice_get-get_or, slice_get_within, slice_get_past, get_or_from_slice_get}
use Rattle.c_tokens.specs.declared.token.Token.{Token}
use Rattle.c_tokens.specs.declared.token.TokenKind.TheVariants as kinds
use Rattle.c_tokens.specs.Brackets.{mark_of, opens, closes}
use Rattle.c_tokens.specs.Closers.{closing_from, closer_at}
use Rattle.asm_statement.specs.declared.class.Class.{Class}
use Rattle.asm_statement.specs.declared.class.Class.TheVariants.{Missing}
use Rattle.asm_statement.specs.Source.{class_of, class_at}
use Rattle.asm_statement.proofs.MarkLaws.{opens_class, closes_class, opens_same, closes_same}

abbrev pub no_token : Token
no_token = record { kind = kinds.Name; span = record { from = 0; to = 0 } }

module _ (text : List ℕ) (ts : List Token) where
  -- what closes more than is open, from an index on
  abbrev pub left : ℕ → ℕ → Option ℕ
  left depth i = closing_from text depth i (drop i ts)

  -- there is a token
  pub token_there : (i : ℕ) → i < length ts → (t : Token) × (slice_get ts i ≡ Some t)
  token_there i lt = (get_or ts i no_token, slice_get-get_or ts i no_token lt)

  class_in : Option Token → Class
  class_in = elim [ None ↦ Missing | Some t ↦ class_of text t ]

  -- the class at an index is that of the token there
  pub class_known : (i : ℕ) (t : Token) → slice_get ts i ≡ Some t → class_at text ts i ≡ class_of text t
  unfolding class_in
  class_known i t is = ap class_in is

  class_past : (i : ℕ) → length ts ≤ i → class_at text ts i ≡ Missing
  unfolding class_in
  class_past i past = ap class_in (slice_get_past ts i past)

  -- a class other than none is that of a token
  pub class_there : (p : Class → Bool) → p Missing ≡ false → (i : ℕ) → p (class_at text ts i) ≡ true → i < length ts
  class_there p none i is = elim (cases_lt i (length ts)) [
    | inl inside ↦ inside
    | inr past ↦
        let here : p (class_at text ts i) ≡ p Missing = ap p (class_past i past) in
        absurd (false≢true (sym none ∙ sym here ∙ is))
  ]

  drop_at : (i : ℕ) (t : Token) → slice_get ts i ≡ Some t → drop i ts ≡ t ∷ drop (i + 1) ts
  drop_at i t is =
      drop_more ts i t (slice_get_within ts i t is)
      ∙ ap (λ (x : Token). x ∷ drop (i + 1) ts) (get_or_from_slice_get ts i t t is)

  opens_at : (i : ℕ) (t : Token) → slice_get ts i ≡ Some t → opens (mark_of text t) ≡ opens_class (class_at text ts i)
  opens_at i t is = opens_same text t ∙ ap opens_class (sym (class_known i t is))

  closes_at : (i : ℕ) (t : Token) → slice_get ts i ≡ Some t
      → closes (mark_of text t) ≡ closes_class (class_at text ts i)
  closes_at i t is = closes_same text t ∙ ap closes_class (sym (class_known i t is))

  left_step : (d i : ℕ) (t : Token) → slice_get ts i ≡ Some t
      → left d i ≡ (if opens_class (class_at text ts i) then left (d + 1) (i + 1)
      else if closes_class (class_at text ts i) then (if d == 0 then Some i else left (d - 1) (i + 1))
      else left d (i + 1))
  unfolding closing_from
  left_step d i t is = rw (← opens_at i t is, ← closes_at i t is) (rw (drop_at i t is) refl)

  pub left_past : (d i : ℕ) → length ts ≤ i → left d i ≡ None
  unfolding closing_from
  left_past d i past = rw (drop_all i ts past) refl

  step_at : (d i : ℕ) → i < length ts
      → left d i ≡ (if opens_class (class_at text ts i) then left (d + 1) (i + 1)
      else if closes_class (class_at text ts i) then (if d == 0 then Some i else left (d - 1) (i + 1))
      else left d (i + 1))
  step_at d i lt = let t = token_there i lt in left_step d i t.0 t.1

  pub left_other : (d i : ℕ) → i < length ts → opens_class (class_at text ts i) ≡ false
      → closes_class (class_at text ts i) ≡ false → left d i ≡ left d (i + 1)
  left_other d i lt a b = step_at d i lt ∙ rw (a, b) refl

  pub left_open : (d i : ℕ) → i < length ts → opens_class (class_at text ts i) ≡ true
      → left d i ≡ left (d + 1) (i + 1)
  left_open d i lt a = step_at d i lt ∙ rw a refl

  pub left_close : (d i : ℕ) → i < length ts → opens_class (class_at text ts i) ≡ false
      → closes_class (class_at text ts i) ≡ true → left (d + 1) i ≡ left d (i + 1)
  left_close d i lt a b =
      let deep : (d + 1 == 0) ≡ false = ne_eqb (d + 1) 0 (λ e. omega arith) in
      let less : d + 1 - 1 ≡ d = omega arith in
      step_at (d + 1) i lt ∙ rw (a, b, deep, less) refl

  pub left_last : (i : ℕ) → i < length ts → opens_class (class_at text ts i) ≡ false
      → closes_class (class_at text ts i) ≡ true → left 0 i ≡ Some i
  left_last i lt a b = step_at 0 i lt ∙ rw (a, b) refl

  -- ---- bounds

  abbrev IsFrom : ℕ → Option ℕ → Type 0
  IsFrom low o = IfSome o (λ c. low ≤ c)

  if_from : (low : ℕ) (b : Bool) (o p : Option ℕ) → IsFrom low o → IsFrom low p → IsFrom low (if b then o else p)
  if_from low true o p here there = here
  if_from low false o p here there = there

  later : (i : ℕ) (o : Option ℕ) → IsFrom (i + 1) o → IsFrom i o
  later i None h = tt
  later i (Some c) h = omega arith

  from_here : (d i : ℕ) (xs : List Token) → IsFrom i (closing_from text d i xs)
  unfolding closing_from
  from_here d i [] = tt
  from_here d i (t ∷ xs) =
      let more : (e : ℕ) → IsFrom i (closing_from text e (i + 1) xs) =
      λ e. later i (closing_from text e (i + 1) xs) (from_here e (i + 1) xs) in
      if_from i (opens (mark_of text t)) _ _ (more (d + 1))
      (if_from i (closes (mark_of text t)) _ _ (if_from i (d == 0) (Some i) _ (omega arith) (more (d - 1))) (more d))

  some_from : (low c : ℕ) (o : Option ℕ) → o ≡ Some c → IsFrom low o → low ≤ c
  some_from low c o is h = rw is at h

  -- it doesn't find one before
  pub left_from : (d i c : ℕ) → left d i ≡ Some c → i ≤ c
  left_from d i c is = some_from i c (left d i) is (from_here d i (drop i ts))

  -- there is a token where it finds one
  pub left_inside : (d i c : ℕ) → left d i ≡ Some c → i < length ts
  left_inside d i c is = elim (cases_lt i (length ts)) [
    | inl inside ↦ inside
    | inr past ↦ absurd (let no : None ≡ Some c = sym (left_past d i past) ∙ is in cc)
  ]

  -- nor behind the last token
  abbrev IsWithin : ℕ → Option ℕ → Type 0
  IsWithin high o = IfSome o (λ c. c < high)

  if_within : (high : ℕ) (b : Bool) (o p : Option ℕ) → IsWithin high o → IsWithin high p
      → IsWithin high (if b then o else p)
  if_within high true o p here there = here
  if_within high false o p here there = there

  to_end : (d i : ℕ) (xs : List Token) → (0 < length xs → i + length xs ≤ length ts)
      → IsWithin (length ts) (closing_from text d i xs)
  unfolding closing_from
  to_end d i [] fits = tt
  to_end d i (t ∷ xs) fits =
      let all : i + suc (length xs) ≤ length ts = fits (omega arith) in
      let more : (e : ℕ) → IsWithin (length ts) (closing_from text e (i + 1) xs) =
      λ e. to_end e (i + 1) xs (λ _. omega arith) in
      if_within (length ts) (opens (mark_of text t)) _ _ (more (d + 1))
      (if_within (length ts) (closes (mark_of text t)) _ _ (if_within (length ts) (d == 0) (Some i) _ (omega arith)
      (more (d - 1))) (more d))

  some_within : (high c : ℕ) (o : Option ℕ) → o ≡ Some c → IsWithin high o → c < high
  some_within high c o is h = rw is at h

  -- ---- the bracket that closes another

  pub closer_open : (i : ℕ) → i < length ts → opens_class (class_at text ts i) ≡ true
      → closer_at text ts i ≡ left 0 (i + 1)
  closer_open i lt a =
      let t = token_there i lt in
      let a' : opens (mark_of text t.0) ≡ true = opens_at i t.0 t.1 ∙ a in
      rw (drop_at i t.0 t.1, a') refl

  pub closer_other : (i : ℕ) → i < length ts → opens_class (class_at text ts i) ≡ false → closer_at text ts i ≡ None
  closer_other i lt a =
      let t = token_there i lt in
      let a' : opens (mark_of text t.0) ≡ false = opens_at i t.0 t.1 ∙ a in
      rw (drop_at i t.0 t.1, a') refl

  pub closer_past : (i : ℕ) → length ts ≤ i → closer_at text ts i ≡ None
  closer_past i past = rw (drop_all i ts past) refl

  -- the search with more depth goes on behind what that with less depth finds
  beyond : (n e d i c : ℕ) → length ts ≡ i + n → left e i ≡ Some c → left (e + 1 + d) i ≡ left d (c + 1)
  beyond zero e d i c size is = absurd (let no : None ≡ Some c = sym (left_past e i (omega arith)) ∙ is in cc)
  beyond (suc n) e d i c size is =
      by_class (opens_class (class_at text ts i)) (closes_class (class_at text ts i)) refl refl
      (λ e' is'. beyond n e' d (i + 1) c (omega arith) is')
    where
      lt : i < length ts
      lt = omega arith

      at_depth : (k : ℕ) → e ≡ k → opens_class (class_at text ts i) ≡ false → closes_class (class_at text ts i) ≡ true
          → ((e' : ℕ) → left e' (i + 1) ≡ Some c → left (e' + 1 + d) (i + 1) ≡ left d (c + 1)) → left
          (e + 1 + d) i ≡ left d (c + 1)
      at_depth zero same a b further =
          let here : Some i ≡ Some c = sym (left_last i lt a b) ∙ rw same at is in
          let there : i ≡ c = cc in
          let sum : e + 1 + d ≡ d + 1 = omega arith in
          rw sum (left_close d i lt a b ∙ ap (λ (j : ℕ). left d (j + 1)) there)
      at_depth (suc k) same a b further =
          let deeper : e ≡ k + 1 = omega arith in
          let sum : e + 1 + d ≡ k + 1 + d + 1 = omega arith in
          let is' : left k (i + 1) ≡ Some c = sym (left_close k i lt a b) ∙ rw deeper at is in
          rw sum (left_close (k + 1 + d) i lt a b ∙ further k is')

      by_class : (x y : Bool) → opens_class (class_at text ts i) ≡ x → closes_class (class_at text ts i) ≡ y
          → ((e' : ℕ) → left e' (i + 1) ≡ Some c → left (e' + 1 + d) (i + 1) ≡ left d (c + 1)) → left
          (e + 1 + d) i ≡ left d (c + 1)
      by_class true y a b further =
          let sum : e + 1 + d + 1 ≡ e + 1 + 1 + d = omega arith in
          left_open (e + 1 + d) i lt a ∙ rw sum (further (e + 1) (sym (left_open e i lt a) ∙ is))
      by_class false true a b further = at_depth e refl a b further
      by_class false false a b further = left_other (e + 1 + d) i lt a b ∙ further e (sym (left_other e i lt a b)
          ∙ is)

  -- ---- balanced tokens are passed

  abbrev pub Passes : ℕ → ℕ → Type 0
  Passes i j = (d : ℕ) → left d i ≡ left d j

  pub pass_other : (i : ℕ) → i < length ts → opens_class (class_at text ts i) ≡ false
      → closes_class (class_at text ts i) ≡ false → Passes i (i + 1)
  pass_other i lt a b = λ d. left_other d i lt a b

  pub pass_pair : (i c : ℕ) → i < length ts → opens_class (class_at text ts i) ≡ true
      → closer_at text ts i ≡ Some c → Passes i (c + 1)
  pass_pair i c lt a is = λ d.
      let inner : left 0 (i + 1) ≡ Some c = sym (closer_open i lt a) ∙ is in
      let inside = left_inside 0 (i + 1) c inner in
      let behind = beyond (length ts - (i + 1)) 0 d (i + 1) c (omega arith) inner in
      let sum : 0 + 1 + d ≡ d + 1 = omega arith in
      left_open d i lt a ∙ rw sum at behind

  pub closer_inside : (i c : ℕ) → i < length ts → opens_class (class_at text ts i) ≡ true
      → closer_at text ts i ≡ Some c → c < length ts
  closer_inside i c lt a is = some_within (length ts) c (left 0 (i + 1)) (sym (closer_open i lt a)
      ∙ is) (to_end 0 (i + 1) (drop (i + 1) ts) (λ some. let size = length-drop (i + 1) ts in omega
      (arith, size, some)))

  -- the tokens between a bracket and one that closes are balanced: so it closes that
  pub closer_behind : (i c : ℕ) → i < length ts → c < length ts → opens_class (class_at text ts i) ≡ true
      → opens_class (class_at text ts c) ≡ false → closes_class (class_at text ts c) ≡ true → Passes
      (i + 1) c → closer_at text ts i ≡ Some c
  closer_behind i c lt within a b k passes = closer_open i lt a ∙ passes 0 ∙ left_last c within b k
