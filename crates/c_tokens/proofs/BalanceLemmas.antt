-- The check of brackets by a stack finds none exactly where the tokens are balanced.
use Rattle.std.proofs.Common.{◌≡◌, ℕ, ◌+◌, ◌-◌, true, false, List, [], ◌∷◌, ◌++◌, take, length, get_or, cond, refl, arith, ◌==◌, ◌||◌, ap, sym, ◌∙◌, subst, Some, None, append_assoc, length-append, nat_lt, eq-eqb, lt-ltb}
use Rattle.std.proofs.lemmas.List.{get_or-append-add, append-nil}
use Rattle.std.proofs.lemmas.Bool.{eqb-true}
use Rattle.c_tokens.specs.declared.token.Token.{Token}
use Rattle.c_tokens.specs.declared.token.TokenKind.TheVariants.{Name, Number, Char, Text, Punct}
use Rattle.c_tokens.specs.Brackets.{mark_of, opens, closes, partner_of, closes_last, first_of, unbalanced_at}
use Rattle.c_tokens.specs.Balance.{IsBalanced, none, other, pair}
use Rattle.c_tokens.proofs.PunctLemmas.{and_right}

-- The tokens close the open brackets, the innermost first, with balanced tokens between.
data Closes (text : List ℕ) : List ℕ → List Token → Type 0 where
  done : (ts : List Token) → IsBalanced text ts → Closes text [] ts
  inner : (opened : List ℕ) (o : ℕ) (inside behind : List Token) (c : Token) → IsBalanced text inside → closes (mark_of text c) ≡ true → get_or text o 0 ≡ partner_of (mark_of text c)
      → Closes text opened behind → Closes text (o ∷ opened) (inside ++ c ∷ behind)

with_other : (text opened : List ℕ) (t : Token) (ts : List Token) → opens (mark_of text t) ≡ false → closes (mark_of text t) ≡ false → Closes text opened ts → Closes text opened (t ∷ ts)
with_other text _ t _ a b (done ts h) = done (t ∷ ts) (other t ts a b h)
with_other text _ t _ a b (inner opened o inside behind c h k e rest) = inner opened o (t ∷ inside) behind c (other t inside a b h) k e rest

with_pair : (text opened : List ℕ) (o c : Token) (inside behind : List Token) → opens (mark_of text o) ≡ true → closes (mark_of text c) ≡ true → mark_of text o ≡ partner_of (mark_of text c)
    → IsBalanced text inside → Closes text opened behind → Closes text opened (o ∷ inside ++ c ∷ behind)
with_pair text _ o c inside _ a b e h (done ts k) = done (o ∷ inside ++ c ∷ ts) (pair o c inside ts a b e h k)
with_pair text _ o c inside _ a b e h (inner opened p within behind d k l m rest) =
    let P : List Token → Type 0 = λ ts. Closes text (p ∷ opened) ts in
    subst P (ap (λ (ts : List Token). o ∷ ts) (append_assoc inside (c ∷ within) (d ∷ behind)))
    (inner opened p (o ∷ inside ++ c ∷ within) behind d (pair o c inside within a b e h k) l m rest)

-- the stack of the check, which has the innermost last
abbrev stacked : List ℕ → List ℕ
stacked [] = []
stacked (o ∷ os) = stacked os ++ o ∷ []

take_whole : (xs ys : List ℕ) → take (length xs) (xs ++ ys) ≡ xs
take_whole [] ys = refl
take_whole (x ∷ xs) ys = ap (λ (zs : List ℕ). x ∷ zs) (take_whole xs ys)

but_last : (xs : List ℕ) (x : ℕ) → length (xs ++ x ∷ []) - 1 ≡ length xs
but_last xs x = let more = length-append xs (x ∷ []) in omega (arith, more)

pub take_but_last : (xs : List ℕ) (x : ℕ) → take (length (xs ++ x ∷ []) - 1) (xs ++ x ∷ []) ≡ xs
take_but_last xs x = rw (but_last xs x) (take_whole xs (x ∷ []))

pub last_of : (xs : List ℕ) (x : ℕ) → get_or (xs ++ x ∷ []) (length (xs ++ x ∷ []) - 1) 0 ≡ x
last_of xs x = let at : length (xs ++ x ∷ []) - 1 ≡ length xs + 0 = omega (arith, but_last xs x) in rw at (get_or-append-add xs (x ∷ []) 0 0)

mark_there : (text : List ℕ) (t : Token) → opens (mark_of text t) ≡ true → mark_of text t ≡ get_or text t.span.from 0
mark_there text t e = elim t.kind as (λ k. opens (elim k [ Punct ↦ get_or text t.span.from 0 | Name ↦ 0 | Number ↦ 0 | Char ↦ 0 | Text ↦ 0 ]) ≡ true
    → (elim k [ Punct ↦ get_or text t.span.from 0 | Name ↦ 0 | Number ↦ 0 | Char ↦ 0 | Text ↦ 0 ]) ≡ get_or text t.span.from 0) [
      | Punct ↦ λ h. refl
      | Name ↦ λ h. cc
      | Number ↦ λ h. cc
      | Char ↦ λ h. cc
      | Text ↦ λ h. cc
    ] e

not_both : (b : ℕ) → closes b ≡ true → opens b ≡ false
not_both b e =
    elim (b == 41) as (λ t. (b == 41) ≡ t → (t || (b == 93) || (b == 125)) ≡ true → opens b ≡ false) [
      | true ↦ λ is h. rw (eqb-true b 41 is) refl
      | false ↦ λ _ h. elim (b == 93) as (λ t. (b == 93) ≡ t → (t || (b == 125)) ≡ true → opens b ≡ false) [
        | true ↦ λ is h. rw (eqb-true b 93 is) refl
        | false ↦ λ _ h. rw (eqb-true b 125 h) refl
      ] refl h
    ] refl e

open_last : (xs : List ℕ) (x : ℕ) → first_of (xs ++ x ∷ []) ≡ None → ⊥
open_last [] x h = cc
open_last (y ∷ xs) x h = cc

with_open : (text : List ℕ) (stack : List ℕ) (t : Token) (ts : List Token) → opens (mark_of text t) ≡ true → Closes text (t.span.from ∷ stack) ts → Closes text stack (t ∷ ts)
with_open text stack t _ a (inner _ _ inside behind c h k e rest) = with_pair text stack t c inside behind a k (mark_there text t a ∙ e) h rest

sound : (text : List ℕ) (ts : List Token) (stack : List ℕ) → unbalanced_at text (stacked stack) ts ≡ None → Closes text stack ts
unfolding unbalanced_at
sound text [] [] h = done [] none
sound text [] (o ∷ os) h = absurd (open_last (stacked os) o h)
sound text (t ∷ ts) stack h =
    elim (opens (mark_of text t)) as (λ b. opens (mark_of text t) ≡ b → cond b (unbalanced_at text (stacked (t.span.from ∷ stack)) ts)
    (cond (closes (mark_of text t)) (cond (closes_last text (stacked stack) (mark_of text t)) (unbalanced_at text (take (length (stacked stack) - 1) (stacked stack)) ts) (Some t.span.from)) (unbalanced_at text (stacked stack) ts)) ≡ None
    → Closes text stack (t ∷ ts)) [
      | true ↦ λ a h. with_open text stack t ts a (sound text ts (t.span.from ∷ stack) h)
      | false ↦ λ a h. elim (closes (mark_of text t)) as (λ b. closes (mark_of text t) ≡ b → cond b (cond (closes_last text (stacked stack) (mark_of text t)) (unbalanced_at text (take (length (stacked stack) - 1) (stacked stack)) ts) (Some t.span.from)) (unbalanced_at text (stacked stack) ts) ≡ None
          → Closes text stack (t ∷ ts)) [
            | true ↦ λ b h. closing stack b h (λ os k. sound text ts os k)
            | false ↦ λ b h. with_other text stack t ts a b (sound text ts stack h)
          ] refl h
    ] refl h
  where
    closing : (stack : List ℕ) → closes (mark_of text t) ≡ true → cond (closes_last text (stacked stack) (mark_of text t)) (unbalanced_at text (take (length (stacked stack) - 1) (stacked stack)) ts) (Some t.span.from) ≡ None
        → ((os : List ℕ) → unbalanced_at text (stacked os) ts ≡ None → Closes text os ts) → Closes text stack (t ∷ ts)
    closing [] b h further = cc
    closing (o ∷ os) b h further =
        elim (closes_last text (stacked (o ∷ os)) (mark_of text t)) as (λ l. closes_last text (stacked (o ∷ os)) (mark_of text t) ≡ l → cond l (unbalanced_at text (take (length (stacked (o ∷ os)) - 1) (stacked (o ∷ os))) ts) (Some t.span.from) ≡ None → Closes text (o ∷ os) (t ∷ ts)) [
          | true ↦ λ l h.
              let same = eqb-true _ _ (and_right (nat_lt 0 (length (stacked (o ∷ os)))) _ l) in
              inner os o [] ts t none b (rw (last_of (stacked os) o) at same) (further os (rw (take_but_last (stacked os) o) at h))
          | false ↦ λ l h. cc
        ] refl h

-- no bracket is unbalanced only where the tokens are balanced
pub balanced_if_none : (text : List ℕ) (ts : List Token) → unbalanced_at text [] ts ≡ None → IsBalanced text ts
balanced_if_none text ts h = whole (sound text ts [] h)
  where
    whole : Closes text [] ts → IsBalanced text ts
    whole (done _ b) = b

passed : (text : List ℕ) (ts : List Token) → IsBalanced text ts → (opened : List ℕ) (rest : List Token) → unbalanced_at text opened (ts ++ rest) ≡ unbalanced_at text opened rest
unfolding unbalanced_at
passed text _ none opened rest = refl
passed text _ (other t ts a b h) opened rest = rw (a, b) (passed text ts h opened rest)
passed text _ (pair o c inside behind a b e h k) opened rest =
    let split : (inside ++ c ∷ behind) ++ rest ≡ inside ++ (c ∷ (behind ++ rest)) = append_assoc inside (c ∷ behind) rest in
    let same : (get_or text (get_or (opened ++ o.span.from ∷ []) (length (opened ++ o.span.from ∷ []) - 1) 0) 0 == partner_of (mark_of text c)) ≡ true =
    rw (last_of opened o.span.from) (eq-eqb _ _ (sym (mark_there text o a) ∙ e)) in
    let some : nat_lt 0 (length (opened ++ o.span.from ∷ [])) ≡ true = lt-ltb _ _ (let more = length-append opened (o.span.from ∷ []) in omega (arith, more)) in
    rw (a, split) (passed text inside h (opened ++ o.span.from ∷ []) (c ∷ (behind ++ rest)) ∙ rw (not_both (mark_of text c) b, b, some, same, take_but_last opened o.span.from) (passed text behind k opened rest))

pub none_if_balanced : (text : List ℕ) (ts : List Token) → IsBalanced text ts → unbalanced_at text [] ts ≡ None
unfolding unbalanced_at
none_if_balanced text ts h = let P : List Token → Type 0 = λ xs. unbalanced_at text [] xs ≡ None in subst P (append-nil ts) (passed text ts h [] [])
