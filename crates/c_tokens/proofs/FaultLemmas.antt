-- The offset of an unbalanced bracket lies inside the text.
use Rattle.std.proofs.Common.{◌≡◌, ℕ, zero, suc, ◌-◌, ◌<◌, ◌≤◌, true, false, List, [], ◌∷◌, ◌++◌, take, length, cond, arith, Some}
use Rattle.c_tokens.specs.declared.token.Token.{Token}
use Rattle.c_tokens.specs.Brackets.{mark_of, opens, closes, closes_last, first_of, unbalanced_at}
use Rattle.c_tokens.specs.Cut.{IsOrdered}

-- the offsets of the brackets that are open
abbrev AllBelow : ℕ → List ℕ → Type 0
AllBelow n [] = Unit {0}
AllBelow n (x ∷ xs) = (x < n) × AllBelow n xs

one_more : (n : ℕ) (xs : List ℕ) (x : ℕ) → AllBelow n xs → x < n → AllBelow n (xs ++ x ∷ [])
one_more n [] x a lt = (lt, tt)
one_more n (y ∷ ys) x a lt = (a.0, one_more n ys x a.1 lt)

fewer : (n k : ℕ) (xs : List ℕ) → AllBelow n xs → AllBelow n (take k xs)
fewer n zero xs a = tt
fewer n (suc k) [] a = tt
fewer n (suc k) (x ∷ xs) a = (a.0, fewer n k xs a.1)

first_below : (n o : ℕ) (xs : List ℕ) → AllBelow n xs → first_of xs ≡ Some o → o < n
first_below n o [] a h = cc
first_below n o (x ∷ xs) a h = let is : x ≡ o = cc in omega (arith, a.0, is)

ordered_le : (from to : ℕ) (ts : List Token) → IsOrdered from ts to → from ≤ to
ordered_le from to [] h = h
ordered_le from to (t ∷ ts) h = let rest = ordered_le t.span.to to ts h.2 in omega (arith, h.0, h.1, rest)

below : (text : List ℕ) (n o : ℕ) (from : ℕ) (ts : List Token) (opened : List ℕ) → IsOrdered from ts n
    → AllBelow n opened → unbalanced_at text opened ts ≡ Some o → o < n
unfolding unbalanced_at
below text n o from [] opened h a is = first_below n o opened a is
below text n o from (t ∷ ts) opened h a is =
    elim (opens (mark_of text t)) as (λ b. cond b (unbalanced_at text (opened ++ t.span.from ∷ []) ts)
    (cond (closes (mark_of text t))
    (cond (closes_last text opened (mark_of text t)) (unbalanced_at text (take (length opened - 1) opened) ts)
    (Some t.span.from)) (unbalanced_at text opened ts)) ≡ Some o → o < n) [
      | true ↦ λ is. below text n o t.span.to ts (opened ++ t.span.from ∷ []) h.2
          (one_more n opened t.span.from a here) is
      | false ↦ λ is. elim (closes (mark_of text t)) as
          (λ b. cond b
          (cond (closes_last text opened (mark_of text t)) (unbalanced_at text (take (length opened - 1) opened) ts)
          (Some t.span.from)) (unbalanced_at text opened ts) ≡ Some o → o < n) [
            | true ↦ λ is. elim (closes_last text opened (mark_of text t)) as
                (λ b. cond b (unbalanced_at text (take (length opened - 1) opened) ts) (Some t.span.from) ≡ Some o →
                o < n) [
                  | true ↦ λ is. below text n o t.span.to ts (take (length opened - 1) opened) h.2
                      (fewer n (length opened - 1) opened a) is
                  | false ↦ λ is. let same : t.span.from ≡ o = cc in omega (arith, here, same)
                ] is
            | false ↦ λ is. below text n o t.span.to ts opened h.2 a is
          ] is
    ] is
  where
    here : t.span.from < n
    here = let rest = ordered_le t.span.to n ts h.2 in omega (arith, h.1, rest)

pub unbalanced_inside : (text : List ℕ) (ts : List Token) (o : ℕ) → IsOrdered 0 ts (length text)
    → unbalanced_at text [] ts ≡ Some o → o < length text
unbalanced_inside text ts o h is = below text (length text) o 0 ts [] h tt is
