-- Where the bracket that closes another may stand.
use Rattle.std.proofs.Common.{◌≡◌, ℕ, suc, ◌+◌, ◌-◌, ◌<◌, ◌≤◌, Bool, true, false, List, [], ◌∷◌, ◌==◌, Option, Some, None, IfSome, unwrap_or, slice_get, length, drop, cond, refl, sym, ◌∙◌, subst, arith, length-drop, inl, inr}
use Rattle.std.proofs.lemmas.List.{drop_all}
use Rattle.std.proofs.lemmas.Bool.{cases_lt}
use Rattle.std.proofs.lemmas.Option.{unwrap_or-slice_get, slice_get_past}
use Rattle.std.specs.Option.{option_flatten}
use Rattle.c_tokens.specs.declared.token.Token.{Token}
use Rattle.c_tokens.specs.Brackets.{mark_of, opens, closes}
use Rattle.c_tokens.specs.Closers.{closing_from, closer_in, closer_at, AreClosers}

-- an index from the one on, and before the other
abbrev pub IsBetween : ℕ → ℕ → Option ℕ → Type 0
IsBetween low high o = IfSome o (λ c. (low ≤ c) × (c < high))

either : (b : Bool) (low high : ℕ) (o p : Option ℕ) → IsBetween low high o → IsBetween low high p → IsBetween low high (cond b o p)
either true low high o p here there = here
either false low high o p here there = there

later : (i n : ℕ) (o : Option ℕ) → IsBetween (i + 1) (i + 1 + n) o → IsBetween i (i + suc n) o
later i n None h = tt
later i n (Some c) h = let low = h.0 in let high = h.1 in (omega arith, omega arith)

pub closing_from-between : (text : List ℕ) (depth i : ℕ) (ts : List Token) → IsBetween i (i + length ts) (closing_from text depth i ts)
unfolding closing_from
closing_from-between text depth i [] = tt
closing_from-between text depth i (t ∷ ts) =
    let opened = later i (length ts) (closing_from text (depth + 1) (i + 1) ts) (closing_from-between text (depth + 1) (i + 1) ts) in
    let closed = later i (length ts) (closing_from text (depth - 1) (i + 1) ts) (closing_from-between text (depth - 1) (i + 1) ts) in
    let other = later i (length ts) (closing_from text depth (i + 1) ts) (closing_from-between text depth (i + 1) ts) in
    let here : IsBetween i (i + suc (length ts)) (Some i) = (omega arith, omega arith) in
    either (opens (mark_of text t)) i (i + suc (length ts)) _ _ opened
    (either (closes (mark_of text t)) i (i + suc (length ts)) _ _ (either (depth == 0) i (i + suc (length ts)) _ _ here closed) other)

closer_in-between : (text : List ℕ) (i : ℕ) (ts : List Token) → IsBetween (i + 1) (i + length ts) (closer_in text i ts)
closer_in-between text i [] = tt
closer_in-between text i (t ∷ ts) =
    let inside : IsBetween (i + 1) (i + suc (length ts)) (closing_from text 0 (i + 1) ts) = subst (λ n. IsBetween (i + 1) n (closing_from text 0 (i + 1) ts)) (omega arith) (closing_from-between text 0 (i + 1) ts) in
    either (opens (mark_of text t)) (i + 1) (i + suc (length ts)) _ _ inside tt

closer_between : (n i : ℕ) (o : Option ℕ) → IsBetween (i + 1) (i + (n - i)) o → IfSome o (λ c. (i < c) × (c < n))
closer_between n i None h = tt
closer_between n i (Some c) h = let low = h.0 in let high = h.1 in (omega arith, omega arith)

-- a bracket is closed behind itself, and inside the file
pub closer_at-within : (text : List ℕ) (ts : List Token) (i : ℕ) → IfSome (closer_at text ts i) (λ c. (i < c) × (c < length ts))
closer_at-within text ts i = closer_between (length ts) i (closer_at text ts i) (rw (length-drop i ts) at (closer_in-between text i (drop i ts)))

flat : (o : Option (Option ℕ)) → option_flatten o ≡ unwrap_or o None
flat None = refl
flat (Some inner) = refl

-- an answer for each token tells what closes any
pub closer_at-get : (text : List ℕ) (ts : List Token) (closers : List (Option ℕ)) (i : ℕ) → AreClosers text ts closers → closer_at text ts i ≡ option_flatten (slice_get closers i)
closer_at-get text ts closers i a = elim (cases_lt i (length ts)) [
  | inl inside ↦ sym (a.each i inside) ∙ sym (flat (slice_get closers i) ∙ unwrap_or-slice_get closers i None)
  | inr past ↦
      let many = a.many in
      let none : slice_get closers i ≡ None = slice_get_past closers i (omega arith) in
      rw (none, drop_all i ts past) refl
]

pub closer_at-bounds : (text : List ℕ) (ts : List Token) (closers : List (Option ℕ)) (i c : ℕ) → AreClosers text ts closers → option_flatten (slice_get closers i) ≡ Some c → (i < c) × (c < length ts)
closer_at-bounds text ts closers i c a is = rw (closer_at-get text ts closers i a ∙ is) at (closer_at-within text ts i)

pub ruleset closer_rules = (closer_at-get, closer_at-bounds)
