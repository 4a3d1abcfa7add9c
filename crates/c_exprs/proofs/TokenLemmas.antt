-- The tokens of a text by where they begin.
use Rattle.std.proofs.Common.{◌≡◌, ℕ, zero, suc, ◌+◌, ◌-◌, ◌<◌, ◌≤◌, Bool, true, false, List, [], ◌∷◌, length, get_or, refl, sym, arith, nat_lt}
use Rattle.std.specs.List.{prefix_len}
use Rattle.std.specs.List.Sorted.{IsPartitionedBy, IsPartitionPoint}
use Rattle.std.proofs.lemmas.List.Sums.{prefix_len_is}
use Rattle.std.proofs.lemmas.Bool.Decides.{nat_tests}
use Rattle.c_tokens.specs.declared.token.Token.{Token}
use Rattle.c_tokens.specs.declared.token.TokenKind.TheVariants.{Name}
use Rattle.c_tokens.specs.Cut.{IsOrdered}
use Rattle.c_exprs.specs.Operands.{begins_before, token_from}

-- the first token begins first
first : (from to : ℕ) (ts : List Token) (j : ℕ) (d : Token) → IsOrdered from ts to → j < length ts → from ≤ (get_or ts j d).span.from
first from to [] j d o lt = absurd (omega arith)
first from to (t ∷ ts) zero d o lt = o.0
first from to (t ∷ ts) (suc j) d o lt =
    let rest = first t.span.to to ts j d o.2 (omega arith) in
    let low = o.0 in
    let inside = o.1 in
    omega arith

-- tokens begin in their order
in_order : (from to : ℕ) (ts : List Token) (i j : ℕ) (d : Token) → IsOrdered from ts to → i ≤ j → j < length ts → (get_or ts i d).span.from ≤ (get_or ts j d).span.from
in_order from to [] i j d o le lt = absurd (omega arith)
in_order from to (t ∷ ts) zero zero d o le lt = omega arith
in_order from to (t ∷ ts) zero (suc j) d o le lt =
    let rest = first t.span.to to ts j d o.2 (omega arith) in
    let inside = o.1 in
    omega arith
in_order from to (t ∷ ts) (suc i) zero d o le lt = absurd (omega arith)
in_order from to (t ∷ ts) (suc i) (suc j) d o le lt = in_order t.span.to to ts i j d o.2 (omega arith) (omega arith)

earlier : (a b offset : ℕ) → a ≤ b → nat_lt b offset ≡ true → nat_lt a offset ≡ true
earlier a b offset le h = grind (arith, nat_tests)

partitioned : (from to : ℕ) (ts : List Token) (offset : ℕ) → IsOrdered from ts to → IsPartitionedBy (begins_before offset) ts
partitioned from to ts offset o = λ i j d le lt h. earlier _ _ offset (in_order from to ts i j d o le lt) h

no_token : Token
no_token = record { kind = Name; span = record { from = 0; to = 0 } }

point_is : (ts : List Token) (offset n : ℕ) → n ≤ length ts → IsPartitionPoint (λ t. begins_before offset t ≡ true) (λ t. begins_before offset t ≡ false) ts n → token_from ts offset ≡ n
point_is ts offset n le p = prefix_len_is (begins_before offset) ts n no_token le (λ k lt. p.0 k no_token (omega arith) lt) (λ lt. p.1 n no_token (omega arith) lt)

pub token-found : (from to : ℕ) (ts : List Token) (offset n : ℕ) → IsOrdered from ts to → n ≤ length ts
    → (IsPartitionedBy (begins_before offset) ts → IsPartitionPoint (λ t. begins_before offset t ≡ true) (λ t. begins_before offset t ≡ false) ts n)
    → n ≡ token_from ts offset
token-found from to ts offset n o le p = sym (point_is ts offset n le (p (partitioned from to ts offset o)))

pub ruleset token_steps = (token-found)
