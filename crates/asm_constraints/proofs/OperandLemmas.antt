-- The operands of what is left of the parts.
use Rattle.std.proofs.Common.{◌≡◌, ℕ, suc, ◌+◌, ◌<◌, ◌≤◌, List, [], ◌∷◌, ◌++◌, length, take, drop, get_or, Option, refl, sym, ◌∙◌, ap, append_assoc, length-append, add-zero, zero-add, arith}
use Rattle.std.proofs.lemmas.List.{append-nil, drop_more, drop_all}
use Rattle.asm_core.specs.Lists.{optional_at}
use Rattle.asm_core.specs.Constraint.{constrained_operand, constrained_from, name_of, names_of, constrained_operands}
use Rattle.asm_core.specs.declared.operand.Operand.{Operand}
use Rattle.asm_core.specs.declared.statement.Part.{Part}
use Rattle.asm_core.specs.declared.statement.Parts.{Parts}
use Rattle.asm_core.specs.declared.constraint.ConstrainedOperand.{ConstrainedOperand}

module _ (outputs : List (Option (List ℕ))) (types : List (Option Operand)) where
  pub length-constrained_from : (n : ℕ) (parts : List Part) → length (constrained_from outputs types n parts) ≡ length parts
  unfolding constrained_from
  length-constrained_from n [] = refl
  length-constrained_from n (p ∷ ps) = ap suc (length-constrained_from (n + 1) ps)

  constrained_from-first : (n : ℕ) (p : Part) (ps : List Part)
      → constrained_from outputs types n (p ∷ ps) ≡ constrained_operand outputs n p (optional_at types n) ∷ constrained_from outputs types (n + 1) ps
  unfolding constrained_from
  constrained_from-first n p ps = refl

  constrained_from-none : (n : ℕ) → constrained_from outputs types n [] ≡ []
  unfolding constrained_from
  constrained_from-none n = refl

  pub constrained_from-append : (n : ℕ) (ps qs : List Part)
      → constrained_from outputs types n (ps ++ qs) ≡ constrained_from outputs types n ps ++ constrained_from outputs types (n + length ps) qs
  unfolding constrained_from
  constrained_from-append n [] qs = ap (λ k. constrained_from outputs types k qs) (sym (add-zero n))
  constrained_from-append n (p ∷ ps) qs =
      let same : n + 1 + length ps ≡ n + suc (length ps) = omega arith in
      ap (λ rest. constrained_operand outputs n p (optional_at types n) ∷ rest)
      (constrained_from-append (n + 1) ps qs ∙ ap (λ k. constrained_from outputs types (n + 1) ps ++ constrained_from outputs types k qs) same)

  -- one more operand is made
  pub constrained_from-more : (parts : List Part) (i : ℕ) (part : Part) (number : ℕ) (typed : Option Operand) (w : ConstrainedOperand) (before made all : List ConstrainedOperand) → i < length parts
      → part ≡ get_or parts i part → number ≡ length before → typed ≡ optional_at types number → w ≡ constrained_operand outputs number part typed → made ≡ before ++ w ∷ []
      → before ++ constrained_from outputs types (length before) (drop i parts) ≡ all → made ++ constrained_from outputs types (length made) (drop (i + 1) parts) ≡ all
  constrained_from-more parts i part number typed w before made all inside p n t o m invariant =
      let e : w ≡ constrained_operand outputs (length before) part (optional_at types (length before)) = o ∙ (rw (t, n) refl) in
      let begins : drop i parts ≡ part ∷ drop (i + 1) parts = drop_more parts i part inside ∙ ap (λ x. x ∷ drop (i + 1) parts) (sym p) in
      let counted : length made ≡ length before + 1 = rw (m, length-append) refl in
      let step : constrained_from outputs types (length before) (drop i parts) ≡ w ∷ constrained_from outputs types (length made) (drop (i + 1) parts) =
      ap (constrained_from outputs types (length before)) begins ∙ (constrained_from-first (length before) part (drop (i + 1) parts) ∙ rw (e, counted) refl) in
      let joined : made ++ constrained_from outputs types (length made) (drop (i + 1) parts) ≡ before ++ (w ∷ constrained_from outputs types (length made) (drop (i + 1) parts)) =
      ap (λ xs. xs ++ constrained_from outputs types (length made) (drop (i + 1) parts)) m ∙ append_assoc before (w ∷ []) _ in
      joined ∙ (ap (λ rest. before ++ rest) (sym step) ∙ invariant)

  -- no more are left
  pub constrained_from-end : (parts : List Part) (i : ℕ) (made all : List ConstrainedOperand) → length parts ≤ i
      → made ++ constrained_from outputs types (length made) (drop i parts) ≡ all → made ≡ all
  constrained_from-end parts i made all e invariant =
      let none : constrained_from outputs types (length made) (drop i parts) ≡ [] = ap (constrained_from outputs types (length made)) (drop_all i parts e) ∙ constrained_from-none (length made) in
      sym (append-nil made) ∙ (ap (λ rest. made ++ rest) (sym none) ∙ invariant)

-- the names of the first parts
take-names : (ps qs : List Part) → take (length ps) (names_of (ps ++ qs)) ≡ names_of ps
take-names [] qs = refl
take-names (p ∷ ps) qs = ap (λ rest. name_of p ∷ rest) (take-names ps qs)

module _ (types : List (Option Operand)) where
  pub length-first : (outputs : List (Option (List ℕ))) (parts ps : List Part) (none first : List ConstrainedOperand)
      → none ≡ [] → ps ≡ parts → first ≡ none ++ constrained_from outputs types (length none) ps → length first ≡ length parts
  length-first outputs parts ps none first n p f =
      let known : first ≡ constrained_from outputs types 0 parts = f ∙ rw (n, p) refl in
      ap length known ∙ length-constrained_from outputs types 0 parts

  -- outputs first, then inputs
  pub operands-both : (parts : Parts) (names outputs : List (Option (List ℕ))) (count : ℕ) (ps qs : List Part) (none first both : List ConstrainedOperand)
      → names ≡ names_of (parts.outputs ++ parts.inputs) → count ≡ length parts.outputs → outputs ≡ take count names
      → none ≡ [] → ps ≡ parts.outputs → first ≡ none ++ constrained_from outputs types (length none) ps
      → qs ≡ parts.inputs → both ≡ first ++ constrained_from outputs types (length first) qs → both ≡ constrained_operands parts types
  unfolding constrained_operands
  operands-both parts names outputs count ps qs none first both n k o e p f q b =
      let named : outputs ≡ names_of parts.outputs = o ∙ (rw (k, n) (take-names parts.outputs parts.inputs)) in
      let counted : length first ≡ 0 + length parts.outputs = length-first outputs parts.outputs ps none first e p f ∙ sym (zero-add (length parts.outputs)) in
      let known : first ≡ constrained_from outputs types 0 parts.outputs = f ∙ rw (e, p) refl in
      let split = constrained_from-append outputs types 0 parts.outputs parts.inputs in
      b ∙ (rw (counted, known, q) (sym split) ∙ ap (λ names. constrained_from names types 0 (parts.outputs ++ parts.inputs)) named)
