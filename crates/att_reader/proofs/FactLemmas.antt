-- The facts of all operands.
use Rattle.std.proofs.Common.{◌≡◌, ℕ, zero, suc, ◌+◌, ◌<◌, ◌≤◌, List, [], ◌∷◌, ◌++◌, length, map, Option, None, Some, slice_get, refl, ap, ◌∙◌, arith}
use Rattle.std.proofs.Common.{inl, inr}
use Rattle.std.proofs.lemmas.Bool.{cases_lt}
use Rattle.std.specs.List.{range_with_len}
use Rattle.std.proofs.lemmas.List.FromFn.{map-range_with_len_more, length-range_with_len}
use Rattle.std.proofs.lemmas.Option.{slice_get-map, slice_get_past}
use Rattle.asm_core.specs.Lists.{optional_at}
use Rattle.asm_core.specs.Reading.Facts.{facts_of, atom_of}
use Rattle.asm_core.specs.declared.reading.OperandFacts.{OperandFacts}
use Rattle.asm_core.specs.declared.piece.Piece.{Piece}
use Rattle.asm_core.specs.declared.interface.Interface.{Interface}
use Rattle.asm_core.specs.declared.shape.Shape.{Shape}

pub facts_more : (i : Interface) (s : Shape) (n : ℕ) → map (facts_of i s) (range_with_len 0 (n + 1)) ≡ map (facts_of i s) (range_with_len 0 n) ++ facts_of i s n ∷ []
facts_more i s n = map-range_with_len_more (facts_of i s) 0 n n (omega arith)

range_get : (a n k : ℕ) → k < n → slice_get (range_with_len a n) k ≡ Some (a + k)
range_get a zero k lt = absurd (omega arith)
range_get a (suc n) zero lt = ap Some (omega arith)
range_get a (suc n) (suc k) lt = range_get (a + 1) n k (omega arith) ∙ ap Some (omega arith)

past_facts : (i : Interface) (s : Shape) (k : ℕ) → length i.operands ≤ k → facts_of i s k ≡ None
unfolding facts_of
past_facts i s k ge = rw (slice_get_past i.operands k ge) refl

at_fact : (i : Interface) (s : Shape) (facts : List (Option OperandFacts)) (k : ℕ) → facts ≡ map (facts_of i s) (range_with_len 0 (length i.operands)) → optional_at facts k ≡ facts_of i s k
at_fact i s facts k is = elim (cases_lt k (length i.operands)) [
  | inl lt ↦ (let here : slice_get (range_with_len 0 (length i.operands)) k ≡ Some k = range_get 0 (length i.operands) k lt ∙ ap Some (omega arith) in
      rw (is, slice_get-map (facts_of i s) (range_with_len 0 (length i.operands)) k, here) refl)
  | inr ge ↦ (let none : slice_get (range_with_len 0 (length i.operands)) k ≡ None = slice_get_past (range_with_len 0 (length i.operands)) k (rw (length-range_with_len 0 (length i.operands)) ge) in
      rw (is, slice_get-map (facts_of i s) (range_with_len 0 (length i.operands)) k, none, past_facts i s k ge) refl)
]

-- what holes stand for by the facts of all operands
pub atoms_same : (i : Interface) (s : Shape) (facts : List (Option OperandFacts)) (ps : List Piece) → facts ≡ map (facts_of i s) (range_with_len 0 (length i.operands))
    → map (atom_of (optional_at facts)) ps ≡ map (atom_of (facts_of i s)) ps
atoms_same i s facts [] is = refl
atoms_same i s facts (p ∷ ps) is = rw (by p, atoms_same i s facts ps is) refl
  where
    by : (p : Piece) → atom_of (optional_at facts) p ≡ atom_of (facts_of i s) p
    by (Piece.Byte b at) = refl
    by (Piece.Hole k m at) = rw (at_fact i s facts k is) refl
    by (Piece.Unique at) = refl
