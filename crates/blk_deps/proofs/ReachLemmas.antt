-- Which operands an access passes.
use Rattle.std.proofs.Common.{◌≡◌, inl, inr, ℕ, ◌+◌, ◌<◌, ◌==◌, nat_lt, ◌&&◌, not, List, [], ◌∷◌, length, Bool, true, false, refl, sym, ap, ◌∙◌, arith}
use Rattle.std.specs.List.{list_any, range_with_len}
use Rattle.std.proofs.lemmas.Bool.{cases_eq, cases_lt, ne_eqb, lt-ltb, le-ltb, true≢false}
use Rattle.asm_core.specs.Lists.{count_from}
use Rattle.asm_core.specs.declared.sym.Arg.{Arg}
use Rattle.asm_core.specs.declared.row.Access.{Access}
use Rattle.asm_core.specs.declared.shape.Shape.{Shape}
use Rattle.asm_core.specs.declared.interface.Interface.{Interface}
use Rattle.blk_deps.specs.Operands.{size_at, is_changing}
use Rattle.asm_core.specs.declared.sym.Sym.{Sym}
use Rattle.blk_deps.specs.Line.{accesses_in}
use Rattle.blk_deps.specs.Rules.{is_of_operand, is_past, breaks_m1}
use Rattle.blk_deps.specs.Reaching.{passes_some, reaches_undeclared}
use Rattle.blk_deps.proofs.AnyLaws.{same_truth, and_first, and_second, both_true, any_at, any_below, none_below}

pub counted : {A : Type 0} (n : ℕ) (xs : List A) → count_from n xs ≡ range_with_len n (length xs)
counted n [] = refl
counted n (x ∷ xs) = ap (λ rest. n ∷ rest) (counted (n + 1) xs)

pub any_numbered : {A : Type 0} (test : ℕ → Bool) (xs : List A) → list_any test (count_from 0 xs)
    ≡ list_any test (range_with_len 0 (length xs))
any_numbered test xs = ap (list_any test) (counted 0 xs)

is_number : (j k : ℕ) → (j == k) ≡ true → k ≡ j
is_number j k is = elim (cases_eq j k) [
  | inl same ↦ sym same
  | inr other ↦ absurd (true≢false (sym is ∙ ne_eqb j k other))
]

-- it passes that one that it is of, or none
pub passes_of : (i : Interface) (live : List Shape) (a : Access) (j : ℕ) → a.to ≡ Arg.Memory j
    → (nat_lt j (length i.operands) && (is_past i j a && not (is_changing live j))) ≡ passes_some i live a
unfolding passes_some
passes_of i live a j is = same_truth _ _ to from ∙ sym (any_numbered test i.operands)
  where
    test : ℕ → Bool
    test k = is_past i k a && not (is_changing live k)

    to : (nat_lt j (length i.operands) && test j) ≡ true → list_any test (range_with_len 0 (length i.operands)) ≡ true
    to both = elim (cases_lt j (length i.operands)) [
      | inl below ↦ any_at test (length i.operands) j below (and_second (nat_lt j (length i.operands)) (test j) both)
      | inr past ↦ absurd (true≢false (sym (and_first (nat_lt j (length i.operands)) (test j) both)
          ∙ le-ltb j (length i.operands) past))
    ]

    from : list_any test (range_with_len 0 (length i.operands)) ≡ true → (nat_lt j (length i.operands) && test j) ≡ true
    from some =
        let found = any_below test (length i.operands) some in
        let past = and_first (is_past i found.at a) (not (is_changing live found.at)) found.passes in
        let of = and_first (is_of_operand found.at a.to) (nat_lt (size_at i found.at) a.bytes) past in
        let number : found.at ≡ j = is_number j found.at (sym (ap (is_of_operand found.at) is) ∙ of) in
        both_true _ _ (lt-ltb j (length i.operands) (omega (arith, number, found.below))) (ap test (sym number)
        ∙ found.passes)

of_none : (arg : Arg) (k : ℕ) → ((j : ℕ) → arg ≡ Arg.Memory j → ⊥) → is_of_operand k arg ≡ false
of_none (Arg.Memory j) k not_memory = absurd (not_memory j refl)
of_none (Arg.Register place slice) k not_memory = refl
of_none (Arg.Number n) k not_memory = refl
of_none (Arg.Hole n) k not_memory = refl
of_none (Arg.Address disp base index) k not_memory = refl
of_none (Arg.Label goal) k not_memory = refl

pub passes_none : (i : Interface) (live : List Shape) (a : Access) → ((j : ℕ) → a.to ≡ Arg.Memory j → ⊥) → false
    ≡ passes_some i live a
unfolding passes_some
passes_none i live a not_memory = sym (any_numbered test i.operands ∙ none_below test (length i.operands) none)
  where
    test : ℕ → Bool
    test k = is_past i k a && not (is_changing live k)

    none : (k : ℕ) → k < length i.operands → test k ≡ false
    none k lt = rw (of_none a.to k not_memory) refl

pub reached : (i : Interface) (live : List Shape) (line : Sym) (accesses : List Access) → accesses
    ≡ accesses_in line → i.memory ≡ false
    → list_any (reaches_undeclared i live) accesses ≡ breaks_m1 i live line
unfolding passes_some
reached i live line accesses is undeclared = rw (undeclared, ← is) refl
