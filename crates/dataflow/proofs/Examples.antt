-- What the definitions say in a few cases.
use Rattle.std.proofs.Common.{◌≡◌, inl, inr, [], ◌∷◌, Bool, true, false, not, ◌&&◌, refl, arith}
use Rattle.dataflow.specs.Bits.{facts_in, row_of}
use Rattle.dataflow.specs.Cause.{IsSingle}
use Rattle.dataflow.specs.Paths.{IsPathTo, facts_along}
use Rattle.dataflow.specs.Walk.{walk_goes, walk_start, walk_after}

-- bit 2 of the second word
bit_of_a_row : facts_in (0 ∷ 4 ∷ []) 66 ≡ true
bit_of_a_row = refl

no_bit_past_the_row : facts_in (0 ∷ 4 ∷ []) 130 ≡ false
no_bit_past_the_row = refl

second_row : row_of 2 (1 ∷ 2 ∷ 3 ∷ 4 ∷ []) 1 ≡ 3 ∷ 4 ∷ []
second_row = refl

to_node_1 : IsPathTo 3 walk_goes (0 ∷ []) 1
to_node_1 = (refl, omega arith, inl refl)

-- from node 1 straight to the end
to_the_end : IsPathTo 3 walk_goes (1 ∷ 0 ∷ []) 3
to_the_end = (to_node_1, omega arith, inr refl)

-- once round the loop, then to the end
round_the_loop : IsPathTo 3 walk_goes (1 ∷ 2 ∷ 1 ∷ 0 ∷ []) 3
round_the_loop = (((to_node_1, omega arith, inl refl), omega arith, inl refl), omega arith, inr refl)

-- node 0 goes to node 1 alone
not_to_node_2 : IsPathTo 3 walk_goes (0 ∷ []) 2 → ⊥
not_to_node_2 is = elim is.2 [ inl wrong ↦ omega arith | inr wrong ↦ omega arith ]

walked_once : facts_along walk_start walk_after (1 ∷ 0 ∷ []) 1 ≡ true
walked_once = refl

walked_twice : facts_along walk_start walk_after (1 ∷ 2 ∷ 1 ∷ 0 ∷ []) 2 ≡ true
walked_twice = refl

taken_away : facts_along walk_start walk_after (2 ∷ 1 ∷ 2 ∷ 1 ∷ 0 ∷ []) 2 ≡ false
taken_away = refl

abbrev same : Bool → Bool → Bool
same true b = b
same false b = not b

only_it : (fact : Bool) → same fact fact ≡ true
only_it true = refl
only_it false = refl

not_both : (fact : Bool) → (same fact true && same fact false) ≡ true → ⊥
not_both true h = cc
not_both false h = cc

-- a test that needs two facts isn't single
needs_two : IsSingle (λ (facts : Bool → Bool). facts true && facts false) → ⊥
needs_two single =
    let cause = single.cause (λ fact. true) refl in
    not_both cause.fact (cause.enough (same cause.fact) (only_it cause.fact))
