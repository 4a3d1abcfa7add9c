-- The name of each place of a shape is one that reports have.
use Rattle.std.proofs.Common.{◌≡◌, inl, inr, ℕ, ◌+◌, ◌-◌, ◌<◌, ◌||◌, nat_lt, Bool, true, false, List, [], ◌∷◌, map, find, length, Option, None, Some, refl, sym, ap, subst, ◌∙◌, arith}
use Rattle.std.proofs.lemmas.Bool.{cases_lt, lt-ltb, le-ltb, and_parts, and_from, eq-eqb}
use Rattle.asm_core.specs.Lists.{IsMember, count_from}
use Rattle.asm_core.specs.declared.reg.Reg.{Reg}
use Rattle.asm_core.specs.declared.shape.Shape.{Shape}
use Rattle.asm_core.specs.declared.interface.Interface.{Interface}
use Rattle.asm_core.specs.declared.finding.Cell.{Cell}
use Rattle.blk_deps.specs.Cells.{reg_at}
use Rattle.blk_deps.specs.Operands.{numbers_in, is_output_at, holds, holders, is_place, is_operand_place, is_none_held, first_output, bare_name, name_of}
use Rattle.blk_deps.specs.Rules.{registers, same_cell, cell_rank}
use Rattle.blk_deps.specs.Findings.{place_names}
use Rattle.blk_frame.proofs.Members.{in_front, in_back, in_map, from_filter}
use Rattle.blk_frame.proofs.Places.{there_below}

pub same_name : (c : Cell) → same_cell c c ≡ true
same_name c = and_from _ _ (eq-eqb (cell_rank c).0 (cell_rank c).0 refl) (eq-eqb (cell_rank c).1 (cell_rank c).1 refl)

found_in : (test : ℕ → Bool) (xs : List ℕ) (y : ℕ) → find test xs ≡ Some y → IsMember y xs
found_in test [] y is = cc
found_in test (x ∷ xs) y is = by_test (test x) refl (λ more. found_in test xs y more)
  where
    by_test : (b : Bool) → test x ≡ b → (find test xs ≡ Some y → IsMember y xs) → IsMember y (x ∷ xs)
    by_test true e rest = inl (sym (ap (λ o. elim o [ None ↦ x | Some h ↦ h ]) (rw e at is)))
    by_test false e rest = inr (rest (rw e at is))

pub register_listed : (r : Reg) → IsMember r registers
register_listed Reg.Eax = inl refl
register_listed Reg.Ebx = inr (inl refl)
register_listed Reg.Ecx = inr (inr (inl refl))
register_listed Reg.Edx = inr (inr (inr (inl refl)))
register_listed Reg.Esi = inr (inr (inr (inr (inl refl))))
register_listed Reg.Edi = inr (inr (inr (inr (inr (inl refl)))))
register_listed Reg.Ebp = inr (inr (inr (inr (inr (inr (inl refl))))))

counted : {A : Type 0} (xs : List A) (from k : ℕ) → k < length xs → IsMember (from + k) (count_from from xs)
counted [] from k lt = absurd (omega (arith, lt))
counted (x ∷ xs) from k lt = elim (cases_lt 0 k) [
  | inl above ↦ inr (subst (λ n. IsMember n (count_from (from + 1) xs)) (omega (arith, above))
      (counted xs (from + 1) (k - 1) (omega (arith, lt, above))))
  | inr none ↦ inl (omega (arith, none))
]

module _ (i : Interface) (s : Shape) (u : ℕ) where
  -- a place that holds operands has the name of one of them
  named_held : (js : List ℕ) (none : Cell) → is_none_held js ≡ false → (j : ℕ)
      × (first_output i js js none ≡ Cell.Operand j) × IsMember j js
  named_held [] none some = cc
  named_held (j ∷ rest) none some = by_found (find (is_output_at i) (j ∷ rest)) refl
    where
      named : {o : Option ℕ} → find (is_output_at i) (j ∷ rest) ≡ o
          → first_output i (j ∷ rest) (j ∷ rest) none ≡ elim o
          [ None ↦ Cell.Operand j | Some output ↦ Cell.Operand output ]
      named e = ap (λ o. elim o [ None ↦ Cell.Operand j | Some output ↦ Cell.Operand output ]) e

      by_found : (o : Option ℕ) → find (is_output_at i) (j ∷ rest) ≡ o → (k : ℕ)
          × (first_output i (j ∷ rest) (j ∷ rest) none ≡ Cell.Operand k) × IsMember k (j ∷ rest)
      by_found None e = (j, named e, inl refl)
      by_found (Some k) e = (k, named e, found_in (is_output_at i) (j ∷ rest) k e)

  pub held_name : is_none_held (holders i s u) ≡ false → (j : ℕ) × (name_of i s u ≡ Cell.Operand j)
      × IsMember j (numbers_in i)
  held_name some =
      let named = named_held (holders i s u) (bare_name u) some in
      (named.0, named.1, (from_filter (holds i s u) (numbers_in i) named.0 named.2).0)

  register_named : u < 7 → IsMember (bare_name u) (place_names i)
  register_named lt = let below : nat_lt u 7 ≡ true = lt-ltb u 7 lt in
      let named : bare_name u ≡ Cell.Reg (reg_at u) = rw below refl in
      subst (λ c. IsMember c (place_names i)) (sym named)
      (in_front (map Cell.Reg registers) (map Cell.Operand (numbers_in i)) (Cell.Reg (reg_at u))
      (in_map Cell.Reg registers (reg_at u) (register_listed (reg_at u))))

  pub operand_listed : (j : ℕ) → IsMember j (numbers_in i) → IsMember (Cell.Operand j) (place_names i)
  operand_listed j is = in_back (map Cell.Reg registers) (map Cell.Operand (numbers_in i)) (Cell.Operand j)
      (in_map Cell.Operand (numbers_in i) j is)

  bare_named : is_place i s u ≡ true → IsMember (bare_name u) (place_names i)
  bare_named is = elim (cases_lt u 7) [
    | inl lt ↦ register_named lt
    | inr le ↦
        let operand : is_operand_place i s (u - 7) ≡ true = ap (λ b. b || is_operand_place i s (u - 7))
        (sym (le-ltb u 7 le)) ∙ is in
        let below = there_below i.operands (u - 7) (and_parts _ _ operand).0 in
        let above : nat_lt u 7 ≡ false = le-ltb u 7 le in
        let named : bare_name u ≡ Cell.Operand (u - 7) = rw above refl in
        let zero_first : 0 + (u - 7) ≡ u - 7 = omega arith in
        subst (λ c. IsMember c (place_names i)) (sym named)
        (operand_listed (u - 7) (subst (λ n. IsMember n (numbers_in i)) zero_first
        (counted i.operands 0 (u - 7) below)))
  ]

  pub name_listed : is_place i s u ≡ true → IsMember (name_of i s u) (place_names i)
  name_listed is = by_held (holders i s u) refl
    where
      by_held : (js : List ℕ) → holders i s u ≡ js → IsMember (name_of i s u) (place_names i)
      by_held [] e = subst (λ c. IsMember c (place_names i)) (sym (ap (λ js. first_output i js js (bare_name u)) e))
          (bare_named is)
      by_held (j ∷ rest) e = let named = held_name (rw e refl) in subst (λ c. IsMember c (place_names i))
          (sym named.1) (operand_listed named.0 named.2)
