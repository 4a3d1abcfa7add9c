-- An access that breaks a rule with more told breaks one with less told: the same, but where undeclared memory is
-- reached with more told, an operand may be changing with less told, and is passed at its end.
use Rattle.std.proofs.Common.{◌≡◌, ◌⊎◌, inl, inr, ℕ, ◌&&◌, ◌||◌, nat_lt, not, Bool, true, List, sym, ◌∙◌, ap, subst}
use Rattle.std.specs.List.{list_any}
use Rattle.std.proofs.lemmas.Bool.{and_parts, and_from, or_cases, or_left, or_right, cases_Bool, not_from_false}
use Rattle.asm_core.specs.Lists.{IsMember}
use Rattle.asm_core.specs.declared.sym.Sym.{Sym}
use Rattle.asm_core.specs.declared.row.Access.{Access}
use Rattle.asm_core.specs.declared.shape.Shape.{Shape}
use Rattle.asm_core.specs.declared.interface.Interface.{Interface}
use Rattle.asm_core.specs.declared.finding.Rule.{Rule}
use Rattle.asm_core.specs.declared.finding.Cell.{Cell}
use Rattle.blk_deps.specs.Operands.{numbers_in, is_output_at, is_changing}
use Rattle.blk_deps.specs.Line.{accesses_in}
use Rattle.blk_deps.specs.Rules.{is_written_address, is_of_operand, is_past, breaks_w2_by_store, breaks_m1, breaks_m2, breaks_by_access}
use Rattle.blk_deps.specs.Findings.{alone}
use Rattle.blk_deps.specs.declared.violation.Violation.{Violation}
use Rattle.blk_patch.specs.Upward.{TellsMore, StandsFor}
use Rattle.blk_patch.proofs.UpwardTests.{Up, same_up, and_up, not_up, any_up, passing, any_member}
use Rattle.blk_patch.proofs.UpwardPlaces.{changing_up}

-- what is found in the place of a break
pub record IsFound (old : Interface) (b : Violation) (broken : Violation → Bool) : Type 0 where
  pub violation : Violation
  pub stands : StandsFor old b violation
  pub breaks : broken violation ≡ true

module _ (old new : Interface) (live fewer : List Shape) (s : Shape) (more : TellsMore old new live fewer s) where
  -- ---- rules on accesses

  past_same : (k : ℕ) (a : Access) → is_past new k a ≡ is_past old k a
  past_same k a = ap (λ size. is_of_operand k a.to && nat_lt size a.bytes) (more.sizes k)

  store_up : (line : Sym) (cell : Cell) → Up (breaks_w2_by_store new line cell) (breaks_w2_by_store old line cell)
  store_up line (Cell.Operand k) =
      let stores = list_any (λ (a : Access). a.store && is_of_operand k a.to) (accesses_in line) in
      and_up (not (is_output_at new k)) stores (not (is_output_at old k)) stores
      (same_up (not (is_output_at new k)) (not (is_output_at old k)) (ap not (more.outputs k))) (λ is. is)
  store_up line cell = λ is. is

  passed_up : (line : Sym) (cell : Cell) → Up (breaks_m2 new fewer line cell) (breaks_m2 old live line cell)
  passed_up line (Cell.Operand k) =
      and_up (is_changing fewer k) (list_any (is_past new k) (accesses_in line)) (is_changing live k)
      (list_any (is_past old k) (accesses_in line)) (changing_up old new live fewer s more k)
      (any_up (is_past new k) (is_past old k)
      (λ a. same_up (is_past new k a) (is_past old k a) (past_same k a)) (accesses_in line))
  passed_up line cell = λ is. is

  -- undeclared memory is reached, or an operand that is changing is passed
  abbrev Reaches : Sym → Type 0
  Reaches line =
      (breaks_m1 old live line ≡ true)
      ⊎ ((k : ℕ) × IsMember k (numbers_in old) × (breaks_m2 old live line (Cell.Operand k) ≡ true))

  abbrev is_outside : Interface → List Shape → Access → Bool
  is_outside i shapes a =
      is_written_address a.to || list_any (λ k. is_past i k a && not (is_changing shapes k)) (numbers_in i)

  reached : (line : Sym) → not old.memory ≡ true → (a : Access) → IsMember a (accesses_in line)
      → is_outside old live a ≡ true → Reaches line
  reached line undeclared a member out =
      inl (and_from (not old.memory) (list_any (is_outside old live) (accesses_in line)) undeclared
      (any_member (is_outside old live) (accesses_in line) a member out))

  past_up : (line : Sym) → not old.memory ≡ true → (a : Access) → IsMember a (accesses_in line) → (k : ℕ)
      → IsMember k (numbers_in old) → is_past old k a ≡ true → Reaches line
  past_up line undeclared a member k operand past = elim (cases_Bool (is_changing live k)) [
    | inl changing ↦ inr (
      k,
      operand,
      and_from (is_changing live k) (list_any (is_past old k) (accesses_in line)) changing
          (any_member (is_past old k) (accesses_in line) a member past),
    )
    | inr fixed ↦
        reached line undeclared a member
        (or_right (is_written_address a.to)
        (list_any (λ k. is_past old k a && not (is_changing live k)) (numbers_in old))
        (any_member (λ k. is_past old k a && not (is_changing live k)) (numbers_in old) k operand
        (and_from (is_past old k a) (not (is_changing live k)) past (not_from_false (is_changing live k) fixed))))
  ]

  reached_up : (line : Sym) → breaks_m1 new fewer line ≡ true → Reaches line
  reached_up line is =
      let parts = and_parts (not new.memory) (list_any (is_outside new fewer) (accesses_in line)) is in
      let undeclared = not_up new.memory old.memory more.memory_clobbered parts.0 in
      let access = passing (is_outside new fewer) (accesses_in line) parts.1 in
      by undeclared access.0 access.1
      (or_cases (is_written_address (access.0).to)
      (list_any (λ k. is_past new k access.0 && not (is_changing fewer k)) (numbers_in new)) access.2)
    where
      by : not old.memory ≡ true → (a : Access) → IsMember a (accesses_in line)
          → (is_written_address a.to ≡ true)
          ⊎ (list_any (λ k. is_past new k a && not (is_changing fewer k)) (numbers_in new) ≡ true)
          → Reaches line
      by undeclared a member (inl written) =
          reached line undeclared a member (or_left (is_written_address a.to)
          (list_any (λ k. is_past old k a && not (is_changing live k)) (numbers_in old)) written)
      by undeclared a member (inr past) =
          let found = passing (λ k. is_past new k a && not (is_changing fewer k)) (numbers_in new) past in
          let both = and_parts (is_past new found.0 a) (not (is_changing fewer found.0)) found.2 in
          past_up line undeclared a member found.0 (subst (IsMember found.0) more.numbers found.1)
          (sym (past_same found.0 a) ∙ both.0)

  pub access_up : (depth : ℕ) (line : Sym) (b : Violation) (rule : Rule) → b.rule ≡ rule
      → breaks_by_access new fewer depth line rule b.cell ≡ true
      → IsFound old b (λ c. breaks_by_access old live depth line c.rule c.cell)
  access_up depth line b rule named is = by rule named is
    where
      it : (rule : Rule) → b.rule ≡ rule → breaks_by_access old live depth line rule b.cell ≡ true
          → IsFound old b (λ c. breaks_by_access old live depth line c.rule c.cell)
      it rule named breaks = record {
        violation = b;
        stands = StandsFor.itself;
        breaks = ap (λ r. breaks_by_access old live depth line r b.cell) named ∙ breaks;
      }

      m1 : b.rule ≡ Rule.M1 → Reaches line → IsFound old b (λ c. breaks_by_access old live depth line c.rule c.cell)
      m1 named (inl breaks) = it Rule.M1 named breaks
      m1 named (inr found) = record {
        violation = alone Rule.M2 (Cell.Operand found.0);
        stands = StandsFor.passed found.0 found.1 named;
        breaks = found.2;
      }

      by : (rule : Rule) → b.rule ≡ rule → breaks_by_access new fewer depth line rule b.cell ≡ true
          → IsFound old b (λ c. breaks_by_access old live depth line c.rule c.cell)
      by Rule.W2 named is = it Rule.W2 named (store_up line b.cell is)
      by Rule.M1 named is = m1 named (reached_up line is)
      by Rule.M2 named is = it Rule.M2 named (passed_up line b.cell is)
      by Rule.U4 named is = it Rule.U4 named is
      by rule named is = it rule named is
