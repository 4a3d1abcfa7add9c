-- Where an instruction breaks no rule, its stores are to outputs, its memory operands are reached while nothing is
-- pushed, and memory that is no operand's is declared.
use Rattle.std.proofs.Common.{◌≡◌, inl, ℕ, ◌==◌, ◌&&◌, ◌||◌, not, Bool, true, false, List, [], ◌∷◌, ◌++◌, refl, sym, ap, ◌∙◌}
use Rattle.std.specs.List.{list_any}
use Rattle.std.proofs.lemmas.Bool.{both_ways, and_from, or_left, or_right, or_parts, false_from_ne_true, true_from_ne_false, not_from_false, eq-eqb, eqb-true}
use Rattle.asm_core.specs.Lists.{IsMember}
use Rattle.asm_core.specs.declared.sym.Arg.{Arg}
use Rattle.asm_core.specs.declared.sym.Sym.{Sym}
use Rattle.asm_core.specs.declared.row.Access.{Access}
use Rattle.asm_core.specs.declared.shape.Shape.{Shape}
use Rattle.asm_core.specs.declared.interface.Interface.{Interface}
use Rattle.asm_core.specs.declared.finding.Rule.{Rule}
use Rattle.asm_core.specs.declared.finding.Cell.{Cell}
use Rattle.asm_core.specs.declared.flag.Flag.{Flag}
use Rattle.asm_core.specs.Entries.{reads_of}
use Rattle.asm_core.specs.Rows.{entry_row}
use Rattle.blk_deps.specs.Facts.{Facts}
use Rattle.blk_deps.specs.Operands.{numbers_in, is_output_at, is_changing}
use Rattle.blk_deps.specs.Line.{accesses_in}
use Rattle.blk_deps.specs.Rules.{used_at_line, is_written_address, is_of_operand, is_past, is_address_of, uses_address, breaks_by_access, breaks_by_use, breaks_at_line}
use Rattle.blk_deps.specs.Findings.{alone, registers_alone, operands_alone, flags_alone, place_names, pairs_of, violations_of}
use Rattle.blk_deps.specs.declared.violation.Violation.{Violation}
use Rattle.blk_deps.specs.declared.fact.Fact.TheVariants.{Here}
use Rattle.blk_frame.specs.Accepted.{is_asked, PassesSound}
use Rattle.blk_frame.proofs.Members.{any_in, in_front, in_back, in_map}

-- ---- the list of rules

module _ (i : Interface) where
  abbrev to_stores : List Violation
  to_stores = registers_alone Rule.W1 ++ operands_alone Rule.W2 i

  abbrev to_memory : List Violation
  to_memory = to_stores ++ alone Rule.W3 Cell.Cc ∷ [] ++ alone Rule.W4 (Cell.Flag Flag.Df) ∷ [] ++ alone
      Rule.M1 Cell.Memory ∷ []

  abbrev to_ends : List Violation
  to_ends = to_memory ++ operands_alone Rule.M2 i

  abbrev to_pairs : List Violation
  to_pairs = to_ends ++ registers_alone Rule.R1 ++ flags_alone Rule.R1 ++ operands_alone Rule.R2 i
      ++ operands_alone Rule.R3 i ++ alone Rule.R3 Cell.Nothing ∷ [] ++ operands_alone Rule.U2 i
      ++ pairs_of Rule.U3 (place_names i)

  four : (a b c d e : List Violation) (v : Violation) → IsMember v a → IsMember v (a ++ b ++ c ++ d ++ e)
  four a b c d e v is = in_front (a ++ b ++ c ++ d) e v
      (in_front (a ++ b ++ c) d v (in_front (a ++ b) c v (in_front a b v is)))

  among_ends : (v : Violation) → IsMember v to_ends → IsMember v (violations_of i)
  among_ends v is =
      four (to_ends ++ registers_alone Rule.R1 ++ flags_alone Rule.R1 ++ operands_alone Rule.R2 i
      ++ operands_alone Rule.R3 i) (alone Rule.R3 Cell.Nothing ∷ []) (operands_alone Rule.U2 i)
      (pairs_of Rule.U3 (place_names i)) (operands_alone Rule.U4 i) v
      (four to_ends (registers_alone Rule.R1) (flags_alone Rule.R1) (operands_alone Rule.R2 i)
      (operands_alone Rule.R3 i) v is)

  among_memory : (v : Violation) → IsMember v to_memory → IsMember v (violations_of i)
  among_memory v is = among_ends v (in_front to_memory (operands_alone Rule.M2 i) v is)

  listed_store : (k : ℕ) → IsMember k (numbers_in i) → IsMember (alone Rule.W2 (Cell.Operand k)) (violations_of i)
  listed_store k is = among_memory (alone Rule.W2 (Cell.Operand k))
      (in_front (to_stores ++ alone Rule.W3 Cell.Cc ∷ [] ++ alone Rule.W4 (Cell.Flag Flag.Df) ∷ [])
      (alone Rule.M1 Cell.Memory ∷ []) (alone Rule.W2 (Cell.Operand k))
      (in_front (to_stores ++ alone Rule.W3 Cell.Cc ∷ []) (alone Rule.W4 (Cell.Flag Flag.Df) ∷ [])
      (alone Rule.W2 (Cell.Operand k))
      (in_front to_stores (alone Rule.W3 Cell.Cc ∷ []) (alone Rule.W2 (Cell.Operand k))
      (in_back (registers_alone Rule.W1) (operands_alone Rule.W2 i) (alone Rule.W2 (Cell.Operand k))
      (in_map (λ j. alone Rule.W2 (Cell.Operand j)) (numbers_in i) k is)))))

  listed_memory : IsMember (alone Rule.M1 Cell.Memory) (violations_of i)
  listed_memory = among_memory (alone Rule.M1 Cell.Memory)
      (in_back (to_stores ++ alone Rule.W3 Cell.Cc ∷ [] ++ alone Rule.W4 (Cell.Flag Flag.Df) ∷ [])
      (alone Rule.M1 Cell.Memory ∷ []) (alone Rule.M1 Cell.Memory) (inl refl))

  listed_end : (k : ℕ) → IsMember k (numbers_in i) → IsMember (alone Rule.M2 (Cell.Operand k)) (violations_of i)
  listed_end k is = among_ends (alone Rule.M2 (Cell.Operand k))
      (in_back to_memory (operands_alone Rule.M2 i) (alone Rule.M2 (Cell.Operand k))
      (in_map (λ j. alone Rule.M2 (Cell.Operand j)) (numbers_in i) k is))

  listed_pushed : (k : ℕ) → IsMember k (numbers_in i) → IsMember (alone Rule.U4 (Cell.Operand k)) (violations_of i)
  listed_pushed k is = in_back to_pairs (operands_alone Rule.U4 i) (alone Rule.U4 (Cell.Operand k))
      (in_map (λ j. alone Rule.U4 (Cell.Operand j)) (numbers_in i) k is)

-- ---- what unbroken rules say of accesses

of_operand : (a : Access) (k : ℕ) → a.to ≡ Arg.Memory k → is_of_operand k a.to ≡ true
of_operand a k there = ap (is_of_operand k) there ∙ eq-eqb k k refl

module _ (i : Interface) (live : List Shape) (s : Shape) (depth : ℕ) (line : Sym) (facts : Facts)
    (sound : PassesSound i live s depth line facts) (here : facts Here ≡ true) where
  unbroken : (b : Violation) → IsMember b (violations_of i) → is_asked b.rule ≡ true
      → breaks_by_access i live depth line b.rule b.cell ≡ false
  unbroken b is asked = false_from_ne_true (breaks_by_access i live depth line b.rule b.cell) (λ broken.
      both_ways (breaks_by_access i live depth line b.rule b.cell && facts Here)
      (or_parts (breaks_by_access i live depth line b.rule b.cell && facts Here)
      (breaks_by_use i s b.rule b.cell b.other (used_at_line i s depth line facts))
      (sym (ap (λ known. known && breaks_at_line i live s depth line b facts) asked) ∙ sound.each b is)).0
      (and_from (breaks_by_access i live depth line b.rule b.cell) (facts Here) broken here))

  -- a store is to an output
  pub store_output : (k : ℕ) (a : Access) → IsMember k (numbers_in i) → IsMember a (accesses_in line)
      → a.store ≡ true → a.to ≡ Arg.Memory k → is_output_at i k ≡ true
  store_output k a is access store there = true_from_ne_false (is_output_at i k) (λ input.
      both_ways _ (unbroken (alone Rule.W2 (Cell.Operand k)) (listed_store i k is) refl)
      (and_from (not (is_output_at i k)) _ (not_from_false (is_output_at i k) input)
      (any_in (λ (e : Access). e.store && is_of_operand k e.to) (accesses_in line) a access
      (and_from a.store (is_of_operand k a.to) store (of_operand a k there)))))

  -- nothing is pushed where a memory operand is reached
  pub access_depth : (k : ℕ) (a : Access) → IsMember k (numbers_in i) → IsMember a (accesses_in line)
      → a.to ≡ Arg.Memory k → depth ≡ 0
  access_depth k a is access there = eqb-true depth 0 (true_from_ne_false (depth == 0) (λ more.
      both_ways _ (unbroken (alone Rule.U4 (Cell.Operand k)) (listed_pushed i k is) refl)
      (and_from (not (depth == 0)) (uses_address line k) (not_from_false (depth == 0) more)
      (or_left (list_any (λ (e : Access). is_of_operand k e.to) (accesses_in line))
      (list_any (is_address_of k) (reads_of (entry_row line) line))
      (any_in (λ (e : Access). is_of_operand k e.to) (accesses_in line) a access (of_operand a k there))))))

  abbrev reaches : Access → Bool
  reaches a = is_written_address a.to || list_any (λ k. is_past i k a && not (is_changing live k)) (numbers_in i)

  reach_declared : (a : Access) → IsMember a (accesses_in line) → reaches a ≡ true → i.memory ≡ true
  reach_declared a access reached = true_from_ne_false i.memory (λ none.
      both_ways _ (unbroken (alone Rule.M1 Cell.Memory) (listed_memory i) refl)
      (and_from (not i.memory) (list_any reaches (accesses_in line)) (not_from_false i.memory none)
      (any_in reaches (accesses_in line) a access reached)))

  -- memory at an address that is written is declared
  pub address_declared : (a : Access) → IsMember a (accesses_in line) → is_written_address a.to ≡ true
      → i.memory ≡ true
  address_declared a access written = reach_declared a access (or_left (is_written_address a.to) _ written)

  -- and so is memory past the end of an operand
  pub past_declared : (k : ℕ) (a : Access) → IsMember k (numbers_in i) → IsMember a (accesses_in line)
      → is_past i k a ≡ true → i.memory ≡ true
  past_declared k a is access past = reach_declared a access (or_right (is_written_address a.to) _
      (any_in (λ j. is_past i j a && not (is_changing live j)) (numbers_in i) k is
      (and_from (is_past i k a) (not (is_changing live k)) past (not_from_false (is_changing live k) fixed))))
    where
      fixed : is_changing live k ≡ false
      fixed = false_from_ne_true (is_changing live k) (λ changing.
          both_ways _ (unbroken (alone Rule.M2 (Cell.Operand k)) (listed_end i k is) refl)
          (and_from (is_changing live k) (list_any (is_past i k) (accesses_in line)) changing
          (any_in (is_past i k) (accesses_in line) a access past)))
