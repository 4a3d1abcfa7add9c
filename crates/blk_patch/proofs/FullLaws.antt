-- A verdict whose first finding is K1 says that no placement has room.
use Rattle.std.proofs.Common.{◌≡◌, inl, inr, ℕ, List, [], ◌∷◌, ◌++◌, map, Bool, true, false, Option, None, Some, Result, Ok, Err, refl, sym, ap, ◌∙◌}
use Rattle.std.specs.List.{list_any, flat_map}
use Rattle.std.proofs.lemmas.Bool.{or_parts, or_from}
use Rattle.std.proofs.lemmas.List.Folds.{list_any-append}
use Rattle.asm_core.specs.Company.{all_places}
use Rattle.asm_core.specs.Shape.{shapes_of}
use Rattle.asm_core.specs.declared.flag.Flag.{Flag}
use Rattle.asm_core.specs.declared.mark.Mark.{Mark}
use Rattle.asm_core.specs.declared.finding.Rule.{Rule}
use Rattle.asm_core.specs.declared.finding.Cell.{Cell}
use Rattle.asm_core.specs.declared.finding.Finding.{Finding}
use Rattle.asm_core.specs.declared.shape.Shape.{Shape}
use Rattle.asm_core.specs.declared.statement.Statement.{Statement}
use Rattle.asm_core.specs.declared.interface.Interface.{Interface}
use Rattle.asm_core.specs.declared.lines.Graph.{Graph}
use Rattle.asm_core.specs.declared.lines.Lines.{Lines}
use Rattle.asm_core.specs.declared.lines.LinesEnd.{LinesEnd}
use Rattle.blk_flow.specs.declared.flow_end.FlowEnd.{FlowEnd}
use Rattle.blk_deps.specs.Operands.{numbers_in}
use Rattle.blk_deps.specs.Findings.{AreFindings, IsBroken, IsStackBroken, alone, registers_alone, operands_alone, flags_alone, place_names, pairs_of, stack_violations, violations_of}
use Rattle.blk_deps.specs.declared.violation.Violation.{Violation}
use Rattle.blk_check.specs.Judged.{AnyHasRoom, IsVerdict, IsShapesVerdict, IsReadingsVerdict, IsReadVerdict, IsFoundVerdict, IsBlocksVerdict, IsStackVerdict, IsPathsVerdict, IsAccepted, graphs_of}
use Rattle.blk_check.specs.Readable.{pieces_in, readings_under, first_unread, finding_at, u1_line, j1_line, shape_findings}
use Rattle.blk_check.specs.declared.verdict.Verdict.{Verdict}
use Rattle.blk_patch.specs.Rounds.{is_k1, begins_with_k1}

-- ---- what may be broken

abbrev names_k1 : Violation → Bool
names_k1 b = is_k1 b.rule

abbrev AreOthers : List Violation → Type 0
AreOthers bs = list_any names_k1 bs ≡ false

joined : (a b : List Violation) → AreOthers a → AreOthers b → AreOthers (a ++ b)
joined a b first second =
    list_any-append names_k1 a b ∙ or_from (list_any names_k1 a) (list_any names_k1 b) first second

-- lists that name none
abbrev Others : Type 0
Others = (bs : List Violation) × AreOthers bs

abbrev with_list : Others → (b : List Violation) → AreOthers b → Others
with_list a b others = (a.0 ++ b, joined a.0 b a.1 others)

module _ {A : Type 0} where
  mapped : (f : A → Violation) → ((x : A) → names_k1 (f x) ≡ false) → (xs : List A) → AreOthers (map f xs)
  mapped f each [] = refl
  mapped f each (x ∷ xs) = or_from (names_k1 (f x)) (list_any names_k1 (map f xs)) (each x) (mapped f each xs)

  flat : (f : A → List Violation) → ((x : A) → AreOthers (f x)) → (xs : List A) → AreOthers (flat_map f xs)
  flat f each [] = refl
  flat f each (x ∷ xs) = joined (f x) (flat_map f xs) (each x) (flat f each xs)

module _ (i : Interface) where
  operands_other : (rule : Rule) → is_k1 rule ≡ false → AreOthers (operands_alone rule i)
  operands_other rule other = mapped (λ k. alone rule (Cell.Operand k)) (λ k. other) (numbers_in i)

  pairs_other : AreOthers (pairs_of Rule.U3 (place_names i))
  pairs_other =
      flat (λ x. map (λ y. record { rule = Rule.U3; cell = x; other = y }) (place_names i))
      (λ x. mapped (λ y. record { rule = Rule.U3; cell = x; other = y }) (λ y. refl) (place_names i)) (place_names i)

  -- all of them, list after list
  all_other : AreOthers (violations_of i)
  all_other =
      let w1 : Others = (registers_alone Rule.W1, refl) in
      let w2 = with_list w1 (operands_alone Rule.W2 i) (operands_other Rule.W2 refl) in
      let w3 = with_list w2 (alone Rule.W3 Cell.Cc ∷ []) refl in
      let w4 = with_list w3 (alone Rule.W4 (Cell.Flag Flag.Df) ∷ []) refl in
      let m1 = with_list w4 (alone Rule.M1 Cell.Memory ∷ []) refl in
      let m2 = with_list m1 (operands_alone Rule.M2 i) (operands_other Rule.M2 refl) in
      let r1 = with_list (with_list m2 (registers_alone Rule.R1) refl) (flags_alone Rule.R1) refl in
      let r2 = with_list r1 (operands_alone Rule.R2 i) (operands_other Rule.R2 refl) in
      let r3 = with_list r2 (operands_alone Rule.R3 i) (operands_other Rule.R3 refl) in
      let r3_end = with_list r3 (alone Rule.R3 Cell.Nothing ∷ []) refl in
      let u2 = with_list r3_end (operands_alone Rule.U2 i) (operands_other Rule.U2 refl) in
      let u3 = with_list u2 (pairs_of Rule.U3 (place_names i)) pairs_other in
      (with_list u3 (operands_alone Rule.U4 i) (operands_other Rule.U4 refl)).1

-- ---- what is found

first_other : (Broken : Violation → ℕ → Type 0) (bs : List Violation) (found : List Finding) → AreFindings Broken bs found
    → AreOthers bs → begins_with_k1 found ≡ false
unfolding AreFindings
first_other Broken [] found are others = ap begins_with_k1 are
first_other Broken (b ∷ bs) found (inl h) others =
    ap begins_with_k1 h.3 ∙ (or_parts (names_k1 b) (list_any names_k1 bs) others).0
first_other Broken (b ∷ bs) found (inr h) others =
    first_other Broken bs found h.1 (or_parts (names_k1 b) (list_any names_k1 bs) others).1

shapes_other : (i : Interface) (live : List Shape) (xs : List Lines)
    → begins_with_k1 (shape_findings i live xs) ≡ false
unfolding shape_findings
shapes_other i live xs = by (u1_line i (map (all_places i) live) xs) (j1_line xs)
  where
    by : (a b : Option ℕ) → begins_with_k1 (finding_at Rule.U1 a ++ finding_at Rule.J1 b) ≡ false
    by (Some n) b = refl
    by None (Some n) = refl
    by None None = refl

-- ---- the verdict

findings_are : (a b : List Finding) → Verdict.Broken a ≡ Verdict.Broken b → a ≡ b
findings_are a b e = cc

module _ (s : Statement) (i : Interface) (fs : List Finding) (full : begins_with_k1 fs ≡ true) where
  abbrev Full : Verdict
  Full = Verdict.Broken fs

  found_full : (Otherwise : Verdict → Type 0) → (Otherwise Full → ⊥) → (found : List Finding)
      → begins_with_k1 found ≡ false → IsFoundVerdict Otherwise found Full → ⊥
  found_full Otherwise none [] other h = none h
  found_full Otherwise none (f ∷ found) other h =
      let wrong : true ≡ false = sym full ∙ ap begins_with_k1 (findings_are fs (f ∷ found) h) ∙ other in
      cc

  paths_full : (live : List Shape) (graphs : List Graph) → IsPathsVerdict s i live graphs Full → ⊥
  paths_full live graphs h =
      found_full (IsAccepted s i) (λ a. a) h.found
      (first_other (IsBroken i live graphs) (violations_of i) h.found h.findings (all_other i)) h.verdict

  stack_full : (live : List Shape) (graphs : List Graph) → IsStackVerdict s i live graphs Full → ⊥
  stack_full live graphs h =
      found_full (IsPathsVerdict s i live graphs) (paths_full live graphs) h.found
      (first_other (IsStackBroken graphs) stack_violations h.found h.findings refl) h.verdict

  blocks_full : (live : List Shape) (made : Result (List Graph) FlowEnd) → IsBlocksVerdict s i live made Full → ⊥
  blocks_full live (Err end) h = h
  blocks_full live (Ok graphs) h = stack_full live graphs h

  read_full : (live : List Shape) (xs : List Lines) (unread : Option Mark) → IsReadVerdict s i live xs unread Full → ⊥
  read_full live xs (Some mark) h = cc
  read_full live xs None h =
      found_full (IsBlocksVerdict s i live (graphs_of xs)) (blocks_full live (graphs_of xs))
      (shape_findings i live xs) (shapes_other i live xs) h

  readings_full : (live : List Shape) (read : Result (List Lines) LinesEnd)
      → IsReadingsVerdict s i live read Full → ⊥
  readings_full live (Err end) h = cc
  readings_full live (Ok xs) h = read_full live xs (first_unread xs) h

  pub no_room_left : IsVerdict s i Full → AnyHasRoom i (shapes_of i) → ⊥
  no_room_left (inl h) room = let e = h.1 in cc
  no_room_left (inr h) room = by h.1
    where
      by : IsShapesVerdict s i (shapes_of i) Full → ⊥
      by (inl none) = none.0 room
      by (inr some) = readings_full some.1.live (readings_under i (pieces_in s.body) some.1.live) some.1.verdict
