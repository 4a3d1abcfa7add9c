-- Where the shapes of an accepted statement agree on each instruction, so do those that stay live with more told.
use Rattle.std.proofs.Common.{◌≡◌, inl, inr, ℕ, ◌+◌, ◌^◌, ◌<◌, ◌==◌, ◌&&◌, min, not, bit_and, bit_or, fold, map, find, length, List, [], ◌∷◌, Bool, true, false, Option, None, Some, slice_get, refl, sym, ap, subst, ◌∙◌, arith}
use Rattle.std.specs.Cmp.{IsEquivalence}
use Rattle.std.specs.List.{list_any}
use Rattle.std.specs.Int.{bit_at}
use Rattle.std.proofs.Math.Path.{fun_ext}
use Rattle.std.proofs.lemmas.Bool.{cases_eq, eqb-true, or_parts, or_from}
use Rattle.std.proofs.lemmas.Nat.Bits.{bit_at_and, bit_at-lt, bit_at-zero, same_from_bits}
use Rattle.asm_core.specs.Lists.{IsMember, count_from}
use Rattle.asm_core.specs.Reg.{reg_number}
use Rattle.asm_core.specs.Company.{places_of, all_places, same_in_register}
use Rattle.asm_core.specs.Reading.Unasked.{unasked_of}
use Rattle.asm_core.specs.declared.reg.Reg.{Reg}
use Rattle.asm_core.specs.declared.sym.Sym.{Sym}
use Rattle.asm_core.specs.declared.shape.Shape.{Shape}
use Rattle.asm_core.specs.declared.company.Places.{Places}
use Rattle.asm_core.specs.declared.lines.Named.{Named}
use Rattle.asm_core.specs.declared.lines.Lines.{Lines}
use Rattle.asm_core.specs.declared.interface.OperandIface.{OperandIface}
use Rattle.asm_core.specs.declared.interface.Interface.{Interface}
use Rattle.blk_deps.specs.Operands.{numbers_in, is_output_at}
use Rattle.blk_deps.proofs.AnyLaws.{any_map}
use Rattle.blk_check.specs.Readable.{registers, register_differs, same_of_operand, operand_differs, register_bit, operand_bit, differing, output_differs_at, some_output_differs, inst_at, read_alike, is_read_twofold, have_common, named_from, unasked_from, names_one, breaks_u1, instructions_in, or_end, u1_line}
use Rattle.blk_check.proofs.BlockLaws.{none_found}
use Rattle.blk_patch.proofs.UpwardAlike.{differs, fewer_alike, register_alike, same_at, operand_alike, read_alike_is}
use Rattle.blk_patch.proofs.BitParts.{IsPart, or_part, if_part}
use Rattle.blk_patch.proofs.UpwardItems.{output_found}
use Rattle.blk_patch.proofs.UpwardRead.{all_member}
use Rattle.blk_patch.proofs.UpwardTests.{Up, and_up, or_up, any_up, any_more}

-- ---- bits

min_parts : (m n : ℕ) → m < 2 → n < 2 → min m n ≡ 1 → (m ≡ 1) × (n ≡ 1)
min_parts m n lm ln e = (omega (arith, lm, ln, e), omega (arith, lm, ln, e))

min_one : (m n : ℕ) → m ≡ 1 → n ≡ 1 → min m n ≡ 1
min_one m n first second = omega (arith, first, second)

and_part : (a b c : ℕ) → IsPart a b → IsPart (bit_and a c) (bit_and b c)
and_part a b c part k e =
    let both = min_parts (bit_at a k) (bit_at c k) (bit_at-lt a k) (bit_at-lt c k) (sym (bit_at_and a c k) ∙ e) in
    bit_at_and b c k ∙ min_one (bit_at b k) (bit_at c k) (part k both.0) both.1

zero_part : (m n : ℕ) → IsPart m n → n ≡ 0 → m ≡ 0
zero_part m n part none = same_from_bits m 0 each
  where
    no_bit : (k : ℕ) → bit_at m k ≡ 1 → ⊥
    no_bit k one =
        let there = part k one in
        let empty = ap (λ z. bit_at z k) none in
        let zero_bit = bit_at-zero k in
        omega (arith, there, empty, zero_bit)

    each : (k : ℕ) → bit_at m k ≡ bit_at 0 k
    each k = elim (cases_eq (bit_at m k) 1) [
      | inl one ↦ absurd (no_bit k one)
      | inr other ↦ (let small = bit_at-lt m k in let zero_bit = bit_at-zero k in omega (arith, other, small, zero_bit))
    ]

common_up : (a b c : ℕ) → IsPart a b → Up (have_common a c) (have_common b c)
common_up a b c part is = by (bit_and b c == 0) refl
  where
    by : (t : Bool) → (bit_and b c == 0) ≡ t → have_common b c ≡ true
    by false e = rw e refl
    by true e =
        let none = zero_part (bit_and a c) (bit_and b c) (and_part a b c part) (eqb-true (bit_and b c) 0 e) in
        let wrong : not (0 == 0) ≡ true = subst (λ n. not (n == 0) ≡ true) none is in
        cc

part_fold : {A : Type 0} (f g : A → ℕ) → ((x : A) → IsPart (f x) (g x)) → (xs : List A) (a b : ℕ) → IsPart a b
    → IsPart (fold (λ bits x. bit_or bits (f x)) a xs) (fold (λ bits x. bit_or bits (g x)) b xs)
part_fold f g each [] a b part = part
part_fold f g each (x ∷ xs) a b part =
    part_fold f g each xs (bit_or a (f x)) (bit_or b (g x)) (or_part a (f x) b (g x) part (each x))

-- ---- tests that are false of all

up_of : (a b : Bool) → (b ≡ false → a ≡ false) → Up a b
up_of a true down is = refl
up_of a false down is = let wrong : false ≡ true = sym (down refl) ∙ is in cc

down_of : (a b : Bool) → Up a b → b ≡ false → a ≡ false
down_of false b up none = refl
down_of true b up none = let wrong : true ≡ false = sym (up refl) ∙ none in cc

-- ---- companies

module _ (i : Interface) (live fewer : List Shape) (within : (t : Shape) → IsMember t fewer → IsMember t live) where
  abbrev placed : List Shape → List (List Places)
  placed ss = map (all_places i) ss

  register_is : (r : Reg) (ss : List Shape)
      → register_differs (placed ss) r ≡ differs (λ s t. same_in_register r (all_places i s) (all_places i t)) ss
  register_is r [] = refl
  register_is r (s ∷ ss) = any_map (λ q. not (same_in_register r (all_places i s) q)) (all_places i) ss

  register_up : (r : Reg) → Up (register_differs (placed fewer) r) (register_differs (placed live) r)
  register_up r =
      up_of (register_differs (placed fewer) r) (register_differs (placed live) r)
      (λ none. register_is r fewer
      ∙ fewer_alike (λ s t. same_in_register r (all_places i s) (all_places i t)) (register_alike i r) live fewer within
      (sym (register_is r live) ∙ none))

  operand_is : (k : ℕ) (ss : List Shape) → operand_differs (placed ss) k ≡ differs (same_at i k) ss
  operand_is k [] = refl
  operand_is k (s ∷ ss) = any_map (λ q. not (same_of_operand k (all_places i s) q)) (all_places i) ss

  operand_up : (k : ℕ) → Up (operand_differs (placed fewer) k) (operand_differs (placed live) k)
  operand_up k =
      up_of (operand_differs (placed fewer) k) (operand_differs (placed live) k)
      (λ none. operand_is k fewer
      ∙ fewer_alike (same_at i k) (operand_alike i k) live fewer within (sym (operand_is k live) ∙ none))

  registers_part : IsPart ((differing i (placed fewer)).regs).0 ((differing i (placed live)).regs).0
  unfolding differing
  registers_part =
      part_fold (register_bit (placed fewer)) (register_bit (placed live))
      (λ r. if_part (register_differs (placed fewer) r) (register_differs (placed live) r) (2 ^ reg_number r)
      (register_up r))
      registers 0 0 (λ k e. e)

  operands_part : IsPart (differing i (placed fewer)).operands (differing i (placed live)).operands
  unfolding differing
  operands_part =
      part_fold (operand_bit (placed fewer)) (operand_bit (placed live))
      (λ n. if_part (operand_differs (placed fewer) n) (operand_differs (placed live) n) (2 ^ n) (operand_up n))
      (count_from 0 i.operands) 0 0 (λ k e. e)

  -- ---- what an instruction names

  module _ (k : ℕ) where
    named_up : (named : Option Named)
        → Up (named_from (differing i (placed fewer)) named) (named_from (differing i (placed live)) named)
    named_up None is = is
    named_up (Some named) is =
        or_up (have_common ((differing i (placed fewer)).regs).0 (named.regs).0)
        (have_common (differing i (placed fewer)).operands named.operands)
        (have_common ((differing i (placed live)).regs).0 (named.regs).0)
        (have_common (differing i (placed live)).operands named.operands)
        (common_up ((differing i (placed fewer)).regs).0 ((differing i (placed live)).regs).0 (named.regs).0
        registers_part)
        (common_up (differing i (placed fewer)).operands (differing i (placed live)).operands named.operands
        operands_part) is

    unasked_up : (line : Option Sym)
        → Up (unasked_from (differing i (placed fewer)).regs line) (unasked_from (differing i (placed live)).regs line)
    unasked_up None is = is
    unasked_up (Some line) is =
        common_up ((differing i (placed fewer)).regs).0 ((differing i (placed live)).regs).0 (unasked_of line).0
        registers_part is

    names_up : (x : Lines)
        → Up (names_one (differing i (placed fewer)) k x) (names_one (differing i (placed live)) k x)
    names_up x =
        or_up (named_from (differing i (placed fewer)) (slice_get x.named k))
        (unasked_from (differing i (placed fewer)).regs (inst_at k x))
        (named_from (differing i (placed live)) (slice_get x.named k))
        (unasked_from (differing i (placed live)).regs (inst_at k x))
        (named_up (slice_get x.named k)) (unasked_up (inst_at k x))

    twofold_is : (xs : List Lines)
        → is_read_twofold xs k ≡ differs (λ (x y : Lines). read_alike (inst_at k x) (inst_at k y)) xs
    twofold_is [] = refl
    twofold_is (x ∷ xs) = refl

    lines_alike : IsEquivalence (λ (x y : Lines). read_alike (inst_at k x) (inst_at k y))
    lines_alike = record {
      refl = λ x. read_alike_is.refl (inst_at k x);
      symm = λ x y. read_alike_is.symm (inst_at k x) (inst_at k y);
      congr = λ x y z. read_alike_is.congr (inst_at k x) (inst_at k y) (inst_at k z);
    }

    u1_down : (xs ys : List Lines) → ((x : Lines) → IsMember x ys → IsMember x xs)
        → breaks_u1 (differing i (placed live)) xs k ≡ false → breaks_u1 (differing i (placed fewer)) ys k ≡ false
    u1_down xs ys among none =
        let parts = or_parts (is_read_twofold xs k) (list_any (names_one (differing i (placed live)) k) xs) none in
        or_from (is_read_twofold ys k) (list_any (names_one (differing i (placed fewer)) k) ys)
        (twofold_is ys
        ∙ fewer_alike (λ (x y : Lines). read_alike (inst_at k x) (inst_at k y)) lines_alike xs ys among
        (sym (twofold_is xs) ∙ parts.0))
        (down_of (list_any (names_one (differing i (placed fewer)) k) ys)
        (list_any (names_one (differing i (placed live)) k) xs)
        (λ is. any_more (names_one (differing i (placed live)) k) ys xs among
        (any_up (names_one (differing i (placed fewer)) k) (names_one (differing i (placed live)) k) names_up ys is))
        parts.1)

  -- ---- outputs

  output_is : (ps : List (List Places)) (k : ℕ) (found : Option OperandIface)
      → output_differs_at ps k found ≡ (output_found found && operand_differs ps k)
  output_is ps k None = refl
  output_is ps k (Some o) = refl

  outputs_up : Up (some_output_differs i (placed fewer)) (some_output_differs i (placed live))
  outputs_up =
      any_up (λ k. output_differs_at (placed fewer) k (slice_get i.operands k))
      (λ k. output_differs_at (placed live) k (slice_get i.operands k))
      (λ k is. output_is (placed live) k (slice_get i.operands k)
      ∙ and_up (output_found (slice_get i.operands k)) (operand_differs (placed fewer) k)
      (output_found (slice_get i.operands k)) (operand_differs (placed live) k) (λ o. o) (operand_up k)
      (sym (output_is (placed fewer) k (slice_get i.operands k)) ∙ is))
      (count_from 0 i.operands)

  -- ---- U1

  nothing_at : (a : Option ℕ) (b : Bool) → or_end a b ≡ None → (a ≡ None) × (b ≡ false)
  nothing_at None true e = cc
  nothing_at None false e = (refl, refl)
  nothing_at (Some n) b e = cc

  none_at : (a : Option ℕ) (b : Bool) → a ≡ None → b ≡ false → or_end a b ≡ None
  none_at a b first second = rw (first, second) refl

  counts_same : {A : Type 0} (m : ℕ) (xs ys : List A) → length xs ≡ length ys → count_from m xs ≡ count_from m ys
  counts_same m [] [] e = refl
  counts_same m [] (y ∷ ys) e = cc
  counts_same m (x ∷ xs) [] e = cc
  counts_same m (x ∷ xs) (y ∷ ys) e = ap (λ ks. m ∷ ks) (counts_same (m + 1) xs ys (omega (arith, e)))

  instructions_same : (xs ys : List Lines) → ((x : Lines) → IsMember x ys → IsMember x xs) → (n : ℕ)
      → ((x : Lines) → IsMember x xs → length x.insts ≡ n) → (k : ℕ) → IsMember k (instructions_in ys)
      → IsMember k (instructions_in xs)
  instructions_same xs [] among n counts k member = absurd member
  instructions_same [] (y ∷ ys) among n counts k member = absurd (among y (inl refl))
  instructions_same (x ∷ xs) (y ∷ ys) among n counts k member =
      subst (IsMember k)
      (counts_same 0 y.insts x.insts (counts y (among y (inl refl)) ∙ sym (counts x (inl refl)))) member

  none_finds : (p : ℕ → Bool) (ks : List ℕ) → ((k : ℕ) → IsMember k ks → p k ≡ false) → find p ks ≡ None
  none_finds p [] each = refl
  none_finds p (k ∷ ks) each = rw (each k (inl refl)) (none_finds p ks (λ j member. each j (inr member)))

  pub u1_stays : (xs ys : List Lines) → ((x : Lines) → IsMember x ys → IsMember x xs) → (n : ℕ)
      → ((x : Lines) → IsMember x xs → length x.insts ≡ n) → u1_line i (placed live) xs ≡ None
      → u1_line i (placed fewer) ys ≡ None
  unfolding u1_line
  u1_stays xs ys among n counts none =
      let parts = nothing_at (find (breaks_u1 (differing i (placed live)) xs) (instructions_in xs))
      (some_output_differs i (placed live)) none in
      let each = none_found (breaks_u1 (differing i (placed live)) xs) (instructions_in xs) parts.0 in
      none_at (find (breaks_u1 (differing i (placed fewer)) ys) (instructions_in ys))
      (some_output_differs i (placed fewer))
      (none_finds (breaks_u1 (differing i (placed fewer)) ys) (instructions_in ys)
      (λ k member. u1_down k xs ys among
      (all_member (λ j. breaks_u1 (differing i (placed live)) xs j ≡ false) (instructions_in xs) each k
      (instructions_same xs ys among n counts k member))))
      (down_of (some_output_differs i (placed fewer)) (some_output_differs i (placed live)) outputs_up parts.1)

-- ---- both interfaces

output_alone : (ps : List (List Places)) (k : ℕ) (found : Option OperandIface)
    → output_differs_at ps k found ≡ (output_found found && operand_differs ps k)
output_alone ps k None = refl
output_alone ps k (Some o) = refl

module _ (old new : Interface) (numbers : numbers_in new ≡ numbers_in old)
    (outputs : (k : ℕ) → is_output_at new k ≡ is_output_at old k)
    (places : (s : Shape) (k : ℕ) → places_of new s k ≡ places_of old s k) where
  places_same : (s : Shape) → all_places new s ≡ all_places old s
  places_same s =
      ap (λ place. map place (count_from 0 new.operands)) (fun_ext (places s)) ∙ ap (map (places_of old s)) numbers

  differing_same : (ps : List (List Places)) → differing new ps ≡ differing old ps
  unfolding differing
  differing_same ps =
      ap (λ ks. record {
        regs = record { 0 = fold (λ bits r. bit_or bits (register_bit ps r)) 0 registers };
        operands = fold (λ bits k. bit_or bits (operand_bit ps k)) 0 ks;
      }) numbers

  output_same : (ps : List (List Places)) (k : ℕ)
      → output_differs_at ps k (slice_get new.operands k) ≡ output_differs_at ps k (slice_get old.operands k)
  output_same ps k =
      output_alone ps k (slice_get new.operands k)
      ∙ ap (λ b. b && operand_differs ps k) (outputs k)
      ∙ sym (output_alone ps k (slice_get old.operands k))

  outputs_same : (ps : List (List Places)) → some_output_differs new ps ≡ some_output_differs old ps
  outputs_same ps =
      ap (λ test. list_any test (count_from 0 new.operands)) (fun_ext (output_same ps))
      ∙ ap (list_any (λ k. output_differs_at ps k (slice_get old.operands k))) numbers

  pub u1_same : (ss : List Shape) (xs : List Lines)
      → u1_line new (map (all_places new) ss) xs ≡ u1_line old (map (all_places old) ss) xs
  unfolding u1_line
  u1_same ss xs =
      ap (λ place. or_end (find (breaks_u1 (differing new (map place ss)) xs) (instructions_in xs))
      (some_output_differs new (map place ss))) (fun_ext places_same)
      ∙ ap (λ d. or_end (find (breaks_u1 d xs) (instructions_in xs))
      (some_output_differs new (map (all_places old) ss)))
      (differing_same (map (all_places old) ss))
      ∙ ap (or_end (find (breaks_u1 (differing old (map (all_places old) ss)) xs) (instructions_in xs)))
      (outputs_same (map (all_places old) ss))
