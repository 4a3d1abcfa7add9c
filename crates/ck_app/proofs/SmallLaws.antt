-- What is written alone and may be in memory has at most 64 bytes: a statement with a larger one is outside the tables.
use Rattle.std.proofs.Common.{◌≡◌, ℕ, ◌==◌, ◌≤◌, ◌&&◌, not, List, [], ◌++◌, length, Bool, true, false, IsTrue, Option, None, Some, is_some, Ok, Result, slice_get, refl, sym, ap, subst, ◌∙◌, eq-eqb, zero-add, arith}
use Rattle.std.specs.List.{list_any, find}
use Rattle.std.specs.Option.{option_map}
use Rattle.std.proofs.lemmas.Bool.{and_parts, not-true, both_ways, false_from_ne_true, true_from_ne_false, eqb-true, ne_eqb}
use Rattle.std.proofs.lemmas.List.{length-map}
use Rattle.std.proofs.lemmas.Option.{slice_get-map, slice_get_within}
use Rattle.asm_core.specs.Lists.{IsMember}
use Rattle.asm_core.specs.Parts.{IsParts}
use Rattle.asm_core.specs.Placement.{tie_root, is_input}
use Rattle.asm_core.specs.Shape.{letter_kinds, shapes_of}
use Rattle.asm_core.specs.WellFormed.{IsInterface}
use Rattle.asm_core.specs.Constraint.{is_signed, name_of, names_of, constrained_operands}
use Rattle.asm_core.specs.Size.{is_tied_input, is_output_alone, has_tied_input, is_operand_outside, sizes_of}
use Rattle.asm_core.specs.Malformed.{is_constraint_outside, malformed_findings}
use Rattle.asm_core.specs.Pieces.{Scan, Outside, Scanned, scan_of}
use Rattle.asm_core.specs.Interface.{made_of, first_operand_mark, operand_mark, first_constraint_mark, constraint_mark, first_clobber_mark, or_else, first_mark, template_scan, scanned_interface, unless_marked, interface_of}
use Rattle.asm_core.proofs.ReadingLaws.OperandsBack.{root_is}
use Rattle.asm_core.proofs.ShapeLaws.{IsInShape, IsShape, is_shape}
use Rattle.asm_core.specs.declared.shape.Kind.{Kind}
use Rattle.asm_core.specs.declared.shape.Shape.{Shape}
use Rattle.asm_core.specs.declared.mark.Mark.{Mark}
use Rattle.asm_core.specs.declared.operand.Operand.{Operand}
use Rattle.asm_core.specs.declared.statement.Parts.{Parts}
use Rattle.asm_core.specs.declared.statement.Quoted.{Quoted}
use Rattle.asm_core.specs.declared.interface.Role.{Role}
use Rattle.asm_core.specs.declared.interface.OperandIface.{OperandIface}
use Rattle.asm_core.specs.declared.interface.Interface.{Interface}
use Rattle.asm_core.specs.declared.interface.IfaceEnd.{IfaceEnd}
use Rattle.asm_core.specs.declared.constraint.ConstrainedOperand.{ConstrainedOperand}
use Rattle.asm_constraints.proofs.ListLemmas.{any-true, any-false, find-None, slice_get_mapped}
use Rattle.asm_constraints.proofs.ReadLemmas.{IsRead, constrained_from-read}
use Rattle.asm_constraints.proofs.InterfaceLemmas.{unmarked, well_formed, interface_of-kept}
use Rattle.blk_deps.specs.Operands.{IsSmall, in_memory, operand_has, size_at, is_input_at, numbers_in, is_root, has_address, has_tied, is_written_only, is_unseen}
use Rattle.ck_app.proofs.WrittenLaws.{counted_at, memory_among, memory_kind, flag_alone, IsTold, small_operand, operand, role_is, size_is, written_alone, tied_to}

-- ---- the interface

-- all operands of a statement with n outputs that lies in the tables
record AreTold (n : ℕ) (ws : List ConstrainedOperand) : Type 0 where
  each : (k : ℕ) (w : ConstrainedOperand) → slice_get ws k ≡ Some w → IsTold n ws k w

role_alone : (role : Role) → is_input role ≡ false → is_output_alone role ≡ true
role_alone Role.Out e = refl
role_alone Role.InOut e = cc
role_alone Role.In e = cc

signed_alone : (role : Role) → is_output_alone role ≡ true → is_signed role ≡ true
signed_alone Role.Out e = refl
signed_alone Role.InOut e = cc
signed_alone Role.In e = cc

tests_part : (same tied : Bool) → (not same && tied) ≡ false → same ≡ false → tied ≡ true → ⊥
tests_part true tied e s t = cc
tests_part false tied e s t = both_ways tied e t

module _ (i : Interface) (k : ℕ) where
  input_there : (o : OperandIface) → slice_get i.operands k ≡ Some o → is_input_at i k ≡ is_input o.role
  input_there o e = rw (e, is_input_at, operand_has) refl

  size_there : (o : OperandIface) → slice_get i.operands k ≡ Some o → size_at i k ≡ o.size
  size_there o e = rw (e, size_at) refl

  size_nowhere : slice_get i.operands k ≡ None → size_at i k ≡ 0
  size_nowhere e = rw (e, size_at) refl

module _ (strict : Bool) (clobbers : List Quoted) (n : ℕ) (ws : List ConstrainedOperand) (told : AreTold n ws) where
  abbrev made : Interface
  made = made_of strict clobbers ws

  made_at : (k : ℕ) (w : ConstrainedOperand) → slice_get ws k ≡ Some w
      → slice_get made.operands k ≡ Some (operand n ws w)
  unfolding made_of
  made_at k w at = slice_get-map (operand n ws) ws k ∙ ap (option_map (operand n ws)) at

  made_from : (k : ℕ) (o : OperandIface) → slice_get made.operands k ≡ Some o
      → (w : ConstrainedOperand) × (slice_get ws k ≡ Some w) × (o ≡ operand n ws w)
  unfolding made_of
  made_from k o at = slice_get_mapped (operand n ws) ws k o at

  module _ (interface : IsInterface made) (s : Shape) (shape : IsShape made s) (k : ℕ) (w : ConstrainedOperand)
      (at : slice_get ws k ≡ Some w) where
    there : slice_get made.operands k ≡ Some (operand n ws w)
    there = made_at k w at

    in_shape : IsInShape made s k (operand n ws w)
    in_shape = shape.each k (operand n ws w) there

    -- a root isn't tied
    untied : is_root made s k ≡ true → (tied : Option ℕ) → in_shape.allowed.tied ≡ tied → tied ≡ None
    untied root None e = refl
    untied root (Some t) e =
        let tie = interface.ties k s.alternative t (operand n ws w) in_shape.allowed
        (record { is_operand = there; is_alternative = in_shape.is_allowed }) e in
        let to : tie_root made s k ≡ t = root_is made s k (operand n ws w)
        (Some in_shape.allowed) there in_shape.is_allowed ∙ rw e refl in
        let same : t ≡ k = sym to ∙ eqb-true (tie_root made s k) k root in
        let before = tie.before in
        absurd (omega (arith, before, same))

    memory_allowed : has_address made s k ≡ true → in_shape.allowed.mem ≡ true
    memory_allowed h =
        let kind = in_shape.kind in
        let is : kind.kind ≡ Kind.Memory = memory_kind s k kind.kind kind.here (and_parts (in_memory s k) _ h).0 in
        memory_among in_shape.allowed
        (subst (λ x. IsMember x (letter_kinds in_shape.allowed)) is
        (kind.untied (untied (and_parts (in_memory s k) _ h).1 in_shape.allowed.tied refl)))

    alone : is_written_only made s k ≡ true → is_output_alone w.role ≡ true
    alone h =
        let unread = sym (input_there made k (operand n ws w) there)
        ∙ not-true (is_input_at made k) (and_parts (not (is_input_at made k)) _ h).0 in
        subst (λ role. is_output_alone role ≡ true) (role_is n ws w) (role_alone (operand n ws w).role unread)

    is_output : is_output_alone w.role ≡ true → w.output ≡ true
    is_output h = true_from_ne_false w.output
        (λ input. both_ways (is_signed w.role) ((told.each k w at).read.input_alone input) (signed_alone w.role h))

    -- an input that is tied to it would be tied in the shape
    tied_in_shape : (j : ℕ) (v : ConstrainedOperand) → slice_get ws j ≡ Some v → w.output ≡ true
        → is_tied_input k s.alternative v ≡ true → has_tied made s k ≡ false → ⊥
    tied_in_shape j v at_j output tied none =
        let there_j : slice_get made.operands j ≡ Some (operand n ws v) = made_at j v at_j in
        let shaped = shape.each j (operand n ws v) there_j in
        let to : shaped.allowed.tied ≡ Some k = tied_to n ws j k s.alternative v shaped.allowed
        (told.each j v at_j) shaped.is_allowed tied in
        let root : tie_root made s j ≡ k = root_is made s j (operand n ws v)
        (Some shaped.allowed) there_j shaped.is_allowed ∙ rw to refl in
        let number : slice_get (numbers_in made) j ≡ Some j = counted_at made.operands 0 j
        (slice_get_within made.operands j (operand n ws v) there_j) ∙ ap Some (zero-add j) in
        let test = any-false (λ m. not (m == k) && tie_root made s m == k) (numbers_in made) j j none number in
        tests_part (j == k) (tie_root made s j == k) test (ne_eqb j k (λ same. other same))
        (eq-eqb (tie_root made s j) k root)
      where
        other : j ≡ k → ⊥
        other same =
            let here : slice_get ws k ≡ Some v = subst (λ m. slice_get ws m ≡ Some v) same at_j in
            let one : v ≡ w = cc in
            let input : v.output ≡ false = not-true v.output (and_parts (not v.output) _ tied).0 in
            both_ways v.output input (ap (λ (x : ConstrainedOperand). x.output) one ∙ output)

    no_tied_input : w.output ≡ true → has_tied made s k ≡ false → has_tied_input ws w.number s.alternative ≡ false
    unfolding has_tied_input
    no_tied_input output none =
        subst (λ m. list_any (is_tied_input m s.alternative) ws ≡ false) (sym (told.each k w at).read.numbered)
        (false_from_ne_true (list_any (is_tied_input k s.alternative) ws)
        (λ some. let v = any-true (is_tied_input k s.alternative) ws some in
        tied_in_shape v.place v.item v.there output v.holds none))

    small_made : has_address made s k ≡ true → is_written_only made s k ≡ true → size_at made k ≤ 64
    small_made address written =
        let out = alone written in
        let none = no_tied_input (is_output out)
        (not-true (has_tied made s k) (and_parts (not (is_input_at made k)) _ written).1) in
        let may = written_alone n ws w s.alternative in_shape.allowed in_shape.is_allowed
        (memory_allowed address) none in
        subst (λ m. m ≤ 64) (sym (size_there made k (operand n ws w) there ∙ size_is n ws w))
        (small_operand ws w (told.each k w at).size out may)

  small_at : IsInterface made → (s : Shape) (k : ℕ) → IsMember s (shapes_of made) → (o : Option OperandIface)
      → slice_get made.operands k ≡ o → IsTrue (has_address made s k && is_written_only made s k)
      → size_at made k ≤ 64
  small_at interface s k member None none h = let size = size_nowhere made k none in omega (arith, size)
  small_at interface s k member (Some o) there h =
      let from = made_from k o there in
      small_made interface s (is_shape made s interface member) k from.0 from.1
      (and_parts (has_address made s k) _ h).0 (and_parts (has_address made s k) _ h).1

  is_small : IsInterface made → IsSmall made
  is_small interface = record {
    each = λ s k member h. small_at interface s k member (slice_get made.operands k) refl h;
  }

-- ---- the whole

no_mark : (mark : Option Mark) (rest : Result Interface IfaceEnd) (i : Interface) → unless_marked mark rest ≡ Ok i
    → mark ≡ None
no_mark None rest i e = refl
no_mark (Some mark) rest i e = cc

neither_mark : (a b : Option Mark) → or_else a b ≡ None → (a ≡ None) × (b ≡ None)
neither_mark None b e = (refl, e)
neither_mark (Some mark) b e = cc

unmapped : {A B : Type 0} (f : A → B) (o : Option A) → option_map f o ≡ None → o ≡ None
unmapped f None e = refl
unmapped f (Some x) e = cc

is_made : (parts : Parts) (strict : Bool) (ws : List ConstrainedOperand) (names : List (Option (List ℕ))) (scan : Scan)
    (i : Interface) → scanned_interface parts strict ws names scan ≡ Ok i → made_of strict parts.clobbers ws ≡ i
is_made parts strict ws names (Outside place) i e = cc
is_made parts strict ws names (Scanned pieces missing) i e =
    (well_formed (made_of strict parts.clobbers ws) (malformed_findings ws names parts.clobbers pieces missing) i e).0

read_of : (parts : Parts) (types : List (Option Operand)) (k : ℕ) (w : ConstrainedOperand)
    → slice_get (constrained_operands parts types) k ≡ Some w → IsRead (length parts.outputs) k w
unfolding constrained_operands
read_of parts types k w at =
    subst (λ n. IsRead n k w) (length-map parts.outputs name_of)
    (constrained_from-read (names_of parts.outputs) types 0 (parts.outputs ++ parts.inputs) k k w
    (sym (zero-add k)) at)

flag_of_parts : (parts : Parts) (types : List (Option Operand)) (k : ℕ) (w : ConstrainedOperand)
    → slice_get (constrained_operands parts types) k ≡ Some w → is_some w.flag ≡ true → w.alternatives ≡ []
unfolding constrained_operands
flag_of_parts parts types k w at = flag_alone (names_of parts.outputs) types 0 (parts.outputs ++ parts.inputs) k w at

size_inside : (ws : List ConstrainedOperand) (k : ℕ) (w : ConstrainedOperand) → first_operand_mark ws ≡ None
    → slice_get ws k ≡ Some w → is_operand_outside ws (sizes_of ws) w ≡ false
unfolding first_operand_mark
size_inside ws k w none at = find-None (is_operand_outside ws (sizes_of ws)) ws k w
    (unmapped operand_mark (find (is_operand_outside ws (sizes_of ws)) ws) none) at

constraint_inside : (ws : List ConstrainedOperand) (k : ℕ) (w : ConstrainedOperand) → first_constraint_mark ws ≡ None
    → slice_get ws k ≡ Some w → is_constraint_outside ws w ≡ false
unfolding first_constraint_mark
constraint_inside ws k w none at = find-None (is_constraint_outside ws) ws k w
    (unmapped constraint_mark (find (is_constraint_outside ws) ws) none) at

are_told : (parts : Parts) (types : List (Option Operand))
    → (let ws = constrained_operands parts types in first_mark parts.clobbers ws ≡ None
    → AreTold (length parts.outputs) ws)
are_told parts types none =
    let ws = constrained_operands parts types in
    let marks = neither_mark (first_operand_mark ws) (first_constraint_mark ws)
    (neither_mark (first_clobber_mark parts.clobbers) _ none).1 in
    record {
      each = λ k w at. record {
        read = read_of parts types k w at;
        flag = flag_of_parts parts types k w at;
        size = size_inside ws k w marks.0 at;
        constraint = constraint_inside ws k w marks.1 at;
      };
    }

pub interface_of-small : (parts : Parts) (types : List (Option Operand)) (strict : Bool) (i : Interface)
    → IsParts parts → interface_of parts types strict ≡ Ok i → IsSmall i
unfolding interface_of
interface_of-small parts types strict i whole e =
    let ws = constrained_operands parts types in
    let names = names_of (parts.outputs ++ parts.inputs) in
    let scan = template_scan parts.bad_template (scan_of parts.template names) in
    let rest = scanned_interface parts strict ws names scan in
    let is = is_made parts strict ws names scan i (unmarked (first_mark parts.clobbers ws) rest i e) in
    let told = are_told parts types (no_mark (first_mark parts.clobbers ws) rest i e) in
    subst IsSmall is (is_small strict parts.clobbers (length parts.outputs) ws told
    (subst IsInterface (sym is) (interface_of-kept parts types strict i whole e)))

-- so has memory that isn't seen
pub small_unseen : (i : Interface) → IsSmall i → (live : List Shape) (s : Shape) (k : ℕ) → IsMember s (shapes_of i)
    → IsTrue (is_unseen i live s k) → size_at i k ≤ 64
small_unseen i small live s k member h = small.each s k member
    (and_parts (has_address i s k && is_written_only i s k) _ h).0
