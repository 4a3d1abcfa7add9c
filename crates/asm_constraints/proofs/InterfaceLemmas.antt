-- What the definition gives keeps what every interface keeps.
use Rattle.std.proofs.Common.{◌≡◌, ℕ, ◌+◌, List, [], ◌∷◌, ◌++◌, length, length-append, Bool, false, Option, None, Some, Result, Ok, Err, slice_get, IfOk, refl, sym, ◌∙◌, subst, zero-add, arith}
use Rattle.std.specs.List.{filter}
use Rattle.std.proofs.lemmas.List.{length-map}
use Rattle.asm_core.specs.Parts.{IsParts}
use Rattle.asm_core.specs.Constraint.{name_of, names_of, constrained_operands}
use Rattle.asm_core.specs.Malformed.{is_malformed, malformed_operand, missing_findings, malformed_findings}
use Rattle.asm_core.specs.Pieces.{Scan, Outside, Scanned, scan_of}
use Rattle.asm_core.specs.Interface.{made_of, first_mark, template_scan, unless_malformed, scanned_interface, unless_marked, interface_of}
use Rattle.asm_core.specs.WellFormed.{IsInterface}
use Rattle.asm_core.specs.declared.mark.Mark.{Mark}
use Rattle.asm_core.specs.declared.piece.Piece.{Piece}
use Rattle.asm_core.specs.declared.finding.Finding.{Finding}
use Rattle.asm_core.specs.declared.operand.Operand.{Operand}
use Rattle.asm_core.specs.declared.statement.Parts.{Parts}
use Rattle.asm_core.specs.declared.statement.Quoted.{Quoted}
use Rattle.asm_core.specs.declared.interface.Interface.{Interface}
use Rattle.asm_core.specs.declared.interface.IfaceEnd.{IfaceEnd}
use Rattle.asm_core.specs.declared.constraint.ConstrainedOperand.{ConstrainedOperand}
use Rattle.asm_constraints.specs.Answers.{GivesInterface}
use Rattle.asm_constraints.proofs.ListLemmas.{filter-none, map-none}
use Rattle.asm_constraints.proofs.OperandLemmas.{length-constrained_from}
use Rattle.asm_constraints.proofs.ReadLemmas.{IsRead, constrained_from-read}
use Rattle.asm_constraints.proofs.WellFormedLemmas.{sound_unless, AreSound, is_interface}

pub unmarked : (mark : Option Mark) (rest : Result Interface IfaceEnd) (i : Interface) → unless_marked mark rest ≡ Ok i → rest ≡ Ok i
unmarked None rest i e = e
unmarked (Some mark) rest i e = cc

pub well_formed : (made : Interface) (findings : List Finding) (i : Interface) → unless_malformed made findings ≡ Ok i → (made ≡ i) × (findings ≡ [])
well_formed made [] i e = let same : made ≡ i = cc in (same, refl)
well_formed made (f ∷ fs) i e = cc

-- what stands behind an interface
record IsMade (parts : Parts) (strict : Bool) (ws : List ConstrainedOperand) (names : List (Option (List ℕ))) (i : Interface) : Type 0 where
  pieces : List Piece
  missing : Bool
  is : made_of strict parts.clobbers ws ≡ i
  none : malformed_findings ws names parts.clobbers pieces missing ≡ []

made_from : (parts : Parts) (strict : Bool) (ws : List ConstrainedOperand) (names : List (Option (List ℕ))) (scan : Scan) (i : Interface)
    → scanned_interface parts strict ws names scan ≡ Ok i → IsMade parts strict ws names i
made_from parts strict ws names (Outside place) i e = cc
made_from parts strict ws names (Scanned pieces missing) i e =
    let both = well_formed (made_of strict parts.clobbers ws) (malformed_findings ws names parts.clobbers pieces missing) i e in
    record { pieces = pieces; missing = missing; is = both.0; none = both.1 }

not_malformed : (ws : List ConstrainedOperand) (names : List (Option (List ℕ))) (clobbers : List Quoted) (pieces : List Piece) (missing : Bool) (k : ℕ) (w : ConstrainedOperand)
    → malformed_findings ws names clobbers pieces missing ≡ [] → slice_get ws k ≡ Some w → is_malformed ws names clobbers pieces w ≡ false
unfolding malformed_findings
not_malformed ws names clobbers pieces missing k w e at =
    filter-none (is_malformed ws names clobbers pieces) ws k w (map-none malformed_operand (filter (is_malformed ws names clobbers pieces) ws) (missing_findings missing) e) at

pub length-constrained_operands : (parts : Parts) (types : List (Option Operand)) → length (constrained_operands parts types) ≡ length parts.outputs + length parts.inputs
unfolding constrained_operands
length-constrained_operands parts types = length-constrained_from (names_of parts.outputs) types 0 (parts.outputs ++ parts.inputs) ∙ length-append parts.outputs parts.inputs

read_in : (parts : Parts) (types : List (Option Operand)) (k : ℕ) (w : ConstrainedOperand) → slice_get (constrained_operands parts types) k ≡ Some w → IsRead (length parts.outputs) k w
unfolding constrained_operands
read_in parts types k w at =
    subst (λ n. IsRead n k w) (length-map parts.outputs name_of) (constrained_from-read (names_of parts.outputs) types 0 (parts.outputs ++ parts.inputs) k k w (sym (zero-add k)) at)

are_sound : (parts : Parts) (types : List (Option Operand)) (strict : Bool) (names : List (Option (List ℕ))) (i : Interface) → IsParts parts
    → IsMade parts strict (constrained_operands parts types) names i → AreSound (length parts.outputs) (constrained_operands parts types)
are_sound parts types strict names i whole m =
    let counted = length-constrained_operands parts types in
    let few = whole.few in
    record {
      outputs = omega (arith, counted);
      few = omega (arith, counted, few);
      read = read_in parts types;
      sound = λ k w at. sound_unless (constrained_operands parts types) names parts.clobbers m.pieces w (not_malformed (constrained_operands parts types) names parts.clobbers m.pieces m.missing k w m.none at);
    }

pub interface_of-kept : (parts : Parts) (types : List (Option Operand)) (strict : Bool) (i : Interface) → IsParts parts → interface_of parts types strict ≡ Ok i → IsInterface i
unfolding interface_of
interface_of-kept parts types strict i whole e =
    let ws = constrained_operands parts types in
    let names = names_of (parts.outputs ++ parts.inputs) in
    let scan = template_scan parts.bad_template (scan_of parts.template names) in
    let m = made_from parts strict ws names scan i (unmarked (first_mark parts.clobbers ws) (scanned_interface parts strict ws names scan) i e) in
    subst IsInterface m.is (is_interface strict parts.clobbers (length parts.outputs) ws (are_sound parts types strict names i whole m))

-- so does an answer that gives it
pub interface-kept : (parts : Parts) (types : List (Option Operand)) (strict : Bool) (answer : Result Interface IfaceEnd) → IsParts parts
    → GivesInterface answer (interface_of parts types strict) → IfOk answer IsInterface
interface-kept parts types strict (Ok i) whole given = interface_of-kept parts types strict i whole given
interface-kept parts types strict (Err end) whole given = tt
