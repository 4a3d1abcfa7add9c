-- A statement that has an interface has pieces, and an operand in it for each of its own.
use Rattle.std.proofs.Common.{◌≡◌, ℕ, ◌+◌, List, [], ◌∷◌, ◌++◌, map, length, length-append, Bool, true, false, Option, None, Some, Result, Ok, Err, refl, sym, ap, ◌∙◌, subst}
use Rattle.std.specs.List.{filter}
use Rattle.std.proofs.lemmas.List.{length-map}
use Rattle.asm_core.specs.Constraint.{names_of, constrained_operands}
use Rattle.asm_core.specs.Malformed.{is_malformed, malformed_operand, missing_findings, malformed_findings, alternative_count}
use Rattle.asm_core.specs.Size.{sizes_of}
use Rattle.asm_core.specs.Pieces.{Scan, Outside, Scanned, scan_of, pieces_read, pieces_of}
use Rattle.asm_core.specs.Interface.{operand_of, made_of, first_mark, template_scan, unless_malformed, scanned_interface, unless_marked, interface_of}
use Rattle.asm_core.specs.declared.mark.Mark.{Mark}
use Rattle.asm_core.specs.declared.piece.Piece.{Piece}
use Rattle.asm_core.specs.declared.piece.PiecesEnd.{PiecesEnd}
use Rattle.asm_core.specs.declared.finding.Finding.{Finding}
use Rattle.asm_core.specs.declared.operand.Operand.{Operand}
use Rattle.asm_core.specs.declared.statement.Parts.{Parts}
use Rattle.asm_core.specs.declared.statement.Quoted.{Quoted}
use Rattle.asm_core.specs.declared.interface.Interface.{Interface}
use Rattle.asm_core.specs.declared.interface.IfaceEnd.{IfaceEnd}
use Rattle.asm_core.specs.declared.constraint.ConstrainedOperand.{ConstrainedOperand}
use Rattle.asm_constraints.proofs.InterfaceLemmas.{unmarked, well_formed, length-constrained_operands}

-- the pieces that a scan gave, and what was made
record WasScanned (scan : Scan) (made i : Interface) : Type 0 where
  pieces : List Piece
  read : pieces_read scan ≡ Ok pieces
  is : made ≡ i

not_last : (fs : List Finding) (f : Finding) → fs ++ f ∷ [] ≡ [] → ⊥
not_last [] f e = cc
not_last (g ∷ fs) f e = cc

none_missing : (ws : List ConstrainedOperand) (names : List (Option (List ℕ))) (clobbers : List Quoted) (pieces : List Piece) → malformed_findings ws names clobbers pieces true ≡ [] → ⊥
unfolding malformed_findings
none_missing ws names clobbers pieces e = not_last (map malformed_operand (filter (is_malformed ws names clobbers pieces) ws)) _ e

was_scanned : (parts : Parts) (strict : Bool) (ws : List ConstrainedOperand) (names : List (Option (List ℕ))) (bad : Option ℕ) (scan : Scan) (i : Interface)
    → scanned_interface parts strict ws names (template_scan bad scan) ≡ Ok i → WasScanned scan (made_of strict parts.clobbers ws) i
was_scanned parts strict ws names (Some place) scan i e = cc
was_scanned parts strict ws names None (Outside place) i e = cc
was_scanned parts strict ws names None (Scanned pieces true) i e =
    absurd (none_missing ws names parts.clobbers pieces (well_formed (made_of strict parts.clobbers ws) (malformed_findings ws names parts.clobbers pieces true) i e).1)
was_scanned parts strict ws names None (Scanned pieces false) i e =
    record { pieces = pieces; read = refl; is = (well_formed (made_of strict parts.clobbers ws) (malformed_findings ws names parts.clobbers pieces false) i e).0 }

made_count : (strict : Bool) (clobbers : List Quoted) (ws : List ConstrainedOperand) → length (made_of strict clobbers ws).operands ≡ length ws
unfolding made_of
made_count strict clobbers ws = length-map ws (operand_of (alternative_count ws) (sizes_of ws))

-- what an interface says of the parts of its statement
pub record IsStated (parts : Parts) (i : Interface) : Type 0 where
  pub pieces : List Piece
  pub has_pieces : pieces_of parts.template (names_of (parts.outputs ++ parts.inputs)) ≡ Ok pieces
  pub count : length i.operands ≡ length (parts.outputs ++ parts.inputs)

pub interface_of-stated : (parts : Parts) (types : List (Option Operand)) (strict : Bool) (i : Interface) → interface_of parts types strict ≡ Ok i → IsStated parts i
unfolding interface_of
interface_of-stated parts types strict i e =
    let ws = constrained_operands parts types in
    let names = names_of (parts.outputs ++ parts.inputs) in
    let scan = scan_of parts.template names in
    let was = was_scanned parts strict ws names parts.bad_template scan i (unmarked (first_mark parts.clobbers ws) (scanned_interface parts strict ws names (template_scan parts.bad_template scan)) i e) in
    record {
      pieces = was.pieces;
      has_pieces = was.read;
      count = ap (λ (j : Interface). length j.operands) (sym was.is) ∙ made_count strict parts.clobbers ws ∙ length-constrained_operands parts types ∙ sym (length-append parts.outputs parts.inputs);
    }
