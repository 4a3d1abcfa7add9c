-- A template's lines under a shape are the same with items: what a line knows of an operand is.
use Rattle.std.proofs.Common.{◌≡◌, ℕ, List, map, Option, None, Some, slice_get, refl, ap, ◌∙◌}
use Rattle.std.specs.Option.{option_map}
use Rattle.std.proofs.Math.Path.{fun_ext}
use Rattle.std.proofs.lemmas.Option.{slice_get-map}
use Rattle.asm_core.specs.Placement.{tie_root, is_output}
use Rattle.asm_core.specs.Comments.{uncommented}
use Rattle.asm_core.specs.Pieces.{piece_code}
use Rattle.asm_core.specs.Reading.Facts.{fixed_register, allows_byte_names, facts_from, alternative_at, facts_with, facts_of, atom_of}
use Rattle.asm_core.specs.Reading.Cut.{raws_of}
use Rattle.asm_core.specs.Reading.Operands.{atom_code}
use Rattle.asm_core.specs.Reading.Line.{template_raws, lines_of_raws, lines_under}
use Rattle.asm_core.specs.declared.names.NameRow.{NameRow}
use Rattle.asm_core.specs.declared.piece.Piece.{Piece}
use Rattle.asm_core.specs.declared.shape.Kind.{Kind}
use Rattle.asm_core.specs.declared.shape.Shape.{Shape}
use Rattle.asm_core.specs.declared.interface.AltIface.{AltIface}
use Rattle.asm_core.specs.declared.interface.OperandIface.{OperandIface}
use Rattle.asm_core.specs.declared.interface.Interface.{Interface}
use Rattle.blk_patch.specs.Items.{alternative_with, operand_with, with_items}
use Rattle.blk_patch.specs.Upward.{LeavesPlaces}
use Rattle.blk_patch.specs.declared.item.Item.{Item}
use Rattle.blk_patch.proofs.SmallLaws.{root_same}
use Rattle.blk_patch.proofs.UpwardLetters.{letters_left}
use Rattle.blk_patch.proofs.WithLaws.{with_at}

facts_made : (size root : ℕ) (o q : OperandIface) (alt left : AltIface) (kind : Kind) → q.known ≡ o.known
    → fixed_register left ≡ fixed_register alt → allows_byte_names left ≡ allows_byte_names alt
    → facts_from size root (Some q) (Some left) (Some kind) ≡ facts_from size root (Some o) (Some alt) (Some kind)
facts_made size root o q alt left kind known fixed names = rw (known, fixed, names) refl

module _ (items : List Item) (i : Interface) (leaves : LeavesPlaces items i) (s : Shape) where
  from_same : (size root : ℕ) (o : OperandIface) → slice_get i.operands root ≡ Some o → (found : Option AltIface)
      → slice_get o.alts s.alternative ≡ found → (kind : Option Kind)
      → facts_from size root (Some (operand_with items root o))
      (option_map (alternative_with items root (is_output o.role)) found) kind
      ≡ facts_from size root (Some o) found kind
  from_same size root o e None f kind = refl
  from_same size root o e (Some alt) f None = refl
  from_same size root o e (Some alt) f (Some kind) =
      let left = letters_left items root (is_output o.role) alt
      (λ byte. leaves.each root s.alternative o alt byte (record { is_operand = e; is_alternative = f })) in
      facts_made size root o (operand_with items root o) alt (alternative_with items root (is_output o.role) alt) kind
      refl left.fixed left.names

  output_same : (size root : ℕ) (found : Option OperandIface) → slice_get i.operands root ≡ found
      → (kind : Option Kind)
      → facts_from size root (option_map (operand_with items root) found)
      (alternative_at (option_map (operand_with items root) found) s.alternative) kind
      ≡ facts_from size root found (alternative_at found s.alternative) kind
  output_same size root None e kind = refl
  output_same size root (Some o) e kind =
      ap (λ alt. facts_from size root (Some (operand_with items root o)) alt kind)
      (slice_get-map (alternative_with items root (is_output o.role)) o.alts s.alternative)
      ∙ from_same size root o e (slice_get o.alts s.alternative) refl kind

  with_same : (root k : ℕ) (found : Option OperandIface)
      → facts_with (with_items items i) s root (option_map (operand_with items k) found) ≡ facts_with i s root found
  with_same root k None = refl
  with_same root k (Some o) =
      ap (λ output. facts_from o.size root output (alternative_at output s.alternative) (slice_get s.kinds root))
      (with_at items i root)
      ∙ output_same o.size root (slice_get i.operands root) refl (slice_get s.kinds root)

  facts_same : (k : ℕ) → facts_of (with_items items i) s k ≡ facts_of i s k
  unfolding facts_of
  facts_same k =
      ap (λ root. facts_with (with_items items i) s root (slice_get (with_items items i).operands k))
      (root_same items i s k)
      ∙ ap (facts_with (with_items items i) s (tie_root i s k)) (with_at items i k)
      ∙ with_same (tie_root i s k) k (slice_get i.operands k)

  raws_same : (ps : List Piece) → template_raws (with_items items i) s ps ≡ template_raws i s ps
  unfolding template_raws
  raws_same ps = ap (λ facts. raws_of atom_code (map (atom_of facts) (uncommented piece_code ps))) (fun_ext facts_same)

  pub lines_same : (rows : List NameRow) (ps : List Piece)
      → lines_under rows (with_items items i) s ps ≡ lines_under rows i s ps
  lines_same rows ps = ap (lines_of_raws rows) (raws_same ps)
