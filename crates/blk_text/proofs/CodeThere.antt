-- Under every allowed placement the text of a block that keeps U2 is there, and is the block's code.
use Rattle.std.proofs.Common.{◌≡◌, ℕ, ◌^◌, ◌<◌, All, List, Bool, length, map, Some, Result, Ok, Err, refl, sym, subst, ◌∙◌}
use Rattle.asm_core.specs.Expansion.{expansion_of}
use Rattle.asm_core.specs.WellFormed.{IsInterface}
use Rattle.asm_core.specs.Pieces.{ArePieces}
use Rattle.asm_core.specs.Placement.{IsAllowed}
use Rattle.asm_core.specs.RowLaws.{IsPlaced}
use Rattle.asm_core.specs.Reading.{IsCodeOf, IsCodeUnder}
use Rattle.asm_core.specs.Reading.Names.{names}
use Rattle.asm_core.specs.Reading.Line.{lines_under}
use Rattle.asm_core.proofs.ReadingLaws.Law.{is_lettered, pieces_read_whole}
use Rattle.asm_core.proofs.ReadingLaws.PlacesThere.{IsFit, insts_fit}
use Rattle.asm_core.proofs.ReadingLaws.TargetsOnce.{have_targets}
use Rattle.asm_core.proofs.ReadingLaws.TextThere.{text_there}
use Rattle.asm_core.specs.declared.piece.Piece.{Piece}
use Rattle.asm_core.specs.declared.reading.Sign.{Sign}
use Rattle.asm_core.specs.declared.shape.Shape.{Shape}
use Rattle.asm_core.specs.declared.placement.Placement.{Placement}
use Rattle.asm_core.specs.declared.interface.Interface.{Interface}
use Rattle.asm_core.specs.declared.lines.Lines.{Lines}
use Rattle.asm_core.specs.declared.lines.Graph.{Graph}
use Rattle.blk_flow.specs.Graph.{graph_of}
use Rattle.blk_deps.specs.Start.{TellsSharing}
use Rattle.blk_text.specs.Text.{KeepsU2, placed_code}
use Rattle.blk_text.proofs.BytesNamed.{bytes_named}
use Rattle.blk_text.proofs.GraphCode.{code_of_graph}

failed : (k : ℕ) (text : List Sign) → ◌≡◌ {A = Result (List Sign) ℕ} (Err k) (Ok text) → ⊥
failed k text e = cc

module _ (i : Interface) (s : Shape) (p : Placement) (interface : IsInterface i) (allowed : IsAllowed i s p)
    (pieces : List Piece) (lines : Lines) (g : Graph) (read : lines_under names i s pieces ≡ Ok lines)
    (all : map Some g.insts ≡ lines.insts) where
  fit : All (IsFit i s p) g.insts
  fit = insts_fit i s interface p (is_lettered i s p allowed) names pieces lines g.insts read (sym all)

  -- the placement says where each operand of the block is
  pub placed_there : All (IsPlaced p) g.insts
  placed_there k d below = (fit k d below).placed

  -- where the text is there, it is the block's code
  pub code_of_text : (unique : ℕ) (text : List Sign) → ArePieces (length i.operands) pieces → unique < 2 ^ 32
      → graph_of lines ≡ Ok g → expansion_of i p unique pieces ≡ Ok text
      → IsCodeUnder i s p unique pieces (placed_code p g)
  code_of_text unique text are small made there =
      let law = (pieces_read_whole names i s pieces lines interface are read).each p unique text allowed small there in
      let code = code_of_graph p lines g all made (have_targets i s pieces lines read) in
      record { text = text; is_text = there; is_code = subst (λ c. IsCodeOf c (placed_code p g)) (sym law) code }

  pub code_there : (unique : ℕ) (shares : ℕ → ℕ → Bool) → ArePieces (length i.operands) pieces → unique < 2 ^ 32
      → graph_of lines ≡ Ok g
      → TellsSharing i s shares → KeepsU2 i shares g → IsCodeUnder i s p unique pieces (placed_code p g)
  code_there unique shares are small made tells keeps =
      let named = bytes_named i s p shares g allowed tells keeps fit in
      let text = text_there i s interface p (is_lettered i s p allowed) unique names pieces lines g.insts read
      (sym all) named in
      code_of_text unique text.0 are small made text.1

  -- what can't fail of it holds
  pub code_unless : (unique : ℕ) → ArePieces (length i.operands) pieces → unique < 2 ^ 32 → graph_of lines ≡ Ok g
      → ((IsCodeUnder i s p unique pieces (placed_code p g) → ⊥) → ⊥)
      → IsCodeUnder i s p unique pieces (placed_code p g)
  code_unless unique are small made h = by (expansion_of i p unique pieces) refl
    where
      by : (r : Result (List Sign) ℕ) → expansion_of i p unique pieces ≡ r
          → IsCodeUnder i s p unique pieces (placed_code p g)
      by (Ok text) e = code_of_text unique text are small made e
      by (Err k) e = absurd (h (λ code. failed k code.text (sym e ∙ code.is_text)))
