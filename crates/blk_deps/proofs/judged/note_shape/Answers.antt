use Rattle.std.proofs.Common.{◌≡◌, ◌+◌, List, All, length, ℕ, refl, sym, ◌∙◌, ap, subst}
use Rattle.blk_deps.specs.Stack.{AreDepths}
use Rattle.blk_deps.specs.StackTable.{FitDepths}
use Rattle.blk_deps.specs.Start.{TellsSharing}
use Rattle.blk_deps.specs.Sharing.{shares_by}
use Rattle.blk_deps.specs.Fitting.{FitsMoves, stack_layout}
use Rattle.blk_deps.specs.Judged.{AreMovesOf}
use Rattle.blk_deps.specs.Blocks.{AreBlocks}
use Rattle.blk_deps.specs.Ruling.{AreMasks}
use Rattle.blk_deps.specs.Ways.{size_of, goes}
use Rattle.asm_core.specs.declared.finding.Cell.{Cell}
use Rattle.blk_deps.specs.declared.blocks.BasicBlock.{BasicBlock}
use Rattle.blk_deps.specs.declared.line.LineMoves.{LineMoves}
use Rattle.blk_deps.proofs.FitLaws.{all_moves_fit}
use Rattle.blk_deps.proofs.JudgedLaws.{moved_all, is_walk, noted_answer}
use Rattle.blk_deps.proofs.judged.note_shape.Goals as goal

pub layout_of-layout-requires-clause-fit : goal.layout_of-layout-requires-clause-fit
layout_of-layout-requires-clause-fit c =
    subst (All (FitsMoves (stack_layout c.args.context.now.interface.now))) (sym c.as_slice-2.ensures)
    (all_moves_fit c.args.context.now.interface.now c.args.context.now.shape.now c.in_ok-moves.moves c.requires.interface
    (moved_all c.args.context.now c.args.graph.now c.as_slice.result.now c.in_ok-moves.moves
    (subst (FitDepths c.args.graph.now) (sym c.as_slice.ensures) c.in_ok-table.ensures.fit) c.in_ok-moves.ensures))

pub note_flow-requires-clause-walk : goal.note_flow-requires-clause-walk
note_flow-requires-clause-walk c =
    is_walk _ c.requires.context c.requires.interface c.requires.small c.requires.shape c.requires.graph
    (subst (AreDepths c.args.graph.now) (sym c.as_slice-4.ensures) c.in_ok-table.ensures.depths)
    c.layout_of-layout.ensures.layout c.layout_of-layout.ensures.operands
    (ap length c.as_slice-5.ensures ∙ c.in_ok-sharers.ensures.count)
    (subst (λ (ms : List LineMoves). AreMovesOf c.args.context.now c.args.graph.now c.as_slice-4.result.now ms) (sym c.as_slice-6.ensures)
    (subst (λ (ds : List ℕ). AreMovesOf c.args.context.now c.args.graph.now ds c.in_ok-moves.moves) (c.as_slice.ensures ∙ sym c.as_slice-4.ensures) c.in_ok-moves.ensures))
    (subst (All (FitsMoves c.layout_of-layout.result)) (c.as_slice-2.ensures ∙ sym c.as_slice-6.ensures) c.layout_of-layout.ensures.fit)
    (subst (AreBlocks (size_of c.args.graph.now) (goes c.args.graph.now)) (sym c.as_slice-7.ensures) c.in_ok-blocks.ensures)
    (subst (λ (names : List Cell). AreMasks names c.of-names.result.masks) c.as_slice-3.ensures c.of-names.ensures)
    c.requires.violations c.pair_numbers-pairs.ensures

pub returns : goal.returns
returns c =
    noted_answer c.args.context.now.interface.now c.args.context.now.live.now c.args.context.now.shape.now c.args.graph.now c.as_slice-4.result.now c.layout_of-layout.result c.as_slice-5.result.now
    c.note_flow.result c.args.violations.now c.args.least.now.lines.items c.note_flow.new.least.lines.items
    (subst (AreDepths c.args.graph.now) (sym c.as_slice-4.ensures) c.in_ok-table.ensures.depths) c.layout_of-layout.ensures.operands
    (subst (λ (words : List ℕ). TellsSharing c.args.context.now.interface.now c.args.context.now.shape.now (shares_by words (7 + length c.args.context.now.interface.now.operands))) (sym c.as_slice-5.ensures) c.in_ok-sharers.ensures.tells)
    c.note_flow.ensures
