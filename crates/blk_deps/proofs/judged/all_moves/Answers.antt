use Rattle.std.proofs.Common.{◌≡◌, Some, List, slice_get, length, refl, sym, subst}
use Rattle.std.proofs.lemmas.Option.{slice_get_read}
use Rattle.asm_core.specs.declared.sym.Sym.{Sym}
use Rattle.blk_deps.proofs.JudgedLaws.{moves_next}
use Rattle.blk_deps.proofs.judged.all_moves.Goals as goal

pub loop-n-preserved : goal.loop-n-preserved
loop-n-preserved c =
    moves_next c.args.context.now c.args.graph.now c.args.depths.now c.loop-n.n c.index-lines-n.result c.in_ok-line_moves.field-0 c.loop-n.moves c.push.new.self
    (subst (λ (l : List Sym). slice_get l c.loop-n.n ≡ Some c.index-lines-n.result) c.as_slice-lines.ensures
    (slice_get_read c.as_slice-lines.result.now (length c.as_slice-lines.result.now) c.loop-n.n c.index-lines-n.result refl c.loop-n-test.true c.index-lines-n.is))
    c.in_ok-line_moves.ensures c.loop-n.invariant c.in_ok-push.ensures.ok
