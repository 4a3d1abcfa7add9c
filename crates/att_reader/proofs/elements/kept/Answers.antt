use Rattle.std.proofs.Common.{◌∙◌, sym, arith, append_assoc, false}
use Rattle.asm_core.specs.declared.piece.Piece.{Piece}
use Rattle.att_reader.proofs.ElementLemmas.{kept_dropped, kept_left}
use Rattle.att_reader.proofs.elements.kept.Goals as goal

pub loop-i-preserved-then-is_dropped : goal.loop-i-preserved-then-is_dropped
loop-i-preserved-then-is_dropped c =
    let e = kept_dropped c.args.pieces.now c.args.marks.now c.loop-i.i (Piece.Byte 0 0) false c.requires (omega arith) (sym c.is_dropped.ensures ∙ c.if-is_dropped.true) in
    rw e at c.loop-i.invariant

pub loop-i-preserved : goal.loop-i-preserved
loop-i-preserved c =
    let e = kept_left c.args.pieces.now c.args.marks.now c.loop-i.i (Piece.Byte 0 0) false c.requires (omega arith) (sym c.is_dropped.ensures ∙ c.if-is_dropped.false) in
    rw (c.in_ok-push.ensures.items, append_assoc) (rw e at c.loop-i.invariant)
