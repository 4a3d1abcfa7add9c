use Rattle.std.proofs.Common.{arith}
use Rattle.asm_core.specs.declared.piece.Piece.{Piece}
use Rattle.asm_core.specs.declared.reading.Leaf.{Leaf}
use Rattle.att_reader.proofs.NamedLemmas.{hole_below, hole_more}
use Rattle.att_reader.proofs.named.hole_bits.Goals as goal

pub loop-atom-preserved : goal.loop-atom-preserved
loop-atom-preserved c =
    let xs = c.args.atoms.now in
    let i = c.loop-atom.atom-index in
    record {
      below = (hole_below xs i (record { piece = Piece.Byte 0 0; leaf = Leaf.Nothing }) (omega arith) c.loop-atom.invariant.below).1;
      whole = hole_more xs i c.loop-atom.bits c.hole_bit-bits.result _ (omega arith) c.loop-atom.invariant.whole c.hole_bit-bits.ensures;
    }
