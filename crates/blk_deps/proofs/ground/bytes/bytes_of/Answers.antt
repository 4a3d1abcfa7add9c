use Rattle.std.proofs.Common.{length, ap, arith}
use Rattle.blk_deps.specs.Holding.{words_of}
use Rattle.blk_deps.specs.Ground.{has_cell_bit}
use Rattle.blk_deps.proofs.Gathering.{gathers_start, gathers_more, gathers_all}
use Rattle.blk_deps.proofs.GroundPlaces.{places_count}
use Rattle.blk_deps.proofs.GroundBytes.{class_more}
use Rattle.blk_deps.proofs.ground.bytes.bytes_of.Goals as goal

pub loop-k-init : goal.loop-k-init
loop-k-init c = gathers_start 148 (has_cell_bit (words_of c.empty-bytes.result)) _ _
    (λ n within. c.empty-bytes.ensures n)

pub loop-k-preserved : goal.loop-k-preserved
loop-k-preserved c = gathers_more c.args.interface.now.operands 148 (has_cell_bit (words_of c.loop-k.bytes))
    (has_cell_bit (words_of c.and-bytes.result)) _ c.loop-k.k
    (omega (arith, ap length c.requires, places_count c.args.interface.now c.args.shape.now, c.loop-k-test.true))
    c.loop-k.invariant
    (λ n within. class_more c.args.class c.args.interface.now c.args.shape.now c.args.places.now c.loop-k.k _ n _ _ _
    c.requires c.loop-k-test.true (c.bytes_of_operand.ensures n within) (c.and-bytes.ensures n))

pub returns : goal.returns
returns c = gathers_all c.args.interface.now.operands 148 (has_cell_bit (words_of c.loop-k.bytes)) _ c.loop-k.k
    (omega (arith, ap length c.requires, places_count c.args.interface.now c.args.shape.now, c.loop-k-test.false))
    c.loop-k.invariant
