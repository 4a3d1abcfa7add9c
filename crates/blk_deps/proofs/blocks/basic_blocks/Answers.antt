use Rattle.std.proofs.Common.{sym, subst}
use Rattle.blk_deps.specs.Heads.{AreMade}
use Rattle.blk_deps.proofs.HeadBlocks.{many, at_rise, at_within, none_made, made_on, all_made}
use Rattle.blk_deps.proofs.blocks.basic_blocks.Goals as goal

pub loop-number-init : goal.loop-number-init
loop-number-init c =
    subst (AreMade c.args.graph.now c.as_slice-firsts.result.now c.as_slice-numbers.result.now 0)
    (sym c.new-blocks.ensures)
    (none_made c.args.graph.now c.as_slice-firsts.result.now c.as_slice-numbers.result.now)

pub block_between-block-requires-clause-rise : goal.block_between-block-requires-clause-rise
block_between-block-requires-clause-rise c =
    at_rise c.args.graph.now c.requires c.in_ok-heads.heads.items _ c.deref.ensures.value c.in_ok-heads.ensures _
    c.in_ok-numbering.ensures
    _ _ c.as_slice-firsts.ensures c.as_slice-numbers.ensures c.loop-number.number c.loop-number.auto.number
    c.loop-number-test.true

pub block_between-block-requires-clause-within : goal.block_between-block-requires-clause-within
block_between-block-requires-clause-within c =
    at_within c.args.graph.now c.requires c.in_ok-heads.heads.items _ c.deref.ensures.value c.in_ok-heads.ensures _
    c.in_ok-numbering.ensures
    _ _ c.as_slice-firsts.ensures c.as_slice-numbers.ensures c.loop-number.number c.loop-number-test.true

pub loop-number-preserved : goal.loop-number-preserved
loop-number-preserved c =
    made_on c.args.graph.now c.as_slice-firsts.result.now c.as_slice-numbers.result.now c.loop-number.number _ _ _
    c.loop-number.auto.number
    c.loop-number.invariant c.block_between-block.ensures c.in_ok-push.ensures.ok

pub returns : goal.returns
returns c =
    let some = many c.args.graph.now c.requires c.in_ok-heads.heads.items _ c.deref.ensures.value c.in_ok-heads.ensures
    _ c.in_ok-numbering.ensures
    _ _ c.as_slice-firsts.ensures c.as_slice-numbers.ensures in
    all_made c.args.graph.now c.requires c.in_ok-heads.heads.items _ c.deref.ensures.value c.in_ok-heads.ensures _
    c.in_ok-numbering.ensures
    _ _ c.as_slice-firsts.ensures c.as_slice-numbers.ensures _ c.loop-number.number c.loop-number.invariant
    c.loop-number-test.false (c.loop-number.auto.number-end some)
