use Rattle.std.proofs.Common.{◌∙◌, arith}
use Rattle.c_tokens.proofs.SpliceLemmas.{splice-end, splice-more, apart-le, apart-more}
use Rattle.c_tokens.proofs.edits.splice.Goals as goal

pub write_edit-requires : goal.write_edit-requires
write_edit-requires c =
    let apart = apart-more _ c.args.edits.now _ c.loop-edit.edit-index c.edit-item.result c.loop-edit-test.true c.edit-item.is c.loop-edit.invariant.1 in
    let ends = apart-le _ _ _ apart.2 in
    (apart.0, omega (arith, apart.1, ends))

pub loop-edit-preserved : goal.loop-edit-preserved
loop-edit-preserved c =
    let apart = apart-more _ c.args.edits.now _ c.loop-edit.edit-index c.edit-item.result c.loop-edit-test.true c.edit-item.is c.loop-edit.invariant.1 in (
      apart-le _ _ _ apart.2,
      apart.2,
      splice-more c.args.text.now c.loop-edit.out.items _ c.loop-edit.from c.args.edits.now c.loop-edit.edit-index c.edit-item.result _
          c.loop-edit-test.true c.edit-item.is c.in_ok-write_edit.ensures c.loop-edit.invariant.2,
    )

pub returns : goal.returns
returns c =
    let whole = splice-end c.args.text.now c.loop-edit.out.items c.loop-edit.from c.args.edits.now c.loop-edit.edit-index _ c.loop-edit-test.false c.loop-edit.invariant.2 in
    c.from_vec.ensures ∙ c.in_ok-extend_from_slice.ensures.items ∙ whole
