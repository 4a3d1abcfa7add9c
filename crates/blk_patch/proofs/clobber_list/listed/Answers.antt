use lib.Utf8.{encode}
use Rattle.std.proofs.Common.{[], ◌∷◌, refl, sym}
use Rattle.std.specs.String.{string_bytes}
use Rattle.blk_patch.proofs.EditLaws.{names_more, names_done}
use Rattle.blk_patch.specs.declared.item.Item.{Item}
use Rattle.blk_patch.proofs.clobber_list.listed.Goals as goal

-- the comma and the blank are text
pub loop-item-preserved : goal.loop-item-preserved
unfolding encode
loop-item-preserved c = (
  (44 ∷ 32 ∷ [], (refl, refl)),
  names_more c.args.items.now c.args.clobbers.now c.loop-item.item-index _ c.loop-item.lead.now _
      (string_bytes c.loop-item.text) c.loop-item.invariant.1 c.loop-item-test.true (sym c.if-not-has.ensures)
      (string_bytes c.append_clobber.new.text) c.in_ok-append_clobber.ensures,
)

pub returns : goal.returns
returns c =
    names_done c.args.items.now c.args.clobbers.now c.loop-item.item-index Item.Cc c.loop-item.lead.now _
    (string_bytes c.loop-item.text) c.loop-item.invariant.1 c.loop-item-test.false
