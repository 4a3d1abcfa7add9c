use Rattle.blk_patch.proofs.WithStated.{interface_with}
use Rattle.blk_patch.proofs.patches.find_patch.Goals as goal

pub refused-requires-clause-few : goal.refused-requires-clause-few
refused-requires-clause-few c =
    (interface_with c.args.statement.now c.args.interface.now c.in_ok-items.field-0.items c.in_ok-items.field-0.interface c.in_ok-items.ensures.interface c.requires.interface).few
