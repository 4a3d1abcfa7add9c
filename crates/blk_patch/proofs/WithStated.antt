-- A statement with items is judged as every statement is.
use Rattle.std.proofs.Common.{◌≡◌, List, sym, subst, ◌∙◌}
use Rattle.asm_core.specs.WellFormed.{IsInterface}
use Rattle.asm_core.specs.declared.statement.Statement.{Statement}
use Rattle.asm_core.specs.declared.interface.Interface.{Interface}
use Rattle.blk_check.specs.Judged.{IsInterfaceOf}
use Rattle.blk_patch.specs.Items.{with_items}
use Rattle.blk_patch.specs.declared.item.Item.{Item}
use Rattle.blk_patch.proofs.WithLaws.{is_interface, with_long}
use Rattle.blk_patch.proofs.SmallLaws.{is_small}

module _ (s : Statement) (i : Interface) (items : List Item) (w : Interface) (is : w ≡ with_items items i) where
  pub interface_with : IsInterface i → IsInterface w
  interface_with interface = subst IsInterface (sym is) (is_interface items i interface)

  pub stated_with : IsInterfaceOf i s → IsInterfaceOf w s
  stated_with stated = subst (λ x. IsInterfaceOf x s) (sym is) (record {
    parts = stated.parts;
    pieces = stated.pieces;
    has_parts = stated.has_parts;
    are_parts = stated.are_parts;
    has_pieces = stated.has_pieces;
    small = is_small items i stated.small;
    count = with_long items i ∙ stated.count;
  })
