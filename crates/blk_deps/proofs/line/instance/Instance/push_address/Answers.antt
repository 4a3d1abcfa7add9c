use Rattle.std.proofs.Common.{◌≡◌, ◌++◌, map, OnOk, sym, subst}
use Rattle.blk_deps.specs.Line.{index_place, cells_of_place, address_cells}
use Rattle.blk_deps.specs.LineMoves.{interface_of, shape_of}
use Rattle.blk_deps.specs.declared.step.Name.{Name}
use Rattle.blk_deps.proofs.RangeSteps.{map_both}
use Rattle.blk_deps.proofs.line.instance.Instance.push_address.Goals as goal

pub returns-in_ok-push_whole-in-Address : goal.returns-in_ok-push_whole-in-Address
returns-in_ok-push_whole-in-Address c =
    let i = interface_of c.args.self.now in
    let s = shape_of c.args.self.now in
    let before = c.args.names.now in
    let between = c.push_whole.new.names in
    let after = c.push_whole-in-Address.new.names in
    let result = c.push_whole-in-Address.result in
    let second = subst (λ place. OnOk result (after ≡ between ++ map Name.Cell (cells_of_place i s place))) c.index_place.ensures c.push_whole-in-Address.ensures in
    let both = map_both Name.Cell (cells_of_place i s c.in-Address.base) (cells_of_place i s (index_place c.in-Address.index)) before between after result c.in_ok-push_whole-in-Address.ensures second in
    subst (λ arg. OnOk result (after ≡ before ++ map Name.Cell (address_cells i s arg))) (sym c.in-Address.is) both
