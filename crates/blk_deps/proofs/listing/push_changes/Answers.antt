use Rattle.std.proofs.Common.{◌∷◌, [], ◌++◌}
use Rattle.asm_core.specs.declared.flag.Flag.{Flag}
use Rattle.asm_core.specs.declared.finding.Rule.{Rule}
use Rattle.asm_core.specs.declared.finding.Cell.{Cell}
use Rattle.blk_deps.specs.Findings.{alone}
use Rattle.blk_deps.specs.Listing.{changes_of, each_alone, register_names}
use Rattle.blk_deps.proofs.ListingLemmas.{two, five}
use Rattle.blk_deps.proofs.listing.push_changes.Goals as goal

pub returns : goal.returns
unfolding changes_of
returns c = two c.args.list.now c.push_alone.new.list c.push_alone-6.new.list (each_alone Rule.W1 register_names)
    (each_alone Rule.W2 c.args.operands.now ++ ((alone Rule.W3 Cell.Cc ∷ []) ++ ((alone Rule.W4
    (Cell.Flag Flag.Df) ∷ []) ++ ((alone Rule.M1 Cell.Memory ∷ []) ++ each_alone Rule.M2 c.args.operands.now))))
    c.in_ok-push_alone.ensures
    (five c.push_alone.new.list c.push_alone-2.new.list c.push_alone-3.new.list c.push_alone-4.new.list
    c.push_alone-5.new.list c.push_alone-6.new.list
    (each_alone Rule.W2 c.args.operands.now) (alone Rule.W3 Cell.Cc ∷ []) (alone Rule.W4 (Cell.Flag Flag.Df) ∷ [])
    (alone Rule.M1 Cell.Memory ∷ []) (each_alone Rule.M2 c.args.operands.now)
    c.in_ok-push_alone-2.ensures c.in_ok-push_alone-3.ensures c.in_ok-push_alone-4.ensures
    c.in_ok-push_alone-5.ensures c.in_ok-push_alone-6.ensures)
