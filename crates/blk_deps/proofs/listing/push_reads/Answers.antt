use Rattle.std.proofs.Common.{◌∷◌, []}
use Rattle.asm_core.specs.declared.finding.Rule.{Rule}
use Rattle.asm_core.specs.declared.finding.Cell.{Cell}
use Rattle.blk_deps.specs.Findings.{alone}
use Rattle.blk_deps.specs.Listing.{reads_of, each_alone, register_names, flag_names}
use Rattle.blk_deps.proofs.ListingLemmas.{five}
use Rattle.blk_deps.proofs.listing.push_reads.Goals as goal

pub returns : goal.returns
unfolding reads_of
returns c = five c.args.list.now c.push_alone.new.list c.push_alone-2.new.list c.push_alone-3.new.list
    c.push_alone-4.new.list c.push_alone-5.new.list
    (each_alone Rule.R1 register_names) (each_alone Rule.R1 flag_names) (each_alone Rule.R2 c.args.operands.now)
    (each_alone Rule.R3 c.args.operands.now) (alone Rule.R3 Cell.Nothing ∷ [])
    c.in_ok-push_alone.ensures c.in_ok-push_alone-2.ensures c.in_ok-push_alone-3.ensures c.in_ok-push_alone-4.ensures
    c.in_ok-push_alone-5.ensures
