use Rattle.std.proofs.Common.{◌∙◌, ◌++◌, ap}
use Rattle.blk_deps.specs.Listing.{register_names, changes_of, reads_of, uses_of}
use Rattle.blk_deps.proofs.ListingLemmas.{three, all_pushed}
use Rattle.blk_deps.proofs.listing.violations.Goals as goal

pub returns : goal.returns
returns c =
    let pushed = three c.new-list.result c.push_changes.new.list c.push_reads.new.list c.push_uses.new.list
    (changes_of c.as_slice-2.result.now) (reads_of c.as_slice-3.result.now)
    (uses_of c.as_slice-4.result.now c.as_slice-5.result.now) c.in_ok-push_changes.ensures c.in_ok-push_reads.ensures
    c.in_ok-push_uses.ensures in
    let first = c.in_ok-push_names.ensures ∙ ap (λ l. l ++ register_names) c.new-names.ensures in
    all_pushed c.args.interface.now c.push_uses.new.list c.new-list.result c.as_slice-2.result.now
    c.as_slice-3.result.now c.as_slice-4.result.now c.as_slice-5.result.now
    c.in_ok-operands.operands c.push_names-2.new.names c.new-list.ensures c.as_slice-2.ensures c.as_slice-3.ensures
    c.as_slice-4.ensures c.as_slice-5.ensures c.in_ok-operands.ensures
    (c.in_ok-push_names-2.ensures ∙ ap (λ l. l ++ c.as_slice.result.now) first
    ∙ ap (λ l. register_names ++ l) c.as_slice.ensures) pushed
