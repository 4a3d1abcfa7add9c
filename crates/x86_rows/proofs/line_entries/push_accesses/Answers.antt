use Rattle.std.proofs.Common.{◌++◌}
use Rattle.std.specs.List.{filter_map}
use Rattle.asm_core.specs.Entries.{origins, access_at}
use Rattle.x86_rows.proofs.Pointers.{pointer_passed}
use Rattle.x86_rows.proofs.line_entries.push_accesses.Goals as goal

pub loop-origin-preserved-then-is_pointed : goal.loop-origin-preserved-then-is_pointed
loop-origin-preserved-then-is_pointed c =
    let all = c.args.found.now ++ filter_map (access_at c.args.store c.args.row.now c.args.s.now) origins in
    pointer_passed c.args.store c.args.row.now c.args.s.now all c.loop-origin.found
    c.all_origins-origin-items.result.now origins c.loop-origin.origin-index _
    c.all_origins-origin-items.ensures c.loop-origin.invariant c.loop-origin-test.true c.if-no_pointer.ensures
    c.if-is_pointed.ensures
