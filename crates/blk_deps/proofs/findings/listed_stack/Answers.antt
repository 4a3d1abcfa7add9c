use Rattle.std.proofs.Common.{◌≡◌, length, refl, arith}
use Rattle.blk_deps.proofs.NotingLemmas.{found_next}
use Rattle.blk_deps.proofs.findings.listed_stack.Goals as goal

pub loop-t-preserved : goal.loop-t-preserved
loop-t-preserved c =
    let test = c.loop-t-test.true in
    let count = c.requires in
    found_next c.args.violations.now c.args.lines.now c.loop-t.t _ _ _ c.loop-t.found c.push_finding.new.found _ test (omega (arith, test, count)) refl
    c.loop-t.invariant c.in_ok-push_finding.ensures
