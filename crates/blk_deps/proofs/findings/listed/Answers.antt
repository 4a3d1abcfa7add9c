use Rattle.std.proofs.Common.{◌≡◌, ◌<◌, length, map, None, ◌∙◌, arith}
use Rattle.std.proofs.lemmas.List.{length-map}
use Rattle.blk_deps.specs.Noting.{line_of}
use Rattle.blk_deps.proofs.NotingLemmas.{found_next, line_at}
use Rattle.blk_deps.proofs.findings.listed.Goals as goal

pub loop-t-preserved : goal.loop-t-preserved
loop-t-preserved c =
    let entries = c.args.least.now.lines.items in
    let same = length-map entries line_of in
    let test = c.loop-t-test.true in
    let count = c.requires in
    let inside : c.loop-t.t < length entries = omega (arith, test, count) in
    found_next c.args.violations.now (map line_of entries) c.loop-t.t _ c.line_of.result None c.loop-t.found c.push_finding.new.found _ test
    (omega (arith, inside, same)) (c.line_of.ensures ∙ line_at entries c.loop-t.t c.index.result.now inside c.index.ensures) c.loop-t.invariant c.in_ok-push_finding.ensures
