use Rattle.std.proofs.Common.{◌≡◌, List, length, replicate, IfOk, subst}
use Rattle.asm_core.specs.declared.finding.Finding.{Finding}
use Rattle.blk_deps.specs.Noting.{IsNoted, listed_of}
use Rattle.blk_deps.specs.Judged.{IsBrokenBelow}
use Rattle.blk_deps.specs.declared.violation.Violation.{Violation}
use Rattle.blk_deps.proofs.JudgedLaws.{sound_all, found_answer}
use Rattle.blk_deps.proofs.judged.path_findings.Goals as goal

pub least_lines-requires-clause-sound : goal.least_lines-requires-clause-sound
least_lines-requires-clause-sound c = sound_all c.args.graphs.now c.requires.level

pub returns : goal.returns
returns c =
    found_answer c.args.interface.now c.args.live.now c.args.graphs.now c.listed.result c.in_ok-violations.violations c.in_ok-least.least.lines.items c.in_ok-violations.ensures
    (subst (λ (vs : List Violation). IsNoted (IsBrokenBelow c.args.interface.now c.args.live.now c.args.graphs.now (length c.args.live.now)) vs (replicate (length vs) 0) c.in_ok-least.least.lines.items)
    c.as_slice.ensures c.in_ok-least.ensures)
    (subst (λ (vs : List Violation). IfOk c.listed.result (λ (found : List Finding). found ≡ listed_of vs c.in_ok-least.least.lines.items)) c.as_slice-2.ensures c.listed.ensures)
