use Rattle.std.proofs.Common.{sym, ◌∙◌, arith}
use Rattle.blk_deps.proofs.Gathering.{passes_here, passes_later, none_passes}
use Rattle.blk_deps.proofs.ground.memory.has_tied.Goals as goal

pub returns-then-is_tied_to : goal.returns-then-is_tied_to
returns-then-is_tied_to c = passes_here c.args.interface.now.operands _ c.loop-j.j _
    (omega (arith, c.len-j-end.ensures, c.loop-j-test.true)) (sym c.is_tied_to.ensures ∙ c.if-is_tied_to.true)
    c.loop-j.invariant

pub loop-j-preserved : goal.loop-j-preserved
loop-j-preserved c = passes_later c.args.interface.now.operands _ c.loop-j.j _
    (omega (arith, c.len-j-end.ensures, c.loop-j-test.true)) (sym c.is_tied_to.ensures ∙ c.if-is_tied_to.false)
    c.loop-j.invariant

pub returns : goal.returns
returns c = none_passes c.args.interface.now.operands _ c.loop-j.j _
    (omega (arith, c.len-j-end.ensures, c.loop-j-test.false)) c.loop-j.invariant
