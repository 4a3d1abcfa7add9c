use Rattle.std.proofs.Common.{◌≡◌, None, fold, take}
use Rattle.asm_core.specs.declared.lines.Lines.{Lines}
use Rattle.blk_check.specs.Readable.{first_lost, lesser}
use Rattle.blk_check.proofs.agreement.j1_line.Given as goal

abbrev pub invariant-loop-lines : goal.invariant-loop-lines
invariant-loop-lines l = l.least ≡ fold (λ least (x : Lines). lesser least (first_lost x)) None (take l.lines-index l.readings)
