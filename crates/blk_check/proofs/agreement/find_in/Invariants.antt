use Rattle.std.proofs.Common.{◌≡◌, drop, find}
use Rattle.asm_core.specs.Lists.{count_from}
use Rattle.blk_check.specs.Readable.{breaks_u1}
use Rattle.blk_check.proofs.agreement.find_in.Given as goal

-- the first is among those that are left
abbrev pub invariant-loop-n : goal.invariant-loop-n
invariant-loop-n l = find (breaks_u1 l.fn.differing l.fn.readings) (count_from l.n (drop l.n l.fn.first.insts)) ≡ find (breaks_u1 l.fn.differing l.fn.readings) (count_from 0 l.fn.first.insts)
