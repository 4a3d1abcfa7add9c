use Rattle.std.proofs.Common.{◌≡◌, drop, find}
use Rattle.asm_core.specs.Lists.{count_from}
use Rattle.blk_check.specs.Readable.{is_unread}
use Rattle.blk_check.proofs.unread.find_unread.Given as goal

-- the first is among those that are left
abbrev pub invariant-loop-n : goal.invariant-loop-n
invariant-loop-n l = find (is_unread l.fn.readings) (count_from l.n (drop l.n l.fn.first.insts)) ≡ find (is_unread l.fn.readings) (count_from 0 l.fn.first.insts)
