use Rattle.std.proofs.Common.{◌≡◌, ◌++◌, take}
use Rattle.att_reader.specs.Raws.{raws_as, dead_from}
use Rattle.att_reader.proofs.cut.push_dead.Given as goal

-- the first of them are dead
abbrev pub invariant-loop-from : goal.invariant-loop-from
invariant-loop-from l = raws_as l.raws.items ≡ raws_as l.fn.raws.items ++ dead_from (take l.from-index l.froms)
