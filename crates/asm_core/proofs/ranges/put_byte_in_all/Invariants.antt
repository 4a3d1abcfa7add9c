use Rattle.std.proofs.Common.{◌≡◌, ◌++◌, map, take, drop}
use Rattle.asm_core.specs.Memory.{put_byte}
use Rattle.asm_core.proofs.ranges.put_byte_in_all.Given as goal

-- the ranges before the index have the byte
abbrev pub invariant-loop-range : goal.invariant-loop-range
invariant-loop-range l = l.ranges ≡ map (put_byte l.address l.byte) (take l.range-index l.initial.ranges) ++ drop l.range-index l.initial.ranges
