use Rattle.std.proofs.Common.{◌≡◌, drop}
use Rattle.asm_core.specs.Machine.{byte_at}
use Rattle.asm_core.proofs.ranges.byte_in.Given as goal

-- the ranges before the index don't have the address
abbrev pub invariant-loop-range : goal.invariant-loop-range
invariant-loop-range l = byte_at l.ranges l.address ≡ byte_at (drop l.range-index l.ranges) l.address
