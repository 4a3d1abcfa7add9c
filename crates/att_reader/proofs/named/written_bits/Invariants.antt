use Rattle.std.proofs.Common.{◌≡◌, drop, bit_or}
use Rattle.asm_core.specs.Reading.Line.{set_of, written_registers}
use Rattle.att_reader.proofs.named.written_bits.Given as goal

-- those so far and those that are left are all
abbrev pub invariant-loop-i : goal.invariant-loop-i
invariant-loop-i l = bit_or l.bits (set_of (written_registers (drop l.i l.codes))) ≡ set_of (written_registers l.codes)
