use Rattle.std.proofs.Common.{◌≡◌, drop, bit_or}
use Rattle.asm_core.specs.Reading.Line.{hole_bits}
use Rattle.att_reader.specs.Named.{HolesBelow}
use Rattle.att_reader.proofs.named.hole_bits.Given as goal

-- those so far and those that are left are all
abbrev pub invariant-loop-atom : goal.invariant-loop-atom
invariant-loop-atom l = record {
  below : HolesBelow 32 (drop l.atom-index l.atoms);
  whole : bit_or l.bits (hole_bits (drop l.atom-index l.atoms)) ≡ hole_bits l.atoms;
}
