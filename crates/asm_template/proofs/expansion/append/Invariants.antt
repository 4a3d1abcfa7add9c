use Rattle.std.proofs.Common.{◌≡◌, ◌++◌, take}
use Rattle.asm_core.specs.Expansion.{with_origin}
use Rattle.asm_template.proofs.expansion.append.Given as goal

abbrev pub invariant-loop-byte : goal.invariant-loop-byte
invariant-loop-byte l = l.signs.items ≡ l.initial.signs.items ++ with_origin l.origin (take l.byte-index l.text)
