use Rattle.std.proofs.Common.{◌≡◌, length, map, take}
use Rattle.asm_core.specs.RowTerms.{as_temporary}
use Rattle.x86_rows.proofs.repeat.as_temporaries.Given as goal

abbrev pub invariant-loop-op : goal.invariant-loop-op
invariant-loop-op l = (length l.made.items ≡ l.op-index) × (l.made.items ≡ map as_temporary (take l.op-index l.row))
