use Rattle.std.proofs.Common.{◌≡◌, drop}
use Rattle.asm_core.specs.RowTerms.{zf_from}
use Rattle.x86_rows.proofs.repeat.zf_number.Given as goal

abbrev pub invariant-loop-k : goal.invariant-loop-k
invariant-loop-k l = zf_from 0 l.row ≡ zf_from l.k (drop l.k l.row)
