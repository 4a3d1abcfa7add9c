use Rattle.asm_core.specs.Entries.{known_in}
use Rattle.asm_core.proofs.FactLaws.{names_decide, reads_known}
use Rattle.asm_core.proofs.Laws.{decides_line}
use Rattle.x86_rows.proofs.entries.named.Goals as goal

pub returns-clause-decides : goal.returns-clause-decides
returns-clause-decides c = names_decide c.args.row.now c.args.s.now.width (known_in c.args.s.now)

pub returns-clause-known : goal.returns-clause-known
returns-clause-known c = λ few p. reads_known p c.args.s.now few

pub returns-clause-line : goal.returns-clause-line
returns-clause-line c = decides_line c.args.row.now c.args.s.now
