use Rattle.std.proofs.Common.{◌≡◌, length, drop}
use Rattle.asm_core.specs.Entries.{line_facts, facts_from, known_in}
use Rattle.x86_rows.proofs.fact.facts.Given as goal

-- the facts so far are those of the micro-operations before the index
abbrev pub invariant-loop-op : goal.invariant-loop-op
invariant-loop-op l = (length l.facts.items ≡ l.op-index) × (line_facts l.row l.s ≡ facts_from l.s.width (known_in l.s) (drop l.op-index l.row) l.facts.items)
