use Rattle.asm_statement.proofs.PartLaws.{all_kept_in}
use Rattle.asm_statement.proofs.StatementPlaces.{answer_all, answer_rising, answer_apart}
use Rattle.asm_statement.proofs.NestLaws.{answer_nested}
use Rattle.asm_statement.proofs.EditPlaces.{answer_edits}
use Rattle.std.proofs.Common.{length}
use Rattle.asm_statement.proofs.statement.statements.Goals as goal

pub returns-clause-parts : goal.returns-clause-parts
returns-clause-parts c = all_kept_in c.args.text.now c.args.t.now.list c.read_statements.result c.read_statements.ensures

pub returns-clause-keywords : goal.returns-clause-keywords
returns-clause-keywords c = answer_all c.args.text.now c.args.t.now.list c.read_statements.result c.requires.tokens c.read_statements.ensures

pub returns-clause-order : goal.returns-clause-order
returns-clause-order c = answer_rising c.args.text.now c.args.t.now.list c.read_statements.result c.requires.tokens c.read_statements.ensures

pub returns-clause-apart : goal.returns-clause-apart
returns-clause-apart c = answer_apart c.args.text.now c.args.t.now.list c.read_statements.result c.requires.tokens c.read_statements.ensures

pub returns-clause-nested : goal.returns-clause-nested
returns-clause-nested c = answer_nested c.args.text.now c.args.t.now.list c.read_statements.result c.requires.tokens c.read_statements.ensures

pub returns-clause-edits : goal.returns-clause-edits
returns-clause-edits c =
    answer_edits (length c.args.text.now) c.read_statements.result
    (answer_apart c.args.text.now c.args.t.now.list c.read_statements.result c.requires.tokens c.read_statements.ensures)
