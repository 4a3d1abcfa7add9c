use Rattle.asm_constraints.proofs.InterfaceLemmas.{interface-kept}
use Rattle.asm_constraints.proofs.statement.interface.Goals as goal

pub returns-clause-kept : goal.returns-clause-kept
returns-clause-kept c = interface-kept c.args.parts.now c.args.operands.now c.args.strict c.interface_said.result c.requires c.interface_said.ensures
