use Rattle.blk_deps.proofs.StackFound.{all_found}
use Rattle.blk_deps.proofs.stacks.stack_findings.Goals as goal

pub returns : goal.returns
returns c =
    all_found c.args.graphs.now c.listed_stack.result c.stack_violations.result c.least_line.result c.least_line-2.result c.least_line-3.result
    c.stack_violations.ensures c.least_line.ensures c.least_line-2.ensures c.least_line-3.ensures c.listed_stack.ensures
