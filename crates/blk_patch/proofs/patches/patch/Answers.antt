use Rattle.blk_patch.proofs.OnlyLaws.{only_answer}
use Rattle.blk_patch.proofs.PatchLaws.{least_answer, none_answer}
use Rattle.blk_patch.proofs.TighterLaws.{tightens_answer}
use Rattle.blk_patch.proofs.patches.patch.Goals as goal

pub returns-clause-only : goal.returns-clause-only
returns-clause-only c =
    only_answer c.args.statement.now c.args.interface.now c.find_patch.result c.find_patch.ensures

pub returns-clause-tightens : goal.returns-clause-tightens
returns-clause-tightens c =
    tightens_answer c.args.statement.now c.args.interface.now c.find_patch.result c.find_patch.ensures

pub returns-clause-least : goal.returns-clause-least
returns-clause-least c =
    least_answer c.args.statement.now c.args.interface.now c.requires.interface c.requires.stated c.requires.letters c.find_patch.result
    c.find_patch.ensures

pub returns-clause-none : goal.returns-clause-none
returns-clause-none c =
    none_answer c.args.statement.now c.args.interface.now c.requires.interface c.requires.stated c.requires.letters c.find_patch.result
    c.find_patch.ensures
