use Rattle.blk_patch.proofs.FormLaws.{forms_in}
use Rattle.blk_patch.proofs.OrderLaws.{apart_in}
use Rattle.blk_patch.proofs.editing.edits.Goals as goal

pub returns-clause-forms : goal.returns-clause-forms
returns-clause-forms c = forms_in c.args.items.now c.args.body.now c.edits_in.result c.edits_in.ensures

pub returns-clause-apart : goal.returns-clause-apart
returns-clause-apart c = apart_in c.args.items.now c.args.body.now c.edits_in.result c.edits_in.ensures
