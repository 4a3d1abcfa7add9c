use Rattle.std.proofs.Common.{sym, ◌∙◌}
use Rattle.register_search.proofs.OneChoice.{only_begun, only_kept, only_found, only_done}
use Rattle.register_search.proofs.class.Class.only_choice.Goals as goal

pub loop-choice-init : goal.loop-choice-init
loop-choice-init c = only_begun c.args.self.now

pub loop-choice-preserved-then-not-self-choice : goal.loop-choice-preserved-then-not-self-choice
loop-choice-preserved-then-not-self-choice c = only_kept c.args.self.now c.loop-choice.choice c.loop-choice.only c.if-not-self-choice.true c.loop-choice.invariant

pub loop-choice-preserved : goal.loop-choice-preserved
loop-choice-preserved c = only_found c.args.self.now c.loop-choice.choice c.loop-choice.only (sym c.is_some.ensures ∙ c.if-is_some.false) c.loop-choice-test.true c.loop-choice.invariant

pub returns : goal.returns
returns c = only_done c.args.self.now c.loop-choice.choice c.loop-choice.only c.loop-choice-test.false c.loop-choice.invariant
