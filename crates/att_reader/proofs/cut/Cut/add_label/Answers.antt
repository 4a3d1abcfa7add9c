use Rattle.std.proofs.Common.{refl, sym, ◌∙◌}
use Rattle.att_reader.proofs.CutLemmas.{label_first, label_again}
use Rattle.att_reader.proofs.cut.Cut.add_label.Goals as goal

pub returns-then-has_again : goal.returns-then-has_again
returns-then-has_again c =
    label_again c.args.self.now c.end_waiting.new.self _ c.args.name.now c.args.from c.in_ok-end_waiting.ensures (sym c.has_again.ensures ∙ c.if-has_again.true) c.in_ok-push.ensures.items refl refl refl

pub returns : goal.returns
returns c =
    label_first c.args.self.now c.end_waiting.new.self _ c.args.name.now c.args.from.atoms.now c.args.name c.in_ok-end_waiting.ensures (sym c.has_again.ensures ∙ c.if-has_again.false) refl c.in_ok-push-2.ensures.items refl refl c.in_ok-add.ensures
