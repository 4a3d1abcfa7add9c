use Rattle.std.proofs.Common.{refl, sym, ◌∙◌, arith}
use Rattle.att_reader.proofs.CutLemmas.{left_label, left_prefix, left_body, left_end, left_over, IsWord}
use Rattle.att_reader.proofs.cut.Cut.add_statement.Goals as goal

pub returns-then-is_empty : goal.returns-then-is_empty
returns-then-is_empty c =
    left_end c.args.self.now c.loop-left.self c.args.statement.atoms.now c.loop-left.left c.loop-left.labels c.loop-left.rest c.begun-text.result c.loop-left.invariant (omega arith)
    c.begun-text.ensures.is (sym c.is_empty.ensures ∙ c.if-is_empty.true)

pub loop-left-preserved-then-begins_label : goal.loop-left-preserved-then-begins_label
loop-left-preserved-then-begins_label c =
    let word : IsWord c.begun-text.result c.word_len-n.result = record { same = c.begun-text.ensures.same; len = c.word_len-n.ensures.is; some = sym c.is_empty.ensures ∙ c.if-is_empty.false } in
    left_label c.args.self.now c.loop-left.self c.add_label.new.self c.args.statement.atoms.now c.loop-left.left c.loop-left.labels c.loop-left.rest c.begun-text.result c.loop-left.invariant (omega arith)
    c.begun-text.ensures.is c.word_len-n.result _ c.rest-rest.result word (sym c.begins_label.ensures.is ∙ c.if-begins_label.true) refl c.in_ok-add_label.ensures c.rest-rest.ensures.is c.rest-rest.ensures.same

pub returns-in_default : goal.returns-in_default
returns-in_default c =
    let word : IsWord c.begun-text.result c.word_len-n.result = record { same = c.begun-text.ensures.same; len = c.word_len-n.ensures.is; some = sym c.is_empty.ensures ∙ c.if-is_empty.false } in
    left_body c.args.self.now c.loop-left.self c.add_body.new.self c.args.statement.atoms.now c.loop-left.left c.loop-left.labels c.loop-left.rest c.begun-text.result c.loop-left.invariant (omega arith)
    c.begun-text.ensures.is c.word_len-n.result word (sym c.begins_label.ensures.is ∙ c.if-begins_label.false) (sym c.prefix_named.ensures ∙ c.in_default.is) c.in_ok-add_body.ensures

pub loop-left-preserved : goal.loop-left-preserved
loop-left-preserved c =
    let word : IsWord c.begun-text.result c.word_len-n.result = record { same = c.begun-text.ensures.same; len = c.word_len-n.ensures.is; some = sym c.is_empty.ensures ∙ c.if-is_empty.false } in
    left_prefix c.args.self.now c.loop-left.self c.add_prefix.new.self c.args.statement.atoms.now c.loop-left.left c.loop-left.labels c.loop-left.rest c.begun-text.result c.loop-left.invariant (omega arith)
    c.begun-text.ensures.is c.word_len-n.result c.in-Some.prefix c.rest-rest-in-loop-left.result word (sym c.begins_label.ensures.is ∙ c.if-begins_label.false) (sym c.prefix_named.ensures ∙ c.in-Some.is)
    c.in_ok-add_prefix.ensures c.rest-rest-in-loop-left.ensures.is c.rest-rest-in-loop-left.ensures.same

pub returns : goal.returns
returns c = left_over c.args.self.now c.loop-left.self c.args.statement.atoms.now c.loop-left.left c.loop-left.labels c.loop-left.rest c.loop-left.invariant (omega arith)
