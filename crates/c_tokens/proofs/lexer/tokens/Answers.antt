use Rattle.std.proofs.Common.{◌∙◌, [], List, ap, sym}
use Rattle.c_tokens.specs.declared.token.Token.{Token}
use Rattle.c_tokens.specs.Brackets.{unbalanced_at}
use Rattle.c_tokens.proofs.CutLemmas.{unbalanced_law, balanced_law, few_law}
use Rattle.c_tokens.proofs.lexer.tokens.Goals as goal

pub returns-in-Some-clause-explained : goal.returns-in-Some-clause-explained
returns-in-Some-clause-explained c =
    unbalanced_law c.args.text.now c.in_ok-list.list c.in-Some.offset c.in_ok-list.ensures.explained
    (sym c.in-Some.is ∙ c.in_ok-offset.ensures ∙ ap (λ (ts : List Token). unbalanced_at c.args.text.now [] ts) c.as_slice.ensures)

pub returns-in-None-clause-explained : goal.returns-in-None-clause-explained
returns-in-None-clause-explained c =
    balanced_law c.args.text.now c.in_ok-list.list c.in_ok-list.ensures.explained
    (sym c.in-None.is ∙ c.in_ok-offset.ensures ∙ ap (λ (ts : List Token). unbalanced_at c.args.text.now [] ts) c.as_slice.ensures)

pub returns-in-None-clause-few : goal.returns-in-None-clause-few
returns-in-None-clause-few c = few_law c.args.text.now c.in_ok-list.list c.in_ok-list.ensures.explained
