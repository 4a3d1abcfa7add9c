use Rattle.std.proofs.Common.{◌∙◌, sym, ap, get_or}
use Rattle.std.specs.Prelude.{List}
use Rattle.c_tokens.specs.declared.token.Token.{Token}
use Rattle.c_tokens.specs.declared.token.TokenKind.TheVariants.{Name}
use Rattle.asm_statement.specs.declared.beginning.Opened.{Opened}
use Rattle.asm_statement.specs.Beginnings.{beginning_at, beginnings_of, behind}
use Rattle.asm_statement.proofs.BeginningLemmas.{found_one}
use Rattle.asm_statement.proofs.beginning.beginnings.Goals as goal

abbrev no_token : Token
no_token = record { kind = Name; span = record { from = 0; to = 0 } }

pub loop-i-preserved : goal.loop-i-preserved
loop-i-preserved c =
    found_one c.args.text.now c.loop-i.opened.items c.pass.new.opened.items c.loop-i.before c.behind-behind.result
    c.class_of-class.result c.loop-i.i c.args.tokens.now
    no_token c.loop-i.list.items c.push.new.self.items
    (beginnings_of c.args.text.now c.args.tokens.now) c.beginning-beginning.result
    c.loop-i-test.true c.class_of-class.ensures (sym c.begins-found.ensures ∙ c.if-not-found.false) c.in_ok-pass.ensures
    (c.behind-behind.ensures
    ∙ ap (λ (o : List Opened). behind c.args.text.now o c.loop-i.before
    (get_or c.args.tokens.now c.loop-i.i no_token)) c.deref-in-loop-i.ensures.value)
    (c.beginning-beginning.ensures
    ∙ ap (λ (o : List Opened). beginning_at c.loop-i.i o c.loop-i.before) c.deref.ensures.value)
    c.in_ok-push.ensures.items c.loop-i.invariant
