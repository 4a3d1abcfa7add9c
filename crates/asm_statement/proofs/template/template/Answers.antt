use Rattle.c_tokens.specs.declared.token.TokenKind.TheVariants.{Name}
use Rattle.asm_statement.specs.Templates.{template_of}
use Rattle.asm_statement.proofs.TemplateLemmas.{template_one}
use Rattle.asm_statement.proofs.template.template.Goals as goal

pub loop-token-preserved : goal.loop-token-preserved
loop-token-preserved c =
    template_one c.args.text.now c.args.tokens.now c.loop-token.token-index (record { kind = Name; span = record { from = 0; to = 0 } })
    c.in_ok-more.more.items c.loop-token.list.items c.append.new.self.items (template_of c.args.text.now c.args.tokens.now)
    c.loop-token-test.true c.in_ok-more.ensures c.in_ok-append.ensures.items c.loop-token.invariant
