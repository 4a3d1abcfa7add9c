use Rattle.std.proofs.Common.{◌∙◌, ap, sym, unwrap_or}
use Rattle.c_words.specs.declared.word.Word.TheVariants.{Missing}
use Rattle.c_words.proofs.NameLemmas.{there-get}
use Rattle.c_words.proofs.source.Source.word.Goals as goal

pub returns-clause-there : goal.returns-clause-there
returns-clause-there c =
    let found = c.unwrap_or.ensures ∙ ap (λ o. unwrap_or o Missing) (c.copied.ensures ∙ c.get.ensures.value) in
    rw (← c.self.view_is) (λ inside missing. there-get c.self.inside.text.now c.self.inside.tokens.now.list c.self.inside.words c.args.i c.self.invariant.each_word inside (sym found ∙ missing))
