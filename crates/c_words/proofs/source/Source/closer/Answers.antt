use Rattle.std.proofs.Common.{◌∙◌, ap, sym}
use Rattle.std.specs.Option.{option_flatten}
use Rattle.c_words.proofs.CloserLemmas.{closer_at-bounds}
use Rattle.c_words.proofs.source.Source.closer.Goals as goal

pub returns-clause-within : goal.returns-clause-within
returns-clause-within c =
    rw (← c.self.view_is) (closer_at-bounds c.self.inside.text.now c.self.inside.tokens.now.list c.self.inside.closers c.args.i c.in_ok-closer.closer c.self.invariant.each_closer
    (sym (c.in_ok-closer.ensures ∙ ap option_flatten (c.copied.ensures ∙ c.get.ensures.value))))
