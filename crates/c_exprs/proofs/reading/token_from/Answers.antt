use Rattle.std.proofs.Common.{◌∙◌, length, subst, rules}
use Rattle.c_exprs.proofs.TokenLemmas.{token-found}
use Rattle.c_exprs.proofs.reading.token_from.Goals as goal

pub returns : goal.returns
returns c =
    let same = c.tokens.ensures in
    token-found 0 (length c.args.source.now.text) c.args.source.now.tokens c.args.offset c.begun_before.result c.requires
    (rw (← same) c.begun_before.ensures.within) (rw (← same) c.begun_before.ensures.point)
