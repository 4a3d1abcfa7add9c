use Rattle.std.proofs.Common.{◌≡◌, arith, drop}
use Rattle.c_tokens.specs.Puncts.{punctuator_len}
use Rattle.c_tokens.proofs.PunctLemmas.{punctuator_len-at, punctuator_fits}
use Rattle.c_tokens.proofs.punctuator.punctuator_len.Goals as goal

pub returns-clause-within : goal.returns-clause-within
returns-clause-within c =
    let at = punctuator_len-at c.args.text.now c.args.i in
    let is : c.len_of.result ≡ punctuator_len (drop c.args.i c.args.text.now) = cc in
    omega (arith, punctuator_fits c.args.text.now c.args.i c.requires)
