use Rattle.std.proofs.Common.{◌≡◌, ◌<◌, ◌∙◌, ◌+◌, arith, sym, Some}
use Rattle.c_tokens.specs.declared.token.Token.{Token}
use Rattle.c_tokens.specs.declared.token.TokenKind.TheVariants.{Name}
use Rattle.c_literals.specs.Literals.{total_length}
use Rattle.c_literals.proofs.LengthLemmas.{total-none, total-more, total-great, total-done, concatenated-whole, concatenated-few}
use Rattle.c_literals.proofs.string.concatenated_length.Goals as goal

-- no token
abbrev none : Token
none = record { kind = Name; span = record { from = 0; to = 0 } }

pub returns-in_default-clause-is : goal.returns-in_default-clause-is
returns-in_default-clause-is c =
    total-none c.args.text.now c.args.tokens.now c.loop-token.token-index none c.loop-token.total (total_length c.args.text.now c.args.tokens.now) c.loop-token-test.true
    (sym c.in_default.is ∙ c.in_ok-length.ensures.is) c.loop-token.invariant.same

pub returns-in_default-clause-whole : goal.returns-in_default-clause-whole
returns-in_default-clause-whole c = λ ordered short. concatenated-whole c.args.text.now c.args.tokens.now _ (returns-in_default-clause-is c) ordered short

pub returns-in_default-checked_add-clause-is : goal.returns-in_default-checked_add-clause-is
returns-in_default-checked_add-clause-is c =
    total-great c.args.text.now c.args.tokens.now c.loop-token.token-index none c.loop-token.total c.in-Some.length (total_length c.args.text.now c.args.tokens.now) c.loop-token-test.true
    (sym c.in-Some.is ∙ c.in_ok-length.ensures.is) (omega (arith, c.in_default-checked_add.ensures)) c.loop-token.invariant.same

pub returns-in_default-checked_add-clause-whole : goal.returns-in_default-checked_add-clause-whole
returns-in_default-checked_add-clause-whole c = λ ordered short. concatenated-whole c.args.text.now c.args.tokens.now _ (returns-in_default-checked_add-clause-is c) ordered short

pub loop-token-preserved : goal.loop-token-preserved
loop-token-preserved c =
    let sum : c.in-Some-checked_add.sum ≡ c.loop-token.total + c.in-Some.length = c.in-Some-checked_add.ensures.1 in
    let small : c.loop-token.total + c.in-Some.length < 4294967296 = c.in-Some-checked_add.ensures.0 in
    record {
      small = omega arith;
      same = rw sum (total-more c.args.text.now c.args.tokens.now c.loop-token.token-index none c.loop-token.total c.in-Some.length (total_length c.args.text.now c.args.tokens.now) c.loop-token-test.true
          (sym c.in-Some.is ∙ c.in_ok-length.ensures.is) c.loop-token.invariant.same);
    }

pub returns-clause-is : goal.returns-clause-is
returns-clause-is c =
    total-done c.args.text.now c.args.tokens.now c.loop-token.token-index c.loop-token.total (total_length c.args.text.now c.args.tokens.now) c.loop-token-test.false c.loop-token.invariant.small c.loop-token.invariant.same

pub returns-clause-whole : goal.returns-clause-whole
returns-clause-whole c = λ ordered short. concatenated-whole c.args.text.now c.args.tokens.now _ (returns-clause-is c) ordered short

pub returns-clause-few : goal.returns-clause-few
returns-clause-few c = λ ordered. concatenated-few c.args.text.now c.args.tokens.now (Some c.loop-token.total) (returns-clause-is c) ordered
