use Rattle.std.proofs.Common.{◌+◌, ◌*◌, ◌∙◌, sym, drop, get_or}
use Rattle.std.proofs.lemmas.List.{drop_more, drop_all}
use Rattle.c_literals.specs.Digits.{digit_value, radix}
use Rattle.c_literals.proofs.NumberLemmas.{number_whole, number_past, number_more, fitting-below}
use Rattle.c_literals.proofs.number.number.Goals as goal

pub loop-digit-preserved : goal.loop-digit-preserved
loop-digit-preserved c = let digits = c.args.digits.now in let k = c.loop-digit.digit-index in
    record {
      small = fitting-below (c.loop-digit.value * radix c.args.base + digit_value (get_or digits k 0)) c.in_ok-value.value (sym c.with_digit.ensures ∙ c.in_ok-value.was);
      same = number_more c.args.base c.loop-digit.value (get_or digits k 0) c.in_ok-value.value digits (drop k digits) (drop (k + 1) digits)
          (drop_more digits k 0 c.loop-digit-test.true) (sym c.with_digit.ensures ∙ c.in_ok-value.was) c.loop-digit.invariant.same;
    }

pub returns-in_err-value : goal.returns-in_err-value
returns-in_err-value c = let digits = c.args.digits.now in let k = c.loop-digit.digit-index in
    c.from_residual.ensures ∙ number_past c.args.base c.loop-digit.value (get_or digits k 0) digits (drop k digits) (drop (k + 1) digits)
    (drop_more digits k 0 c.loop-digit-test.true) (sym c.with_digit.ensures ∙ c.in_err-value.was) c.loop-digit.invariant.same

pub returns : goal.returns
returns c = let digits = c.args.digits.now in let k = c.loop-digit.digit-index in
    number_whole c.args.base c.loop-digit.value digits (drop k digits) (drop_all k digits c.loop-digit-test.false) c.loop-digit.invariant.small c.loop-digit.invariant.same
