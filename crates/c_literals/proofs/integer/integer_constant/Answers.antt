use Rattle.std.proofs.Common.{◌∙◌, arith, sym, take, drop, length, slice_range, None, Some, refl}
use Rattle.c_literals.proofs.ConstantLemmas.{constant-empty, constant-great, constant-spelt, behind, constant-fits}
use Rattle.c_literals.proofs.integer.integer_constant.Goals as goal

pub returns-then-count-eq0-clause-is : goal.returns-then-count-eq0-clause-is
returns-then-count-eq0-clause-is c = let a = c.split_base-base in let b = c.digit_count-count in
    constant-empty a.result.0 c.args.bytes.now a.result.1.now b.result a.ensures.base a.ensures.body b.ensures.is c.if-count-eq0.true

pub returns-in_err-value-clause-is : goal.returns-in_err-value-clause-is
returns-in_err-value-clause-is c = let a = c.split_base-base in let b = c.digit_count-count in
    c.from_residual.ensures ∙ constant-great a.result.0 c.args.bytes.now a.result.1.now (take b.result a.result.1.now) (drop b.result a.result.1.now) b.result a.ensures.base a.ensures.body b.ensures.is
    (omega arith) b.ensures.within refl refl (sym c.number.ensures ∙ c.in_err-value.was)

pub returns-in_err-suffix-clause-is : goal.returns-in_err-suffix-clause-is
returns-in_err-suffix-clause-is c = let a = c.split_base-base in let b = c.digit_count-count in
    c.from_residual-in_err-suffix.ensures ∙ constant-spelt a.result.0 c.args.bytes.now a.result.1.now (take b.result a.result.1.now) (slice_range a.result.1.now b.result (length a.result.1.now)) b.result c.in_ok-value.value None a.ensures.base a.ensures.body b.ensures.is
    (omega arith) b.ensures.within refl (behind a.result.1.now b.result b.ensures.within) (sym c.number.ensures ∙ c.in_ok-value.was) (sym c.suffix_of.ensures ∙ c.in_err-suffix.was)

pub returns-clause-is : goal.returns-clause-is
returns-clause-is c = let a = c.split_base-base in let b = c.digit_count-count in
    c.first_fit.ensures ∙ constant-spelt a.result.0 c.args.bytes.now a.result.1.now (take b.result a.result.1.now) (slice_range a.result.1.now b.result (length a.result.1.now)) b.result c.in_ok-value.value (Some c.in_ok-suffix.suffix) a.ensures.base a.ensures.body b.ensures.is
    (omega arith) b.ensures.within refl (behind a.result.1.now b.result b.ensures.within) (sym c.number.ensures ∙ c.in_ok-value.was) (sym c.suffix_of.ensures ∙ c.in_ok-suffix.was)

pub returns-clause-fits : goal.returns-clause-fits
returns-clause-fits c = constant-fits c.in_ok-value.value c.split_base-base.result.0 c.in_ok-suffix.suffix c.first_fit.result c.first_fit.ensures
