use Rattle.std.proofs.Common.{◌≡◌, ◌+◌, ◌-◌, drop, take, refl, sym, ap, arith}
use Rattle.std.proofs.lemmas.List.{take_rest}
use Rattle.asm_core.specs.Constraint.{alternatives_in}
use Rattle.asm_constraints.proofs.SymbolLemmas.{alternatives-more, alternatives-last}
use Rattle.asm_constraints.proofs.symbol.alternatives.Goals as goal

pub loop-comma-preserved : goal.loop-comma-preserved
loop-comma-preserved c =
    let same_end : c.loop-comma.at + c.in-Some.comma - c.loop-comma.at ≡ c.in-Some.comma = omega arith in record {
      within = grind arith;
      same = alternatives-more c.args.outputs.now c.args.text.now _ _ c.loop-comma.at c.in-Some.comma _ _ _ _ (take_rest c.args.text.now c.loop-comma.at) (sym c.in-Some.ensures.is) refl
          (ap (λ n. take n (drop c.loop-comma.at c.args.text.now)) same_end) (grind arith) c.loop-comma.invariant.same;
    }

pub returns : goal.returns
unfolding alternatives_in
returns c = alternatives-last c.args.outputs.now c.args.text.now _ c.loop-comma.at _ _ _ (take_rest c.args.text.now c.loop-comma.at) (sym c.in_default.ensures.is) (grind arith) c.loop-comma.invariant.same
