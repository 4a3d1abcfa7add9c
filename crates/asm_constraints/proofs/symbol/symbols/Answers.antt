use Rattle.std.proofs.Common.{◌+◌, refl, arith}
use Rattle.std.proofs.lemmas.List.{take_rest}
use Rattle.asm_constraints.proofs.SymbolLemmas.{symbols_from-more, symbols_from-end}
use Rattle.asm_constraints.proofs.symbol.symbols.Goals as goal

pub loop-at-preserved : goal.loop-at-preserved
loop-at-preserved c = record {
  within = grind arith;
  same = symbols_from-more _ c.args.text.now _ c.loop-at.at _ _ _ _ _ c.loop-at-test.true (take_rest c.args.text.now (c.loop-at.at + 1)) c.symbol_at-symbol.ensures.is refl
      c.in_ok-push.ensures.ok c.loop-at.invariant.same;
}

pub returns : goal.returns
returns c = symbols_from-end _ c.args.text.now c.loop-at.at _ _ c.loop-at-test.false c.loop-at.invariant.same
