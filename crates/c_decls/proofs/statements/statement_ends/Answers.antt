use Rattle.std.proofs.Common.{◌+◌, ◌-◌, arith, ◌∙◌, length-set}
use Rattle.c_decls.proofs.StatementLemmas.{ends_more, rest}
use Rattle.c_decls.proofs.statements.statement_ends.Goals as goal

pub loop-i-preserved : goal.loop-i-preserved
loop-i-preserved c = record {
  within = omega (arith, c.loop-i.invariant.within);
  count = length-set _ _ _ ∙ c.loop-i.invariant.count;
  known = ends_more c.args.source.now c.loop-i.ends.items c.loop-i.i (c.loop-i.i - 1) c.statement_end_by-end.result (omega (arith, c.loop-i-test.true)) c.loop-i.invariant.within c.loop-i.invariant.count c.loop-i.invariant.known (rw (c.deref.ensures.value, rest c.loop-i.ends.items (c.loop-i.i - 1 + 1)) at c.statement_end_by-end.ensures.is);
}
