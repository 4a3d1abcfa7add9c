use Rattle.std.proofs.Common.{◌≡◌, ◌≤◌, length, drop}
use Rattle.c_decls.specs.Statements.{level_ends}
use Rattle.c_decls.proofs.statements.level_ends.Given as goal

-- the ends from the index on are known
abbrev pub invariant-loop-i : goal.invariant-loop-i
invariant-loop-i l = record {
  within : l.i ≤ length l.source.tokens;
  count : length l.ends.items ≡ length l.source.tokens;
  known : drop l.i l.ends.items ≡ level_ends l.source l.i (drop l.i l.source.tokens);
}

abbrev pub decreases-loop-i : goal.decreases-loop-i
decreases-loop-i l = l.i
