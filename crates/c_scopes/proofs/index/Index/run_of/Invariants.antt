use Rattle.std.proofs.Common.{◌+◌, ◌≤◌, [], ◌∷◌, ◌++◌, length}
use Rattle.c_scopes.specs.Seen.{space_of}
use Rattle.c_scopes.specs.Chain.{LeadsTo, Outside}
use Rattle.c_scopes.proofs.index.Index.run_of.Given as goal

abbrev pub invariant-loop-run : goal.invariant-loop-run
invariant-loop-run l = record {
  leads : LeadsTo (l.self.declarations.items ++ l.declaration ∷ []) (space_of l.declaration.entity) l.declaration.name (Outside l.run) (length l.self.declarations.items + 1) l.run.before;
  back : l.run.before ≤ length l.self.declarations.items;
  fits : l.run.length + l.run.before ≤ length l.self.declarations.items + 1;
}

abbrev pub decreases-loop-run : goal.decreases-loop-run
decreases-loop-run l = l.run.before
