use Rattle.std.proofs.Common.{◌≡◌, ◌++◌, drop}
use Rattle.blk_patch.specs.Edits.{edits_from, constraint_edits}
use Rattle.blk_patch.proofs.constraint.push_constraint.Given as goal

-- with those that are left
abbrev pub invariant-loop-n : goal.invariant-loop-n
invariant-loop-n l =
    l.edits ++ edits_from l.change l.position (drop l.n l.bytes) (drop l.n l.ats)
    ≡ l.initial.edits ++ constraint_edits l.change l.constraint
