use Rattle.std.proofs.Common.{◌≡◌, All, drop}
use Rattle.c_types.specs.Extents.{IsExtent}
use Rattle.c_types.specs.Layouts.{extents_of}
use Rattle.c_types.proofs.Extended.{after}
use Rattle.c_types.proofs.members.extents.Given as goal

-- Those of the members so far, and then those of the rest, are those of all.
abbrev pub invariant-loop-k : goal.invariant-loop-k
invariant-loop-k l = record {
  same : after l.extents (extents_of l.tags l.place (drop l.k l.members)) ≡ extents_of l.tags l.place l.members;
  sound : All IsExtent l.extents;
}
