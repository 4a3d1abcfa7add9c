use Rattle.std.proofs.Common.{◌≡◌, ◌<◌, ◌≤◌, length}
use Rattle.c_decls.specs.Recovery.{body_behind}
use Rattle.c_decls.proofs.identifier_list.body_behind.Given as goal

-- what is left gives what the whole gives
abbrev pub invariant-loop-left : goal.invariant-loop-left
invariant-loop-left l = (l.first ≤ l.i) × (l.i < length l.source.tokens) × (body_behind l.source l.left l.i ≡ body_behind l.source l.more l.first)

abbrev pub decreases-loop-left : goal.decreases-loop-left
decreases-loop-left l = l.left
