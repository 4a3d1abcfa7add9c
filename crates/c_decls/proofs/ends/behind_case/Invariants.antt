use Rattle.std.proofs.Common.{◌≡◌, ◌≤◌, ◌<◌, ◌-◌, length}
use Rattle.c_decls.specs.Ends.{behind_case}
use Rattle.c_decls.proofs.EndLemmas.{case_from}
use Rattle.c_decls.proofs.ends.behind_case.Given as goal

-- what is left gives what the whole gives
abbrev pub invariant-loop-i : goal.invariant-loop-i
invariant-loop-i l = (l.keyword < l.i) × (l.waiting ≤ l.i) × (l.keyword < length l.source.tokens → l.i ≤ length l.source.tokens) × (case_from l.source l.i l.waiting ≡ behind_case l.source l.keyword)

abbrev pub decreases-loop-i : goal.decreases-loop-i
decreases-loop-i l = length l.source.tokens - l.i
