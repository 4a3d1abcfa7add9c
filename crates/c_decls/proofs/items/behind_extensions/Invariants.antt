use Rattle.std.proofs.Common.{◌≡◌, ◌-◌, length}
use Rattle.c_decls.specs.Items.{behind_extensions}
use Rattle.c_decls.proofs.items.behind_extensions.Given as goal

-- what is left gives what the whole gives
abbrev pub invariant-loop-i : goal.invariant-loop-i
invariant-loop-i l = behind_extensions l.source l.i ≡ behind_extensions l.source l.first

abbrev pub decreases-loop-i : goal.decreases-loop-i
decreases-loop-i l = length l.source.tokens - l.i
