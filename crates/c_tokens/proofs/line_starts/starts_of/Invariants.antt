use Rattle.std.proofs.Common.{◌≡◌, ◌++◌, drop}
use Rattle.c_tokens.specs.Lines.{starts_after, starts_of}
use Rattle.c_tokens.proofs.line_starts.starts_of.Given as goal

-- the beginnings so far, and those of what is left, are all
abbrev pub invariant-loop-i : goal.invariant-loop-i
invariant-loop-i l = l.starts.items ++ starts_after l.i (drop l.i l.text) ≡ starts_of l.text
