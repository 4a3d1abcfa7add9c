use Rattle.std.proofs.Common.{◌≡◌, drop}
use Rattle.asm_core.specs.Company.{same_company}
use Rattle.asm_places.proofs.company.same_company.Given as goal

-- the rest has the same company where the whole has
abbrev pub invariant-loop-k : goal.invariant-loop-k
invariant-loop-k l = same_company l.fn.p (drop l.k l.fn.xs) l.fn.q (drop l.k l.fn.ys) ≡ same_company l.fn.p l.fn.xs l.fn.q l.fn.ys
