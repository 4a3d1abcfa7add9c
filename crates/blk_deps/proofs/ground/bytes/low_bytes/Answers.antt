use Rattle.std.proofs.Common.{◌≤◌, nat_lt, refl, sym, ap, ◌∙◌, arith}
use Rattle.std.proofs.lemmas.Bool.{lt-ltb}
use Rattle.blk_deps.proofs.GroundBytes.{low_told}
use Rattle.blk_deps.proofs.ground.bytes.low_bytes.Goals as goal

pub returns-in-1-clause-bits : goal.returns-in-1-clause-bits
returns-in-1-clause-bits c = λ b within. low_told 1 1 refl refl refl refl b within ∙ sym (ap (nat_lt b) c.in-1.is)

pub returns-in-2-clause-bits : goal.returns-in-2-clause-bits
returns-in-2-clause-bits c = λ b within. low_told 3 2 refl refl refl refl b within ∙ sym (ap (nat_lt b) c.in-2.is)

pub returns-in-3-clause-bits : goal.returns-in-3-clause-bits
returns-in-3-clause-bits c = λ b within. low_told 7 3 refl refl refl refl b within ∙ sym (ap (nat_lt b) c.in-3.is)

pub returns-in_default-clause-bits : goal.returns-in_default-clause-bits
returns-in_default-clause-bits c = λ b within.
    let many : 4 ≤ c.args.count = omega arith in
    low_told 15 4 refl refl refl refl b within ∙ lt-ltb b 4 within
    ∙ sym (lt-ltb b c.args.count (omega (arith, within, many)))
