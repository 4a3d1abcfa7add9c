use Rattle.std.proofs.Common.{◌==◌, ap, ◌∙◌}
use Rattle.blk_deps.proofs.GroundBits.{one_bit}
use Rattle.blk_deps.proofs.ground.registers.only.Goals as goal

pub returns-then-number-lt64 : goal.returns-then-number-lt64
returns-then-number-lt64 c = λ p within. one_bit c.place_number-number.result p c.if-number-lt64.true
    ∙ ap (λ n. p == n) c.place_number-number.ensures
