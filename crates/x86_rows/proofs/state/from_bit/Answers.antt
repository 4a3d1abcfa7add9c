use Rattle.std.proofs.Common.{◌^◌, ◌<◌, ◌≤◌, arith, sym}
use Rattle.std.proofs.Math.Nat.{div-eq_of_lt, pow-le-pow_right}
use Rattle.x86_rows.proofs.state.from_bit.Goals as goal

pub returns-else-n-lt64 : goal.returns-else-n-lt64
returns-else-n-lt64 c =
    let large : 2 ^ 64 ≤ 2 ^ c.args.n = (let few : 64 ≤ c.args.n = omega arith in pow-le-pow_right (omega arith) few) in
    let below : c.args.choice < 2 ^ c.args.n = omega arith in
    sym (div-eq_of_lt below)
