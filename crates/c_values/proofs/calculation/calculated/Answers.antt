use Rattle.std.proofs.Common.{◌≡◌, Some, arith}
use Rattle.std.proofs.lemmas.Int.{to_z-of_z}
use Rattle.std.specs.Int.{int_wrap, w128}
use Rattle.std.specs.Option.{option_map}
use Rattle.c_values.specs.Numbers.{cut}
use Rattle.c_values.specs.Calculations.{exact, calculated}
use Rattle.c_values.proofs.CutLemmas.{calculated_is}
use Rattle.c_values.proofs.calculation.calculated.Goals as goal

pub returns : goal.returns
returns c =
    let a = c.args in
    let given : c.exact.result ≡ option_map (int_wrap w128) (exact a.op (cut a.size a.signed a.x) (cut a.size a.signed a.y)) = grind (arith, to_z-of_z) in
    let is : option_map (cut a.size a.signed) c.exact.result ≡ calculated a.op a.size a.signed a.x a.y = calculated_is a.op a.size a.signed a.x a.y c.exact.result given in
    let found : c.exact.result ≡ Some c.in_ok-exact.exact = grind arith in
    let at : option_map (cut a.size a.signed) (Some c.in_ok-exact.exact) ≡ calculated a.op a.size a.signed a.x a.y = cc in
    grind (arith, to_z-of_z)
