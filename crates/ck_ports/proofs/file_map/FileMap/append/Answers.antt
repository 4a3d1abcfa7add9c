use Rattle.std.proofs.Common.{arith}
use Rattle.std.proofs.lemmas.Map.Text.{text_keys}
use Rattle.std.proofs.lemmas.Result.{err_from_is_err_and}
use Rattle.ck_ports.proofs.file_map.FileMap.append.Goals as goal

pub returns-in_err-extend_from_slice-clause-err : goal.returns-in_err-extend_from_slice-clause-err
returns-in_err-extend_from_slice-clause-err c =
    let p = err_from_is_err_and c.from_residual.result c.from_residual.ensures.1 in
    rw p.1 (λ name. grind (arith, text_keys))

pub returns-in_err-extend_from_slice-clause-others :
    goal.returns-in_err-extend_from_slice-clause-others
returns-in_err-extend_from_slice-clause-others c = λ other differs. grind (arith, text_keys)

pub returns-in_ok-extend_from_slice-clause-others :
    goal.returns-in_ok-extend_from_slice-clause-others
returns-in_ok-extend_from_slice-clause-others c = λ other differs. grind (arith, text_keys)
