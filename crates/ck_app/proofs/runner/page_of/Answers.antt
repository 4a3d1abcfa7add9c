use Rattle.std.proofs.Common.{Some, Err, sym, ◌∙◌, ap}
use Rattle.std.specs.String.{string_bytes}
use Rattle.ck_app.proofs.PageLaws.{judged_page, too_large_page}
use Rattle.ck_app.proofs.runner.page_of.Goals as goal

pub returns-in_ok-judge-in-Ok-clause-page : goal.returns-in_ok-judge-in-Ok-clause-page
returns-in_ok-judge-in-Ok-clause-page g c =
    judged_page c.args.strict c.args.name.now c.as_slice.result.now (g.F.Files.outside c.args.files.now) (g.F.Files.outside c.read_all.new.files)
    (λ told. c.in-Ok.ensures.whole told ∙ ap Some (sym c.as_slice.ensures))
    c.in_ok-judge-in-Ok.field-0.status (string_bytes c.in_ok-judge-in-Ok.field-0.text) c.in_ok-judge-in-Ok.ensures

pub returns-in_ok-too_large_line-in-Err-TooLarge-clause-page : goal.returns-in_ok-too_large_line-in-Err-TooLarge-clause-page
returns-in_ok-too_large_line-in-Err-TooLarge-clause-page g c = λ told.
    too_large_page c.args.strict c.args.name.now _ _ (c.in-Err-TooLarge.ensures.too_large (ap Err c.in-Err-TooLarge.field-0-is) told) c.in_ok-too_large_line-in-Err-TooLarge.ensures
