use Rattle.std.proofs.Common.{◌≡◌, ◌∙◌, map}
use Rattle.std.proofs.lemmas.List.{length-map}
use Rattle.asm_core.specs.Pieces.{piece_code}
use Rattle.asm_core.specs.Comments.{comments_of}
use Rattle.asm_template.proofs.PieceLaws.{marks-length}
use Rattle.asm_template.proofs.expansion.expand.Goals as goal

pub signs-requires : goal.signs-requires
signs-requires c =
    let codes = c.deref.result.now in
    let marks : c.deref-2.result.now ≡ comments_of codes = c.deref-2.ensures.value ∙ c.in_ok-marks.ensures in
    let coded : codes ≡ map piece_code c.args.pieces.now = c.deref.ensures.value ∙ c.in_ok-codes.ensures in
    rw (marks, marks-length codes, coded) (length-map c.args.pieces.now piece_code)
