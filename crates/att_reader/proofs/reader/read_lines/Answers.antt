use Rattle.std.proofs.Common.{◌∙◌, ap, arith}
use Rattle.asm_core.specs.Reading.Cut.{instruction_count}
use Rattle.asm_core.specs.Reading.Names.{names}
use Rattle.asm_core.proofs.ReadingLaws.Law.{pieces_read_whole}
use Rattle.asm_core.proofs.ReadingLaws.ReadExactly.{pieces_read_exactly}
use Rattle.asm_places.proofs.Lettered.{lettered_there}
use Rattle.att_reader.specs.Raws.{raws_as}
use Rattle.att_reader.proofs.ReaderLemmas.{raws_same, too_many, not_many, template_below}
use Rattle.att_reader.proofs.reader.read_lines.Goals as goal

pub returns-then-count-gt-MOST-clause-is : goal.returns-then-count-gt-MOST-clause-is
returns-then-count-gt-MOST-clause-is c =
    let of = c.deref-2.ensures.value ∙ c.in_ok-atoms.ensures in
    let same = raws_same c.args.interface.now c.args.shape.now c.args.pieces.now c.deref-2.result.now (raws_as c.in_ok-raws.raws.items) of c.in_ok-raws.ensures in
    let count = c.instruction_count-count.ensures ∙ ap (λ rs. instruction_count (raws_as rs)) c.deref-4.ensures.value in
    rw (← same) (too_many names (raws_as c.in_ok-raws.raws.items) (omega arith))

pub lines-requires-clause-holes : goal.lines-requires-clause-holes
lines-requires-clause-holes c =
    rw (c.deref-5.ensures.value, c.in_ok-raws.ensures)
    (template_below c.args.interface.now c.args.shape.now c.args.pieces.now c.deref-2.result.now c.requires.interface c.requires.pieces (c.deref-2.ensures.value ∙ c.in_ok-atoms.ensures))

pub returns-clause-is : goal.returns-clause-is
returns-clause-is c =
    let of = c.deref-2.ensures.value ∙ c.in_ok-atoms.ensures in
    let same = raws_same c.args.interface.now c.args.shape.now c.args.pieces.now c.deref-2.result.now (raws_as c.in_ok-raws.raws.items) of c.in_ok-raws.ensures in
    let count = c.instruction_count-count.ensures ∙ ap (λ rs. instruction_count (raws_as rs)) c.deref-4.ensures.value in
    rw (c.in_ok-lines.ensures, c.deref-5.ensures.value, ← same) (not_many names (raws_as c.in_ok-raws.raws.items) (omega arith))

pub returns-clause-law : goal.returns-clause-law
returns-clause-law c =
    pieces_read_whole names c.args.interface.now c.args.shape.now c.args.pieces.now c.in_ok-lines.field-0 c.requires.interface c.requires.pieces (returns-clause-is c)

pub returns-clause-exactly : goal.returns-clause-exactly
returns-clause-exactly c =
    pieces_read_exactly names c.args.interface.now c.args.shape.now c.args.pieces.now c.in_ok-lines.field-0 c.requires.interface
    (lettered_there c.args.interface.now c.args.shape.now c.requires.interface) c.requires.pieces (returns-clause-is c)
