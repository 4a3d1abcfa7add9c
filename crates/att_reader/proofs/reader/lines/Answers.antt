use Rattle.std.proofs.Common.{◌≡◌, ◌∙◌, arith, map}
use Rattle.asm_core.specs.Reading.Line.{readings_of}
use Rattle.asm_core.specs.Reading.Names.{names}
use Rattle.att_reader.specs.Raws.{raws_as}
use Rattle.att_reader.specs.Text.{defined}
use Rattle.att_reader.proofs.ReaderLemmas.{lines_made, readings_are, readings-length}
use Rattle.att_reader.proofs.reader.lines.Goals as goal

pub left_out-requires : goal.left_out-requires
left_out-requires c =
    let few = readings-length names (map defined c.as_slice.result.now) 0 (raws_as c.args.raws.now) in
    rw (c.deref-2.ensures.value, c.in_ok-readings.ensures, few) (omega arith)

pub targets-requires : goal.targets-requires
targets-requires c =
    let few = readings-length names (map defined c.as_slice.result.now) 0 (raws_as c.args.raws.now) in
    rw (c.deref-3.ensures.value, c.in_ok-readings.ensures, few) (omega arith)

pub returns : goal.returns
returns c =
    let all = readings_are names c.as_slice.result.now (raws_as c.args.raws.now) (c.as_slice.ensures ∙ c.in_ok-labels.ensures) in
    let read : c.in_ok-readings.readings.items ≡ readings_of names (raws_as c.args.raws.now) = c.in_ok-readings.ensures ∙ all in
    lines_made (raws_as c.args.raws.now) (readings_of names (raws_as c.args.raws.now)) _
    (rw (c.deref.ensures.value, read, c.requires.count) at c.in_ok-insts.ensures)
    (c.from_vec.ensures ∙ c.in_ok-places.ensures) (c.from_vec-2.ensures ∙ c.in_ok-named.ensures)
    (rw (c.deref-2.ensures.value, read) at c.in_ok-left_out.ensures) (c.labels-2.view_is ∙ c.in_ok-labels.ensures)
    (c.from_vec-3.ensures ∙ (rw (c.deref-3.ensures.value, read) at c.in_ok-targets.ensures))
