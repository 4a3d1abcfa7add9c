use Rattle.std.proofs.Common.{◌≡◌, ◌≤◌, ◌+◌, ◌-◌, ◌∙◌, refl, length, arith}
use Rattle.c_tokens.specs.Lines.{bytes_since_newline}
use Rattle.c_tokens.proofs.StartLemmas.{place, place_fits}
use Rattle.c_tokens.proofs.line_starts.LineStarts.line_col.Goals as goal

pub overflow_sub-line : goal.overflow_sub-line
overflow_sub-line c =
    let le : c.args.offset ≤ length c.self.inside.text.now = rw c.self.view_is c.requires in
    let here = place c.self.inside.text.now c.deref.result.now c.args.offset c.lines_begun-line.result
    (c.deref.ensures.value ∙ c.self.invariant.1) le c.lines_begun-line.ensures.within c.lines_begun-line.ensures.point in
    omega (arith, here.some)

pub overflow_cast-result : goal.overflow_cast-result
overflow_cast-result c =
    let le : c.args.offset ≤ length c.self.inside.text.now = rw c.self.view_is c.requires in
    let here = place c.self.inside.text.now c.deref.result.now c.args.offset c.lines_begun-line.result
    (c.deref.ensures.value ∙ c.self.invariant.1) le c.lines_begun-line.ensures.within c.lines_begun-line.ensures.point in
    let fits = place_fits _ _ _ _ here le in
    omega (arith, fits, c.self.invariant.0)

pub overflow_sub-result : goal.overflow_sub-result
overflow_sub-result c =
    let le : c.args.offset ≤ length c.self.inside.text.now = rw c.self.view_is c.requires in
    let here = place c.self.inside.text.now c.deref.result.now c.args.offset c.lines_begun-line.result
    (c.deref.ensures.value ∙ c.self.invariant.1) le c.lines_begun-line.ensures.within c.lines_begun-line.ensures.point in
    let start = rw c.deref.ensures.value at here.is_start c.index-start.result.now in
    omega (arith, start, c.index-start.ensures)

pub returns : goal.returns
returns c =
    let le : c.args.offset ≤ length c.self.inside.text.now = rw c.self.view_is c.requires in
    let here = place c.self.inside.text.now c.deref.result.now c.args.offset c.lines_begun-line.result
    (c.deref.ensures.value ∙ c.self.invariant.1) le c.lines_begun-line.ensures.within c.lines_begun-line.ensures.point in
    let start = rw c.deref.ensures.value at here.is_start c.index-start.result.now in
    let column : c.args.offset - c.index-start.result.now + 1 ≡ bytes_since_newline c.self.inside.text.now c.args.offset + 1 = omega (arith, start, c.index-start.ensures) in
    rw (← c.self.view_is, here.is_line, column) refl
