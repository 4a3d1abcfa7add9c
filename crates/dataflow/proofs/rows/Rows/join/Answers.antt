use Rattle.std.proofs.Common.{◌≡◌, ◌∙◌, ◌-◌, ◌+◌, ◌*◌, sym, ap, subst, arith, length}
use Rattle.std.proofs.lemmas.List.{with_items_is}
use Rattle.std.proofs.lemmas.List.Edits.{length-between}
use borrow.Rule.Slice.PartMut.{put_mid}
use Rattle.dataflow.specs.Joining.{JoinsRow}
use Rattle.dataflow.proofs.RowLemmas.{joins_row, length_written}
use Rattle.dataflow.proofs.rows.Rows.join.Goals as goal

pub returns-clause-words : goal.returns-clause-words
returns-clause-words c =
    let rows = c.args.self.now in
    let at = c.args.at in
    let row = c.join.new.row in
    let joins = rw c.deref_mut.ensures.value at c.join.ensures in
    let whole = length-between rows.words.items (at * rows.width) (at * rows.width + rows.width) c.requires.inside in
    let fits : length row ≡ rows.width = omega (arith, joins.size, whole) in
    let long = length_written at rows.width rows.words.items row c.requires.inside fits in
    let put = ap (λ words. put_mid (at * rows.width) (at * rows.width + rows.width - at * rows.width) words row)
    c.deref_mut.ensures.value in
    let items = with_items_is rows.words _ (ap length put ∙ long ∙ sym rows.words.ok.0) ∙ put in
    subst (JoinsRow rows.width at c.args.more.now c.join.result rows.words.items) (sym items)
    (joins_row at rows.width rows.words.items row c.requires.inside fits c.args.more.now c.join.result joins)
