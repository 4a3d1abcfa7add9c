use Rattle.std.proofs.Common.{arith, ◌≤◌, length}
use Rattle.att_reader.proofs.CutLemmas.{raws_begun, raws_more, raws_done, within_more}
use Rattle.att_reader.proofs.cut.raws.Goals as goal

pub loop-start-init : goal.loop-start-init
loop-start-init c = record { within = omega arith; whole = raws_begun c.new-cut.result c.args.text.atoms.now c.new-cut.ensures }

pub loop-start-preserved : goal.loop-start-preserved
loop-start-preserved c =
    let le : c.loop-start.start ≤ length c.args.text.atoms.now = omega arith in
    record {
      within = within_more c.args.text.atoms.now c.loop-start.start c.statement_len-n.result c.rest-rest.result le c.rest-rest.ensures.is c.rest-rest.ensures.same c.statement_len-n.ensures.within;
      whole = raws_more c.loop-start.cut c.add_statement.new.self c.args.text.atoms.now c.loop-start.start c.statement_len-n.result c.rest-rest.result c.front.result c.loop-start.invariant.whole le
          c.rest-rest.ensures.is c.rest-rest.ensures.same c.statement_len-n.ensures.is c.front.ensures.is c.in_ok-add_statement.ensures;
    }

pub returns : goal.returns
returns c = raws_done c.loop-start.cut c.end_waiting.new.self c.args.text.atoms.now c.loop-start.start c.loop-start.invariant.whole (omega arith) c.in_ok-end_waiting.ensures
