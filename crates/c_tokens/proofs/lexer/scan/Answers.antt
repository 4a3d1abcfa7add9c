use Rattle.c_tokens.proofs.CutLemmas.{at_start, at_white, at_piece, at_string, at_comment, at_byte}
use Rattle.c_tokens.proofs.lexer.scan.Goals as goal

pub loop-i-init : goal.loop-i-init
loop-i-init c = at_start c.args.text.now c.new-list.result c.new-list.ensures

pub loop-i-preserved-in-White : goal.loop-i-preserved-in-White
loop-i-preserved-in-White c =
    at_white c.args.text.now c.loop-i.list c.loop-i.i c.in-White.end c.loop-i.invariant c.loop-i-test.true
    c.in-White.ensures.is c.in-White.ensures.within.0 c.in-White.ensures.within.1

pub loop-i-preserved : goal.loop-i-preserved
loop-i-preserved c =
    at_piece c.args.text.now c.loop-i.list c.push.new.self c.token.result c.loop-i.i c.in-Piece.end c.in-Piece.kind c.loop-i.invariant c.loop-i-test.true
    c.in-Piece.ensures.is c.in-Piece.ensures.within.0 c.in-Piece.ensures.within.1 c.token.ensures c.in_ok-push-in-Piece.ensures.ok

pub returns-in-OpenString-clause-explained : goal.returns-in-OpenString-clause-explained
returns-in-OpenString-clause-explained c = at_string c.args.text.now c.loop-i.list c.loop-i.i c.loop-i.invariant c.loop-i-test.true c.in-OpenString.ensures.is

pub returns-in-OpenComment-clause-explained : goal.returns-in-OpenComment-clause-explained
returns-in-OpenComment-clause-explained c = at_comment c.args.text.now c.loop-i.list c.loop-i.i c.loop-i.invariant c.loop-i-test.true c.in-OpenComment.ensures.is

pub returns-in-BadByte-clause-explained : goal.returns-in-BadByte-clause-explained
returns-in-BadByte-clause-explained c = at_byte c.args.text.now c.loop-i.list c.loop-i.i c.loop-i.invariant c.loop-i-test.true c.in-BadByte.ensures.is
