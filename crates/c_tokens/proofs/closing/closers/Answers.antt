use Rattle.std.proofs.Common.{inl}
use Rattle.c_tokens.proofs.CloserLemmas.{step_open, step_other, step_close, step_end}
use Rattle.c_tokens.proofs.closing.closers.Goals as goal

pub loop-i-preserved-then-opens : goal.loop-i-preserved-then-opens
loop-i-preserved-then-opens c =
    step_open c.args.text.now c.args.tokens.now.list c.as_slice-token-items.result.now c.loop-i.closers.items c.push.new.self.items c.loop-i.opened.items c.push-then-opens.new.self.items c.loop-i.i _ c.mark_of-b.result
    c.loop-i.invariant c.loop-i-test.true c.as_slice-token-items.ensures c.mark_of-b.ensures c.if-opens.ensures c.in_ok-push.ensures.items c.in_ok-push-2.ensures.items

pub loop-i-preserved-then-not-closes : goal.loop-i-preserved-then-not-closes
loop-i-preserved-then-not-closes c =
    step_other c.args.text.now c.args.tokens.now.list c.as_slice-token-items.result.now c.loop-i.closers.items c.push.new.self.items c.loop-i.opened.items c.loop-i.i _ c.mark_of-b.result
    c.loop-i.invariant c.loop-i-test.true c.as_slice-token-items.ensures c.mark_of-b.ensures c.if-opens.ensures (inl c.if-not-closes.ensures) c.in_ok-push.ensures.items

pub loop-i-preserved-in-Some : goal.loop-i-preserved-in-Some
loop-i-preserved-in-Some c =
    step_close c.args.text.now c.args.tokens.now.list c.as_slice-token-items.result.now c.loop-i.closers.items c.push.new.self.items c.loop-i.opened.items c.pop.new.self.items c.in-Some.o c.loop-i.i _ c.mark_of-b.result
    c.loop-i.invariant c.loop-i-test.true c.as_slice-token-items.ensures c.mark_of-b.ensures c.if-opens.ensures c.if-not-closes.ensures c.in_ok-push.ensures.items c.in-Some.ensures.items

pub returns : goal.returns
returns c =
    step_end c.args.text.now c.args.tokens.now.list c.as_slice-token-items.result.now c.loop-i.closers.items c.from_vec.result c.loop-i.opened.items c.loop-i.i
    c.loop-i.invariant c.loop-i-test.false c.as_slice-token-items.ensures c.from_vec.ensures
