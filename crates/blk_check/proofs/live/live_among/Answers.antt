use Rattle.std.proofs.Common.{◌≡◌, ◌∷◌, [], ◌++◌, ◌+◌, take, rules, subst, sym}
use Rattle.asm_core.specs.Lists.{IsMember}
use Rattle.blk_check.specs.Readable.{AreLive}
use Rattle.blk_check.proofs.RoomLaws.{member_at}
use Rattle.blk_check.proofs.LiveLaws.{live_none, live_so_far, dead_so_far}
use Rattle.blk_check.proofs.live.live_among.Goals as goal

pub loop-shape-init : goal.loop-shape-init
loop-shape-init c =
    let none : c.new-live.result ≡ [] = search rules in
    subst (AreLive c.args.interface.now []) (sym none) (live_none c.args.interface.now)

pub is_live-requires-clause-shape : goal.is_live-requires-clause-shape
is_live-requires-clause-shape c =
    subst (IsMember c.shape-item.result) c.requires.shapes (member_at c.args.shapes.now c.loop-shape.shape-index c.shape-item.result c.loop-shape-test.true c.shape-item.is)

pub loop-shape-preserved-then-not-is_live : goal.loop-shape-preserved-then-not-is_live
loop-shape-preserved-then-not-is_live c =
    dead_so_far c.args.interface.now c.args.shapes.now c.loop-shape.live c.loop-shape.shape-index c.shape-item.result c.is_live.result
    c.loop-shape-test.true c.shape-item.is c.loop-shape.invariant c.is_live.ensures (search rules)

pub loop-shape-preserved : goal.loop-shape-preserved
loop-shape-preserved c =
    let more : c.push.new.self ≡ c.loop-shape.live ++ c.shape-item.result ∷ [] = search rules in
    subst (AreLive c.args.interface.now (take (c.loop-shape.shape-index + 1) c.args.shapes.now)) (sym more)
    (live_so_far c.args.interface.now c.args.shapes.now c.loop-shape.live c.loop-shape.shape-index c.shape-item.result c.is_live.result
    c.loop-shape-test.true c.shape-item.is c.loop-shape.invariant c.is_live.ensures (search rules))
