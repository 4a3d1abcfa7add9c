use Rattle.std.proofs.Common.{◌≡◌, List, length, replicate, refl, sym, subst, ℕ, arith}
use Rattle.std.proofs.lemmas.Option.{slice_get_read}
use Rattle.asm_core.specs.Lists.{IsMember}
use Rattle.asm_core.specs.Shape.{IsLive, shapes_of}
use Rattle.asm_core.specs.declared.shape.Shape.{Shape}
use Rattle.blk_deps.specs.Noting.{IsNoted}
use Rattle.blk_deps.specs.Judged.{IsBrokenBelow}
use Rattle.blk_deps.proofs.JudgedLaws.{noted_shape}
use Rattle.blk_deps.proofs.judged.least_lines.Goals as goal

pub note_shape-requires-clause-shape : goal.note_shape-requires-clause-shape
note_shape-requires-clause-shape c =
    subst (λ (s : Shape). IsMember s (shapes_of c.args.interface.now)) (sym c.index-live-k-in-loop-k.is) (c.requires.shapes c.loop-k.k c.index-live-k-in-loop-k.result c.loop-k-test.true)

pub note_shape-requires-clause-live : goal.note_shape-requires-clause-live
note_shape-requires-clause-live c =
    subst (IsLive c.args.interface.now) (sym c.index-live-k-in-loop-k.is) (c.requires.live c.loop-k.k c.index-live-k-in-loop-k.result c.loop-k-test.true)

pub loop-k-preserved : goal.loop-k-preserved
loop-k-preserved c =
    noted_shape c.args.interface.now c.args.live.now c.args.graphs.now c.args.violations.now c.loop-k.k c.index-live-k-in-loop-k.result c.index-graphs-k.result
    (replicate (length c.args.violations.now) 0) c.loop-k.least.lines.items c.note_shape.new.least.lines.items
    (slice_get_read c.args.live.now (length c.args.live.now) c.loop-k.k c.index-live-k-in-loop-k.result refl c.loop-k-test.true c.index-live-k-in-loop-k.is)
    (slice_get_read c.args.graphs.now (length c.args.graphs.now) c.loop-k.k c.index-graphs-k.result refl (omega (arith, c.loop-k-test.true, c.requires.each)) c.index-graphs-k.is)
    c.loop-k.invariant c.in_ok-note_shape.ensures

pub returns : goal.returns
returns c =
    subst (λ k. IsNoted (IsBrokenBelow c.args.interface.now c.args.live.now c.args.graphs.now k) c.args.violations.now (replicate (length c.args.violations.now) 0) c.loop-k.least.lines.items)
    (omega (arith, c.loop-k-test.false, c.loop-k.auto)) c.loop-k.invariant
