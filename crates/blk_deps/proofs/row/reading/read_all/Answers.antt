use Rattle.std.proofs.Common.{ℕ, ◌≡◌, ◌+◌, ◌*◌, ◌-◌, ◌≤◌, sym, length, arith}
use Rattle.blk_deps.specs.Layout.{shown, block_words}
use Rattle.blk_deps.proofs.SlotLemmas.{block_ends}
use Rattle.blk_deps.proofs.HandLemmas.{one_more_held, all_hold}
use Rattle.blk_deps.proofs.row.reading.read_all.Goals as goal

next_start : (at size i words : ℕ) → at ≡ i * words → size ≡ words → at + size ≡ (i + 1) * words
next_start at size i words starts is = grind arith

pub loop-read-preserved : goal.loop-read-preserved
loop-read-preserved c =
    let l = c.args.layout.now in
    let i = c.loop-read.read-index in
    let ends = block_ends (block_words l) i (length c.args.reads.now) c.loop-read-test.true in
    let inside : c.loop-read.at + (c.loop-read.at + c.value_words.result - c.loop-read.at) ≤ length c.loop-read.hands =
    omega (arith, ends, c.loop-read.invariant.0, c.loop-read.auto.hands, c.requires.hands, c.value_words.ensures) in (
      next_start c.loop-read.at c.block_words-at.result i (block_words l) c.loop-read.invariant.0 c.block_words-at.ensures,
      one_more_held l (shown l c.args.row.now) c.args.reads.now i c.loop-read.at _ c.read-item.result c.loop-read.hands c.read_into.new.to
          c.loop-read.invariant.0 (omega (arith, c.value_words.ensures)) inside c.read_into.ensures.size (sym c.read-item.is)
          c.loop-read.invariant.1 c.read_into.ensures.held,
    )

pub returns-clause-held : goal.returns-clause-held
returns-clause-held c =
    all_hold c.args.layout.now c.loop-read.hands (shown c.args.layout.now c.args.row.now) c.args.reads.now c.loop-read.read-index
    c.loop-read.invariant.1 c.loop-read-test.false
