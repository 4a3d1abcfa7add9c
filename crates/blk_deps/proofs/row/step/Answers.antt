use Rattle.std.proofs.Common.{◌*◌, ◌≤◌, length, sym, subst}
use Rattle.blk_deps.specs.Layout.{block_words}
use Rattle.blk_deps.proofs.DownLemmas.{fit_hands}
use Rattle.blk_deps.proofs.row.step.Goals as goal

pub put_all-requires-clause-fits : goal.put_all-requires-clause-fits
put_all-requires-clause-fits c =
    let l = c.args.layout.now in
    let reads = length c.args.reads.now in
    fit_hands l reads (length c.read_all.new.hands) c.args.puts.now
    (subst (λ n. reads * block_words l ≤ n) (sym c.read_all.ensures.size) c.requires.hands) c.requires.fits.of_puts
