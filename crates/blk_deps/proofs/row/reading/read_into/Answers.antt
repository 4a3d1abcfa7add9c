use Rattle.std.proofs.Common.{◌≡◌, ◌∙◌, ◌/◌, ap, sym, subst, arith, length, nat_lt, if◌then◌else◌}
use Rattle.std.proofs.lemmas.List.{take_all}
use Rattle.dataflow.specs.Bits.{facts_in}
use Rattle.blk_deps.specs.Layout.{shown, value_words, cell_words}
use Rattle.blk_deps.specs.Fits.{IsRead}
use Rattle.blk_deps.specs.declared.step.Read.TheVariants.{Compute}
use Rattle.blk_deps.proofs.SourceLemmas.{ComesOf, compute_read}
use Rattle.blk_deps.proofs.row.reading.read_into.Goals as goal

pub returns-after-loop-name-clause-held : goal.returns-after-loop-name-clause-held
returns-after-loop-name-clause-held c =
    let l = c.args.layout.now in
    let facts = shown l c.args.row.now in
    let of = c.as_slice-name-items.result.now in
    let all = take_all c.loop-name.name-index of (omega (arith, c.loop-name-test.false)) in
    let comes : ComesOf l facts of c.loop-name.to = subst (λ names. ComesOf l facts names c.loop-name.to) all c.loop-name.invariant in
    let size = c.clear.ensures.size ∙ c.requires.size in
    let old_fits : length c.loop-name.to ≡ value_words l = omega (arith, c.loop-name.auto.to, size) in
    subst (λ read. IsRead l facts read c.fill_first.new.words) (ap Compute c.as_slice-name-items.ensures ∙ sym c.in-Compute.is)
    (compute_read l facts c.requires.layout of c.loop-name.to c.fill_first.new.words old_fits (c.fill_first.ensures.size ∙ old_fits) comes
    (λ n. c.fill_first.ensures.bits n
    ∙ ap (λ w. if nat_lt (n / 64) w then c.is_here.result else facts_in c.loop-name.to n) c.cell_words.ensures
    ∙ ap (λ b. if nat_lt (n / 64) (cell_words l) then b else facts_in c.loop-name.to n) (c.is_here.ensures l)))
