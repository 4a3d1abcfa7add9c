use Rattle.std.proofs.Common.{ℕ, Bool, ◌≡◌, ap, ◌∙◌, sym, arith, get_or, ◌&&◌}
use Rattle.register_search.specs.Table.{holds, all_below}
use Rattle.register_search.proofs.Tables.{every_holds, all_below-more, in_all_tables}
use Rattle.register_search.proofs.search.before_numbered.Goals as goal

pub loop-table-init : goal.loop-table-init
unfolding all_below
loop-table-init c = every_holds

pub loop-table-preserved : goal.loop-table-preserved
loop-table-preserved c = λ set s.
    let test : ℕ → Bool = λ n. holds (get_or c.before_groups.result n (record { sets = 0 })) set in
    c.and-all.ensures set ∙ ap (λ b. b && test c.loop-table.table-index) (c.loop-table.invariant set s) ∙ sym (all_below-more c.loop-table.table-index test)

pub returns : goal.returns
returns c = λ set s.
    let end : c.loop-table.table-index ≡ 32 = omega arith in
    c.loop-table.invariant set s ∙ ap (λ n. all_below n (λ n. holds (get_or c.before_groups.result n (record { sets = 0 })) set)) end ∙ in_all_tables c.args.classes.now c.before_groups.result set c.before_groups.ensures s
