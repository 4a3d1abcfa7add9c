use Rattle.std.proofs.Common.{◌≡◌, ap, ◌∙◌, ◌==◌, ◌&&◌, arith, false, slice_index_or}
use Rattle.std.proofs.lemmas.Nat.Bits.{bit_at-zero}
use Rattle.register_search.specs.Table.{holds, some_below, leads, leads_by}
use Rattle.register_search.proofs.Sets.{one_more, one_less}
use Rattle.register_search.proofs.table.Table.before.Goals as goal
use Rattle.register_search.proofs.table.Table.before.Goals.{then-choices-choice, else-choices-choice}

pub loop-choice-preserved : goal.loop-choice-preserved
loop-choice-preserved c = λ set s. elim c.if-choices-choice.branch [
  | then-choices-choice w ↦ ap (λ t. holds t set) w.table-is ∙ one_more c.loop-choice.choice (λ k. slice_index_or c.args.choices k false) (λ k. leads_by k (holds c.args.self) set)
      _ _ _ (c.loop-choice.invariant set s) w.if-choices-choice.true (w.before_choice.ensures set s) (w.or-table.ensures set)
  | else-choices-choice w ↦ ap (λ t. holds t set) w.table-is ∙ one_less c.loop-choice.choice (λ k. slice_index_or c.args.choices k false) (λ k. leads_by k (holds c.args.self) set) _ (c.loop-choice.invariant set s) w.if-choices-choice.false
]

pub returns : goal.returns
unfolding leads
returns c = λ set s.
    let end : c.loop-choice.choice ≡ 8 = omega arith in
    c.loop-choice.invariant set s ∙ ap (λ n. some_below n (λ k. slice_index_or c.args.choices k false && leads_by k (holds c.args.self) set)) end

pub loop-choice-init : goal.loop-choice-init
unfolding some_below
loop-choice-init c = λ set s. ap (λ n. n == 1) (bit_at-zero set)
