-- A graph is made from the first instruction on.
use Rattle.std.proofs.Common.{◌≡◌, ℕ, suc, ◌+◌, ◌<◌, ◌≤◌, List, [], ◌∷◌, ◌++◌, length, drop, get_or, Option, None, Some, Result, Ok, Err, refl, ap, sym, ◌∙◌, append_assoc, drop-cons, add-one, eq-eqb}
use Rattle.std.proofs.lemmas.Bool.{ne_eqb}
use Rattle.std.proofs.lemmas.List.{drop_all, append-nil}
use Rattle.asm_core.specs.declared.sym.Sym.{Sym}
use Rattle.asm_core.specs.declared.lines.JumpTarget.{JumpTarget}
use Rattle.asm_core.specs.declared.lines.Graph.{Graph}
use Rattle.blk_flow.specs.declared.flow_end.FlowEnd.{FlowEnd}
use Rattle.blk_flow.specs.Graph.{goal_in, onto_graph, graph_from}

-- those instructions, and then the graph of the others
abbrev pub behind : List Sym → List ℕ → Result Graph FlowEnd → Result Graph FlowEnd
behind insts goals (Err e) = Err e
behind insts goals (Ok g) = Ok (record { insts = insts ++ g.insts; goals = goals ++ g.goals })

behind-one : (insts : List Sym) (goals : List ℕ) (s : Sym) (goal : ℕ) (rest : Result Graph FlowEnd) → behind insts goals (onto_graph s goal rest) ≡ behind (insts ++ s ∷ []) (goals ++ goal ∷ []) rest
behind-one insts goals s goal (Err e) = refl
behind-one insts goals s goal (Ok g) = rw (append_assoc insts (s ∷ []) g.insts, append_assoc goals (goal ∷ []) g.goals) refl

pub behind-none : (insts : List Sym) (goals : List ℕ) (targets : List JumpTarget) (n : ℕ) (xs : List (Option Sym)) (i : ℕ) → length xs ≤ i
    → behind insts goals (graph_from targets n (drop i xs)) ≡ Ok (record { insts = insts; goals = goals })
unfolding graph_from
behind-none insts goals targets n xs i past = rw (drop_all i xs past, append-nil insts, append-nil goals) refl

module _ (targets : List JumpTarget) (n : ℕ) (xs : List (Option Sym)) (i : ℕ) (s : Sym) (d : Option Sym) where
  at_some : i < length xs → get_or xs i d ≡ Some s → drop i xs ≡ Some s ∷ drop (i + 1) xs
  at_some below is = rw (add-one) (drop-cons xs i d below ∙ ap (λ x. x ∷ drop (suc i) xs) is)

  at_none : i < length xs → get_or xs i d ≡ None → drop i xs ≡ None ∷ drop (i + 1) xs
  at_none below is = rw (add-one) (drop-cons xs i d below ∙ ap (λ x. x ∷ drop (suc i) xs) is)

  pub behind-missing : (insts : List Sym) (goals : List ℕ) → i < length xs → get_or xs i d ≡ Some s → goal_in targets n ≡ None
      → behind insts goals (graph_from targets n (drop i xs)) ≡ Err (FlowEnd.NoLabel n)
  unfolding graph_from
  behind-missing insts goals below is none = rw (at_some below is, none) refl

  pub behind-more : (insts : List Sym) (goals : List ℕ) (goal : ℕ) → i < length xs → get_or xs i d ≡ Some s → goal_in targets n ≡ Some goal
      → behind insts goals (graph_from targets n (drop i xs)) ≡ behind (insts ++ s ∷ []) (goals ++ goal ∷ []) (graph_from targets (n + 1) (drop (i + 1) xs))
  unfolding graph_from
  behind-more insts goals goal below is some = rw (at_some below is, some) (behind-one insts goals s goal (graph_from targets (n + 1) (drop (i + 1) xs)))

  pub behind-skipped : (insts : List Sym) (goals : List ℕ) → i < length xs → get_or xs i d ≡ None
      → behind insts goals (graph_from targets n (drop i xs)) ≡ behind insts goals (graph_from targets (n + 1) (drop (i + 1) xs))
  unfolding graph_from
  behind-skipped insts goals below is = rw (at_none below is) refl

-- targets are looked at in turn
module _ (targets : List JumpTarget) (i n : ℕ) (t : JumpTarget) where
  target_at : i < length targets → t ≡ get_or targets i t → drop i targets ≡ t ∷ drop (i + 1) targets
  target_at below is = rw (add-one) (drop-cons targets i t below ∙ ap (λ x. x ∷ drop (suc i) targets) (sym is))

  pub goal-found : i < length targets → t ≡ get_or targets i t → t.inst ≡ n → goal_in (drop i targets) n ≡ t.goal
  goal-found below is same = rw (target_at below is, eq-eqb t.inst n same) refl

  pub goal-passed : i < length targets → t ≡ get_or targets i t → (t.inst ≡ n → ⊥) → goal_in (drop i targets) n ≡ goal_in (drop (i + 1) targets) n
  goal-passed below is other = rw (target_at below is, ne_eqb t.inst n other) refl

pub goal-none : (targets : List JumpTarget) (i n : ℕ) → length targets ≤ i → goal_in (drop i targets) n ≡ Some (n + 1)
goal-none targets i n past = rw (drop_all i targets past) refl
