-- The blocks of readings, one reading at a time.
use Rattle.std.proofs.Common.{◌≡◌, ℕ, ◌+◌, ◌<◌, ◌≤◌, List, [], ◌∷◌, ◌++◌, length, get_or, drop, All, Result, Ok, Err, refl, sym, ap, ◌∙◌, subst}
use Rattle.std.proofs.lemmas.List.{append-nil, append_assoc, drop_more, drop_all}
use Rattle.std.proofs.lemmas.List.Elements.{All-get_or}
use Rattle.asm_core.specs.declared.lines.Graph.{Graph}
use Rattle.asm_core.specs.declared.lines.Lines.{Lines}
use Rattle.blk_flow.specs.Graph.{graph_of}
use Rattle.blk_flow.specs.declared.flow_end.FlowEnd.{FlowEnd}
use Rattle.blk_check.specs.Judged.{with_graph, graphs_of}

-- blocks that are made already, before those of the other readings
abbrev pub made_before : List Graph → Result (List Graph) FlowEnd → Result (List Graph) FlowEnd
made_before gs (Ok others) = Ok (gs ++ others)
made_before gs (Err end) = Err end

before_one : (gs : List Graph) (g : Graph) (r : Result (List Graph) FlowEnd) → made_before gs (with_graph (Ok g) r) ≡ made_before (gs ++ g ∷ []) r
before_one gs g (Ok others) = ap Ok (sym (append_assoc gs (g ∷ []) others))
before_one gs g (Err end) = refl

pub before_none : (r : Result (List Graph) FlowEnd) → made_before [] r ≡ r
before_none (Ok others) = refl
before_none (Err end) = refl

pub one_made : (xs : List Lines) (k : ℕ) (d : Lines) (gs : List Graph) (g : Graph) → k < length xs → graph_of (get_or xs k d) ≡ Ok g
    → made_before gs (graphs_of (drop k xs)) ≡ made_before (gs ++ g ∷ []) (graphs_of (drop (k + 1) xs))
unfolding graphs_of
one_made xs k d gs g lt is =
    ap (λ l. made_before gs (graphs_of l)) (drop_more xs k d lt)
    ∙ ap (λ r. made_before gs (with_graph r (graphs_of (drop (k + 1) xs)))) is
    ∙ before_one gs g (graphs_of (drop (k + 1) xs))

pub all_made : (xs : List Lines) (k : ℕ) (gs : List Graph) → length xs ≤ k → made_before gs (graphs_of (drop k xs)) ≡ Ok gs
unfolding graphs_of
all_made xs k gs le = ap (λ l. made_before gs (graphs_of l)) (drop_all k xs le) ∙ ap Ok (append-nil gs)

pub ruleset graph_steps = (before_none, one_made, all_made)
