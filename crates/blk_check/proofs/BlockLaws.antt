-- Lines that are all read, and whose jumps all go to labels that there are, have a graph.
use Rattle.std.proofs.Common.{◌≡◌, ℕ, ◌+◌, ◌==◌, ◌≤◌, List, [], ◌∷◌, length, map, find, Bool, true, false, cond, Option, None, Some, IfSome, IsSome, Result, Ok, All, refl, sym, ap, subst, ◌∙◌, arith}
use Rattle.std.proofs.lemmas.List.Elements.{All-nil, All-cons, All-head, All-tail, All-get_or}
use Rattle.asm_core.specs.declared.sym.Sym.{Sym}
use Rattle.asm_core.specs.declared.lines.JumpTarget.{JumpTarget}
use Rattle.asm_core.specs.declared.lines.Lines.{Lines}
use Rattle.asm_core.specs.declared.lines.Graph.{Graph}
use Rattle.blk_flow.specs.declared.flow_end.FlowEnd.{FlowEnd}
use Rattle.blk_flow.specs.Graph.{goal_in, graph_with, graph_from, graph_of}
use Rattle.blk_deps.specs.Ways.{IsGraph}
use Rattle.blk_check.specs.Readable.{is_lost}
use Rattle.blk_check.proofs.GoalLaws.{LeadsInside}

-- ---- goals

none_at : {A : Type 0} (b : Bool) (x : A) (o : Option A) → cond b (Some x) o ≡ None → (b ≡ false) × (o ≡ None)
none_at true x o e = cc
none_at false x o e = (refl, e)

pub none_found : {A : Type 0} (p : A → Bool) (xs : List A) → find p xs ≡ None → All (λ x. p x ≡ false) xs
none_found p [] e = All-nil (λ x. p x ≡ false)
none_found p (x ∷ xs) e =
    let both = none_at (p x) x (find p xs) e in
    All-cons (λ x. p x ≡ false) x xs both.0 (none_found p xs both.1)

-- all jumps have goals, which are at most m
pub record AreInside (m : ℕ) (targets : List JumpTarget) : Type 0 where
  pub found : find is_lost targets ≡ None
  pub inside : All (LeadsInside m) targets

pub record HasGoal (m : ℕ) (goal : Option ℕ) : Type 0 where
  pub to : ℕ
  pub is : goal ≡ Some to
  pub inside : to ≤ m

module _ (m : ℕ) where
  goal_at : (t : JumpTarget) → is_lost t ≡ false → LeadsInside m t → HasGoal m t.goal
  goal_at t found inside = by t.goal found inside
    where
      by : (goal : Option ℕ) → is_lost (record { inst = t.inst; goal = goal }) ≡ false → IfSome goal (λ n. n ≤ m) → HasGoal m goal
      by None found inside = cc
      by (Some to) found inside = record { to = to; is = refl; inside = inside }

  either_goal : (b : Bool) (goal other : Option ℕ) → HasGoal m goal → HasGoal m other → HasGoal m (cond b goal other)
  either_goal true goal other h g = h
  either_goal false goal other h g = g

  goal_in-there : (targets : List JumpTarget) (n : ℕ) → n + 1 ≤ m → All (λ t. is_lost t ≡ false) targets → All (LeadsInside m) targets → HasGoal m (goal_in targets n)
  goal_in-there [] n below found inside = record { to = n + 1; is = refl; inside = below }
  goal_in-there (t ∷ ts) n below found inside =
      either_goal (t.inst == n) t.goal (goal_in ts n)
      (goal_at t (All-head (λ t. is_lost t ≡ false) t ts found) (All-head (LeadsInside m) t ts inside))
      (goal_in-there ts n below (All-tail (λ t. is_lost t ≡ false) t ts found) (All-tail (LeadsInside m) t ts inside))

  -- ---- graphs

  -- a graph of these lines, whose goals are at most m
  record HasGraph (xs : List (Option Sym)) (made : Result Graph FlowEnd) : Type 0 where
    graph : Graph
    is : made ≡ Ok graph
    lines : map Some graph.insts ≡ xs
    insts : length graph.insts ≡ length xs
    goals : length graph.goals ≡ length xs
    inside : All (λ n. n ≤ m) graph.goals

  onto_there : (s : Sym) (goal : Option ℕ) (n : ℕ) (xs : List (Option Sym)) (rest : Result Graph FlowEnd) → HasGoal m goal → HasGraph xs rest → HasGraph (Some s ∷ xs) (graph_with n s goal rest)
  onto_there s goal n xs rest to h = record {
    graph = record { insts = s ∷ h.graph.insts; goals = to.to ∷ h.graph.goals };
    is = rw (to.is, h.is) refl;
    lines = ap (λ ys. Some s ∷ ys) h.lines;
    insts = let same = h.insts in omega (arith, same);
    goals = let same = h.goals in omega (arith, same);
    inside = All-cons (λ n. n ≤ m) to.to h.graph.goals to.inside h.inside;
  }

  graph_there : (targets : List JumpTarget) → AreInside m targets → (n : ℕ) (xs : List (Option Sym)) → n + length xs ≤ m → All (λ s. IsSome s) xs → HasGraph xs (graph_from targets n xs)
  unfolding graph_from
  graph_there targets are n [] below read = record { graph = record { insts = []; goals = [] }; is = refl; lines = refl; insts = refl; goals = refl; inside = All-nil (λ n. n ≤ m) }
  graph_there targets are n (None ∷ xs) below read = let none = All-head (λ s. IsSome s) None xs read in cc
  graph_there targets are n (Some s ∷ xs) below read =
      onto_there s (goal_in targets n) n xs (graph_from targets (n + 1) xs)
      (goal_in-there targets n (omega (arith, below)) (none_found is_lost targets are.found) are.inside)
      (graph_there targets are (n + 1) xs (omega (arith, below)) (All-tail (λ s. IsSome s) (Some s) xs read))

-- what a graph of lines is
pub record IsGraphOf (x : Lines) (g : Graph) : Type 0 where
  pub is : graph_of x ≡ Ok g
  -- its instructions are theirs
  pub lines : map Some g.insts ≡ x.insts
  pub count : length g.insts ≡ length x.insts
  pub graph : IsGraph g

module _ (x : Lines) (few : length x.insts ≤ 512) (read : All (λ s. IsSome s) x.insts) (are : AreInside (length x.insts) x.targets) where
  made : HasGraph (length x.insts) x.insts (graph_of x)
  made = graph_there (length x.insts) x.targets are 0 x.insts (omega arith) read

  pub has_graph : (g : Graph) × IsGraphOf x g
  has_graph = (
    made.graph,
    record {
      is = made.is;
      lines = made.lines;
      count = made.insts;
      graph = record {
        goals = made.goals ∙ sym made.insts;
        inside = λ n below. let same = made.insts in let to = All-get_or (λ n. n ≤ length x.insts) made.graph.goals n 0 (let goals = made.goals in omega (arith, below, same, goals)) made.inside in omega (arith, to, same);
        few = let same = made.insts in omega (arith, same, few);
      };
    },
  )

  -- there is no other
  pub graph_is : (g : Graph) → graph_of x ≡ Ok g → IsGraphOf x g
  graph_is g e =
      let same : Ok has_graph.0 ≡ Ok g = sym has_graph.1.is ∙ e in
      let is : has_graph.0 ≡ g = cc in
      subst (IsGraphOf x) is has_graph.1
