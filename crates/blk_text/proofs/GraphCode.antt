-- The code of a block's text is the block placed.
use Rattle.std.proofs.Common.{◌≡◌, inl, inr, ℕ, zero, suc, ◌+◌, ◌==◌, ◌<◌, List, [], ◌∷◌, length, map, Bool, true, false, cond, Option, None, Some, Ok, Err, Result, slice_index, refl, ap, sym, subst, ◌∙◌, eq-eqb, arith}
use Rattle.std.proofs.lemmas.Bool.{eqb-true}
use Rattle.std.proofs.lemmas.List.{length-map}
use Rattle.std.specs.Option.{option_map}
use Rattle.asm_core.specs.Lists.{IsMember}
use Rattle.asm_core.specs.Reading.{IsCodeOf}
use Rattle.asm_core.specs.Reading.Placed.{inst_under, code_under}
use Rattle.asm_core.proofs.ReadingLaws.TargetsOnce.{HaveTargets}
use Rattle.asm_core.specs.declared.sym.Sym.{Sym}
use Rattle.asm_core.specs.declared.inst.Inst.{Inst}
use Rattle.asm_core.specs.declared.lines.JumpTarget.{JumpTarget}
use Rattle.asm_core.specs.declared.lines.Lines.{Lines}
use Rattle.asm_core.specs.declared.lines.Graph.{Graph}
use Rattle.asm_core.specs.declared.placement.Placement.{Placement}
use Rattle.blk_flow.specs.Graph.{goal_in, graph_with, graph_from, graph_of}
use Rattle.blk_flow.specs.declared.flow_end.FlowEnd.{FlowEnd}
use Rattle.blk_text.specs.Text.{placed_code}

-- the goal of an instruction with one target is that of the target
goal_found : (targets : List JumpTarget) (t : JumpTarget) → IsMember t targets
    → ((u : JumpTarget) → IsMember u targets → t.inst ≡ u.inst → t ≡ u)
    → goal_in targets t.inst ≡ t.goal
goal_found [] t m alike = absurd m
goal_found (x ∷ xs) t m alike = by (goal_found xs t) (x.inst == t.inst) refl
  where
    differs : (x.inst == t.inst) ≡ false → t ≡ x → ⊥
    differs other e =
        let same = eq-eqb x.inst t.inst (ap (λ (u : JumpTarget). u.inst) (sym e)) in
        let wrong : true ≡ false = sym same ∙ other in
        absurd (cc)

    later : (x.inst == t.inst) ≡ false → IsMember t xs
    later other = elim m [ inl e ↦ absurd (differs other e) | inr k ↦ k ]

    by : (IsMember t xs → ((u : JumpTarget) → IsMember u xs → t.inst ≡ u.inst → t ≡ u) → goal_in xs t.inst ≡ t.goal)
        → (b : Bool) → (x.inst == t.inst) ≡ b
        → cond b x.goal (goal_in xs t.inst) ≡ t.goal
    by rest true e = ap (λ (u : JumpTarget). u.goal) (sym (alike x (inl refl) (sym (eqb-true x.inst t.inst e))))
    by rest false e = rest (later e) (λ u k same. alike u (inr k) same)

-- each instruction's goal
record HasGoals (targets : List JumpTarget) (n : ℕ) (insts : List Sym) (g : Graph) : Type 0 where
  count : length g.goals ≡ length insts
  goals : (k : ℕ) → k < length insts → goal_in targets (n + k) ≡ Some (slice_index g.goals k)

module _ (targets : List JumpTarget) where
  onto_goals : (n : ℕ) (s : Sym) (goal : ℕ) (insts : List Sym) (h : Graph) → goal_in targets n ≡ Some goal
      → HasGoals targets (n + 1) insts h
      → HasGoals targets n (s ∷ insts) (record { insts = s ∷ h.insts; goals = goal ∷ h.goals })
  onto_goals n s goal insts h here rest = record { count = ap suc rest.count; goals = each }
    where
      each : (k : ℕ) → k < suc (length insts) → goal_in targets (n + k) ≡ Some (slice_index (goal ∷ h.goals) k)
      each zero below = subst (λ m. goal_in targets m ≡ Some goal) (omega arith) here
      each (suc k) below =
          subst (λ m. goal_in targets m ≡ Some (slice_index h.goals k)) (omega arith)
          (rest.goals k (omega (arith, below)))

  with_goal : (n : ℕ) (s : Sym) (insts : List Sym) (goal : Option ℕ) (rest : Result Graph FlowEnd) (g : Graph)
      → goal_in targets n ≡ goal
      → ((h : Graph) → rest ≡ Ok h → HasGoals targets (n + 1) insts h) → graph_with n s goal rest ≡ Ok g
      → HasGoals targets n (s ∷ insts) g
  with_goal n s insts None rest g here more e = cc
  with_goal n s insts (Some goal) (Err end) g here more e = cc
  with_goal n s insts (Some goal) (Ok h) g here more e =
      let same : (record { insts = s ∷ h.insts; goals = goal ∷ h.goals }) ≡ g = cc in
      subst (HasGoals targets n (s ∷ insts)) same (onto_goals n s goal insts h here (more h refl))

  has_goals : (n : ℕ) (insts : List Sym) (g : Graph) → graph_from targets n (map Some insts) ≡ Ok g
      → HasGoals targets n insts g
  unfolding graph_from
  has_goals n [] g e =
      let same : (record { insts = []; goals = [] }) ≡ g = cc in
      subst (HasGoals targets n []) same (record { count = refl; goals = λ k below. absurd (omega (arith, below)) })
  has_goals n (s ∷ insts) g e =
      with_goal n s insts (goal_in targets n) (graph_from targets (n + 1) (map Some insts)) g refl
      (has_goals (n + 1) insts) e

all_placed : (p : Placement) (insts : List Sym)
    → map (option_map (inst_under p)) (map Some insts) ≡ map Some (map (inst_under p) insts)
all_placed p [] = refl
all_placed p (s ∷ insts) = ap (λ (xs : List (Option Inst)). Some (inst_under p s) ∷ xs) (all_placed p insts)

-- lines that are all read, placed, are code where they have a block
pub code_of_graph : (p : Placement) (lines : Lines) (g : Graph) → map Some g.insts ≡ lines.insts
    → graph_of lines ≡ Ok g → HaveTargets lines
    → IsCodeOf (code_under p lines) (placed_code p g)
code_of_graph p lines g read made have = record { insts = insts; count = count; goals = goals }
  where
    has : HasGoals lines.targets 0 g.insts g
    has = has_goals lines.targets 0 g.insts g (subst (λ xs. graph_from lines.targets 0 xs ≡ Ok g) (sym read) made)

    as_many : length lines.insts ≡ length g.insts
    as_many = ap length (sym read) ∙ rw length-map refl

    insts : map (option_map (inst_under p)) lines.insts ≡ map Some (map (inst_under p) g.insts)
    insts = ap (map (option_map (inst_under p))) (sym read) ∙ all_placed p g.insts

    count : length g.goals ≡ length (map (inst_under p) g.insts)
    count = has.count ∙ rw length-map refl

    goals : (t : JumpTarget) → IsMember t lines.targets → t.goal ≡ Some (slice_index g.goals t.inst)
    goals t m =
        let within = have.within t m in
        let many = as_many in
        let below : t.inst < length g.insts = omega (arith, within, many) in
        let at : goal_in lines.targets t.inst ≡ Some (slice_index g.goals t.inst) = subst
        (λ n. goal_in lines.targets n ≡ Some (slice_index g.goals t.inst)) (omega arith) (has.goals t.inst below) in
        sym (goal_found lines.targets t m (λ u k same. have.once t u m k same)) ∙ at
