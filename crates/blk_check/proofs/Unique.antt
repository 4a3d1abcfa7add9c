-- A statement with its interface has one verdict.
use Rattle.std.proofs.Common.{◌≡◌, ◌⊎◌, inl, inr, ℕ, ◌<◌, List, [], ◌∷◌, Option, None, Some, Result, Ok, Err, refl, sym, ◌∙◌, ap, subst, arith}
use Rattle.asm_core.specs.Shape.{shapes_of}
use Rattle.asm_core.specs.declared.statement.Statement.{Statement}
use Rattle.asm_core.specs.declared.interface.Interface.{Interface}
use Rattle.asm_core.specs.declared.shape.Shape.{Shape}
use Rattle.asm_core.specs.declared.finding.Finding.{Finding}
use Rattle.asm_core.specs.declared.mark.Mark.{Mark}
use Rattle.asm_core.specs.declared.lines.Graph.{Graph}
use Rattle.asm_core.specs.declared.lines.Lines.{Lines}
use Rattle.asm_core.specs.declared.lines.LinesEnd.{LinesEnd}
use Rattle.blk_flow.specs.declared.flow_end.FlowEnd.{FlowEnd}
use Rattle.blk_deps.specs.Findings.{AreFindings, IsLeast, IsBroken, IsStackBroken, finding_of, stack_violations, violations_of}
use Rattle.blk_deps.specs.declared.violation.Violation.{Violation}
use Rattle.blk_check.specs.Judged.{IsVerdict, IsShapesVerdict, IsLiveVerdict, IsReadingsVerdict, IsReadVerdict, IsFoundVerdict, IsBlocksVerdict, IsStackVerdict, IsPathsVerdict, IsAccepted, IsProof, IsFirstRoomy, HasRoom, graphs_of, graph_under}
use Rattle.blk_check.specs.Readable.{pieces_in, readings_under, first_unread, shape_findings}
use Rattle.blk_check.proofs.LiveLaws.{live_unique}
use Rattle.blk_check.specs.Proven.{Proven}
use Rattle.blk_check.specs.declared.verdict.Verdict.{Verdict}

-- ---- lists of findings

module _ (Broken : Violation → ℕ → Type 0) where
  least_unique : (v : Violation) (m n : ℕ) → IsLeast (Broken v) m → IsLeast (Broken v) n → m ≡ n
  least_unique v m n a b = order_by m n (λ lt. b.least m lt a.broken) (λ lt. a.least n lt b.broken)
    where
      order_by : (m n : ℕ) → (m < n → ⊥) → (n < m → ⊥) → m ≡ n
      order_by m n not_less not_more = omega (arith, not_less, not_more)

  pub findings_unique : (vs : List Violation) (fs gs : List Finding) → AreFindings Broken vs fs → AreFindings Broken vs gs → fs ≡ gs
  unfolding AreFindings
  findings_unique [] fs gs h k = h ∙ sym k
  findings_unique (v ∷ vs) fs gs (inl h) (inl k) =
      h.3 ∙ ap (λ line. finding_of v line ∷ h.2) (least_unique v h.0 k.0 h.1 k.1) ∙ ap (λ rest. finding_of v k.0 ∷ rest) (findings_unique vs h.2 k.2 h.4 k.4) ∙ sym k.3
  findings_unique (v ∷ vs) fs gs (inl h) (inr k) = absurd (k.0 h.0 h.1.broken)
  findings_unique (v ∷ vs) fs gs (inr h) (inl k) = absurd (h.0 k.0 k.1.broken)
  findings_unique (v ∷ vs) fs gs (inr h) (inr k) = findings_unique vs fs gs h.1 k.1

-- ---- proofs

abbrev proven : Statement → Interface → Shape → Graph → Proven
proven s i shape graph = record { statement = s; interface = i; shape = shape; graph = graph }

same_proof : (p q : Proven) → p.statement ≡ q.statement → p.interface ≡ q.interface → p.shape ≡ q.shape → p.graph ≡ q.graph → p ≡ q
same_proof p q statement interface shape graph =
    ap (λ s. proven s p.interface p.shape p.graph) statement
    ∙ ap (λ i. proven q.statement i p.shape p.graph) interface
    ∙ ap (λ t. proven q.statement q.interface t p.graph) shape
    ∙ ap (λ g. proven q.statement q.interface q.shape g) graph

first_unique : (i : Interface) (ss : List Shape) (s t : Shape) → IsFirstRoomy i ss s → IsFirstRoomy i ss t → s ≡ t
unfolding IsFirstRoomy
first_unique i [] s t h k = absurd h
first_unique i (x ∷ xs) s t (inl h) (inl k) = h.1 ∙ sym k.1
first_unique i (x ∷ xs) s t (inl h) (inr k) = absurd (k.0 h.0)
first_unique i (x ∷ xs) s t (inr h) (inl k) = absurd (h.0 k.0)
first_unique i (x ∷ xs) s t (inr h) (inr k) = first_unique i xs s t h.1 k.1

-- ---- verdicts

module _ (Otherwise : Verdict → Type 0) (one : (v w : Verdict) → Otherwise v → Otherwise w → v ≡ w) where
  found_unique : (fs : List Finding) (v w : Verdict) → IsFoundVerdict Otherwise fs v → IsFoundVerdict Otherwise fs w → v ≡ w
  found_unique [] v w h k = one v w h k
  found_unique (f ∷ fs) v w h k = h ∙ sym k

module _ (s : Statement) (i : Interface) where
  proof_unique : (p q : Proven) → IsProof s i p → IsProof s i q → p ≡ q
  proof_unique p q h k =
      let shape : p.shape ≡ q.shape = first_unique i (shapes_of i) p.shape q.shape h.shape k.shape in
      let graph : Some p.graph ≡ Some q.graph = sym h.graph ∙ ap (graph_under i (pieces_in s.body)) shape ∙ k.graph in
      same_proof p q (h.statement ∙ sym k.statement) (h.interface ∙ sym k.interface) shape cc

  accepted_unique : (v w : Verdict) → IsAccepted s i v → IsAccepted s i w → v ≡ w
  accepted_unique (Verdict.Ok p) (Verdict.Ok q) h k = ap Verdict.Ok (proof_unique p q h k)
  accepted_unique (Verdict.Ok p) (Verdict.Broken findings) h k = absurd k
  accepted_unique (Verdict.Ok p) (Verdict.Outside mark) h k = absurd k
  accepted_unique (Verdict.Broken findings) w h k = absurd h
  accepted_unique (Verdict.Outside mark) w h k = absurd h

  paths_unique : (live : List Shape) (graphs : List Graph) (v w : Verdict) → IsPathsVerdict s i live graphs v → IsPathsVerdict s i live graphs w → v ≡ w
  paths_unique live graphs v w h k =
      let same = findings_unique (IsBroken i live graphs) (violations_of i) h.found k.found h.findings k.findings in
      found_unique (IsAccepted s i) accepted_unique k.found v w (subst (λ fs. IsFoundVerdict (IsAccepted s i) fs v) same h.verdict) k.verdict

  stack_unique : (live : List Shape) (graphs : List Graph) (v w : Verdict) → IsStackVerdict s i live graphs v → IsStackVerdict s i live graphs w → v ≡ w
  stack_unique live graphs v w h k =
      let same = findings_unique (IsStackBroken graphs) stack_violations h.found k.found h.findings k.findings in
      found_unique (IsPathsVerdict s i live graphs) (paths_unique live graphs) k.found v w (subst (λ fs. IsFoundVerdict (IsPathsVerdict s i live graphs) fs v) same h.verdict) k.verdict

  blocks_unique : (live : List Shape) (r : Result (List Graph) FlowEnd) (v w : Verdict) → IsBlocksVerdict s i live r v → IsBlocksVerdict s i live r w → v ≡ w
  blocks_unique live (Err end) v w h k = absurd h
  blocks_unique live (Ok graphs) v w h k = stack_unique live graphs v w h k

  read_unique : (live : List Shape) (xs : List Lines) (unread : Option Mark) (v w : Verdict) → IsReadVerdict s i live xs unread v → IsReadVerdict s i live xs unread w → v ≡ w
  read_unique live xs (Some mark) v w h k = h ∙ sym k
  read_unique live xs None v w h k = found_unique (IsBlocksVerdict s i live (graphs_of xs)) (blocks_unique live (graphs_of xs)) (shape_findings i live xs) v w h k

  readings_unique : (live : List Shape) (r : Result (List Lines) LinesEnd) (v w : Verdict) → IsReadingsVerdict s i live r v → IsReadingsVerdict s i live r w → v ≡ w
  readings_unique live (Err end) v w h k = h ∙ sym k
  readings_unique live (Ok xs) v w h k = read_unique live xs (first_unread xs) v w h k

  abbrev by_live : (v : Verdict) → List Shape → Type 0
  by_live v live = IsReadingsVerdict s i live (readings_under i (pieces_in s.body) live) v

  live_one : (shapes : List Shape) (v w : Verdict) → IsLiveVerdict s i shapes v → IsLiveVerdict s i shapes w → v ≡ w
  live_one shapes v w h k =
      let same = live_unique i shapes h.live k.live h.are_live k.are_live in
      readings_unique k.live (readings_under i (pieces_in s.body) k.live) v w (subst (by_live v) same h.verdict) k.verdict

  shapes_unique : (shapes : List Shape) (v w : Verdict) → IsShapesVerdict s i shapes v → IsShapesVerdict s i shapes w → v ≡ w
  shapes_unique shapes v w (inl h) (inl k) = h.1 ∙ sym k.1
  shapes_unique shapes v w (inl h) (inr k) = absurd (h.0 k.0)
  shapes_unique shapes v w (inr h) (inl k) = absurd (k.0 h.0)
  shapes_unique shapes v w (inr h) (inr k) = live_one shapes v w h.1 k.1

  pub verdict_unique : (v w : Verdict) → IsVerdict s i v → IsVerdict s i w → v ≡ w
  verdict_unique v w (inl h) (inl k) = h.1 ∙ sym k.1
  verdict_unique v w (inl h) (inr k) = let many = h.0 in let few = k.0 in absurd (omega (arith, many, few))
  verdict_unique v w (inr h) (inl k) = let few = h.0 in let many = k.0 in absurd (omega (arith, many, few))
  verdict_unique v w (inr h) (inr k) = shapes_unique (shapes_of i) v w h.1 k.1
