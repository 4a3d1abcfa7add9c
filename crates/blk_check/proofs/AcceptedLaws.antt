-- What an accepted statement was found to keep: nothing is broken under any of its live shapes.
use Rattle.std.proofs.Common.{◌≡◌, ◌⊎◌, inl, inr, ℕ, zero, suc, ◌<◌, ◌≤◌, arith, List, [], ◌∷◌, length, Option, None, Some, Result, Ok, Err, All, slice_get, refl, sym, ap, subst, ◌∙◌}
use Rattle.std.specs.List.{AllZip}
use Rattle.asm_core.specs.Lists.{IsMember}
use Rattle.asm_core.specs.Reading.Names.{names}
use Rattle.asm_core.specs.Reading.Line.{lines_under}
use Rattle.asm_core.specs.Shape.{IsLive, shapes_of}
use Rattle.asm_core.specs.declared.shape.Shape.{Shape}
use Rattle.asm_core.specs.declared.piece.Piece.{Piece}
use Rattle.asm_core.specs.declared.finding.Finding.{Finding}
use Rattle.asm_core.specs.declared.statement.Statement.{Statement}
use Rattle.asm_core.specs.declared.interface.Interface.{Interface}
use Rattle.asm_core.specs.declared.lines.Graph.{Graph}
use Rattle.asm_core.specs.declared.lines.Lines.{Lines}
use Rattle.asm_core.specs.declared.lines.LinesEnd.{LinesEnd}
use Rattle.asm_core.specs.declared.mark.Mark.{Mark}
use Rattle.blk_flow.specs.declared.flow_end.FlowEnd.{FlowEnd}
use Rattle.blk_deps.specs.declared.violation.Violation.{Violation}
use Rattle.blk_deps.specs.Findings.{AreFindings, IsBroken, IsLeast, IsStackBroken, stack_violations, violations_of}
use Rattle.blk_check.specs.Proven.{Proven}
use Rattle.blk_check.specs.declared.verdict.Verdict.{Verdict}
use Rattle.blk_check.specs.Judged.{AnyHasRoom, IsVerdict, IsShapesVerdict, IsLiveVerdict, IsReadingsVerdict, IsReadVerdict, IsFoundVerdict, IsBlocksVerdict, IsStackVerdict, IsPathsVerdict, IsAccepted, IsProof, graphs_of}
use Rattle.blk_check.specs.Readable.{AreLive, readings_under, pieces_in, first_unread, shape_findings, with_lines}
use Rattle.blk_check.proofs.BlockLaws.{IsGraphOf}
use Rattle.blk_check.proofs.ReadLaws.{blocks_are}

-- ---- findings that aren't there

module _ (Broken : Violation → ℕ → Type 0) where
  -- where nothing is found, nothing of the list is broken on any line
  pub unbroken : (vs : List Violation) → AreFindings Broken vs [] → (b : Violation) → IsMember b vs → (line : ℕ) → Broken b line → ⊥
  unfolding AreFindings
  unbroken [] found b member line broken = member
  unbroken (v ∷ vs) (inl h) b member line broken = let e = h.3 in cc
  unbroken (v ∷ vs) (inr h) b (inl same) line broken = h.0 line (subst (λ w. Broken w line) same broken)
  unbroken (v ∷ vs) (inr h) b (inr member) line broken = unbroken vs h.1 b member line broken

-- ---- what was judged

-- the live shapes with their lines and blocks, of which nothing is broken
pub record IsClean (s : Statement) (i : Interface) : Type 0 where
  pub live : List Shape
  pub lines : List Lines
  pub graphs : List Graph
  pub few : length (shapes_of i) ≤ 64
  pub room : AnyHasRoom i (shapes_of i)
  pub are_live : AreLive i (shapes_of i) live
  pub readings : readings_under i (pieces_in s.body) live ≡ Ok lines
  pub read : first_unread lines ≡ None
  pub alike : shape_findings i live lines ≡ []
  pub blocks : graphs_of lines ≡ Ok graphs
  pub level : AreFindings (IsStackBroken graphs) stack_violations []
  pub kept : AreFindings (IsBroken i live graphs) (violations_of i) []

-- an accepted statement is clean, and the proof is of it
pub record IsCleared (s : Statement) (i : Interface) (p : Proven) : Type 0 where
  pub clean : IsClean s i
  pub proof : IsProof s i p

module _ (s : Statement) (i : Interface) (p : Proven) where
  -- a verdict is no other than what was found
  found_none : (Otherwise : Verdict → Type 0) (found : List Finding) → IsFoundVerdict Otherwise found (Verdict.Ok p) → (found ≡ []) × Otherwise (Verdict.Ok p)
  found_none Otherwise [] v = (refl, v)
  found_none Otherwise (f ∷ fs) v = cc

  module _ (live : List Shape) (lines : List Lines) (few : length (shapes_of i) ≤ 64) (room : AnyHasRoom i (shapes_of i))
      (are_live : AreLive i (shapes_of i) live) (readings : readings_under i (pieces_in s.body) live ≡ Ok lines)
      (read : first_unread lines ≡ None) (alike : shape_findings i live lines ≡ []) where
    clean_paths : (graphs : List Graph) → graphs_of lines ≡ Ok graphs → AreFindings (IsStackBroken graphs) stack_violations [] → IsPathsVerdict s i live graphs (Verdict.Ok p) → IsCleared s i p
    clean_paths graphs blocks level v =
        let none = found_none (IsAccepted s i) v.found v.verdict in
        record {
          clean = record {
            live = live;
            lines = lines;
            graphs = graphs;
            few = few;
            room = room;
            are_live = are_live;
            readings = readings;
            read = read;
            alike = alike;
            blocks = blocks;
            level = level;
            kept = subst (AreFindings (IsBroken i live graphs) (violations_of i)) none.0 v.findings;
          };
          proof = none.1;
        }

    clean_stack : (graphs : List Graph) → graphs_of lines ≡ Ok graphs → IsStackVerdict s i live graphs (Verdict.Ok p) → IsCleared s i p
    clean_stack graphs blocks v =
        let none = found_none (IsPathsVerdict s i live graphs) v.found v.verdict in
        clean_paths graphs blocks (subst (AreFindings (IsStackBroken graphs) stack_violations) none.0 v.findings) none.1

    clean_blocks : (r : Result (List Graph) FlowEnd) → graphs_of lines ≡ r → IsBlocksVerdict s i live r (Verdict.Ok p) → IsCleared s i p
    clean_blocks (Err end) blocks v = absurd v
    clean_blocks (Ok graphs) blocks v = clean_stack graphs blocks v

  module _ (live : List Shape) (few : length (shapes_of i) ≤ 64) (room : AnyHasRoom i (shapes_of i)) (are_live : AreLive i (shapes_of i) live) where
    clean_read : (lines : List Lines) (unread : Option Mark) → readings_under i (pieces_in s.body) live ≡ Ok lines → first_unread lines ≡ unread → IsReadVerdict s i live lines unread (Verdict.Ok p) → IsCleared s i p
    clean_read lines (Some mark) readings read v = cc
    clean_read lines None readings read v =
        let none = found_none (IsBlocksVerdict s i live (graphs_of lines)) (shape_findings i live lines) v in
        clean_blocks live lines few room are_live readings read none.0 (graphs_of lines) refl none.1

    clean_readings : (r : Result (List Lines) LinesEnd) → readings_under i (pieces_in s.body) live ≡ r → IsReadingsVerdict s i live r (Verdict.Ok p) → IsCleared s i p
    clean_readings (Err end) readings v = cc
    clean_readings (Ok lines) readings v = clean_read lines (first_unread lines) readings refl v

  clean_shapes : length (shapes_of i) ≤ 64 → IsShapesVerdict s i (shapes_of i) (Verdict.Ok p) → IsCleared s i p
  clean_shapes few (inl h) = let e = h.1 in cc
  clean_shapes few (inr h) = clean_readings h.1.live few h.0 h.1.are_live (readings_under i (pieces_in s.body) h.1.live) refl h.1.verdict

  pub accepted_cleared : IsVerdict s i (Verdict.Ok p) → IsCleared s i p
  accepted_cleared (inl h) = let e = h.1 in cc
  accepted_cleared (inr h) = clean_shapes h.0 h.1

-- ---- one live shape

-- the lines and the block under the shape, which is the k-th of the live ones
pub record IsUnder (s : Statement) (i : Interface) (live : List Shape) (graphs : List Graph) (shape : Shape) : Type 0 where
  pub number : ℕ
  pub lines : Lines
  pub graph : Graph
  pub is_shape : slice_get live number ≡ Some shape
  pub is_graph : slice_get graphs number ≡ Some graph
  pub under : lines_under names i shape (pieces_in s.body) ≡ Ok lines
  pub of_lines : IsGraphOf lines graph

module _ (i : Interface) where
  -- a shape with an allowed placement is one of the live ones
  pub live_there : (ss live : List Shape) (shape : Shape) → AreLive i ss live → IsMember shape ss → IsLive i shape → (k : ℕ) × (slice_get live k ≡ Some shape)
  unfolding AreLive
  live_there [] live shape are member here = absurd member
  live_there (q ∷ ss) live shape (inl h) (inl same) here = (0, rw (h.2, same) refl)
  live_there (q ∷ ss) live shape (inl h) (inr member) here = let k = live_there ss h.1 shape h.3 member here in (suc k.0, rw (h.2) (k.1))
  live_there (q ∷ ss) live shape (inr h) (inl same) here = absurd (h.0 (subst (IsLive i) same here))
  live_there (q ∷ ss) live shape (inr h) (inr member) here = live_there ss live shape h.1 member here

module _ (s : Statement) (i : Interface) where
  abbrev pieces : List Piece
  pieces = pieces_in s.body

  record Under (shapes : List Shape) (xs : List Lines) (gs : List Graph) (k : ℕ) (shape : Shape) : Type 0 where
    lines : Lines
    graph : Graph
    is_graph : slice_get gs k ≡ Some graph
    under : lines_under names i shape pieces ≡ Ok lines
    of_lines : IsGraphOf lines graph

  abbrev PairsIn : List Shape → Shape → Type 0
  PairsIn shapes shape = (xs : List Lines) (gs : List Graph) (k : ℕ) → readings_under i pieces shapes ≡ Ok xs
      → AllZip IsGraphOf xs gs → slice_get shapes k ≡ Some shape → Under shapes xs gs k shape

  pair_at : (shapes : List Shape) (shape : Shape) → PairsIn shapes shape
  unfolding readings_under
  pair_at [] shape xs gs k read zip at = cc
  pair_at (q ∷ shapes) shape xs gs k read zip at =
      first (pair_at shapes shape) (lines_under names i q pieces) (readings_under i pieces shapes) refl refl read k gs zip at
    where
      first : PairsIn shapes shape → (r : Result Lines LinesEnd) (rs : Result (List Lines) LinesEnd)
          → lines_under names i q pieces ≡ r → readings_under i pieces shapes ≡ rs → with_lines r rs ≡ Ok xs
          → (k : ℕ) (gs : List Graph) → AllZip IsGraphOf xs gs → slice_get (q ∷ shapes) k ≡ Some shape
          → Under (q ∷ shapes) xs gs k shape
      first rest (Err end) rs one others e k gs zip at = cc
      first rest (Ok x) (Err end) one others e k gs zip at = cc
      first rest (Ok x) (Ok ys) one others e k gs zip at =
          let same : x ∷ ys ≡ xs = cc in
          by k gs at (subst (λ zs. AllZip IsGraphOf zs gs) (sym same) zip)
        where
          by : (k : ℕ) (gs : List Graph) → slice_get (q ∷ shapes) k ≡ Some shape → AllZip IsGraphOf (x ∷ ys) gs
              → Under (q ∷ shapes) xs gs k shape
          by k [] at zip = absurd zip
          by zero (g ∷ gs) at zip =
              let is : q ≡ shape = cc in
              record { lines = x; graph = g; is_graph = refl; under = subst (λ t. lines_under names i t pieces ≡ Ok x) is one; of_lines = zip.0 }
          by (suc k) (g ∷ gs) at zip =
              let u = rest ys gs k others zip.1 at in
              record { lines = u.lines; graph = u.graph; is_graph = u.is_graph; under = u.under; of_lines = u.of_lines }

  -- under a shape with an allowed placement a clean statement has lines that are all read, and a block
  pub under_each : (c : IsClean s i) (shape : Shape) → IsMember shape (shapes_of i) → IsLive i shape → IsUnder s i c.live c.graphs shape
  under_each c shape member here =
      let at = live_there i (shapes_of i) c.live shape c.are_live member here in
      let blocks = blocks_are i pieces c.live c.lines c.readings c.read c.alike c.graphs c.blocks in
      let u = pair_at c.live shape c.lines c.graphs at.0 c.readings blocks.each at.1 in
      record { number = at.0; lines = u.lines; graph = u.graph; is_shape = at.1; is_graph = u.is_graph; under = u.under; of_lines = u.of_lines }
