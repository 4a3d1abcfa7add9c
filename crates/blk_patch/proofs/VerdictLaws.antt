-- Where a verdict is that rules are broken, one is named.
use Rattle.std.proofs.Common.{inl, inr, List, [], ◌∷◌, Option, None, Some, Result, Ok, Err}
use Rattle.asm_core.specs.Shape.{shapes_of}
use Rattle.asm_core.specs.declared.statement.Statement.{Statement}
use Rattle.asm_core.specs.declared.interface.Interface.{Interface}
use Rattle.asm_core.specs.declared.shape.Shape.{Shape}
use Rattle.asm_core.specs.declared.finding.Finding.{Finding}
use Rattle.asm_core.specs.declared.mark.Mark.{Mark}
use Rattle.asm_core.specs.declared.lines.Graph.{Graph}
use Rattle.asm_core.specs.declared.lines.Lines.{Lines}
use Rattle.asm_core.specs.declared.lines.LinesEnd.{LinesEnd}
use Rattle.blk_flow.specs.declared.flow_end.FlowEnd.{FlowEnd}
use Rattle.blk_check.specs.Judged.{IsVerdict, IsShapesVerdict, IsReadingsVerdict, IsReadVerdict, IsFoundVerdict, IsBlocksVerdict, IsStackVerdict, IsPathsVerdict, IsAccepted, graphs_of}
use Rattle.blk_check.specs.Readable.{pieces_in, readings_under, first_unread, shape_findings}
use Rattle.blk_check.specs.declared.verdict.Verdict.{Verdict}
use Rattle.blk_patch.specs.Rounds.{AreSome}

-- a verdict that names none
abbrev Bare : Verdict
Bare = Verdict.Broken []

found_some : (Otherwise : Verdict → Type 0) → (Otherwise Bare → ⊥) → (fs : List Finding)
    → IsFoundVerdict Otherwise fs Bare → ⊥
found_some Otherwise none [] h = none h
found_some Otherwise none (f ∷ fs) h = cc

module _ (s : Statement) (i : Interface) where
  paths_some : (live : List Shape) (graphs : List Graph) → IsPathsVerdict s i live graphs Bare → ⊥
  paths_some live graphs h = found_some (IsAccepted s i) (λ a. a) h.found h.verdict

  stack_some : (live : List Shape) (graphs : List Graph) → IsStackVerdict s i live graphs Bare → ⊥
  stack_some live graphs h = found_some (IsPathsVerdict s i live graphs) (paths_some live graphs) h.found h.verdict

  blocks_some : (live : List Shape) (made : Result (List Graph) FlowEnd) → IsBlocksVerdict s i live made Bare → ⊥
  blocks_some live (Err end) h = h
  blocks_some live (Ok graphs) h = stack_some live graphs h

  read_some : (live : List Shape) (xs : List Lines) (unread : Option Mark) → IsReadVerdict s i live xs unread Bare → ⊥
  read_some live xs (Some mark) h = cc
  read_some live xs None h = found_some (IsBlocksVerdict s i live (graphs_of xs)) (blocks_some live (graphs_of xs))
      (shape_findings i live xs) h

  readings_some : (live : List Shape) (read : Result (List Lines) LinesEnd) → IsReadingsVerdict s i live read Bare → ⊥
  readings_some live (Err end) h = cc
  readings_some live (Ok xs) h = read_some live xs (first_unread xs) h

  shapes_some : IsShapesVerdict s i (shapes_of i) Bare → ⊥
  shapes_some (inl h) = let e = h.1 in cc
  shapes_some (inr h) = readings_some h.1.live (readings_under i (pieces_in s.body) h.1.live) h.1.verdict

  bare_refused : IsVerdict s i Bare → ⊥
  bare_refused (inl h) = let e = h.1 in cc
  bare_refused (inr h) = shapes_some h.1

  pub some_found : (fs : List Finding) → IsVerdict s i (Verdict.Broken fs) → AreSome fs
  some_found [] h = bare_refused h
  some_found (f ∷ fs) h = tt
