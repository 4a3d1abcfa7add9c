-- Where a statement is accepted with less told, it has lines that are all read and blocks with more told too: those of
-- shapes that were live, read alike.
use Rattle.std.proofs.Common.{◌≡◌, inl, inr, ℕ, zero, suc, List, [], ◌∷◌, Some, Ok, slice_get, refl, sym, ap, ◌∙◌}
use Rattle.asm_core.specs.Lists.{IsMember}
use Rattle.asm_core.specs.Reading.Names.{names}
use Rattle.asm_core.specs.Reading.Line.{lines_under}
use Rattle.asm_core.specs.declared.shape.Shape.{Shape}
use Rattle.asm_core.specs.declared.piece.Piece.{Piece}
use Rattle.asm_core.specs.declared.statement.Statement.{Statement}
use Rattle.asm_core.specs.declared.interface.Interface.{Interface}
use Rattle.asm_core.specs.declared.lines.Graph.{Graph}
use Rattle.asm_core.specs.declared.lines.Lines.{Lines}
use Rattle.blk_deps.specs.Findings.{AreFindings, IsStackBroken, stack_violations}
use Rattle.blk_deps.specs.declared.violation.Violation.{Violation}
use Rattle.blk_check.specs.Judged.{with_graph, graphs_of}
use Rattle.blk_check.specs.Readable.{with_lines, readings_under, pieces_in}
use Rattle.blk_check.proofs.AcceptedLaws.{IsUnder}
use Rattle.blk_patch.specs.Upward.{HasBlock}
use Rattle.blk_patch.proofs.UpwardFindings.{none_listed, listed_none}

-- the block is one of these
pub record IsAmong (graphs : List Graph) (g : Graph) : Type 0 where
  pub number : ℕ
  pub is_graph : slice_get graphs number ≡ Some g

module _ (s : Statement) (old new : Interface) (live : List Shape) (graphs : List Graph)
    (same : (t : Shape) → lines_under names new t (pieces_in s.body) ≡ lines_under names old t (pieces_in s.body)) where
  abbrev ps : List Piece
  ps = pieces_in s.body

  -- lines under a live shape
  pub record IsFromShape (x : Lines) : Type 0 where
    pub shape : Shape
    pub number : ℕ
    pub is_shape : slice_get live number ≡ Some shape
    pub under : lines_under names old shape ps ≡ Ok x

  -- lines and blocks under these shapes
  pub record AreMade (ss : List Shape) : Type 0 where
    pub lines : List Lines
    pub others : List Graph
    pub readings : readings_under new ps ss ≡ Ok lines
    pub blocks : graphs_of lines ≡ Ok others
    pub each : (n : ℕ) (t : Shape) (g : Graph) → slice_get ss n ≡ Some t → slice_get others n ≡ Some g
        → HasBlock live graphs t g
    pub among : (n : ℕ) (g : Graph) → slice_get others n ≡ Some g → IsAmong graphs g
    pub from : (x : Lines) → IsMember x lines → IsFromShape x

  nothing_made : AreMade []
  unfolding readings_under graphs_of
  nothing_made = record {
    lines = [];
    others = [];
    readings = refl;
    blocks = refl;
    each = λ n t g at is. cc;
    among = λ n g is. cc;
    from = λ x member. absurd member;
  }

  one_made : (t : Shape) (ss : List Shape) → IsUnder s old live graphs t → AreMade ss → AreMade (t ∷ ss)
  unfolding readings_under graphs_of
  one_made t ss u rest = record {
    lines = u.lines ∷ rest.lines;
    others = u.graph ∷ rest.others;
    readings =
        ap (λ r. with_lines r (readings_under new ps ss)) (same t ∙ u.under)
        ∙ ap (with_lines (Ok u.lines)) rest.readings;
    blocks =
        ap (λ r. with_graph r (graphs_of rest.lines)) (u.of_lines).is ∙ ap (with_graph (Ok u.graph)) rest.blocks;
    each = each;
    among = among;
    from = from;
  }
    where
      each : (n : ℕ) (q : Shape) (g : Graph) → slice_get (t ∷ ss) n ≡ Some q
          → slice_get (u.graph ∷ rest.others) n ≡ Some g → HasBlock live graphs q g
      each zero q g at is = record { number = u.number; is_shape = u.is_shape ∙ at; is_graph = u.is_graph ∙ is }
      each (suc n) q g at is = rest.each n q g at is

      among : (n : ℕ) (g : Graph) → slice_get (u.graph ∷ rest.others) n ≡ Some g → IsAmong graphs g
      among zero g is = record { number = u.number; is_graph = u.is_graph ∙ is }
      among (suc n) g is = rest.among n g is

      from : (x : Lines) → IsMember x (u.lines ∷ rest.lines) → IsFromShape x
      from x (inl same) = record {
        shape = t;
        number = u.number;
        is_shape = u.is_shape;
        under = u.under ∙ ap Ok (sym same);
      }
      from x (inr later) = rest.from x later

  pub all_made : (ss : List Shape) → ((t : Shape) → IsMember t ss → IsUnder s old live graphs t) → AreMade ss
  all_made [] under = nothing_made
  all_made (t ∷ ss) under = one_made t ss (under t (inl refl)) (all_made ss (λ q member. under q (inr member)))

-- ---- the stack

module _ (graphs others : List Graph) (among : (n : ℕ) (g : Graph) → slice_get others n ≡ Some g → IsAmong graphs g)
  where
    stack_before : (v : Violation) (line : ℕ) → IsStackBroken others v line → IsStackBroken graphs v line
    stack_before v line broken =
        let there = among broken.number broken.graph broken.is_graph in
        record {
          number = there.number;
          graph = broken.graph;
          is_graph = there.is_graph;
          node = broken.node;
          breaks = broken.breaks;
          is_line = broken.is_line;
        }

    pub stack_up : AreFindings (IsStackBroken graphs) stack_violations []
        → AreFindings (IsStackBroken others) stack_violations []
    stack_up level =
        listed_none (IsStackBroken others) stack_violations
        (λ v member line broken. none_listed (IsStackBroken graphs) stack_violations level v member line
        (stack_before v line broken))
