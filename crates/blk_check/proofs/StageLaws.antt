-- From one stage of judging to the next.
use Rattle.std.proofs.Common.{◌≡◌, inl, inr, ℕ, zero, suc, ◌<◌, arith, List, [], ◌∷◌, length, Option, None, Some, IsSome, Result, Ok, Err, All, slice_get, refl, sym, ap, ◌∙◌, subst}
use Rattle.std.specs.List.{AllZip}
use Rattle.std.proofs.lemmas.Option.{slice_get_within}
use Rattle.std.proofs.lemmas.List.Elements.{All-nil, All-cons, All-head, All-tail}
use Rattle.asm_core.specs.Reading.Names.{names}
use Rattle.asm_core.specs.Reading.Line.{lines_under}
use Rattle.asm_core.specs.Shape.{IsLive, shapes_of}
use Rattle.asm_core.specs.declared.shape.Shape.{Shape}
use Rattle.asm_core.specs.declared.piece.Piece.{Piece}
use Rattle.asm_core.specs.declared.statement.Statement.{Statement}
use Rattle.asm_core.specs.declared.interface.Interface.{Interface}
use Rattle.asm_core.specs.declared.lines.Graph.{Graph}
use Rattle.asm_core.specs.declared.lines.Lines.{Lines}
use Rattle.asm_core.specs.declared.lines.LinesEnd.{LinesEnd}
use Rattle.blk_deps.specs.Ways.{IsGraph}
use Rattle.blk_check.specs.Proven.{Proven}
use Rattle.blk_check.specs.Judged.{IsFirstRoomy, IsProof, graph_under, graph_if, graph_with, graphs_of}
use Rattle.blk_check.specs.Readable.{AreLive, IsShort, HasBlock, with_lines, readings_under, pieces_in}
use Rattle.blk_check.specs.Stages.{HasReadings, Agrees, IsBlockOf, HasBlocks}
use Rattle.blk_check.proofs.BlockLaws.{IsGraphOf}
use Rattle.blk_check.proofs.ReadLaws.{AreRead, judged_read, judged_blocks, blocks_are}
use Rattle.blk_check.proofs.RoomyLaws.{first_of_all}

-- ---- each has a block

pub all_blocks : (xs : List Lines) (gs : List Graph) → All IsShort xs → All AreRead xs → AllZip IsGraphOf xs gs → All HasBlock xs
all_blocks [] gs short read zip = All-nil HasBlock
all_blocks (x ∷ xs) [] short read zip = absurd zip
all_blocks (x ∷ xs) (g ∷ gs) short read zip =
    let few = All-head IsShort x xs short in
    All-cons HasBlock x xs (record { read = All-head AreRead x xs read; few = few.insts; graph = g; is_graph = zip.0.is })
    (all_blocks xs gs (All-tail IsShort x xs short) (All-tail AreRead x xs read) zip.1)

module _ (s : Statement) (i : Interface) where
  abbrev pieces : List Piece
  pieces = pieces_in s.body

  record Split (shape : Shape) (shapes : List Shape) (xs : List Lines) : Type 0 where
    x : Lines
    rest : List Lines
    first : lines_under names i shape pieces ≡ Ok x
    others : readings_under i pieces shapes ≡ Ok rest
    is : xs ≡ x ∷ rest

  split : (shape : Shape) (shapes : List Shape) (r : Result Lines LinesEnd) (rs : Result (List Lines) LinesEnd) (xs : List Lines)
      → lines_under names i shape pieces ≡ r → readings_under i pieces shapes ≡ rs → with_lines r rs ≡ Ok xs → Split shape shapes xs
  split shape shapes (Err end) rs xs first others e = cc
  split shape shapes (Ok x) (Err end) xs first others e = cc
  split shape shapes (Ok x) (Ok ys) xs first others e = record { x = x; rest = ys; first = first; others = others; is = let same : x ∷ ys ≡ xs = cc in sym same }

  pub record Paired (shapes : List Shape) (graphs : List Graph) : Type 0 where
    pub count : length graphs ≡ length shapes
    pub each : (k : ℕ) (shape : Shape) (g : Graph) → slice_get shapes k ≡ Some shape → slice_get graphs k ≡ Some g → IsBlockOf s i shape g

  block_is : (shape : Shape) (x : Lines) (g : Graph) → lines_under names i shape pieces ≡ Ok x → IsGraphOf x g → IsBlockOf s i shape g
  block_is shape x g lines graph = record { is_graph = graph.graph; under = ap graph_with lines ∙ ap graph_if graph.is }

  onto : (shape : Shape) (shapes : List Shape) (g : Graph) (graphs : List Graph) → IsBlockOf s i shape g → Paired shapes graphs → Paired (shape ∷ shapes) (g ∷ graphs)
  onto shape shapes g graphs first rest = record { count = ap suc rest.count; each = each }
    where
      each : (k : ℕ) (q : Shape) (h : Graph) → slice_get (shape ∷ shapes) k ≡ Some q → slice_get (g ∷ graphs) k ≡ Some h → IsBlockOf s i q h
      each zero q h at_shape at_graph = let one : shape ≡ q = cc in let other : g ≡ h = cc in subst (λ t. IsBlockOf s i t h) one (subst (IsBlockOf s i shape) other first)
      each (suc k) q h at_shape at_graph = rest.each k q h at_shape at_graph

  pub pair_up : (shapes : List Shape) (xs : List Lines) (graphs : List Graph) → readings_under i pieces shapes ≡ Ok xs → AllZip IsGraphOf xs graphs → Paired shapes graphs
  unfolding readings_under
  pair_up [] xs graphs lines zip =
      let none : [] ≡ xs = cc in
      none_paired graphs (subst (λ ys. AllZip IsGraphOf ys graphs) (sym none) zip)
    where
      none_paired : (gs : List Graph) → AllZip IsGraphOf [] gs → Paired [] gs
      none_paired [] zip = record { count = refl; each = λ k shape g at_shape at_graph. cc }
      none_paired (g ∷ gs) zip = absurd zip
  pair_up (shape ∷ shapes) xs graphs lines zip =
      let cut = split shape shapes (lines_under names i shape pieces) (readings_under i pieces shapes) xs refl refl lines in
      some_paired cut graphs (λ gs rest. pair_up shapes cut.rest gs cut.others rest) (subst (λ ys. AllZip IsGraphOf ys graphs) cut.is zip)
    where
      some_paired : (cut : Split shape shapes xs) (gs : List Graph) → ((gs : List Graph) → AllZip IsGraphOf cut.rest gs → Paired shapes gs) → AllZip IsGraphOf (cut.x ∷ cut.rest) gs → Paired (shape ∷ shapes) gs
      some_paired cut [] others zip = absurd zip
      some_paired cut (g ∷ gs) others zip = onto shape shapes g gs (block_is shape cut.x g cut.first zip.0) (others gs zip.1)

  -- ---- the stages

  -- where the shapes agree, each reading has a block
  pub agreed_blocks : (live : List Shape) (xs : List Lines) → All IsShort xs → Agrees s i live xs → All HasBlock xs
  agreed_blocks live xs short agrees =
      let blocks = judged_blocks i pieces live xs agrees.has.readings agrees.read agrees.alike in
      all_blocks xs blocks.0 short (judged_read i pieces live xs agrees.has.readings agrees.read agrees.alike) blocks.1.each

  -- and these are the blocks under the shapes
  pub agreed_graphs : (live : List Shape) (xs : List Lines) (graphs : List Graph) → Agrees s i live xs → graphs_of xs ≡ Ok graphs → HasBlocks s i live graphs
  agreed_graphs live xs graphs agrees made =
      let blocks = blocks_are i pieces live xs agrees.has.readings agrees.read agrees.alike graphs made in
      let paired = pair_up live xs graphs agrees.has.readings blocks.each in
      record { shapes = agrees.has.shapes; count = paired.count; graphs = blocks.graphs; each = paired.each }

  -- the first live shape that has room, with its block
  pub is_proof : (live : List Shape) (graphs : List Graph) (k : ℕ) (shape : Shape) (p : Proven) → HasBlocks s i live graphs → slice_get live k ≡ Some shape → slice_get graphs k ≡ Some p.graph
      → IsFirstRoomy i live shape → p.statement ≡ s → p.interface ≡ i → p.shape ≡ shape → IsProof s i p
  is_proof live graphs k shape p has at_shape at_graph first statement interface is_shape = record {
    statement = statement;
    interface = interface;
    shape = subst (IsFirstRoomy i (shapes_of i)) (sym is_shape) (first_of_all i (shapes_of i) live shape has.shapes.are_live first);
    graph = ap (graph_under i pieces) is_shape ∙ (has.each k shape p.graph at_shape at_graph).under;
  }

  pub below_graphs : (live : List Shape) (graphs : List Graph) (k : ℕ) (shape : Shape) → HasBlocks s i live graphs → slice_get live k ≡ Some shape → k < length graphs
  below_graphs live graphs k shape has at_shape = let count = has.count in let lt = slice_get_within live k shape at_shape in omega (arith, lt, count)

module _ (i : Interface) where
  pub all_live : (ss live : List Shape) → AreLive i ss live → All (IsLive i) live
  unfolding AreLive
  all_live [] live are = subst (All (IsLive i)) (sym are) (All-nil (IsLive i))
  all_live (s ∷ ss) live (inl h) = subst (All (IsLive i)) (sym h.2) (All-cons (IsLive i) s h.1 h.0 (all_live ss h.1 h.3))
  all_live (s ∷ ss) live (inr h) = all_live ss live h.1
