-- An instruction of a walk: what is known of what it reads, puts and uses.
use Rattle.std.proofs.Common.{◌≡◌, ℕ, ◌+◌, ◌*◌, ◌/◌, ◌<◌, ◌≤◌, List, length, All, Some, slice_get, slice_index, get_or, refl, sym, ap, subst, ◌∙◌, arith}
use Rattle.std.proofs.lemmas.Option.{slice_get-get_or, get_or_from_slice_get}
use Rattle.std.specs.List.{list_any}
use Rattle.asm_core.proofs.ShapeLaws.{inside_get}
use Rattle.asm_core.specs.declared.sym.Sym.{Sym}
use Rattle.blk_deps.specs.Cells.{hand_cell}
use Rattle.blk_deps.specs.Facts.{Facts, after_reads}
use Rattle.blk_deps.specs.Line.{line_reads, used_hands}
use Rattle.blk_deps.specs.Ways.{size_of}
use Rattle.blk_deps.specs.Rules.{Used, used_at_line}
use Rattle.blk_deps.specs.Layout.{block_words, value_words, shown}
use Rattle.blk_deps.specs.Fits.{FitReads, FitPuts, HandsHold, Collects, PutsDown, Moves}
use Rattle.blk_deps.specs.Findings.{facts_after}
use Rattle.blk_deps.specs.FlowFacts.{IsMoving, HaveHands}
use Rattle.blk_deps.specs.LineMoves.{IsLineMoves}
use Rattle.blk_deps.specs.Scenes.{IsScene, IsAbout, ShowsUsed}
use Rattle.blk_deps.specs.Walking.{setting_in, scene_of, IsWalk, ShowsUsedAt, HoldsReads}
use Rattle.blk_deps.specs.declared.layout.Layout.{Layout}
use Rattle.blk_deps.specs.declared.fact.Fact.{Fact}
use Rattle.blk_deps.specs.declared.fact.Fact.TheVariants.{Has}
use Rattle.blk_deps.specs.declared.line.LineMoves.{LineMoves}
use Rattle.blk_deps.specs.declared.step.Read.{Read}
use Rattle.blk_deps.specs.declared.step.Put.{Put}
use Rattle.blk_deps.specs.declared.rules.scene.Scene.{Scene}
use Rattle.blk_deps.specs.declared.violation.Violation.{Violation}
use Rattle.blk_deps.specs.declared.walk.Walk.{Walk}
use Rattle.blk_deps.proofs.DownLemmas.{fit_hands}
use Rattle.blk_deps.proofs.FlowLemmas.{moved_as}
use Rattle.blk_deps.proofs.UsedHands.{used_within, hand_inside, all_so, uses_shown}

pub any_item : {X : Type 0} (xs : List X) (i : ℕ) (d e : X) → i < length xs → get_or xs i d ≡ get_or xs i e
any_item xs i d e within = get_or_from_slice_get xs i (get_or xs i e) d (slice_get-get_or xs i e within)

pub same_some : {X : Type 0} (a b : X) → Some a ≡ Some b → a ≡ b
same_some a b e = cc

pub used_moved : {l m : Layout} {words new : List ℕ} {used : Used} → m ≡ l → new ≡ words → ShowsUsed l words used → ShowsUsed m new used
used_moved {l = l} {m = m} {words = words} {new = new} {used = used} layout same shows =
    subst (λ k. ShowsUsed k new used) (sym layout) (subst (λ ws. ShowsUsed l ws used) (sym same) shows)

pub scene_is : (w : Walk) → IsWalk w → IsScene (scene_of w)
scene_is w is = record { context = is.flow.context; names = is.names; layout = is.flow.layout; operands = is.flow.operands }

pub about_at : (w : Walk) → IsWalk w → (t : ℕ) (d : Violation) → t < length w.violations.now → IsAbout (length w.flow.context.now.interface.now.operands) (get_or w.violations.now t d)
about_at w is t d within = is.about t (get_or w.violations.now t d) (slice_get-get_or w.violations.now t d within)

pub about_in : (w : Walk) (s : Scene) → IsWalk w → s ≡ scene_of w → (t : ℕ) (d : Violation) → t < length w.violations.now
    → IsAbout (length s.context.now.interface.now.operands) (get_or w.violations.now t d)
about_in w s is same t d within =
    subst (λ (x : Scene). IsAbout (length x.context.now.interface.now.operands) (get_or w.violations.now t d)) (sym same) (about_at w is t d within)

pub hands_kept : (w : Walk) (old new : List ℕ) → length new ≡ length old → HaveHands w.flow old → HaveHands w.flow new
hands_kept w old new same have = record { each = λ n moves at. subst (λ size. length moves.reads * block_words w.flow.layout.now ≤ size) (sym same) (have.each n moves at) }

module _ (w : Walk) (is : IsWalk w) (n : ℕ) (within : n < size_of w.flow.graph.now) (item : LineMoves) where
  abbrev moves : LineMoves
  moves = get_or w.flow.moves.now n item

  pub told : slice_get w.flow.moves.now n ≡ Some moves
  told = slice_get-get_or w.flow.moves.now n item (let count = is.flow.moves.count in omega (arith, within, count))

  pub line : (inst : Sym) × (slice_get w.flow.graph.now.insts n ≡ Some inst)
  line = inside_get w.flow.graph.now.insts n within

  pub moving : IsMoving w.flow.context.now w.flow.layout.now (slice_index w.flow.depths.now n) line.0 moves
  moving = is.flow.moves.each n line.0 moves line.1 told

  pub line_moves : IsLineMoves w.flow.context.now.interface.now w.flow.context.now.shape.now (slice_index w.flow.depths.now n) line.0 moves
  line_moves = is.moves n line.0 moves line.1 told

  pub line_moves_at : (inst : Sym) → slice_get w.flow.graph.now.insts n ≡ Some inst
      → IsLineMoves w.flow.context.now.interface.now w.flow.context.now.shape.now (slice_index w.flow.depths.now n) inst moves
  line_moves_at inst at = is.moves n inst moves at told

  pub inst_is : (insts : List Sym) (inst : Sym) → insts ≡ w.flow.graph.now.insts → inst ≡ get_or insts n inst → slice_get w.flow.graph.now.insts n ≡ Some inst
  inst_is insts inst same at = slice_get-get_or w.flow.graph.now.insts n inst within ∙ ap (λ i. Some i) (ap (λ xs. get_or xs n inst) (sym same) ∙ sym at)

  pub fit_reads : (reads : List Read) → reads ≡ moves.reads → FitReads w.flow.layout.now reads
  fit_reads reads r = subst (FitReads w.flow.layout.now) (sym r) moving.fits.of_reads

  pub room_for : (reads : List Read) (hands : List ℕ) → reads ≡ moves.reads → HaveHands w.flow hands → length reads * block_words w.flow.layout.now ≤ length hands
  room_for reads hands r have = subst (λ xs. length xs * block_words w.flow.layout.now ≤ length hands) (sym r) (have.each n moves told)

  pub fit_puts : (puts : List Put) (hands : List ℕ) → puts ≡ moves.puts → HaveHands w.flow hands → FitPuts w.flow.layout.now (length hands / block_words w.flow.layout.now) puts
  fit_puts puts hands p have =
      fit_hands w.flow.layout.now (length moves.reads) (length hands) puts (have.each n moves told)
      (subst (FitPuts w.flow.layout.now (length moves.reads)) (sym p) moving.fits.of_puts)

  pub holds : (row hands : List ℕ) (reads : List Read) → reads ≡ moves.reads → HandsHold w.flow.layout.now hands (shown w.flow.layout.now row) reads → HoldsReads w n row hands
  holds row hands reads r hold = record {
    each = λ m at.
        subst (λ (y : LineMoves). HandsHold w.flow.layout.now hands (shown w.flow.layout.now row) y.reads) (same_some moves m (sym told ∙ at))
        (subst (HandsHold w.flow.layout.now hands (shown w.flow.layout.now row)) r hold);
  }

  pub moved_on : (puts : List Put) (hands old new : List ℕ) → puts ≡ moves.puts → HoldsReads w n old hands
      → PutsDown w.flow.layout.now w.flow.sharers.now hands puts old new
      → (fact : Fact) → shown w.flow.layout.now new fact ≡ facts_after (setting_in w) n (shown w.flow.layout.now old) fact
  moved_on puts hands old new p hold down =
      moved_as w.flow is.flow n within moves told old new
      (subst (λ ps. Moves w.flow.layout.now w.flow.sharers.now moves.reads ps old new) p
      (down.moves moves.reads (hold.each moves told) (subst (FitPuts w.flow.layout.now (length moves.reads)) (sym p) moving.fits.of_puts)))

  -- ---- uses

  used_in_reads : (used : List ℕ) → used ≡ moves.used → All (λ h. h < length moves.reads) used
  used_in_reads used u =
      let i = w.flow.context.now.interface.now in let s = w.flow.context.now.shape.now in let depth = slice_index w.flow.depths.now n in
      subst (λ xs. All (λ h. h < length xs) used) (sym moving.reads)
      (subst (All (λ h. h < length (line_reads i s depth line.0))) (sym (u ∙ line_moves.used)) (used_within i s depth line.0))

  pub used_there : (used hands : List ℕ) → used ≡ moves.used → HaveHands w.flow hands
      → All (λ h. h * block_words w.flow.layout.now + block_words w.flow.layout.now ≤ length hands) used
  used_there used hands u have =
      all_so used (hand_inside w.flow.layout.now is.flow.layout hands moves.reads (have.each n moves told)) (used_in_reads used u)

  pub shows_used : (row hands used words : List ℕ) → used ≡ moves.used → HaveHands w.flow hands → HoldsReads w n row hands
      → Collects w.flow.layout.now hands used words → ShowsUsedAt w n row words
  shows_used row hands used words u have hold collects = record { each = each }
    where
      facts : Facts
      facts = shown w.flow.layout.now row

      by_moves : ShowsUsed w.flow.layout.now words (λ property. list_any (λ hand. after_reads moves.reads facts (Has (hand_cell hand) property)) used)
      by_moves = uses_shown w.flow.layout.now is.flow.layout hands moves.reads (have.each n moves told) facts (hold.each moves told) used words (used_in_reads used u) collects

      by_line : ShowsUsed w.flow.layout.now words (used_at_line w.flow.context.now.interface.now w.flow.context.now.shape.now (slice_index w.flow.depths.now n) line.0 facts)
      by_line =
          subst (λ hs. ShowsUsed w.flow.layout.now words (λ property. list_any (λ hand. after_reads (line_reads w.flow.context.now.interface.now w.flow.context.now.shape.now (slice_index w.flow.depths.now n) line.0) facts (Has (hand_cell hand) property)) hs)) (u ∙ line_moves.used)
          (subst (λ rs. ShowsUsed w.flow.layout.now words (λ property. list_any (λ hand. after_reads rs facts (Has (hand_cell hand) property)) used)) moving.reads by_moves)

      each : (inst : Sym) → slice_get w.flow.graph.now.insts n ≡ Some inst
          → ShowsUsed w.flow.layout.now words (used_at_line w.flow.context.now.interface.now w.flow.context.now.shape.now (slice_index w.flow.depths.now n) inst facts)
      each inst at = subst (λ i. ShowsUsed w.flow.layout.now words (used_at_line w.flow.context.now.interface.now w.flow.context.now.shape.now (slice_index w.flow.depths.now n) i facts))
          (same_some line.0 inst (sym line.1 ∙ at)) by_line
