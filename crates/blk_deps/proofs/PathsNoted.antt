-- What is noted on the paths of a block under a shape: the instructions of one basic block after the other, and the end.
use Rattle.std.proofs.Common.{◌≡◌, ◌⊎◌, inl, inr, ℕ, ◌+◌, ◌-◌, ◌*◌, ◌++◌, ◌↔◌, ◌<◌, ◌≤◌, List, length, take, All, Bool, true, Some, nat_cmp, slice_get, slice_index, get_or, refl, sym, ap, subst, ◌∙◌, arith, if◌then◌else◌}
use Rattle.std.proofs.lemmas.Bool.{cases_lt, eq-eqb, ne_eqb}
use Rattle.std.proofs.lemmas.List.{get_or_past}
use Rattle.std.proofs.lemmas.List.Elements.{All-get_or, All-more}
use Rattle.std.proofs.Math.Seq.{take-append_seam}
use Rattle.std.specs.Ordering.{ord_max}
use Rattle.std.proofs.lemmas.Bool.Decides.{nat_tests}
use Rattle.std.proofs.lemmas.Nat.{mul-le}
use Rattle.std.proofs.lemmas.Option.{slice_get_within, get_or_from_slice_get}
use Rattle.asm_core.specs.declared.sym.Sym.{Sym}
use Rattle.blk_deps.specs.Facts.{Facts}
use Rattle.blk_deps.specs.Ways.{size_of, goes, line_number}
use Rattle.blk_deps.specs.Layout.{block_words}
use Rattle.blk_deps.specs.Rules.{breaks_at_line, breaks_at_end}
use Rattle.blk_deps.specs.Blocks.{AreBlocks, first_of, count_of, facts_through}
use Rattle.blk_deps.specs.Findings.{Setting, facts_after, OnPath, BreaksAt}
use Rattle.blk_deps.specs.FlowFacts.{setting_of, HaveHands, ShowPaths}
use Rattle.blk_deps.specs.Noting.{IsNoted}
use Rattle.blk_deps.specs.Judged.{BreaksIn}
use Rattle.blk_deps.specs.Walking.{BreaksByText, BreaksHere, BreaksAlong, BreaksEnd}
use Rattle.blk_deps.specs.declared.blocks.BasicBlock.{BasicBlock}
use Rattle.blk_deps.specs.declared.flow.Flow.{Flow}
use Rattle.blk_deps.specs.declared.line.LineMoves.{LineMoves}
use Rattle.blk_deps.specs.declared.violation.Violation.{Violation}
use Rattle.blk_deps.proofs.Causes.{line_single, end_single}
use Rattle.blk_deps.proofs.NotingLemmas.{noted_none, noted_then, noted_as}

-- ---- hands

pub have_hands : (x : Flow) (hands : List ℕ) (most : ℕ) → All (λ (m : LineMoves). length m.reads ≤ most) x.moves.now
    → length hands ≡ most * block_words x.layout.now → HaveHands x hands
have_hands x hands most all count = record { each = each }
  where
    each : (n : ℕ) (moves : LineMoves) → slice_get x.moves.now n ≡ Some moves → length moves.reads * block_words x.layout.now ≤ length hands
    each n moves at =
        let inside = slice_get_within x.moves.now n moves at in
        let is : get_or x.moves.now n moves ≡ moves = get_or_from_slice_get x.moves.now n moves moves at in
        let few : length moves.reads ≤ most =
        subst (λ (m : LineMoves). length m.reads ≤ most) is (All-get_or (λ (m : LineMoves). length m.reads ≤ most) x.moves.now n moves inside all) in
        subst (λ k. length moves.reads * block_words x.layout.now ≤ k) (sym count) (mul-le (length moves.reads) (block_words x.layout.now) most (block_words x.layout.now) few (omega arith))

-- one line more
pub one_more_hand : (moves : List LineMoves) (k most count next : ℕ) (item : LineMoves) → k < length moves → item ≡ get_or moves k item → count ≡ length item.reads
    → next ≡ ord_max nat_cmp most count → All (λ (m : LineMoves). length m.reads ≤ most) (take k moves) → All (λ (m : LineMoves). length m.reads ≤ next) (take (k + 1) moves)
one_more_hand moves k most count next item inside is counted makes before =
    All-more (λ (m : LineMoves). length m.reads ≤ next) moves k item inside
    (λ n d lt. let old = before n d lt in omega (arith, old, up))
    (subst (λ (m : LineMoves). length m.reads ≤ next) is (omega (arith, counted, over)))
  where
    up : most ≤ next
    up = grind (arith, nat_tests, makes)

    over : count ≤ next
    over = grind (arith, nat_tests, makes)

-- words that are put back in their place
pub put_back : (n k : ℕ) (words rest : List ℕ) → n ≡ k → length words ≡ k → length (take n (words ++ rest)) ≡ k
put_back n k words rest is count =
    let same : n ≡ length words = is ∙ sym count in
    ap (λ m. length (take m (words ++ rest))) same ∙ ap length (take-append_seam words rest) ∙ count

-- ---- instructions

-- instruction n breaks the rule on that line, by its text or by the facts of a path
pub record BreaksOnPath (x : Setting) (n : ℕ) (v : Violation) (line : ℕ) : Type 0 where
  pub inst : Sym
  pub is_inst : slice_get x.graph.insts n ≡ Some inst
  pub breaks : BreaksByText x inst v ⊎ OnPath x n (breaks_at_line x.interface x.live x.shape (slice_index x.depths n) inst v)
  pub is_line : line ≡ n + 1

-- one of the first instructions does, so many
pub record BreaksBefore (x : Setting) (count : ℕ) (v : Violation) (line : ℕ) : Type 0 where
  pub node : ℕ
  pub below : node < count
  pub here : BreaksOnPath x node v line

module _ (x : Setting) where
  none_before : (count : ℕ) (vs : List Violation) (xs : List ℕ) → count ≡ 0 → IsNoted (BreaksBefore x count) vs xs xs
  none_before count vs xs none = noted_none xs (λ v line b. let lt = b.below in omega (arith, lt, none))

  -- ---- all nodes

  number_within : (n : ℕ) → n < size_of x.graph → line_number x.graph n ≡ n + 1
  number_within n lt = ap (λ b. if b then 513 else n + 1) (ne_eqb n (size_of x.graph) (λ e. omega (arith, e, lt)))

  number_end : line_number x.graph (size_of x.graph) ≡ 513
  number_end = ap (λ b. if b then 513 else size_of x.graph + 1) (eq-eqb (size_of x.graph) (size_of x.graph) refl)

  abbrev EndsOnPath : Violation → ℕ → Type 0
  EndsOnPath v line = (line ≡ 513) × OnPath x (size_of x.graph) (breaks_at_end x.interface x.shape v)

  up_within : (v : Violation) (line n : ℕ) → BreaksOnPath x n v line → BreaksIn x v line
  up_within v line n h = record { node = n; breaks = by h.breaks; is_line = h.is_line ∙ sym (number_within n (slice_get_within x.graph.insts n h.inst h.is_inst)) }
    where
      by : BreaksByText x h.inst v ⊎ OnPath x n (breaks_at_line x.interface x.live x.shape (slice_index x.depths n) h.inst v) → BreaksAt x v n
      by (inl text) = BreaksAt.by_text n h.inst h.is_inst text.rule text.other text.breaks
      by (inr path) = BreaksAt.at_line n h.inst h.is_inst path

  up_all : (v : Violation) (line : ℕ) → BreaksBefore x (size_of x.graph) v line ⊎ EndsOnPath v line → BreaksIn x v line
  up_all v line (inl b) = up_within v line b.node b.here
  up_all v line (inr end) = record { node = size_of x.graph; breaks = BreaksAt.at_end end.1; is_line = end.0 ∙ sym number_end }

  before_by : (v : Violation) (line n : ℕ) (inst : Sym) → slice_get x.graph.insts n ≡ Some inst
      → BreaksByText x inst v ⊎ OnPath x n (breaks_at_line x.interface x.live x.shape (slice_index x.depths n) inst v)
      → line ≡ line_number x.graph n → BreaksBefore x (size_of x.graph) v line
  before_by v line n inst at breaks is =
      let inside = slice_get_within x.graph.insts n inst at in
      record { node = n; below = inside; here = record { inst = inst; is_inst = at; breaks = breaks; is_line = is ∙ number_within n inside } }

  down_at : (v : Violation) (line n : ℕ) → BreaksAt x v n → line ≡ line_number x.graph n → BreaksBefore x (size_of x.graph) v line ⊎ EndsOnPath v line
  down_at v line n (BreaksAt.at_line m inst at path) is = inl (before_by v line m inst at (inr path) is)
  down_at v line n (BreaksAt.at_end path) is = inr (is ∙ number_end, path)
  down_at v line n (BreaksAt.by_text m inst at rule other breaks) is =
      inl (before_by v line m inst at (inl (record { rule = rule; other = other; breaks = breaks })) is)

  down_all : (v : Violation) (line : ℕ) → BreaksIn x v line → BreaksBefore x (size_of x.graph) v line ⊎ EndsOnPath v line
  down_all v line is = down_at v line is.node is.breaks is.is_line

-- ---- the paths that are found

module _ (x : Flow) (found : ℕ → Facts) (paths : ShowPaths x found)
    (are : AreBlocks (size_of x.graph.now) (goes x.graph.now) x.blocks.now) where
  abbrev s : Setting
  s = setting_of x

  abbrev first : ℕ → ℕ
  first b = first_of (size_of x.graph.now) x.blocks.now b

  abbrev count : ℕ → ℕ
  count b = count_of (size_of x.graph.now) x.blocks.now b

  abbrev test_of : ℕ → Sym → Violation → Facts → Bool
  test_of n inst v = breaks_at_line s.interface s.live s.shape (slice_index s.depths n) inst v

  pub none_at_first : (vs : List Violation) (xs : List ℕ) → IsNoted (BreaksBefore s (first 0)) vs xs xs
  none_at_first vs xs = none_before s (first 0) vs xs are.begins

  along_up : (b : ℕ) (v : Violation) (line : ℕ) (a : BreaksAlong s (first b) (count b) (found b) v line) → BreaksOnPath s (first b + a.passed) v line
  along_up b v line a = record { inst = h.inst; is_inst = h.is_inst; breaks = by h.breaks; is_line = h.is_line }
    where
      h : BreaksHere s (first b + a.passed) (facts_through (facts_after s) (first b) a.passed (found b)) v line
      h = a.here

      by : BreaksByText s h.inst v ⊎ (test_of (first b + a.passed) h.inst v (facts_through (facts_after s) (first b) a.passed (found b)) ≡ true)
          → BreaksByText s h.inst v ⊎ OnPath s (first b + a.passed) (test_of (first b + a.passed) h.inst v)
      by (inl text) = inl text
      by (inr is) = inr ((paths.each b a.passed _ (inl a.within) (line_single s.interface s.shape s.live (slice_index s.depths (first b + a.passed)) h.inst v)).0 is)

  along_down : (b passed : ℕ) (v : Violation) (line : ℕ) → passed < count b → BreaksOnPath s (first b + passed) v line → BreaksAlong s (first b) (count b) (found b) v line
  along_down b passed v line within h =
      record { passed = passed; within = within; here = record { inst = h.inst; is_inst = h.is_inst; breaks = by h.breaks; is_line = h.is_line } }
    where
      by : BreaksByText s h.inst v ⊎ OnPath s (first b + passed) (test_of (first b + passed) h.inst v)
          → BreaksByText s h.inst v ⊎ (test_of (first b + passed) h.inst v (facts_through (facts_after s) (first b) passed (found b)) ≡ true)
      by (inl text) = inl text
      by (inr path) = inr ((paths.each b passed _ (inl within) (line_single s.interface s.shape s.live (slice_index s.depths (first b + passed)) h.inst v)).1 path)

  -- one basic block more
  pub one_more_block : (b : ℕ) (facts : Facts) (vs : List Violation) (old mid new : List ℕ) → b < length x.blocks.now
      → facts ≡ found b → IsNoted (BreaksBefore s (first b)) vs old mid
      → IsNoted (BreaksAlong s (first b) (count b) facts) vs mid new
      → IsNoted (BreaksBefore s (first (b + 1))) vs old new
  one_more_block b facts vs old mid new inside is before along =
      noted_as old new up down
      (noted_then old mid new before (subst (λ f. IsNoted (BreaksAlong s (first b) (count b) f) vs mid new) is along))
    where
      next : first (b + 1) ≡ first b + count b
      next = are.follows b inside

      up : (v : Violation) (line : ℕ) → BreaksBefore s (first b) v line ⊎ BreaksAlong s (first b) (count b) (found b) v line → BreaksBefore s (first (b + 1)) v line
      up v line (inl early) = record { node = early.node; below = let lt = early.below in omega (arith, lt, next); here = early.here }
      up v line (inr a) = record { node = first b + a.passed; below = let lt = a.within in omega (arith, lt, next); here = along_up b v line a }

      behind : (v : Violation) (line : ℕ) (n : ℕ) → first b ≤ n → n < first (b + 1) → BreaksOnPath s n v line → BreaksAlong s (first b) (count b) (found b) v line
      behind v line n ge lt h =
          let same : n ≡ first b + (n - first b) = omega (arith, ge) in
          along_down b (n - first b) v line (omega (arith, ge, lt, next)) (subst (λ k. BreaksOnPath s k v line) same h)

      down : (v : Violation) (line : ℕ) → BreaksBefore s (first (b + 1)) v line → BreaksBefore s (first b) v line ⊎ BreaksAlong s (first b) (count b) (found b) v line
      down v line is = elim (cases_lt is.node (first b)) [
        | inl lt ↦ inl (record { node = is.node; below = lt; here = is.here })
        | inr ge ↦ inr (behind v line is.node ge is.below is.here)
      ]

  first_past : (b : ℕ) → length x.blocks.now ≤ b → first b ≡ size_of x.graph.now
  first_past b past = ap (λ (y : BasicBlock). y.first) (get_or_past x.blocks.now b _ past)

  at_end : (v : Violation) → (breaks_at_end s.interface s.shape v (found (length x.blocks.now)) ≡ true) ↔ OnPath s (size_of x.graph.now) (breaks_at_end s.interface s.shape v)
  at_end v =
      let last : first (length x.blocks.now) + 0 ≡ size_of x.graph.now = let past = first_past (length x.blocks.now) (omega arith) in omega (arith, past) in
      subst (λ n. (breaks_at_end s.interface s.shape v (found (length x.blocks.now)) ≡ true) ↔ OnPath s n (breaks_at_end s.interface s.shape v)) last
      (paths.each (length x.blocks.now) 0 (breaks_at_end s.interface s.shape v) (inr (refl, refl)) (end_single s.interface s.shape v))

  -- all basic blocks, and the end
  pub all_noted : (b : ℕ) (facts : Facts) (vs : List Violation) (old mid new : List ℕ) → length x.blocks.now ≤ b
      → facts ≡ found (length x.blocks.now) → IsNoted (BreaksBefore s (first b)) vs old mid
      → IsNoted (BreaksEnd s facts) vs mid new → IsNoted (BreaksIn s) vs old new
  all_noted b facts vs old mid new past is before end =
      noted_as old new up down
      (noted_then old mid new
      (subst (λ n. IsNoted (BreaksBefore s n) vs old mid) (first_past b past) before)
      (subst (λ f. IsNoted (BreaksEnd s f) vs mid new) is end))
    where
      up : (v : Violation) (line : ℕ) → BreaksBefore s (size_of x.graph.now) v line ⊎ BreaksEnd s (found (length x.blocks.now)) v line → BreaksIn s v line
      up v line (inl early) = up_all s v line (inl early)
      up v line (inr end) = up_all s v line (inr (end.0, (at_end v).0 end.1))

      down : (v : Violation) (line : ℕ) → BreaksIn s v line → BreaksBefore s (size_of x.graph.now) v line ⊎ BreaksEnd s (found (length x.blocks.now)) v line
      down v line is = elim (down_all s v line is) [
        | inl early ↦ inl early
        | inr end ↦ inr (end.0, (at_end v).1 end.1)
      ]
