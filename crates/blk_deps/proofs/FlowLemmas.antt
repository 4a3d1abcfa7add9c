-- What an instruction of a flow does to its row.
use Rattle.std.proofs.Common.{◌≡◌, ℕ, suc, ◌+◌, ◌<◌, ◌≤◌, ◌*◌, ◌&&◌, nat_lt, List, length, Bool, true, false, Option, None, Some, slice_get, slice_index, get_or, refl, sym, ap, subst, ◌∙◌, arith}
use Rattle.asm_core.specs.declared.sym.Sym.{Sym}
use Rattle.std.proofs.lemmas.Bool.Decides.{nat_tests}
use Rattle.std.proofs.lemmas.Option.{slice_get-get_or, get_or_from_slice_get}
use Rattle.asm_core.proofs.ShapeLaws.{inside_get}
use Rattle.dataflow.specs.Cause.{IsSingle, HasOneCause}
use Rattle.dataflow.specs.Causes.{single_up}
use Rattle.blk_deps.specs.Facts.{Facts, after_moves}
use Rattle.blk_deps.specs.Layout.{places_in, block_words, shown}
use Rattle.blk_deps.specs.Fits.{AreSharers, FitsLayout, Moves}
use Rattle.blk_deps.specs.Line.{line_reads}
use Rattle.blk_deps.specs.Ways.{size_of, goes}
use Rattle.blk_deps.specs.Blocks.{block_in, facts_through, facts_behind}
use Rattle.blk_deps.proofs.BlockPaths.{within_size}
use Rattle.blk_deps.specs.declared.blocks.BasicBlock.{BasicBlock}
use Rattle.blk_deps.specs.Findings.{moved_by, facts_after, start_of}
use Rattle.blk_deps.specs.FlowFacts.{sharing_in, setting_of, IsFlow, HaveHands}
use Rattle.blk_deps.specs.declared.fact.Fact.{Fact}
use Rattle.blk_deps.specs.declared.layout.Layout.{Layout}
use Rattle.blk_deps.specs.declared.line.LineMoves.{LineMoves}
use Rattle.blk_deps.specs.declared.step.Read.{Read}
use Rattle.blk_deps.specs.declared.step.Put.{Put}
use Rattle.blk_deps.specs.declared.flow.Flow.{Flow}

both : (a b : Bool) → (a ≡ true → b ≡ true) → (b ≡ true → a ≡ true) → a ≡ b
both true b up down = sym (up refl)
both false true up down = down refl
both false false up down = refl

-- a test sees the same in the same facts
pub alike : {F : Type 0} {test : (F → Bool) → Bool} → IsSingle test → (one other : F → Bool)
    → ((fact : F) → one fact ≡ other fact)
    → test one ≡ test other
alike {test = test} single one other same =
    both (test one) (test other)
    (single_up single one other (λ fact has. sym (same fact) ∙ has))
    (single_up single other one (λ fact has. same fact ∙ has))

lt_true : (m n : ℕ) → m < n → nat_lt m n ≡ true
lt_true m n lt = grind (arith, nat_tests)

lt_false : (m n : ℕ) → n ≤ m → nat_lt m n ≡ false
lt_false m n le = grind (arith, nat_tests)

pub are_sharers : (l : Layout) (sharers : List ℕ) → length sharers ≡ places_in l
    → AreSharers l (sharing_in l sharers) sharers
are_sharers l sharers count = record {
  count = count;
  bits = λ p q first second. rw (lt_true p (places_in l) first, lt_true q (places_in l) second) refl;
  no_first = λ p q past. rw (lt_false p (places_in l) past) refl;
  no_second = λ p q past. rw (lt_false q (places_in l) past) (and_false (nat_lt p (places_in l)));
} where
  and_false : (b : Bool) → (b && false) ≡ false
  and_false true = refl
  and_false false = refl

module _ (x : Flow) (is : IsFlow x) (n : ℕ) (within : n < size_of x.graph.now) (moves : LineMoves)
    (at : slice_get x.moves.now n ≡ Some moves) where
  pub moved_as : (old new : List ℕ) → Moves x.layout.now x.sharers.now moves.reads moves.puts old new → (fact : Fact)
      → shown x.layout.now new fact ≡ facts_after (setting_of x) n (shown x.layout.now old) fact
  moved_as old new moved fact = by (slice_get x.graph.now.insts n) refl where
    by : (line : Option Sym) → slice_get x.graph.now.insts n ≡ line
        → shown x.layout.now new fact ≡ moved_by (setting_of x) n line (shown x.layout.now old) fact
    by None past = let some = inside_get x.graph.now.insts n within in let wrong : Some some.0 ≡ None =
        sym some.1 ∙ past in cc
    by (Some line) here =
        let m = is.moves.each n line moves here at in
        moved.facts (sharing_in x.layout.now x.sharers.now) (are_sharers x.layout.now x.sharers.now is.sharers) fact
        ∙ ap (λ reads. after_moves (sharing_in x.layout.now x.sharers.now) reads moves.puts
        (shown x.layout.now old) fact) m.reads
        ∙ ap (λ puts. after_moves (sharing_in x.layout.now x.sharers.now)
        (line_reads x.context.now.interface.now x.context.now.shape.now (slice_index x.depths.now n) line) puts
        (shown x.layout.now old) fact) m.puts

-- the instruction's reads and writes are those that are told
module _ (x : Flow) (is : IsFlow x) (n : ℕ) (within : n < size_of x.graph.now) (item : LineMoves) (reads : List Read)
    (puts : List Put)
    (r : reads ≡ (get_or x.moves.now n item).reads) (p : puts ≡ (get_or x.moves.now n item).puts) where
  told : slice_get x.moves.now n ≡ Some (get_or x.moves.now n item)
  told = slice_get-get_or x.moves.now n item (omega (arith, within, is.moves.count))

  pub fits : FitsLayout x.layout.now reads puts
  fits =
      let line = inside_get x.graph.now.insts n within in
      let m = is.moves.each n line.0 _ line.1 told in
      subst (λ puts. FitsLayout x.layout.now reads puts) (sym p)
      (subst (λ reads. FitsLayout x.layout.now reads (get_or x.moves.now n item).puts) (sym r) m.fits)

  pub room : (hands : List ℕ) → HaveHands x hands → length reads * block_words x.layout.now ≤ length hands
  room hands have = subst (λ reads. length reads * block_words x.layout.now ≤ length hands) (sym r) (have.each n _ told)

  pub moves_by : (old new : List ℕ) → Moves x.layout.now x.sharers.now reads puts old new → (fact : Fact)
      → shown x.layout.now new fact ≡ facts_after (setting_of x) n (shown x.layout.now old) fact
  moves_by old new moved =
      moved_as x is n within _ told old new
      (subst (λ puts. Moves x.layout.now x.sharers.now (get_or x.moves.now n item).reads puts old new) p
      (subst (λ reads. Moves x.layout.now x.sharers.now reads puts old new) r moved))

-- ---- a block of a flow

pub any_default : {X : Type 0} (xs : List X) (i : ℕ) (d e : X) → i < length xs → get_or xs i d ≡ get_or xs i e
any_default xs i d e within = get_or_from_slice_get xs i (get_or xs i e) d (slice_get-get_or xs i e within)

-- one node more
pub goes_through : {F : Type 0} (after : ℕ → (F → Bool) → F → Bool) → ((n : ℕ) → HasOneCause (after n))
    → (first c : ℕ) (facts before behind : F → Bool)
    → ((fact : F) → before fact ≡ facts_through after first c facts fact)
    → ((fact : F) → behind fact ≡ after (first + c) before fact)
    → (fact : F) → behind fact ≡ facts_through after first (c + 1) facts fact
goes_through after one_cause first c facts before behind so_far step fact =
    step fact ∙ alike ((one_cause (first + c)).each fact) before (facts_through after first c facts) so_far
    ∙ ap (λ n. facts_through after first n facts fact) (let e : suc c ≡ c + 1 = omega arith in e)

module _ (x : Flow) (is : IsFlow x) (b : ℕ) (below : b < length x.blocks.now) (d : BasicBlock) where
  abbrev block : BasicBlock
  block = get_or x.blocks.now b d

  abbrev size : ℕ
  size = size_of x.graph.now

  pub is_block : block ≡ block_in size x.blocks.now b
  is_block = any_default x.blocks.now b d _ below

  pub node_within : (c : ℕ) → c < block.count → block.first + c < size
  node_within c lt =
      let inside = within_size size (goes x.graph.now) (start_of (setting_of x))
      (facts_after (setting_of x)) x.blocks.now is.blocks b c below
      (subst (λ (y : BasicBlock). c < y.count) is_block lt) in
      subst (λ (y : BasicBlock). y.first + c < size) (sym is_block) inside

  pub whole_block : (passed : ℕ) (facts behind : Facts) → passed ≤ block.count → block.count ≤ passed
      → ((fact : Fact) → behind fact ≡ facts_through (facts_after (setting_of x)) block.first passed facts fact)
      → (fact : Fact) → behind fact ≡ facts_behind size x.blocks.now (facts_after (setting_of x)) b facts fact
  whole_block passed facts behind le ge so fact =
      so fact ∙ ap (λ n. facts_through (facts_after (setting_of x)) block.first n facts fact)
      (let e : passed ≡ block.count = omega (arith, le, ge) in e)
      ∙ ap (λ (y : BasicBlock). facts_through (facts_after (setting_of x)) y.first y.count facts fact) is_block
