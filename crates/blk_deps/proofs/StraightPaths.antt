-- The one path of a block that goes on at the end.
use Rattle.std.proofs.Common.{◌≡◌, ◌⊎◌, inl, inr, ℕ, zero, suc, ◌<◌, ◌==◌, List, [], ◌∷◌, length, true, false, IsTrue}
use Rattle.std.proofs.Common.{refl, sym, ap, subst, ◌∙◌, arith}
use Rattle.std.proofs.lemmas.Bool.{eqb-true, false≢true}
use Rattle.dataflow.specs.Paths.{IsPathTo, facts_along, OnSomePath, IsOfAllPaths}
use Rattle.blk_deps.specs.Facts.{Facts}
use Rattle.blk_deps.specs.Ways.{size_of, goes}
use Rattle.blk_deps.specs.Blocks.{first_of, count_of, goes_of, facts_behind}
use Rattle.blk_deps.specs.Findings.{facts_after, start_of}
use Rattle.blk_deps.specs.FlowFacts.{setting_of, is_straight, IsFlow, ShowPaths}
use Rattle.blk_deps.specs.FlowLaws.{after_law, block_law}
use Rattle.blk_deps.specs.Noting.{IsNoted}
use Rattle.blk_deps.specs.Judged.{BreaksIn}
use Rattle.blk_deps.specs.Walking.{BreaksAlong, BreaksEnd}
use Rattle.blk_deps.specs.declared.blocks.BasicBlock.{BasicBlock}
use Rattle.blk_deps.specs.declared.fact.Fact.{Fact}
use Rattle.blk_deps.specs.declared.flow.Flow.{Flow}
use Rattle.blk_deps.specs.declared.violation.Violation.{Violation}
use Rattle.blk_deps.proofs.AnyLaws.{and_first, and_second}
use Rattle.blk_deps.proofs.BlockPaths.{at_heads}
use Rattle.blk_deps.proofs.FlowLemmas.{alike}
use Rattle.blk_deps.proofs.PathsNoted.{none_at_first, one_more_block, all_noted}

-- both ways of the one block go to the end
record GoesOn (size : ℕ) (blocks : List BasicBlock) : Type 0 where
  pub one : length blocks ≡ 1
  pub next : goes_of size blocks 0 0 ≡ 1
  pub goal : goes_of size blocks 0 1 ≡ 1

goes_on : (size : ℕ) (blocks : List BasicBlock) → IsTrue (is_straight blocks) → GoesOn size blocks
goes_on size (only ∷ []) is = record {
  one = refl;
  next = eqb-true only.next 1 (and_first (only.next == 1) (only.goal == 1) is);
  goal = eqb-true only.goal 1 (and_second (only.next == 1) (only.goal == 1) is);
}
goes_on size [] is = cc
goes_on size (one ∷ other ∷ more) is = cc

module _ (x : Flow) (straight : IsTrue (is_straight x.blocks.now)) (begin end : Facts)
    (begins : (fact : Fact) → begin fact ≡ start_of (setting_of x) fact)
    (ends : (fact : Fact) → end fact
    ≡ facts_behind (size_of x.graph.now) x.blocks.now (facts_after (setting_of x)) 0 begin fact) where
  abbrev size : ℕ
  size = size_of x.graph.now

  abbrev behind : ℕ → Facts → Facts
  behind = facts_behind size x.blocks.now (facts_after (setting_of x))

  abbrev start : Facts
  start = start_of (setting_of x)

  abbrev found : ℕ → Facts
  found zero = begin
  found (suc zero) = end
  found (suc (suc b)) = λ fact. false

  on : GoesOn size x.blocks.now
  on = goes_on size x.blocks.now straight

  ends_there : (fact : Fact) → end fact ≡ behind 0 start fact
  ends_there fact = ends fact ∙ alike ((block_law x 0).each fact) begin start begins

  abbrev On : ℕ → Fact → Type 0
  On j fact = OnSomePath (length x.blocks.now) (goes_of size x.blocks.now) start behind j (λ facts. facts fact)

  shown_on : (j : ℕ) (fact : Fact) → found j fact ≡ true → On j fact
  shown_on zero fact is = ([], refl, sym (begins fact) ∙ is)
  shown_on (suc zero) fact is =
      (0 ∷ [], (refl, omega (arith, on.one), inl (sym on.next)), sym (ends_there fact) ∙ is)
  shown_on (suc (suc b)) fact is = absurd (false≢true is)

  -- a way from the one block goes to the end
  goes_to_end : (i j : ℕ) → i < length x.blocks.now
      → (j ≡ goes_of size x.blocks.now i 0) ⊎ (j ≡ goes_of size x.blocks.now i 1) → (i ≡ 0) × (j ≡ 1)
  goes_to_end i j lt way =
      let first : i ≡ 0 = omega (arith, lt, on.one) in (
        first,
        elim way [
          | inl is ↦ is ∙ ap (λ n. goes_of size x.blocks.now n 0) first ∙ on.next
          | inr is ↦ is ∙ ap (λ n. goes_of size x.blocks.now n 1) first ∙ on.goal
        ],
      )

  complete : (path : List ℕ) (j : ℕ) (fact : Fact) → IsPathTo (length x.blocks.now) (goes_of size x.blocks.now) path j
      → facts_along start behind path fact ≡ true → found j fact ≡ true
  complete [] j fact is holds = subst (λ n. found n fact ≡ true) (sym is) (begins fact ∙ holds)
  complete (i ∷ []) j fact is holds =
      let to = goes_to_end i j is.1 is.2 in
      subst (λ n. found n fact ≡ true) (sym to.1)
      (ends_there fact ∙ subst (λ n. behind n start fact ≡ true) to.0 holds)
  complete (i ∷ k ∷ before) j fact is holds =
      let last = goes_to_end i j is.1 is.2 in
      let early = goes_to_end k i is.0.1 is.0.2 in
      absurd (omega (arith, last.0, early.1))

  all_paths : IsOfAllPaths (length x.blocks.now) (goes_of size x.blocks.now) start behind found
  all_paths = record { shown = shown_on; complete = complete }

  -- what is noted along the block and at the end is what is broken
  pub noted_straight : (vs : List Violation) (old mid new : List ℕ) → IsFlow x
      → IsNoted (BreaksAlong (setting_of x) (first_of size x.blocks.now 0) (count_of size x.blocks.now 0) begin)
      vs old mid
      → IsNoted (BreaksEnd (setting_of x) end) vs mid new → IsNoted (BreaksIn (setting_of x)) vs old new
  noted_straight vs old mid new is along at_end =
      all_noted x found paths is.blocks 1 end vs old mid new (omega (arith, on.one)) (ap found (sym on.one))
      (one_more_block x found paths is.blocks 0 begin vs old old mid (omega (arith, on.one)) refl
      (none_at_first x found paths is.blocks vs old) along) at_end
    where
      paths : ShowPaths x found
      paths = record {
        each = λ b at test inside single.
            at_heads size (goes x.graph.now) start (facts_after (setting_of x)) x.blocks.now is.blocks found all_paths
            (after_law (setting_of x)) b at inside test single;
      }
