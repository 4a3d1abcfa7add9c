-- What the facts say still holds behind an instruction, and behind each further turn of a repeated one.
use Rattle.std.proofs.Common.{◌≡◌, ℕ, Bool, true, List}
use Rattle.blk_deps.specs.Cells.{is_hand}
use Rattle.blk_deps.specs.Facts as facts
use Rattle.blk_deps.specs.Facts.{Facts, dropped, overwrites_after}
use Rattle.blk_deps.specs.declared.fact.Fact.{Fact}
use Rattle.blk_deps.specs.declared.fact.Fact.TheVariants.{Here, Has, Overwrites, Unwritten, DirectionSet}
use Rattle.blk_deps.specs.declared.step.Read.{Read}
use Rattle.blk_deps.specs.declared.step.Put.{Put}
use Rattle.blk_frame.specs.World.{Placed, ArePlaced, World, with_hands, after_puts, AreCopied, AreWritable}
use Rattle.blk_frame.specs.Matches.{IsShadowed, Matches}
use Rattle.blk_frame.proofs.Basics.{by_truth}
use Rattle.blk_frame.proofs.ReadSteps.{fewer_matches, reads_match}
use Rattle.blk_frame.proofs.PutSteps.{puts_match}

-- nothing is claimed of a hand that is forgotten
pub more_dropped : (s : Facts) → s Here ≡ true → (f : Fact) → s f ≡ true → dropped s f ≡ true
more_dropped s here (Has c property) has = by_truth (is_hand c) (λ hand. rw hand here) (λ other. rw other has)
more_dropped s here Here has = has
more_dropped s here (Overwrites d c) has = has
more_dropped s here (Unwritten k b) has = has
more_dropped s here DirectionSet has = has

module _ (x : Placed) (shares : ℕ → ℕ → Bool) (placed : ArePlaced x shares) (entry : World)
    (shadowed : IsShadowed x entry) where
  pub moves_match : (reads : List Read) (puts : List Put) (given : ℕ → ℕ) (s : Facts) (w : World)
      → AreCopied x w reads given → AreWritable x puts → Matches x entry s w
      → Matches x entry (facts.after_moves shares reads puts s) (after_puts x puts (with_hands given w))
  moves_match reads puts given s w copied are matches =
      let done = puts_match x shares placed entry shadowed puts _ _ are
      (reads_match x entry s w matches reads given copied) in
      fewer_matches x entry (facts.after_puts shares puts (facts.after_reads reads s)) _ _
      (more_dropped _ done.here) done.here done
