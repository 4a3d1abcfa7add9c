-- Violations of pairs of places that are passed over, since nothing that is used has a pair.
use Rattle.std.proofs.Common.{◌≡◌, ℕ, ◌<◌, ◌≤◌, ◌==◌, ◌&&◌, ◌||◌, nat_lt, not, List, Bool, true, false, Some}
use Rattle.std.proofs.Common.{slice_get, refl, sym, ap, ◌∙◌}
use Rattle.std.proofs.lemmas.Bool.{eqb-true, ltb-true, false≢true}
use Rattle.asm_core.specs.declared.sym.Sym.{Sym}
use Rattle.asm_core.specs.declared.shape.Shape.{Shape}
use Rattle.asm_core.specs.declared.interface.Interface.{Interface}
use Rattle.asm_core.specs.declared.finding.Rule.{Rule}
use Rattle.blk_deps.specs.Facts.{Facts}
use Rattle.blk_deps.specs.Fits.{some_pair}
use Rattle.blk_deps.specs.Layout.{shown_value}
use Rattle.blk_deps.specs.Findings.{Setting}
use Rattle.blk_deps.specs.Listing.{is_u3, is_of_pair, AreOfPairs}
use Rattle.blk_deps.specs.Rules.{Used, used_at_line, used_at_end, breaks_by_access, breaks_by_use, breaks_by_end}
use Rattle.blk_deps.specs.Rules.{breaks_at_end, breaks_u2}
use Rattle.blk_deps.specs.Scenes.{ShowsUsed}
use Rattle.blk_deps.specs.Walking.{passes_pairs, is_u2, is_nothing, breaks_by_text, breaks_before}
use Rattle.blk_deps.specs.declared.fact.Fact.TheVariants.{Here}
use Rattle.blk_deps.specs.declared.fact.Property.TheVariants.{Pair}
use Rattle.blk_deps.specs.declared.layout.Layout.{Layout}
use Rattle.blk_deps.specs.declared.listing.PairNumbers.{PairNumbers}
use Rattle.blk_deps.specs.declared.violation.Violation.{Violation}
use Rattle.blk_deps.proofs.AgreeLemmas.{use_same}
use Rattle.blk_deps.proofs.AnyLaws.{and_first, and_second}
use Rattle.blk_deps.proofs.SceneLemmas.{no_used_pairs}

is_rule : (rule : Rule) → is_u3 rule ≡ true → rule ≡ Rule.U3
is_rule Rule.U3 is = refl
is_rule rule is = absurd (false≢true is)

neither : (a b : Bool) → a ≡ false → b ≡ false → (a || b) ≡ false
neither false false first second = refl
neither false true first second = second
neither true b first second = first

not_so : (b : Bool) → not b ≡ true → b ≡ false
not_so false is = refl
not_so true is = absurd (false≢true is)

-- ---- what is passed

module _ (at : PairNumbers) (paired : Bool) (t : ℕ) (passes : passes_pairs at paired t ≡ true) where
  rest : (nat_lt t at.end && not paired) ≡ true
  rest = and_second (t == at.first) (nat_lt t at.end && not paired) passes

  pub at_first : t ≡ at.first
  at_first = eqb-true t at.first (and_first (t == at.first) (nat_lt t at.end && not paired) passes)

  pub before_end : t < at.end
  before_end = ltb-true t at.end (and_first (nat_lt t at.end) (not paired) rest)

  pub no_pair : paired ≡ false
  no_pair = not_so paired (and_second (nat_lt t at.end) (not paired) rest)

pub of_pair : (vs : List Violation) (at : PairNumbers) → AreOfPairs vs at → (t : ℕ) (v : Violation) → at.first ≤ t
    → t < at.end → slice_get vs t ≡ Some v → v.rule ≡ Rule.U3
of_pair vs at are t v from below is = is_rule v.rule (sym (ap is_of_pair is) ∙ are.each t from below)

-- ---- what isn't broken

module _ (i : Interface) (s : Shape) (v : Violation) (of : v.rule ≡ Rule.U3) where
  unused : (l : Layout) (words : List ℕ) (used : Used) → ShowsUsed l words used
      → some_pair (λ d p. shown_value l words (Pair d p)) ≡ false → breaks_by_use i s v.rule v.cell v.other used ≡ false
  unused l words used shows none =
      sym (use_same i s v.rule v.cell v.other (shown_value l words) used (record { each = shows.each }))
      ∙ ap (λ rule. breaks_by_use i s rule v.cell v.other (shown_value l words)) of
      ∙ no_used_pairs i s l words v.cell v.other none

  pub not_at_end : (facts : Facts) (l : Layout) (words : List ℕ) → ShowsUsed l words (used_at_end i s facts)
      → some_pair (λ d p. shown_value l words (Pair d p)) ≡ false → breaks_at_end i s v facts ≡ false
  not_at_end facts l words shows none =
      neither (breaks_by_end i s v.rule v.cell facts) _ (ap (λ rule. breaks_by_end i s rule v.cell facts) of)
      (unused l words (used_at_end i s facts) shows none)

pub not_before : (x : Setting) (depth : ℕ) (inst : Sym) (facts : Facts) (v : Violation) → v.rule ≡ Rule.U3
    → (l : Layout) (words : List ℕ) → ShowsUsed l words (used_at_line x.interface x.shape depth inst facts)
    → some_pair (λ d p. shown_value l words (Pair d p)) ≡ false → breaks_before x depth inst facts v ≡ false
unfolding breaks_before
not_before x depth inst facts v of l words shows none =
    neither (breaks_by_text x inst v) _
    (ap (λ rule. (is_u2 rule && is_nothing v.other) && breaks_u2 x.shares inst v.cell) of)
    (neither (breaks_by_access x.interface x.live depth inst v.rule v.cell && facts Here) _
    (ap (λ rule. breaks_by_access x.interface x.live depth inst rule v.cell && facts Here) of)
    (unused x.interface x.shape v of l words (used_at_line x.interface x.shape depth inst facts) shows none))
