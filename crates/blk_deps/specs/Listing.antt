-- The parts of the list of what may be broken, by the names of the operands and of the places.
use Rattle.std.specs.Prelude.{◌≡◌, ℕ, ◌<◌, ◌≤◌, Bool, true, false, List, [], ◌∷◌, ◌++◌, map, Option, None, Some, slice_get}
use Rattle.asm_core.specs.declared.flag.Flag.{Flag}
use Rattle.asm_core.specs.declared.finding.Rule.{Rule}
use Rattle.asm_core.specs.declared.finding.Cell.{Cell}
use Rattle.blk_deps.specs.Rules.{registers, flags}
use Rattle.blk_deps.specs.Findings.{alone, pairs_of}
use Rattle.blk_deps.specs.declared.violation.Violation.{Violation}
use Rattle.blk_deps.specs.declared.listing.PairNumbers.{PairNumbers}

abbrev pub paired : Rule → Cell → Cell → Violation
paired rule cell other = record { rule = rule; cell = cell; other = other }

abbrev pub register_names : List Cell
register_names = map Cell.Reg registers

abbrev pub flag_names : List Cell
flag_names = map Cell.Flag flags

abbrev pub each_alone : Rule → List Cell → List Violation
each_alone rule cells = map (alone rule) cells

unfoldable pub changes_of : List Cell → List Violation
changes_of operands =
    each_alone Rule.W1 register_names ++ (each_alone Rule.W2 operands ++ (alone Rule.W3 Cell.Cc ∷ alone Rule.W4
    (Cell.Flag Flag.Df) ∷ alone Rule.M1 Cell.Memory ∷ each_alone Rule.M2 operands))

unfoldable pub reads_of : List Cell → List Violation
reads_of operands =
    each_alone Rule.R1 register_names ++ (each_alone Rule.R1 flag_names ++ (each_alone Rule.R2 operands ++
    (each_alone Rule.R3 operands ++ alone Rule.R3 Cell.Nothing ∷ [])))

unfoldable pub uses_of : List Cell → List Cell → List Violation
uses_of operands names = each_alone Rule.U2 operands ++ (pairs_of Rule.U3 names ++ each_alone Rule.U4 operands)

-- ---- where those of pairs of places are

abbrev pub is_u3 : Rule → Bool
is_u3 Rule.U3 = true
is_u3 rule = false

abbrev pub is_of_pair : Option Violation → Bool
is_of_pair None = false
is_of_pair (Some v) = is_u3 v.rule

-- those with these numbers are of pairs of places
pub record AreOfPairs (violations : List Violation) (at : PairNumbers) : Type 0 where
  pub each : (t : ℕ) → at.first ≤ t → t < at.end → is_of_pair (slice_get violations t) ≡ true
