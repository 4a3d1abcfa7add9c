-- Where the end breaks no rule and flags aren't declared, each flag but the direction flag is as at the entry.
use Rattle.std.proofs.Common.{◌≡◌, inl, inr, ◌<◌, not, true, false, map, refl, ap, arith}
use Rattle.std.proofs.lemmas.Bool.{both_ways, and_from, or_left, false_from_ne_true}
use Rattle.asm_core.specs.Flag.{flag_number, flag_in}
use Rattle.asm_core.specs.Lists.{IsMember}
use Rattle.asm_core.specs.declared.flag.Flag.{Flag}
use Rattle.asm_core.specs.declared.finding.Cell.{Cell}
use Rattle.asm_core.specs.declared.finding.Rule.{Rule}
use Rattle.asm_core.specs.declared.shape.Shape.{Shape}
use Rattle.asm_core.specs.declared.interface.Interface.{Interface}
use Rattle.asm_core.specs.declared.placement.Placement.{Placement}
use Rattle.asm_core.specs.declared.machine.Machine.{Machine}
use Rattle.blk_deps.specs.Cells.{flag_cell}
use Rattle.blk_deps.specs.Facts.{Facts}
use Rattle.blk_deps.specs.Findings.{alone}
use Rattle.blk_deps.specs.Rules.{flags, is_changed, breaks_w3}
use Rattle.blk_deps.specs.declared.fact.Property.TheVariants.{NotEntryOf}
use Rattle.blk_deps.specs.declared.fact.Fact.TheVariants.{Has}
use Rattle.blk_frame.specs.Accepted.{EndsSound}
use Rattle.blk_frame.specs.Laws.{Holds}
use Rattle.blk_frame.specs.Matches.{IsKept}
use Rattle.blk_frame.specs.Shown.{placed_by}
use Rattle.blk_frame.proofs.EndRules.{listed_flags}
use Rattle.blk_frame.proofs.FlagFacts.{IsFlagPlain}
use Rattle.blk_frame.proofs.HeldLaws.{same_flag}
use Rattle.blk_frame.proofs.Members.{any_in, in_map}

flag_listed : (f : Flag) → flag_number f < 6 → IsMember f flags
flag_listed Flag.Cf low = inl refl
flag_listed Flag.Pf low = inr (inl refl)
flag_listed Flag.Af low = inr (inr (inl refl))
flag_listed Flag.Zf low = inr (inr (inr (inl refl)))
flag_listed Flag.Sf low = inr (inr (inr (inr (inl refl))))
flag_listed Flag.Of low = inr (inr (inr (inr (inr (inl refl)))))
flag_listed Flag.Df low = absurd (omega (arith, low))

module _ (i : Interface) (s : Shape) (facts : Facts) (sound : EndsSound i s facts) (undeclared : i.cc ≡ false)
    (f : Flag) (low : flag_number f < 6) where
  -- its value is its own
  own : facts (Has (flag_cell f) (NotEntryOf (flag_cell f))) ≡ false
  own = false_from_ne_true (facts (Has (flag_cell f) (NotEntryOf (flag_cell f)))) (λ changed.
      let broken : breaks_w3 i Cell.Cc facts ≡ true = and_from (not i.cc) (is_changed facts (map flag_cell flags))
      (ap not undeclared)
      (any_in (λ c. facts (Has c (NotEntryOf c))) (map flag_cell flags) (flag_cell f)
      (in_map flag_cell flags f (flag_listed f low)) changed) in
      both_ways _ (sound.each (alone Rule.W3 Cell.Cc) (listed_flags i)) (or_left _ _ broken))

  -- and has no pair
  flag_kept : (p : Placement) → IsFlagPlain facts → IsKept (placed_by i s p) facts (flag_cell f)
  flag_kept p plain = record {
    good = λ d u dlt ult has. absurd (both_ways _ own (plain.each f low d u has));
    own = own;
  }

pub flags_kept : (i : Interface) (s : Shape) (p : Placement) (entry m : Machine) (facts : Facts) → EndsSound i s facts
    → IsFlagPlain facts → Holds (placed_by i s p) entry facts m → i.cc ≡ false → (f : Flag) → flag_number f < 6
    → flag_in f m.flags ≡ flag_in f entry.flags
flags_kept i s p entry m facts sound plain holds undeclared f low =
    same_flag i s p entry m facts holds f low (flag_kept i s facts sound undeclared f low p plain)
