-- What is kept from one state to a second and from there to a third, is kept from the first to the third.
use Rattle.std.proofs.Common.{refl, ◌∙◌}
use Rattle.asm_core.specs.Machine.{Location, Keeps}
use Rattle.asm_core.specs.MicroOps.{Stepped}
use Rattle.asm_core.specs.RowLaws.{HoldsAfter}
use Rattle.asm_core.specs.declared.machine.Machine.{Machine}

pub keeps_refl : (May : Location → Type 0) (m : Machine) → Keeps May m m
keeps_refl May m = record { values = λ l unwritten. refl; layouts = refl }

pub keeps_trans : (May : Location → Type 0) (first second third : Machine) → Keeps May first second → Keeps May second third → Keeps May first third
keeps_trans May first second third h k = record { values = λ l unwritten. k.values l unwritten ∙ h.values l unwritten; layouts = k.layouts ∙ h.layouts }

-- where more may change, no more is claimed
pub keeps_weaken : (May Might : Location → Type 0) (before after : Machine) → ((l : Location) → May l → Might l) → Keeps May before after → Keeps Might before after
keeps_weaken May Might before after more h = record { values = λ l unwritten. h.values l (λ may. unwritten (more l may)); layouts = h.layouts }

-- what follows from the property after a step
pub holds_after_then : (P Q : Machine → Type 0) (s : Stepped) → ((next : Machine) → P next → Q next) → HoldsAfter P s → HoldsAfter Q s
holds_after_then P Q (Stepped.Moved next) then h = then next h
holds_after_then P Q (Stepped.MovedOutside next) then h = then next h
holds_after_then P Q Stepped.Ended then h = h
holds_after_then P Q (Stepped.Faulted fault) then h = tt

-- two properties that hold after a step
pub holds_after_both : (P Q : Machine → Type 0) (s : Stepped) → HoldsAfter P s → HoldsAfter Q s → HoldsAfter (λ m. P m × Q m) s
holds_after_both P Q (Stepped.Moved next) p q = (p, q)
holds_after_both P Q (Stepped.MovedOutside next) p q = (p, q)
holds_after_both P Q Stepped.Ended p q = p
holds_after_both P Q (Stepped.Faulted fault) p q = tt
