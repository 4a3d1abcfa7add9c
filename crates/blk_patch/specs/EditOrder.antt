-- Where the edits of a statement stand: in order, and apart. This project's own.
use Rattle.std.specs.Prelude.{◌≡◌, ℕ, ◌+◌, ◌≤◌, List, [], ◌∷◌, ◌++◌}
use Rattle.asm_core.specs.declared.edit.Edit.{Edit}
use Rattle.asm_core.specs.declared.statement.Part.{Part}
use Rattle.asm_core.specs.declared.statement.Parts.{Parts}
use Rattle.asm_core.specs.declared.statement.Body.{Body}

-- The offsets go strictly upwards, from the one on and before the other.
abbrev pub IsRising : ℕ → List ℕ → ℕ → Type 0
IsRising from [] end = from ≤ end
IsRising from (at ∷ ats) end = (from ≤ at) × IsRising (at + 1) ats end

-- Those of each constraint do, and each constraint ends before the next begins.
abbrev pub AreRising : ℕ → List Part → ℕ → Type 0
AreRising from [] end = from ≤ end
AreRising from (p ∷ ps) end = (behind : ℕ) × IsRising from p.constraint.at behind × AreRising behind ps end

-- The constraints stand in the order of the operands, from an offset on, and the end of the lists stands behind them.
abbrev pub AreInOrder : ℕ → Parts → Type 0
AreInOrder from parts = AreRising from (parts.outputs ++ parts.inputs) parts.last

-- The spans of the edits are in order, apart, and stand between the two offsets.
abbrev pub GoUpwards : ℕ → List Edit → ℕ → Type 0
GoUpwards from [] end = from ≤ end
GoUpwards from (e ∷ es) end = (from ≤ e.span.from) × (e.span.from ≤ e.span.to) × GoUpwards e.span.to es end

-- So do these edits of a statement whose constraints are in order.
pub record AreApartIn (body : Body) (edits : List Edit) : Type 0 where
  pub upwards : (from : ℕ) (parts : Parts) → body ≡ Body.Parts parts → AreInOrder from parts
      → GoUpwards from edits parts.last
