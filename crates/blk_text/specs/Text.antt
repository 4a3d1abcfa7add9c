-- What a block's text needs to be there under every allowed placement, and the code that it then is. This project's
-- own.
use Rattle.std.specs.Prelude.{◌≡◌, ℕ, ◌<◌, Bool, map, length, IsTrue, Some, slice_get}
use Rattle.asm_core.specs.Reading.Placed.{inst_under}
use Rattle.asm_core.specs.declared.sym.Sym.{Sym}
use Rattle.asm_core.specs.declared.inst.Code.{Code}
use Rattle.asm_core.specs.declared.lines.Graph.{Graph}
use Rattle.asm_core.specs.declared.finding.Cell.{Cell}
use Rattle.asm_core.specs.declared.placement.Placement.{Placement}
use Rattle.asm_core.specs.declared.interface.Interface.{Interface}
use Rattle.blk_deps.specs.Rules.{breaks_u2}

-- No instruction of a block breaks U2: none names a byte of an operand that may be in esi, edi or ebp. `shares` tells
-- which places
-- may be in one register.
pub record KeepsU2 (i : Interface) (shares : ℕ → ℕ → Bool) (g : Graph) : Type 0 where
  pub each : (n : ℕ) (line : Sym) (k : ℕ) → slice_get g.insts n ≡ Some line → k < length i.operands
      → IsTrue (breaks_u2 shares line (Cell.Operand k)) → ⊥

-- a block under a placement
abbrev pub placed_code : Placement → Graph → Code
placed_code p g = record { insts = map (inst_under p) g.insts; goals = g.goals }
