-- A block of which U2 isn't reported keeps U2.
use Rattle.std.proofs.Common.{◌≡◌, ℕ, ◌<◌, List, length, Bool, Some, slice_get, refl}
use Rattle.asm_core.specs.declared.finding.Cell.{Cell}
use Rattle.asm_core.specs.declared.finding.Rule.{Rule}
use Rattle.asm_core.specs.declared.lines.Graph.{Graph}
use Rattle.asm_core.specs.declared.shape.Shape.{Shape}
use Rattle.asm_core.specs.declared.interface.Interface.{Interface}
use Rattle.blk_deps.specs.Findings.{IsSetting, BreaksAt, IsBroken, alone}
use Rattle.blk_deps.specs.Ways.{line_number}
use Rattle.blk_text.specs.Text.{KeepsU2}

-- the block of the live shape of that number
module _ (i : Interface) (live : List Shape) (graphs : List Graph) (number : ℕ) (shape : Shape) (g : Graph)
    (is_shape : slice_get live number ≡ Some shape) (is_graph : slice_get graphs number ≡ Some g) where
  pub keeps_u2 : (depths : List ℕ) (shares : ℕ → ℕ → Bool)
      → IsSetting (record { interface = i; live = live; shape = shape; graph = g; depths = depths; shares = shares })
      → ((k line : ℕ) → k < length i.operands → IsBroken i live graphs (alone Rule.U2 (Cell.Operand k)) line → ⊥)
      → KeepsU2 i shares g
  keeps_u2 depths shares setting none = record {
    each = λ n line k at below breaks. none k (line_number g n) below (record {
      number = number;
      shape = shape;
      graph = g;
      is_shape = is_shape;
      is_graph = is_graph;
      depths = depths;
      shares = shares;
      setting = setting;
      node = n;
      breaks = BreaksAt.by_text n line at refl refl breaks;
      is_line = refl;
    });
  }
