-- A line that neither pushes nor pops leaves the stack as it was.
use Rattle.std.proofs.Common.{◌≡◌, inl, inr, ℕ, false, List, [], ◌∷◌}
use Rattle.std.specs.List.{list_any}
use Rattle.asm_core.specs.RowLaws.{Component, IsStackMove, IsToldByOne}
use Rattle.asm_core.specs.declared.sym.Sym.{Sym}
use Rattle.asm_core.specs.declared.row.Written.{Written}
use Rattle.asm_core.specs.declared.row.Write.{Write}
use Rattle.asm_core.specs.declared.shape.Shape.{Shape}
use Rattle.asm_core.specs.declared.interface.Interface.{Interface}
use Rattle.asm_core.specs.declared.placement.Placement.{Placement}
use Rattle.asm_core.specs.declared.machine.Machine.{Machine}
use Rattle.blk_deps.specs.Line.{writes_in}
use Rattle.blk_deps.specs.Stack.{is_push, is_pop, pushes, pops}
use Rattle.blk_frame.specs.Lines.{IsStepOfLine}
use Rattle.blk_frame.proofs.Basics.{either_false}

no_move : (to : Written) → is_push to ≡ false → is_pop to ≡ false → IsStackMove to → ⊥
no_move Written.Push none other is = cc
no_move Written.Pop none other is = cc
no_move (Written.Arg arg) none other is = is
no_move (Written.Flag f) none other is = is

module _ (p : Placement) (m : Machine) where
  -- no write moves the stack
  depth_untold : (ws : List Write) → list_any (λ (w : Write). is_push w.to) ws ≡ false
      → list_any (λ (w : Write). is_pop w.to) ws ≡ false
      → IsToldByOne p m ws Component.Depth → ⊥
  depth_untold [] none other told = told
  depth_untold (w ∷ ws) none other (inl told) = no_move w.to (either_false _ _ none).0 (either_false _ _ other).0 told
  depth_untold (w ∷ ws) none other (inr told) = depth_untold ws (either_false _ _ none).1
      (either_false _ _ other).1 told

  esp_untold : (ws : List Write) → list_any (λ (w : Write). is_push w.to) ws ≡ false
      → list_any (λ (w : Write). is_pop w.to) ws ≡ false
      → IsToldByOne p m ws Component.Esp → ⊥
  esp_untold [] none other told = told
  esp_untold (w ∷ ws) none other (inl told) = no_move w.to (either_false _ _ none).0 (either_false _ _ other).0 told
  esp_untold (w ∷ ws) none other (inr told) = esp_untold ws (either_false _ _ none).1 (either_false _ _ other).1 told

pub stack_kept : (i : Interface) (s : Shape) (p : Placement) (depth : ℕ) (line : Sym) (before after : Machine)
    → IsStepOfLine i s p depth line before after
    → pushes line ≡ false → pops line ≡ false → (after.scratch_top ≡ before.scratch_top) × (after.esp ≡ before.esp)
stack_kept i s p depth line before after step none other = (
  step.changes.components Component.Depth
      (depth_untold p before (writes_in line) none other),
  step.changes.components Component.Esp
      (esp_untold p before (writes_in line) none other),
)
