-- Placements by the choices of classes.
use Rattle.std.specs.Prelude.{◌≡◌, ℕ, ◌<◌, ◌==◌, ℤ, pos, List, length, Option, None, Some, slice_get, unwrap_or, if◌then◌else◌}
use Rattle.std.specs.List.{position_from}
use Rattle.asm_core.specs.Placement.{spot_of, tie_root}
use Rattle.asm_core.specs.Roomy.{own_memory}
use Rattle.asm_core.specs.declared.reg.Reg.{Reg}
use Rattle.asm_core.specs.declared.shape.Kind.{Kind}
use Rattle.asm_core.specs.declared.shape.Shape.{Shape}
use Rattle.asm_core.specs.declared.interface.Interface.{Interface}
use Rattle.asm_core.specs.declared.placement.Base.{Base}
use Rattle.asm_core.specs.declared.placement.Spot.{Spot}
use Rattle.asm_core.specs.declared.placement.Placement.{Placement}
use Rattle.register_search.specs.Assignment.{IsLeast, HasAssignment}
use Rattle.register_search.specs.declared.class.Class.{Class}
use Rattle.asm_places.specs.Operand.{operand_in}
use Rattle.asm_places.specs.Classes.{asked_of, AreClasses}
use Rattle.asm_places.specs.declared.goal.Goal.{Goal}
use Rattle.asm_places.specs.declared.operand.ShapedOperand.{ShapedOperand}

-- the choice that is left to class k
abbrev pub choice_left : Option Class → ℕ
choice_left None = 0
choice_left (Some c) = unwrap_or (position_from (λ b. b) 0 c.choices) 0

abbrev pub left_in : List Class → ℕ → ℕ
left_in classes k = choice_left (slice_get classes k)

-- where a choice is
abbrev pub choice_spot : ℕ → Spot
choice_spot choice =
    if choice == 0 then Spot.Register Reg.Eax else (if choice == 1 then Spot.Register Reg.Ebx else (if choice == 2 then Spot.Register Reg.Ecx else (if choice == 3 then Spot.Register Reg.Edx
    else (if choice == 4 then Spot.Register Reg.Esi else (if choice == 5 then Spot.Register Reg.Edi else (if choice == 6 then Spot.Register Reg.Ebp else Spot.Pair))))))

-- memory at its own number, or at the register that it has to use
abbrev pub memory_spot : ℕ → Option Reg → Spot
memory_spot k None = own_memory k
memory_spot k (Some r) = Spot.Memory (record { disp = pos 0; base = Some (Base.Reg r); index = None })

abbrev pub lower_end : Option (ℤ × ℤ) → ℤ
lower_end None = pos 0
lower_end (Some range) = range.0

abbrev pub kind_spot : Goal → ℕ → ShapedOperand → ℕ → Kind → Spot
kind_spot goal k x choice Kind.Register = choice_spot choice
kind_spot goal k x choice Kind.Memory = memory_spot k (asked_of goal k)
kind_spot goal k x choice Kind.Number = Spot.Number (unwrap_or x.known (lower_end x.allowed.numbers))

abbrev pub spot_for : Goal → ℕ → Option ShapedOperand → ℕ → Spot
spot_for goal k None choice = Spot.Number (pos 0)
spot_for goal k (Some x) choice = kind_spot goal k x choice x.kind

-- each operand is where the choice of its class says, a tied one where its output is
pub record IsPlacedBy (i : Interface) (s : Shape) (goal : Goal) (choice_of : ℕ → ℕ) (p : Placement) : Type 0 where
  pub count : p.count ≡ length i.operands
  pub spots : (k : ℕ) → k < 30 → spot_of p k ≡ spot_for goal (tie_root i s k) (operand_in i s (tie_root i s k)) (choice_of (tie_root i s k))

-- the placement of the least assignment
pub record IsLeastPlaced (i : Interface) (s : Shape) (goal : Goal) (p : Placement) : Type 0 where
  pub classes : List Class
  pub are : AreClasses i s goal classes
  pub choice_of : ℕ → ℕ
  pub least : IsLeast classes choice_of
  pub placed : IsPlacedBy i s goal choice_of p

-- the classes have an assignment
pub record HasAssignmentFor (i : Interface) (s : Shape) (goal : Goal) : Type 0 where
  pub classes : List Class
  pub are : AreClasses i s goal classes
  pub some : HasAssignment classes

pub record HasNoAssignment (i : Interface) (s : Shape) (goal : Goal) : Type 0 where
  pub classes : List Class
  pub are : AreClasses i s goal classes
  pub none : HasAssignment classes → ⊥
