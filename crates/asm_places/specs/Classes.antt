-- The classes of a shape's operands.
use Rattle.std.specs.Prelude.{◌≡◌, ℕ, ◌+◌, ◌<◌, ◌==◌, ◌&&◌, ◌||◌, List, [], ◌∷◌, length, Bool, true, false, not, Option, None, Some, slice_get, if◌then◌else◌}
use Rattle.asm_core.specs.Reg.{reg_number}
use Rattle.asm_core.specs.Placement.{is_output}
use Rattle.asm_core.specs.declared.reg.Reg.{Reg}
use Rattle.asm_core.specs.declared.shape.Kind.{Kind}
use Rattle.asm_core.specs.declared.shape.Shape.{Shape}
use Rattle.asm_core.specs.declared.interface.AltIface.{AltIface}
use Rattle.asm_core.specs.declared.interface.Interface.{Interface}
use Rattle.register_search.specs.declared.class.Group.{Group}
use Rattle.register_search.specs.declared.class.Group.TheVariants.{Absent, Exclusive, Numbered}
use Rattle.register_search.specs.declared.class.Class.{Class}
use Rattle.asm_places.specs.Operand.{operand_in, holds_input, has_register, takes}
use Rattle.asm_places.specs.declared.goal.Goal.{Goal}
use Rattle.asm_places.specs.declared.operand.ShapedOperand.{ShapedOperand}

-- a list of the eight choices
abbrev pub of_choices : (ℕ → Bool) → List Bool
of_choices test = test 0 ∷ test 1 ∷ test 2 ∷ test 3 ∷ test 4 ∷ test 5 ∷ test 6 ∷ test 7 ∷ []

abbrev pub is_asked : Option ℕ → ℕ → Bool
is_asked None k = false
is_asked (Some j) k = j == k

-- the register that operand k has to use, if any
abbrev pub asked_of : Goal → ℕ → Option Reg
asked_of Goal.Room k = None
asked_of (Goal.Use asked) k = if is_asked asked.first k || is_asked asked.second k then Some asked.register else None

abbrev pub is_wanted : Option Reg → ℕ → Bool
is_wanted None choice = true
is_wanted (Some r) choice = takes choice r

-- the alternative allows the choice, and no clobber forbids it
abbrev pub may_be_in : Interface → AltIface → ℕ → Bool
may_be_in i alt choice =
    if choice == 7 then alt.pair && (not (has_register i.clobbers 0) && not (has_register i.clobbers 3)) else has_register alt.regs choice && not (has_register i.clobbers choice)

-- whom operand k must be apart from
abbrev pub group_for : Goal → ℕ → Bool → Bool → Bool → Group
group_for Goal.Room k early output input = if early then Exclusive else (if output then (if input then Exclusive else Numbered 0) else Numbered 1)
group_for (Goal.Use asked) k early output input = if early then Exclusive else (if output then Numbered 0 else Numbered (2 + k))

abbrev pub absent : Class
absent = record { group = Absent; choices = of_choices (λ choice. false) }

abbrev pub register_class : Interface → Shape → Goal → ℕ → ShapedOperand → Class
register_class i s goal k x = record {
  group = group_for goal k x.allowed.early (is_output x.role) (holds_input i s k);
  choices = of_choices (λ choice. may_be_in i x.allowed choice && is_wanted (asked_of goal k) choice);
}

-- memory that has to use a register has it alone as its address
abbrev pub address_class : Interface → ℕ → Option Reg → Class
address_class i k None = absent
address_class i k (Some r) = record { group = Numbered (2 + k); choices = of_choices (λ choice. choice == reg_number r && not (has_register i.clobbers choice)) }

-- a number uses no register
abbrev pub number_class : ℕ → Option Reg → Class
number_class k None = absent
number_class k (Some r) = record { group = Numbered (2 + k); choices = of_choices (λ choice. false) }

abbrev pub kind_class : Interface → Shape → Goal → ℕ → ShapedOperand → Kind → Class
kind_class i s goal k x Kind.Register = register_class i s goal k x
kind_class i s goal k x Kind.Memory = address_class i k (asked_of goal k)
kind_class i s goal k x Kind.Number = number_class k (asked_of goal k)

abbrev pub untied_class : Interface → Shape → Goal → ℕ → ShapedOperand → Option ℕ → Class
untied_class i s goal k x None = kind_class i s goal k x x.kind
untied_class i s goal k x (Some output) = absent

abbrev pub operand_class : Interface → Shape → Goal → ℕ → Option ShapedOperand → Class
operand_class i s goal k None = absent
operand_class i s goal k (Some x) = untied_class i s goal k x x.allowed.tied

abbrev pub class_for : Interface → Shape → Goal → ℕ → Class
class_for i s goal k = operand_class i s goal k (operand_in i s k)

-- class k is that of operand k
pub record AreClasses (i : Interface) (s : Shape) (goal : Goal) (classes : List Class) : Type 0 where
  pub size : length classes ≡ 30
  pub each : (k : ℕ) → k < 30 → slice_get classes k ≡ Some (class_for i s goal k)
