-- The classes that take registers, and what they stand for.
use Rattle.std.proofs.Common.{◌≡◌, ℕ, ◌<◌, List, Bool, true, false, Option, None, Some, slice_get, slice_index_or, refl, sym, ap, ◌∙◌, arith}
use Rattle.register_search.specs.Assignment.{takes_registers}
use Rattle.register_search.specs.declared.class.Class.{Class}
use Rattle.register_search.specs.declared.class.Group.{Group}
use Rattle.register_search.proofs.Sets.{each_choice}
use Rattle.asm_core.specs.Placement.{is_output, is_input}
use Rattle.asm_core.specs.declared.reg.Reg.{Reg}
use Rattle.asm_core.specs.declared.shape.Kind.{Kind}
use Rattle.asm_core.specs.declared.shape.Kind.TheVariants.{Register, Memory, Number}
use Rattle.asm_core.specs.declared.shape.Shape.{Shape}
use Rattle.asm_core.specs.declared.interface.Role.{Role}
use Rattle.asm_core.specs.declared.interface.Role.TheVariants.{Out, InOut, In}
use Rattle.asm_core.specs.declared.interface.Interface.{Interface}
use Rattle.asm_places.specs.Operand.{operand_in, holds_input}
use Rattle.asm_places.specs.Classes.{of_choices, asked_of, group_for, class_for, operand_class, untied_class, kind_class, address_class, number_class, AreClasses}
use Rattle.asm_places.specs.declared.goal.Goal.{Goal}
use Rattle.asm_places.specs.declared.goal.Goal.TheVariants.{Room, Use}
use Rattle.asm_places.specs.declared.operand.ShapedOperand.{ShapedOperand}
use Rattle.asm_places.proofs.Shaped.{is_shaped, untied_root, get_inside, holds}

pub of_choices_at : (test : ℕ → Bool) (choice : ℕ) → choice < 8 → slice_index_or (of_choices test) choice false ≡ test choice
of_choices_at test choice below = each_choice (λ j. slice_index_or (of_choices test) j false ≡ test j) refl refl refl refl refl refl refl refl choice below

-- class k stands for operand k, which is tied to none
pub record IsTaker (i : Interface) (s : Shape) (goal : Goal) (k : ℕ) (c : Class) : Type 0 where
  pub operand : ShapedOperand
  pub is_operand : operand_in i s k ≡ Some operand
  pub untied : operand.allowed.tied ≡ None
  pub is_class : c ≡ kind_class i s goal k operand operand.kind
  pub inside : k < 30

taker_from : (i : Interface) (s : Shape) (goal : Goal) (k : ℕ) (c : Class) (o : Option ShapedOperand) → k < 30 → operand_in i s k ≡ o → c ≡ operand_class i s goal k o → takes_registers c.group ≡ true → IsTaker i s goal k c
taker_from i s goal k c None below e is takes = let wrong : false ≡ true = sym (ap (λ (x : Class). takes_registers x.group) is) ∙ takes in cc
taker_from i s goal k c (Some x) below e is takes = by_tie x.allowed.tied refl
  where
    by_tie : (t : Option ℕ) → x.allowed.tied ≡ t → IsTaker i s goal k c
    by_tie None f = record { operand = x; is_operand = e; untied = f; is_class = is ∙ ap (untied_class i s goal k x) f; inside = below }
    by_tie (Some output) f = let wrong : false ≡ true = sym (ap (λ (y : Class). takes_registers y.group) (is ∙ ap (untied_class i s goal k x) f)) ∙ takes in cc

pub taker : (i : Interface) (s : Shape) (goal : Goal) (classes : List Class) (k : ℕ) (c : Class) → AreClasses i s goal classes → slice_get classes k ≡ Some c → takes_registers c.group ≡ true → IsTaker i s goal k c
taker i s goal classes k c are is takes =
    let below : k < 30 = let lt = get_inside classes k c is in let size = are.size in omega arith in
    let both : Some c ≡ Some (class_for i s goal k) = sym is ∙ are.each k below in
    taker_from i s goal k c (operand_in i s k) below refl (let e : c ≡ class_for i s goal k = cc in e) takes

-- the class of an operand that is tied to none
pub class_of : (i : Interface) (s : Shape) (goal : Goal) (classes : List Class) (k : ℕ) (x : ShapedOperand) → AreClasses i s goal classes → k < 30 → operand_in i s k ≡ Some x → x.allowed.tied ≡ None
    → slice_get classes k ≡ Some (kind_class i s goal k x x.kind)
class_of i s goal classes k x are below is untied =
    are.each k below ∙ ap (λ o. Some (operand_class i s goal k o)) is ∙ ap (λ t. Some (untied_class i s goal k x t)) untied

-- ---- what is known of an operand

abbrev pub early_kind : ShapedOperand → Kind → Bool
early_kind x Register = x.allowed.early
early_kind x Memory = false
early_kind x Number = false

abbrev pub output_kind : ShapedOperand → Kind → Bool
output_kind x Register = is_output x.role
output_kind x Memory = false
output_kind x Number = false

abbrev pub input_kind : Interface → Shape → ℕ → ShapedOperand → Kind → Bool
input_kind i s k x Register = holds_input i s k
input_kind i s k x Memory = true
input_kind i s k x Number = true

abbrev pub group_of_kind : Interface → Shape → Goal → ℕ → ShapedOperand → Kind → Group
group_of_kind i s goal k x kind = group_for goal k (early_kind x kind) (output_kind x kind) (input_kind i s k x kind)

not_asked_room : (k : ℕ) (r : Reg) → asked_of Room k ≡ Some r → ⊥
not_asked_room k r h = cc

pub address_group : (i : Interface) (s : Shape) (goal : Goal) (k : ℕ) (x : ShapedOperand) (kind : Kind) (a : Option Reg) → asked_of goal k ≡ a → takes_registers (kind_class i s goal k x kind).group ≡ true
    → (kind_class i s goal k x kind).group ≡ group_of_kind i s goal k x kind
address_group i s goal k x Register a e takes = refl
address_group i s goal k x Memory None e takes =
    let wrong : false ≡ true = sym (ap (λ o. takes_registers (address_class i k o).group) e) ∙ takes in cc
address_group i s Room k x Memory (Some r) e takes = absurd (not_asked_room k r e)
address_group i s (Use a) k x Memory (Some r) e takes = ap (λ o. (address_class i k o).group) e
address_group i s goal k x Number None e takes =
    let wrong : false ≡ true = sym (ap (λ o. takes_registers (number_class k o).group) e) ∙ takes in cc
address_group i s Room k x Number (Some r) e takes = absurd (not_asked_room k r e)
address_group i s (Use a) k x Number (Some r) e takes = ap (λ o. (number_class k o).group) e

pub taker_group : (i : Interface) (s : Shape) (goal : Goal) (k : ℕ) (c : Class) → (t : IsTaker i s goal k c) → takes_registers c.group ≡ true → c.group ≡ group_of_kind i s goal k t.operand t.operand.kind
taker_group i s goal k c t takes =
    ap (λ (x : Class). x.group) t.is_class
    ∙ address_group i s goal k t.operand t.operand.kind (asked_of goal k) refl (ap (λ (x : Class). takes_registers x.group) (sym t.is_class) ∙ takes)

in_or_out : (role : Role) → is_output role ≡ false → is_input role ≡ true
in_or_out Out h = cc
in_or_out InOut h = refl
in_or_out In h = refl

-- an operand that is no output is an input
pub input_unless : (i : Interface) (s : Shape) (k : ℕ) (x : ShapedOperand) (kind : Kind) → operand_in i s k ≡ Some x → x.allowed.tied ≡ None → output_kind x kind ≡ false → input_kind i s k x kind ≡ true
input_unless i s k x Memory is untied h = refl
input_unless i s k x Number is untied h = refl
input_unless i s k x Register is untied h =
    let d = is_shaped i s k x is in
    holds i s k (record {
      at = k;
      operand = d.operand;
      is_operand = d.has.is_operand;
      input = ap is_input d.role ∙ in_or_out x.role h;
      root = untied_root i s k d.operand x.allowed d.has.is_operand d.has.is_alternative untied;
    })
