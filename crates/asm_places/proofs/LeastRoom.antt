-- The placement of the least assignment is the least roomy one, and where there is no assignment there is none.
use Rattle.std.proofs.Common.{◌≡◌, ℕ, ◌<◌, ◌≤◌, true, None, Some, slice_get, unwrap_or, refl, sym, ap, subst, ◌∙◌, arith}
use Rattle.register_search.specs.Assignment.{takes_registers}
use Rattle.register_search.specs.declared.class.Class.{Class}
use Rattle.asm_core.specs.Roomy.{order_of, IsLeastRoomy}
use Rattle.asm_core.specs.Placement.{spot_of, Fits, HasOperand, IsRoomy}
use Rattle.asm_core.specs.declared.shape.Kind.{Kind}
use Rattle.asm_core.specs.declared.shape.Kind.TheVariants.{Register, Memory, Number}
use Rattle.asm_core.specs.declared.shape.Shape.{Shape}
use Rattle.asm_core.specs.declared.interface.AltIface.{AltIface}
use Rattle.asm_core.specs.declared.interface.OperandIface.{OperandIface}
use Rattle.asm_core.specs.declared.interface.Interface.{Interface}
use Rattle.asm_core.specs.declared.placement.Spot.{Spot}
use Rattle.asm_core.specs.declared.placement.Placement.{Placement}
use Rattle.asm_places.specs.Classes.{kind_class}
use Rattle.asm_core.specs.Placement.{is_output}
use Rattle.asm_places.specs.Operand.{holds_input}
use Rattle.asm_places.specs.Placing.{kind_spot, lower_end, IsLeastPlaced, HasNoAssignment}
use Rattle.asm_places.specs.declared.goal.Goal.TheVariants.{Room}
use Rattle.asm_places.proofs.Shaped.{in_shape, is_shaped}
use Rattle.asm_places.proofs.Choices.{choice_order}
use Rattle.asm_places.proofs.Takers.{taker}
use Rattle.asm_places.proofs.FromPlacement.{choice_from, choices_from, room_register, roomy_assigns}
use Rattle.asm_places.proofs.ToPlacement.{spot_at, here, register_taken, group_takes, room_roomy}
use Rattle.asm_places.proofs.Sound.{IsSound}

-- the order of a register operand's spot is its choice
order_is_choice : (i : Interface) (o : OperandIface) (alt : AltIface) (spot : Spot) → Fits i o alt Register spot → order_of spot ≡ choice_from None spot
order_is_choice i o alt (Spot.Register r) fits = refl
order_is_choice i o alt Spot.Pair fits = refl
order_is_choice i o alt (Spot.Memory form) fits = refl
order_is_choice i o alt (Spot.Number n) fits = refl

pub least_roomy : (i : Interface) (s : Shape) → IsSound i s → (p : Placement) → IsLeastPlaced i s Room p → IsLeastRoomy i s p
least_roomy i s sound p l = record {
  roomy = room_roomy i s sound l.classes l.are l.choice_of l.least.assigned p l.placed;
  memory = λ k o alt has untied. at k o alt Memory has untied;
  known = λ k o alt n has untied known. at k o alt Number has untied ∙ ap (λ x. Spot.Number (unwrap_or x (lower_end alt.numbers))) known;
  lowest = λ k o alt range has untied unknown is. at k o alt Number has untied ∙ ap (λ x. Spot.Number (unwrap_or x (lower_end alt.numbers))) unknown ∙ ap (λ x. Spot.Number (lower_end x)) is;
  first = first;
}
  where
    at : (k : ℕ) (o : OperandIface) (alt : AltIface) (kind : Kind) → HasOperand i s k o alt kind → alt.tied ≡ None → spot_of p k ≡ kind_spot Room k (in_shape o alt kind) (l.choice_of k) kind
    at k o alt kind has untied = spot_at i s Room sound l.classes l.are l.choice_of l.least.assigned p l.placed k o alt kind has untied

    order_at : (k : ℕ) (o : OperandIface) (alt : AltIface) → HasOperand i s k o alt Register → alt.tied ≡ None → order_of (spot_of p k) ≡ l.choice_of k
    order_at k o alt has untied =
        ap order_of (at k o alt Register has untied)
        ∙ choice_order (l.choice_of k) (register_taken i s Room sound l.classes l.are l.choice_of l.least.assigned p l.placed k o alt has untied).0

    first : (q : Placement) → IsRoomy i s q → (k : ℕ) (o : OperandIface) (alt : AltIface) → HasOperand i s k o alt Register → alt.tied ≡ None
        → ((j : ℕ) (b : OperandIface) (beside : AltIface) → j < k → HasOperand i s j b beside Register → spot_of q j ≡ spot_of p j)
        → order_of (spot_of p k) ≤ order_of (spot_of q k)
    first q roomy k o alt has untied agree =
        let other = roomy_assigns i s l.classes l.are q roomy in
        let class : Class = kind_class i s Room k (in_shape o alt Register) Register in
        let is = here i s Room sound l.classes l.are l.choice_of l.least.assigned p l.placed k o alt Register has untied in
        let le = l.least.least (choices_from Room q) other k class is (group_takes Room k alt.early (is_output o.role) (holds_input i s k)) (below q k agree) in
        let mine = order_at k o alt has untied in
        let theirs = order_is_choice i o alt (spot_of q k) (roomy.allowed.fits k o alt Register has untied) in
        omega arith
      where
        below : (q : Placement) (k : ℕ) → ((j : ℕ) (b : OperandIface) (beside : AltIface) → j < k → HasOperand i s j b beside Register → spot_of q j ≡ spot_of p j)
            → (j : ℕ) (c : Class) → j < k → slice_get l.classes j ≡ Some c → takes_registers c.group ≡ true → choices_from Room q j ≡ l.choice_of j
        below q k agree j c lt is takes =
            let t = taker i s Room l.classes j c l.are is takes in
            let d = is_shaped i s j t.operand t.is_operand in
            let kind = room_register i s j t.operand t.operand.kind (ap (λ (x : Class). takes_registers x.group) (sym t.is_class) ∙ takes) in
            let has : HasOperand i s j d.operand t.operand.allowed Register = subst (λ z. HasOperand i s j d.operand t.operand.allowed z) kind d.has in
            ap (choice_from None) (agree j d.operand t.operand.allowed lt has)
            ∙ sym (order_is_choice i d.operand t.operand.allowed (spot_of p j) ((room_roomy i s sound l.classes l.are l.choice_of l.least.assigned p l.placed).allowed.fits j d.operand t.operand.allowed Register has t.untied))
            ∙ order_at j d.operand t.operand.allowed has t.untied

pub no_room : (i : Interface) (s : Shape) → HasNoAssignment i s Room → (p : Placement) → IsRoomy i s p → ⊥
no_room i s h p roomy = h.none (choices_from Room p, roomy_assigns i s h.classes h.are p roomy)
