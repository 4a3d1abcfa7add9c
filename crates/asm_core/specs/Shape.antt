-- The shapes of an interface: one alternative, and for each operand one kind that the alternative allows.
use Rattle.std.specs.Prelude.{ℕ, ◌==◌, ◌||◌, List, [], ◌∷◌, ◌++◌, map, Bool, not, is_some, None, Some, slice_get, option_to_list, if◌then◌else◌}
use Rattle.std.specs.List.{flat_map}
use Rattle.asm_core.specs.Lists.{count_from}
use Rattle.asm_core.specs.Placement.{IsAllowed}
use Rattle.asm_core.specs.declared.shape.Kind.{Kind}
use Rattle.asm_core.specs.declared.shape.Shape.{Shape}
use Rattle.asm_core.specs.declared.interface.AltIface.{AltIface}
use Rattle.asm_core.specs.declared.interface.OperandIface.{OperandIface}
use Rattle.asm_core.specs.declared.interface.Interface.{Interface}
use Rattle.asm_core.specs.declared.placement.Placement.{Placement}

abbrev some_if : {A : Type 0} → Bool → A → List A
some_if b x = if b then x ∷ [] else []

-- the kinds that letters allow, in the order of shapes
abbrev pub letter_kinds : AltIface → List Kind
letter_kinds alt = some_if (alt.pair || not (alt.regs.0 == 0)) Kind.Register ++ some_if alt.mem Kind.Memory ++ some_if (is_some alt.numbers) Kind.Number

-- the kinds of an operand, given those of the operands before it: a tied one has its output's kind
abbrev pub kinds_after : List Kind → AltIface → List Kind
kinds_after before alt = elim alt.tied [ None ↦ letter_kinds alt | Some k ↦ option_to_list (slice_get before k) ]

-- each choice of kinds, the last operand changing fastest
abbrev pub kind_lists : List Kind → List AltIface → List (List Kind)
kind_lists before [] = before ∷ []
kind_lists before (alt ∷ alts) = flat_map (λ kind. kind_lists (before ++ kind ∷ []) alts) (kinds_after before alt)

-- what one alternative allows, operand by operand
abbrev pub alternative_of : Interface → ℕ → List AltIface
alternative_of i a = flat_map (λ (o : OperandIface). option_to_list (slice_get o.alts a)) i.operands

-- one for each alternative; a statement without operands has one
abbrev pub alternatives_of : Interface → List ℕ
alternatives_of i = elim i.operands [ [] ↦ 0 ∷ [] | o ∷ os ↦ count_from 0 o.alts ]

-- all shapes in their order
abbrev pub shapes_of : Interface → List Shape
shapes_of i = flat_map (λ a. map (λ kinds. record { alternative = a; kinds = kinds }) (kind_lists [] (alternative_of i a))) (alternatives_of i)

-- a shape with an allowed placement
abbrev pub IsLive : Interface → Shape → Type 0
IsLive i s = (p : Placement) × IsAllowed i s p
