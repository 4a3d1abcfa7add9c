-- The operands of `asm("..." : "=m"(saved), "+rm"(counter), "=A"(product) : "2"(factor))`, for the example of an entry:
-- an output in memory, an operand that is read too and is in memory or in a register, an output of 8 bytes in the
-- pair, and an input tied to it. Its two shapes have allowed placements, and the counter alone is changing.
use Rattle.std.proofs.Common.{◌≡◌, ◌≢◌, ◌⊎◌, inl, inr, ℕ, zero, suc, ◌/◌, ◌^◌, ◌<◌, ◌≤◌, pos, [], ◌∷◌, length, replicate, true, false, IsTrue, Option, None, Some, slice_get, refl, ap, sym, subst, ◌∙◌, arith}
use Rattle.std.proofs.Math.Nat.{zero-div}
use Rattle.std.proofs.lemmas.Int.{ints}
use Rattle.asm_core.specs.Lists.{IsMember, AreApart}
use Rattle.asm_core.specs.Reg.{reg_number, all_regs, no_regs, IsIn}
use Rattle.asm_core.specs.Shape.{shapes_of}
use Rattle.asm_core.specs.Placement.{spot_of, tie_root, value_registers, is_output, IsForm, Fits, IsAllowed}
use Rattle.asm_core.specs.Entry.{IsChanging}
use Rattle.asm_core.specs.WellFormed.{IsUntiedOutput, IsTie, IsInterface}
use Rattle.asm_core.specs.declared.reg.Reg.{Reg}
use Rattle.asm_core.specs.declared.shape.Kind.{Kind}
use Rattle.asm_core.specs.declared.shape.Shape.{Shape}
use Rattle.asm_core.specs.declared.interface.Role.{Role}
use Rattle.asm_core.specs.declared.interface.AltIface.{AltIface}
use Rattle.asm_core.specs.declared.interface.OperandIface.{OperandIface}
use Rattle.asm_core.specs.declared.interface.Interface.{Interface}
use Rattle.asm_core.specs.declared.placement.Base.{Base}
use Rattle.asm_core.specs.declared.placement.Form.{Form}
use Rattle.asm_core.specs.declared.placement.Spot.{Spot}
use Rattle.asm_core.specs.declared.placement.Placement.{Placement}

-- ---- the interface

abbrev no_letter : AltIface
no_letter = record { early = false; tied = None; regs = no_regs; pair = false; mem = false; numbers = None }

abbrev operand : Role → ℕ → AltIface → OperandIface
operand role size alt = record { role = role; size = size; pointer = false; known = None; flag = None; alts = alt ∷ [] }

-- `m`, `rm`, `A` (the pair, for 8 bytes) and the tie `2`
abbrev pub saved : OperandIface
saved = operand Role.Out 4 (record no_letter { mem = true })

abbrev counter_letters : AltIface
counter_letters = record no_letter { regs = all_regs; mem = true }

abbrev pub counter : OperandIface
counter = operand Role.InOut 4 counter_letters

abbrev pub product : OperandIface
product = operand Role.Out 8 (record no_letter { pair = true })

abbrev pub factor : OperandIface
factor = operand Role.In 8 (record no_letter { tied = Some 2 })

abbrev pub example : Interface
example = record { operands = saved ∷ counter ∷ product ∷ factor ∷ []; clobbers = no_regs; cc = false; memory = false }

-- what is known of one value holds of another one that is found to be it
pub found : {A : Type 0} (P : A → Type 0) (x y : A) → P x → Some x ≡ Some y → P y
found P x y holds is = let same : x ≡ y = cc in subst P same holds

-- what holds of the four holds of each operand
pub each_operand : (P : ℕ → OperandIface → Type 0) → P 0 saved → P 1 counter → P 2 product → P 3 factor
    → (k : ℕ) (o : OperandIface) → slice_get example.operands k ≡ Some o → P k o
each_operand P a b c d zero o is = found (P 0) saved o a is
each_operand P a b c d (suc zero) o is = found (P 1) counter o b is
each_operand P a b c d (suc (suc zero)) o is = found (P 2) product o c is
each_operand P a b c d (suc (suc (suc zero))) o is = found (P 3) factor o d is
each_operand P a b c d (suc (suc (suc (suc k)))) o is = cc

-- the counter in a register, and in memory
abbrev shape_with : Kind → Shape
shape_with kind = record { alternative = 0; kinds = Kind.Memory ∷ kind ∷ Kind.Register ∷ Kind.Register ∷ [] }

abbrev pub memory_shape : Shape
memory_shape = shape_with Kind.Memory

its_shapes : shapes_of example ≡ shape_with Kind.Register ∷ memory_shape ∷ []
its_shapes = refl

-- ---- it is well formed

only_alternative : (P : ℕ → AltIface → Type 0) (first : AltIface) → P 0 first
    → (a : ℕ) (alt : AltIface) → slice_get (first ∷ []) a ≡ Some alt → P a alt
only_alternative P first holds zero alt is = found (P 0) first alt holds is
only_alternative P first holds (suc a) alt is = cc

-- a tie leads to an output, and nothing is early or a number
abbrev IsWell : ℕ → OperandIface → ℕ → AltIface → Type 0
IsWell k o a alt = ((output : ℕ) → alt.tied ≡ Some output → IsTie example k a output o alt)
    × (alt.early ≡ false) × (alt.numbers ≡ None) × (alt.regs.0 < 128)

product_is_output : IsUntiedOutput example 2 0
product_is_output = record {
  operand = product;
  alternative = record no_letter { pair = true };
  is_there = record { is_operand = refl; is_alternative = refl };
  output = refl;
  untied = refl;
}

factor_tied : (output : ℕ) → Some 2 ≡ Some output → IsTie example 3 0 output factor (record no_letter { tied = Some 2 })
factor_tied output = found (λ n. IsTie example 3 0 n factor (record no_letter { tied = Some 2 })) 2 output
    (record { before = omega arith; to = product_is_output; input_alone = refl; not_early = refl })

well : (k : ℕ) (o : OperandIface) → slice_get example.operands k ≡ Some o
    → (a : ℕ) (alt : AltIface) → slice_get o.alts a ≡ Some alt → IsWell k o a alt
well = each_operand (λ k o. (a : ℕ) (alt : AltIface) → slice_get o.alts a ≡ Some alt → IsWell k o a alt)
    (only_alternative (IsWell 0 saved) _ (λ output is. cc, refl, refl, omega arith))
    (only_alternative (IsWell 1 counter) _ (λ output is. cc, refl, refl, omega arith))
    (only_alternative (IsWell 2 product) _ (λ output is. cc, refl, refl, omega arith))
    (only_alternative (IsWell 3 factor) _ (factor_tied, refl, refl, omega arith))

one_alternative : (k : ℕ) (o : OperandIface) → slice_get example.operands k ≡ Some o → length o.alts ≡ 1
one_alternative = each_operand (λ k o. length o.alts ≡ 1) refl refl refl refl

pub is_interface : IsInterface example
is_interface = record {
  few = omega arith;
  counts = λ k j o q is_k is_j. one_alternative k o is_k ∙ sym (one_alternative j q is_j);
  ties = λ k a output o alt h is. (well k o h.is_operand a alt h.is_alternative).0 output is;
  early = λ k a o alt h early. let never : alt.early ≡ false = (well k o h.is_operand a alt h.is_alternative).1 in cc;
  numbers = λ k a o alt range h is.
      let none : alt.numbers ≡ None = (well k o h.is_operand a alt h.is_alternative).2 in cc;
  registers = λ k a o alt h. (well k o h.is_operand a alt h.is_alternative).3;
}

-- ---- its placements

-- `8(%esp)` and `1048576`
abbrev pub stack_slot : Form
stack_slot = record { disp = pos 8; base = Some Base.Esp; index = None }

abbrev pub global : Form
global = record { disp = pos 1048576; base = None; index = None }

abbrev placement_with : Spot → Placement
placement_with spot = record {
  spots = Spot.Memory stack_slot ∷ spot ∷ Spot.Pair ∷ Spot.Pair ∷ replicate 26 (Spot.Number (pos 0));
  count = 4;
}

abbrev pub memory_placement : Placement
memory_placement = placement_with (Spot.Memory global)

is_form : (n : ℕ) (base : Option Base) → n ≤ 1048576 → IsForm (record { disp = pos n; base = base; index = None })
is_form n base small = record { low = omega (arith, ints); high = omega (arith, ints, small); scale = λ x e. cc }

unclobbered : (r : Reg) → IsIn no_regs r → ⊥
unclobbered r h = let none : 0 / 2 ^ reg_number r ≡ 0 = zero-div (2 ^ reg_number r) in omega (arith, h, none)

module _ (kind : Kind) (spot : Spot) (fit : Fits example counter counter_letters kind spot)
    (beside_pair : AreApart (value_registers spot) (Reg.Eax ∷ Reg.Edx ∷ [])) where
  abbrev p : Placement
  p = placement_with spot

  -- the alternative lets the operand be where it is, if it isn't tied
  abbrev Suits : ℕ → OperandIface → AltIface → Kind → Type 0
  Suits k o alt kind_there = (alt.early ≡ false) × (alt.tied ≡ None → Fits example o alt kind_there (spot_of p k))

  abbrev Stands : ℕ → OperandIface → Type 0
  Stands k o = (alt : AltIface) (kind_there : Kind) → slice_get o.alts 0 ≡ Some alt
      → slice_get (shape_with kind).kinds k ≡ Some kind_there → Suits k o alt kind_there

  as_found : (k : ℕ) (o : OperandIface) (a alt : AltIface) (q kind_there : Kind) → Suits k o a q → Some a ≡ Some alt
      → Some q ≡ Some kind_there → Suits k o alt kind_there
  as_found k o a alt q kind_there suits is_alt is_kind = found (Suits k o alt) q kind_there
      (found (λ x. Suits k o x q) a alt suits is_alt) is_kind

  stands : (k : ℕ) (o : OperandIface) → slice_get example.operands k ≡ Some o → Stands k o
  stands = each_operand Stands
      (λ alt q. as_found 0 saved _ alt _ q
      (refl, λ untied. (is_form 8 (Some Base.Esp) (omega arith), λ r is. absurd is)))
      (λ alt q. as_found 1 counter _ alt _ q (refl, λ untied. fit))
      (λ alt q. as_found 2 product _ alt _ q (refl, λ untied. (refl, λ r is. unclobbered r)))
      (λ alt q. as_found 3 factor _ alt _ q (refl, λ untied. cc))

  -- the factor is where the product is
  ties : (k : ℕ) → spot_of p k ≡ spot_of p (tie_root example (shape_with kind) k)
  ties zero = refl
  ties (suc zero) = refl
  ties (suc (suc zero)) = refl
  ties (suc (suc (suc zero))) = refl
  ties (suc (suc (suc (suc k)))) = refl

  -- the registers that the outputs are in: those of the counter, and the pair
  abbrev IsHeld : ℕ → Reg → Type 0
  IsHeld k r = ((k ≡ 1) × IsMember r (value_registers spot)) ⊎ ((k ≡ 2) × IsMember r (Reg.Eax ∷ Reg.Edx ∷ []))

  held : (k : ℕ) (o : OperandIface) → slice_get example.operands k ≡ Some o → IsTrue (is_output o.role) → (r : Reg)
      → IsMember r (value_registers (spot_of p k)) → IsHeld k r
  held = each_operand
      (λ k o. IsTrue (is_output o.role) → (r : Reg) → IsMember r (value_registers (spot_of p k)) → IsHeld k r)
      (λ out r is. absurd is) (λ out r is. inl (refl, is)) (λ out r is. inr (refl, is)) (λ out. cc)

  apart : (k j : ℕ) (r : Reg) → k ≢ j → IsHeld k r → IsHeld j r → ⊥
  apart k j r differ (inl a) (inl b) = differ (a.0 ∙ sym b.0)
  apart k j r differ (inl a) (inr b) = beside_pair r a.1 b.1
  apart k j r differ (inr a) (inl b) = beside_pair r b.1 a.1
  apart k j r differ (inr a) (inr b) = differ (a.0 ∙ sym b.0)

  allowed : IsAllowed example (shape_with kind) p
  allowed = record {
    count = refl;
    fits = λ k o alt q h. (stands k o h.is_operand alt q h.is_alternative h.is_kind).1;
    ties = ties;
    outputs_apart = λ k j o q is_k is_j out_k out_j differ r at_k at_j.
        apart k j r differ (held k o is_k out_k r at_k) (held j q is_j out_j r at_j);
    early_apart = λ k j o q alt g h is_j early differ.
        let never : alt.early ≡ false = (stands k o h.is_operand alt g h.is_alternative h.is_kind).0 in cc;
  }

beside : AreApart (Reg.Ebx ∷ []) (Reg.Eax ∷ Reg.Edx ∷ [])
beside r (inl e) (inl f) = cc
beside r (inl e) (inr (inl f)) = cc
beside r (inl e) (inr (inr none)) = none
beside r (inr none) second = none

pub in_register : IsAllowed example (shape_with Kind.Register) (placement_with (Spot.Register Reg.Ebx))
in_register = allowed Kind.Register (Spot.Register Reg.Ebx) (refl, unclobbered Reg.Ebx) beside

pub in_memory : IsAllowed example memory_shape memory_placement
in_memory = allowed Kind.Memory (Spot.Memory global)
    (is_form 1048576 None (omega arith), λ r is. absurd is) (λ r first second. absurd first)

-- ---- the counter is changing, and nothing else is

pub counter_changes : IsChanging example 1
counter_changes = record {
  in_memory = (memory_shape, inr (inl refl), (memory_placement, in_memory), refl);
  elsewhere = (shape_with Kind.Register, inl refl, (placement_with (Spot.Register Reg.Ebx), in_register), λ e. cc);
}

abbrev kind_in : Shape → ℕ → Option Kind
kind_in s k = slice_get s.kinds k

kinds_alike : (k : ℕ) → (k ≡ 1) ⊎ (kind_in (shape_with Kind.Register) k ≡ kind_in memory_shape k)
kinds_alike zero = inr refl
kinds_alike (suc zero) = inl refl
kinds_alike (suc (suc k)) = inr refl

kind_of : (k : ℕ) (s : Shape) → IsMember s (shapes_of example)
    → kind_in (shape_with Kind.Register) k ≡ kind_in memory_shape k → kind_in s k ≡ kind_in memory_shape k
kind_of k s (inl e) alike = ap (λ q. kind_in q k) e ∙ alike
kind_of k s (inr (inl e)) alike = ap (λ q. kind_in q k) e
kind_of k s (inr (inr none)) alike = absurd none

pub only_counter : (k : ℕ) → IsChanging example k → k ≡ 1
only_counter k c = elim (kinds_alike k) [
  | inl first ↦ first
  | inr alike ↦ absurd (c.elsewhere.3 (kind_of k c.elsewhere.0 c.elsewhere.1 alike
      ∙ sym (kind_of k c.in_memory.0 c.in_memory.1 alike) ∙ c.in_memory.3))
]
