-- What an accepted statement leaves as it was is a matter of equal numbers: where it can't be otherwise, it is so.
use Rattle.std.proofs.Common.{◌≡◌, inl, inr, ℕ, Bool, true, false, List, [], ◌∷◌, Option, None, Some, refl, ap, ◌∙◌}
use Rattle.std.proofs.lemmas.Bool.{cases_eq}
use Rattle.asm_core.specs.Machine.{Layout, layouts_of, Location, value_at, Keeps}
use Rattle.asm_core.specs.Frame.{MayChange, MayDiffer, IsFramed}
use Rattle.asm_core.specs.Run.{Outcome}
use Rattle.asm_core.specs.declared.shape.Shape.{Shape}
use Rattle.asm_core.specs.declared.interface.Interface.{Interface}
use Rattle.asm_core.specs.declared.placement.Placement.{Placement}
use Rattle.asm_core.specs.declared.machine.Machine.{Machine}
use Rattle.blk_frame.proofs.Basics.{same_some}

-- what follows can't be otherwise either
implied : {P Q : Type 0} → (P → Q) → ((P → ⊥) → ⊥) → (Q → ⊥) → ⊥
implied follows unless none = unless (λ h. none (follows h))

same_number : (a b : ℕ) → ((a ≡ b → ⊥) → ⊥) → a ≡ b
same_number a b unless = elim (cases_eq a b) [ inl same ↦ same | inr other ↦ absurd (unless other) ]

same_truth : (a b : Bool) → ((a ≡ b → ⊥) → ⊥) → a ≡ b
same_truth true true unless = refl
same_truth true false unless = absurd (unless (λ e. cc))
same_truth false true unless = absurd (unless (λ e. cc))
same_truth false false unless = refl

same_option : (a b : Option ℕ) → ((a ≡ b → ⊥) → ⊥) → a ≡ b
same_option None None unless = refl
same_option None (Some k) unless = absurd (unless (λ e. cc))
same_option (Some k) None unless = absurd (unless (λ e. cc))
same_option (Some k) (Some j) unless = ap Some (same_number k j (implied (same_some k j) unless))

abbrev layout : ℕ → ℕ → Bool → Option ℕ → Layout
layout base size writable owner = record { base = base; size = size; writable = writable; owner = owner }

layout_from : (x y : Layout) → x.base ≡ y.base → x.size ≡ y.size → x.writable ≡ y.writable → x.owner ≡ y.owner → x ≡ y
layout_from x y base size writable owner =
    ap (λ b. layout b x.size x.writable x.owner) base ∙ ap (λ n. layout y.base n x.writable x.owner) size
    ∙ ap (λ w. layout y.base y.size w x.owner) writable ∙ ap (layout y.base y.size y.writable) owner

same_layout : (x y : Layout) → ((x ≡ y → ⊥) → ⊥) → x ≡ y
same_layout x y unless = layout_from x y
    (same_number x.base y.base (implied (ap (λ (l : Layout). l.base)) unless))
    (same_number x.size y.size (implied (ap (λ (l : Layout). l.size)) unless))
    (same_truth x.writable y.writable (implied (ap (λ (l : Layout). l.writable)) unless))
    (same_option x.owner y.owner (implied (ap (λ (l : Layout). l.owner)) unless))

first_same : (x y : Layout) (xs ys : List Layout) → (x ∷ xs) ≡ (y ∷ ys) → x ≡ y
first_same x y xs ys e = cc

rest_same : (x y : Layout) (xs ys : List Layout) → (x ∷ xs) ≡ (y ∷ ys) → xs ≡ ys
rest_same x y xs ys e = cc

same_layouts : (xs ys : List Layout) → ((xs ≡ ys → ⊥) → ⊥) → xs ≡ ys
same_layouts [] [] unless = refl
same_layouts [] (y ∷ ys) unless = absurd (unless (λ e. cc))
same_layouts (x ∷ xs) [] unless = absurd (unless (λ e. cc))
same_layouts (x ∷ xs) (y ∷ ys) unless =
    ap (λ l. l ∷ xs) (same_layout x y (implied (first_same x y xs ys) unless))
    ∙ ap (λ ls. y ∷ ls) (same_layouts xs ys (implied (rest_same x y xs ys) unless))

pub keeps_unless : (May : Location → Type 0) (before after : Machine)
    → ((Keeps May before after → ⊥) → ⊥) → Keeps May before after
keeps_unless May before after unless = record {
  values = λ l not_may. same_number (value_at l after) (value_at l before)
      (implied (λ (keeps : Keeps May before after). keeps.values l not_may) unless);
  layouts = same_layouts (layouts_of after.ranges) (layouts_of before.ranges)
      (implied (λ (keeps : Keeps May before after). keeps.layouts) unless);
}

pub framed_unless : (i : Interface) (s : Shape) (p : Placement) (entry : Machine) (o : Outcome)
    → ((IsFramed i s p entry o → ⊥) → ⊥) → IsFramed i s p entry o
framed_unless i s p entry (Outcome.Ended m) unless = keeps_unless (MayChange i s p entry) entry m unless
framed_unless i s p entry (Outcome.Going m) unless = keeps_unless (MayDiffer i s p entry) entry m unless
framed_unless i s p entry (Outcome.Failed fault m) unless = keeps_unless (MayDiffer i s p entry) entry m unless
