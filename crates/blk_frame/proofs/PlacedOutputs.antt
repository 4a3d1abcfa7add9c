-- A value lies in each register in which its places lie.
use Rattle.std.proofs.Common.{◌≡◌, inl, inr, ℕ, ◌/◌, ◌%◌, ◌^◌, ◌==◌, Bool, true, false, cond, Option, None, Some, slice_get, if◌then◌else◌, refl, sym, ap, subst, ◌∙◌}
use Rattle.std.proofs.lemmas.Bool.{both_ways, and_parts, eqb-true}
use Rattle.asm_core.specs.Lists.{IsMember}
use Rattle.asm_core.specs.Reg.{reg_number, IsIn}
use Rattle.asm_core.specs.Company.{is_pair_alone, fixed_place, places_by, places_of, held_at}
use Rattle.asm_core.specs.Placement.{spot_of, value_registers, Fits, tie_root, IsAllowed}
use Rattle.asm_core.specs.Reading.Facts.{only_register, fixed_register, alternative_at}
use Rattle.asm_core.specs.Reading.Placed.{spot_place, placed_place}
use Rattle.asm_core.specs.WellFormed.{IsInterface}
use Rattle.asm_core.specs.declared.reg.Reg.{Reg}
use Rattle.asm_core.specs.declared.reg.RegSet.{RegSet}
use Rattle.asm_core.specs.declared.sym.Place.{Place}
use Rattle.asm_core.specs.declared.shape.Kind.{Kind}
use Rattle.asm_core.specs.declared.shape.Shape.{Shape}
use Rattle.asm_core.specs.declared.interface.AltIface.{AltIface}
use Rattle.asm_core.specs.declared.interface.OperandIface.{OperandIface}
use Rattle.asm_core.specs.declared.interface.Interface.{Interface}
use Rattle.asm_core.specs.declared.placement.Spot.{Spot}
use Rattle.asm_core.specs.declared.placement.Placement.{Placement}
use Rattle.asm_core.specs.declared.company.Held.{Held}
use Rattle.asm_core.specs.declared.company.Places.{Places}
use Rattle.asm_core.proofs.RegisterLaws.{same_reg}
use Rattle.blk_deps.specs.Cells.{place_at}
use Rattle.blk_deps.specs.Operands.{in_register, is_held, holds}
use Rattle.blk_frame.specs.Shown.{place_register, register_under}
use Rattle.blk_frame.proofs.Basics.{same_some}

-- ---- a set of one register

none_in : (r : Reg) → 0 / 2 ^ reg_number r % 2 ≡ 1 → ⊥
none_in Reg.Eax h = cc
none_in Reg.Ebx h = cc
none_in Reg.Ecx h = cc
none_in Reg.Edx h = cc
none_in Reg.Esi h = cc
none_in Reg.Edi h = cc
none_in Reg.Ebp h = cc

-- the power of two of a register has that one alone
abbrev power_of : Reg → ℕ
power_of Reg.Eax = 1
power_of Reg.Ebx = 2
power_of Reg.Ecx = 4
power_of Reg.Edx = 8
power_of Reg.Esi = 16
power_of Reg.Edi = 32
power_of Reg.Ebp = 64

in_power : (q r : Reg) → power_of q / 2 ^ reg_number r % 2 ≡ 1 → q ≡ r
in_power Reg.Eax Reg.Eax h = refl
in_power Reg.Ebx Reg.Ebx h = refl
in_power Reg.Ecx Reg.Ecx h = refl
in_power Reg.Edx Reg.Edx h = refl
in_power Reg.Esi Reg.Esi h = refl
in_power Reg.Edi Reg.Edi h = refl
in_power Reg.Ebp Reg.Ebp h = refl
in_power q r h = cc

only_power : (s : RegSet) (q : Reg) → only_register s ≡ Some q → s.0 ≡ power_of q
only_power s q is =
    by (s.0 == 1) (s.0 == 2) (s.0 == 4) (s.0 == 8) (s.0 == 16) (s.0 == 32) (s.0 == 64) refl refl refl refl refl refl
    refl is
  where
    named : (r : Reg) → Some r ≡ Some q → s.0 ≡ power_of r → s.0 ≡ power_of q
    named r e at = at ∙ ap power_of (same_some r q e)

    by : (a b c d e f g : Bool) → (s.0 == 1) ≡ a → (s.0 == 2) ≡ b → (s.0 == 4) ≡ c → (s.0 == 8) ≡ d
        → (s.0 == 16) ≡ e → (s.0 == 32) ≡ f → (s.0 == 64) ≡ g
        → cond a (Some Reg.Eax) (cond b (Some Reg.Ebx) (cond c (Some Reg.Ecx) (cond d (Some Reg.Edx)
        (cond e (Some Reg.Esi) (cond f (Some Reg.Edi) (cond g (Some Reg.Ebp) None)))))) ≡ Some q
        → s.0 ≡ power_of q
    by true b c d e f g ha hb hc hd he hf hg h = named Reg.Eax h (eqb-true s.0 1 ha)
    by false true c d e f g ha hb hc hd he hf hg h = named Reg.Ebx h (eqb-true s.0 2 hb)
    by false false true d e f g ha hb hc hd he hf hg h = named Reg.Ecx h (eqb-true s.0 4 hc)
    by false false false true e f g ha hb hc hd he hf hg h = named Reg.Edx h (eqb-true s.0 8 hd)
    by false false false false true f g ha hb hc hd he hf hg h = named Reg.Esi h (eqb-true s.0 16 he)
    by false false false false false true g ha hb hc hd he hf hg h = named Reg.Edi h (eqb-true s.0 32 hf)
    by false false false false false false true ha hb hc hd he hf hg h = named Reg.Ebp h (eqb-true s.0 64 hg)
    by false false false false false false false ha hb hc hd he hf hg h = cc

only_in : (s : RegSet) (q r : Reg) → only_register s ≡ Some q → IsIn s r → q ≡ r
only_in s q r is member = in_power q r (subst (λ n. n / 2 ^ reg_number r % 2 ≡ 1) (only_power s q is) member)

-- ---- where letters let a value be

abbrev IsLettered : AltIface → Spot → Type 0
IsLettered alt (Spot.Register r) = IsIn alt.regs r
IsLettered alt Spot.Pair = alt.pair ≡ true
IsLettered alt (Spot.Memory form) = ⊥
IsLettered alt (Spot.Number n) = ⊥

lettered : (i : Interface) (o : OperandIface) (alt : AltIface) (spot : Spot) → Fits i o alt Kind.Register spot
    → IsLettered alt spot
lettered i o alt (Spot.Register r) fits = fits.0
lettered i o alt Spot.Pair fits = fits.0
lettered i o alt (Spot.Memory form) fits = fits
lettered i o alt (Spot.Number n) fits = fits

-- the one register that letters allow holds the value
fixed_value : (alt : AltIface) (q : Reg) (spot : Spot) → fixed_register alt ≡ Some q → IsLettered alt spot
    → IsMember q (value_registers spot)
fixed_value alt q spot is there = by_pair alt.pair refl (alt.regs.0 == 0) refl spot there is
  where
    by_pair : (pair : Bool) → alt.pair ≡ pair → (none : Bool) → (alt.regs.0 == 0) ≡ none → (at : Spot)
        → IsLettered alt at → cond pair (cond none (Some Reg.Eax) None) (only_register alt.regs) ≡ Some q
        → IsMember q (value_registers at)
    by_pair false e none of_regs (Spot.Register r) is_in fixed = inl (only_in alt.regs q r fixed is_in)
    by_pair false e none of_regs Spot.Pair is_in fixed = absurd (both_ways alt.pair e is_in)
    by_pair true e true of_regs (Spot.Register r) is_in fixed =
        absurd (none_in r (subst (λ n. n / 2 ^ reg_number r % 2 ≡ 1) (eqb-true alt.regs.0 0 of_regs) is_in))
    by_pair true e true of_regs Spot.Pair is_in fixed = inl (sym (same_some Reg.Eax q fixed))
    by_pair true e false of_regs (Spot.Register r) is_in fixed = cc
    by_pair true e false of_regs Spot.Pair is_in fixed = cc
    by_pair pair e none of_regs (Spot.Memory form) is_in fixed = absurd is_in
    by_pair pair e none of_regs (Spot.Number n) is_in fixed = absurd is_in

-- the register of an operand's place holds the value
spot_value : (k : ℕ) (spot : Spot) (r : Reg) → place_register (spot_place k spot) ≡ Some r
    → IsMember r (value_registers spot)
spot_value k (Spot.Register q) r is = inl (sym (same_some q r is))
spot_value k Spot.Pair r is = inl (sym (same_some Reg.Eax r is))
spot_value k (Spot.Memory form) r is = cc
spot_value k (Spot.Number n) r is = cc

half_held : (r : Reg) (spot : Spot) (alt : AltIface) → is_pair_alone alt ≡ true → IsLettered alt spot
    → is_held (held_at (Place.Reg r) Places.Pair) ≡ true → IsMember r (value_registers spot)
half_held r (Spot.Register q) alt alone there held =
    absurd (none_in q (subst (λ n. n / 2 ^ reg_number q % 2 ≡ 1)
    (eqb-true alt.regs.0 0 (and_parts alt.pair (alt.regs.0 == 0) alone).1) there))
half_held Reg.Eax Spot.Pair alt alone there held = inl refl
half_held Reg.Edx Spot.Pair alt alone there held = inr (inl refl)
half_held Reg.Ebx Spot.Pair alt alone there held = cc
half_held Reg.Ecx Spot.Pair alt alone there held = cc
half_held Reg.Esi Spot.Pair alt alone there held = cc
half_held Reg.Edi Spot.Pair alt alone there held = cc
half_held Reg.Ebp Spot.Pair alt alone there held = cc
half_held r (Spot.Memory form) alt alone there held = absurd there
half_held r (Spot.Number n) alt alone there held = absurd there

module _ (p : Placement) (r : Reg) where
  -- a value that is where an operand is put
  own_value : (place : Place) (root : ℕ) → is_held (held_at place (Places.One (Place.Operand root))) ≡ true
      → place_register (placed_place p place) ≡ Some r → IsMember r (value_registers (spot_of p root))
  own_value (Place.Reg q) root held at = cc
  own_value (Place.Operand k) root held at = by (k == root) refl held
    where
      by : (b : Bool) → (k == root) ≡ b → is_held (if b then Held.All else Held.Nothing) ≡ true
          → IsMember r (value_registers (spot_of p root))
      by true e h = subst (λ n. IsMember r (value_registers (spot_of p n))) (eqb-true k root e)
          (spot_value k (spot_of p k) r at)
      by false e h = cc

  -- and one in a register
  register_value : (place : Place) (q : Reg) → is_held (held_at place (Places.One (Place.Reg q))) ≡ true
      → place_register (placed_place p place) ≡ Some r → q ≡ r
  register_value (Place.Operand k) q held at = cc
  register_value (Place.Reg h) q held at = by (reg_number h == reg_number q) refl held
    where
      by : (b : Bool) → (reg_number h == reg_number q) ≡ b → is_held (if b then Held.All else Held.Nothing) ≡ true
          → q ≡ r
      by true e held = sym (same_reg h q (eqb-true (reg_number h) (reg_number q) e)) ∙ same_some h r at
      by false e held = cc

  pair_value : (place : Place) (spot : Spot) (alt : AltIface) → is_pair_alone alt ≡ true → IsLettered alt spot
      → is_held (held_at place Places.Pair) ≡ true → place_register (placed_place p place) ≡ Some r
      → IsMember r (value_registers spot)
  pair_value (Place.Operand k) spot alt alone there held at = cc
  pair_value (Place.Reg q) spot alt alone there held at = subst (λ h. IsMember h (value_registers spot))
      (same_some q r at) (half_held q spot alt alone there held)

  places_value : (place : Place) (root : ℕ) (alt : Option AltIface) (kind : Option Kind)
      → ((a : AltIface) → alt ≡ Some a → kind ≡ Some Kind.Register → IsLettered a (spot_of p root))
      → is_held (held_at place (places_by root alt kind)) ≡ true → place_register (placed_place p place) ≡ Some r
      → IsMember r (value_registers (spot_of p root))
  places_value place root None kind there held at = own_value place root held at
  places_value place root (Some alt) None there held at = own_value place root held at
  places_value place root (Some alt) (Some Kind.Memory) there held at = own_value place root held at
  places_value place root (Some alt) (Some Kind.Number) there held at = own_value place root held at
  places_value place root (Some alt) (Some Kind.Register) there held at = by (is_pair_alone alt) refl
      (fixed_register alt) refl held
    where
      by : (b : Bool) → is_pair_alone alt ≡ b → (fixed : Option Reg) → fixed_register alt ≡ fixed
          → is_held (held_at place (if b then Places.Pair else Places.One (fixed_place root fixed))) ≡ true
          → IsMember r (value_registers (spot_of p root))
      by true e fixed of_alt h = pair_value place (spot_of p root) alt e (there alt refl refl) h at
      by false e None of_alt h = own_value place root h at
      by false e (Some q) of_alt h = subst (λ x. IsMember x (value_registers (spot_of p root)))
          (register_value place q h at) (fixed_value alt q (spot_of p root) of_alt (there alt refl refl))

-- ---- the root of a tie

no_item : {A : Type 0} (o : Option A) (x : A) → o ≡ None → o ≡ Some x → ⊥
no_item o x none some = cc

-- what an operand may be, and its output where it is tied
module _ (i : Interface) (s : Shape) (interface : IsInterface i) where
  -- two operands of one number have one alternative
  one_alternative : (j root : ℕ) (q o : OperandIface) (b alt : AltIface) → slice_get i.operands j ≡ Some q
      → slice_get q.alts s.alternative ≡ Some b → j ≡ root → slice_get i.operands root ≡ Some o
      → slice_get o.alts s.alternative ≡ Some alt → b ≡ alt
  one_alternative j root q o b alt at_j at_b own at_operand at_alt =
      let same : q ≡ o = same_some q o (sym at_j ∙ ap (slice_get i.operands) own ∙ at_operand) in
      same_some b alt (sym at_b ∙ ap (λ (x : OperandIface). slice_get x.alts s.alternative) same ∙ at_alt)

  -- what the shape's alternative allows a root has no tie
  pub root_untied : (j root : ℕ) (o : OperandIface) (alt : AltIface) → tie_root i s j ≡ root
      → slice_get i.operands root ≡ Some o → slice_get o.alts s.alternative ≡ Some alt → alt.tied ≡ None
  root_untied j root o alt is at_operand at_alt = by_operand (slice_get i.operands j) refl
    where
      by_tie : (q : OperandIface) (b : AltIface) → slice_get i.operands j ≡ Some q
          → slice_get q.alts s.alternative ≡ Some b → (t : Option ℕ) → b.tied ≡ t → alt.tied ≡ None
      by_tie q b e at None none =
          let own : j ≡ root = rw (e, at, none) at is in
          ap (λ (x : AltIface). x.tied) (sym (one_alternative j root q o b alt e at own at_operand at_alt)) ∙ none
      by_tie q b e at (Some output) some =
          let own : output ≡ root = rw (e, at, some) at is in
          let tie = interface.ties j s.alternative output q b (record { is_operand = e; is_alternative = at }) some in
          let there = tie.to.is_there in
          ap (λ (x : AltIface). x.tied) (sym (one_alternative output root tie.to.operand o tie.to.alternative alt
          there.is_operand there.is_alternative own at_operand at_alt)) ∙ tie.to.untied

      by_alternative : (q : OperandIface) → slice_get i.operands j ≡ Some q → (b : Option AltIface)
          → slice_get q.alts s.alternative ≡ b → alt.tied ≡ None
      by_alternative q e None at =
          let own : j ≡ root = rw (e, at) at is in
          let same : q ≡ o = same_some q o (sym e ∙ ap (slice_get i.operands) own ∙ at_operand) in
          absurd (no_item (slice_get q.alts s.alternative) alt at
          (ap (λ (x : OperandIface). slice_get x.alts s.alternative) same ∙ at_alt))
      by_alternative q e (Some b) at = by_tie q b e at b.tied refl

      by_operand : (q : Option OperandIface) → slice_get i.operands j ≡ q → alt.tied ≡ None
      by_operand None e =
          let own : j ≡ root = rw e at is in
          absurd (no_item (slice_get i.operands j) o e (ap (slice_get i.operands) own ∙ at_operand))
      by_operand (Some q) e = by_alternative q e (slice_get q.alts s.alternative) refl

  module _ (p : Placement) (allowed : IsAllowed i s p) where
    -- a root in a register is where its letters let it be
    lettered_root : (j : ℕ) (alt : AltIface)
        → alternative_at (slice_get i.operands (tie_root i s j)) s.alternative ≡ Some alt
        → slice_get s.kinds (tie_root i s j) ≡ Some Kind.Register → IsLettered alt (spot_of p (tie_root i s j))
    lettered_root j alt at kind = by (slice_get i.operands (tie_root i s j)) refl at
      where
        by : (o : Option OperandIface) → slice_get i.operands (tie_root i s j) ≡ o
            → alternative_at o s.alternative ≡ Some alt → IsLettered alt (spot_of p (tie_root i s j))
        by None e none = cc
        by (Some o) e some = lettered i o alt (spot_of p (tie_root i s j))
            (allowed.fits (tie_root i s j) o alt Kind.Register
            (record { is_operand = e; is_alternative = some; is_kind = kind })
            (root_untied j (tie_root i s j) o alt refl e some))

    held_there : (b : Bool) (held : Held) → is_held (if b then held else Held.Nothing) ≡ true → is_held held ≡ true
    held_there true held is = is
    held_there false held is = cc

    pub held_value : (u j : ℕ) (r : Reg) → holds i s u j ≡ true → register_under p u ≡ Some r
        → IsMember r (value_registers (spot_of p j))
    unfolding places_of
    held_value u j r held at = subst (λ spot. IsMember r (value_registers spot)) (sym (allowed.ties j))
        (places_value p r (place_at u) (tie_root i s j)
        (alternative_at (slice_get i.operands (tie_root i s j)) s.alternative) (slice_get s.kinds (tie_root i s j))
        (lettered_root j) (held_there (in_register s j) (held_at (place_at u) (places_of i s j)) held) at)
