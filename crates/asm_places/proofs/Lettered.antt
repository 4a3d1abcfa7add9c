-- Each shape of an interface has a placement by letters, ties and numbers alone.
use Rattle.std.proofs.Common.{◌≡◌, inl, inr, ℕ, zero, suc, ◌/◌, ◌%◌, ◌==◌, ◌||◌, ◌<◌, ◌^◌, not, ℤ, pos, [], ◌∷◌, ◌++◌, length, map, Bool, true, false, cond, Option, None, Some, slice_get, unwrap_or, refl, ap, sym, subst, ◌∙◌, eq-eqb, arith, if◌then◌else◌}
use Rattle.std.proofs.lemmas.Int.{ints}
use Rattle.std.proofs.lemmas.Bool.{eqb-true}
use Rattle.std.proofs.lemmas.Bool.Decides.{nat_tests}
use Rattle.std.proofs.lemmas.List.FromFn.{get_or-map-range_with_len}
use Rattle.std.specs.List.{range_with_len}
use Rattle.asm_core.specs.Reg.{IsIn}
use Rattle.asm_core.specs.Lists.{IsMember}
use Rattle.asm_core.specs.Shape.{letter_kinds, shapes_of}
use Rattle.asm_core.specs.Placement.{spot_of, HasOperand, tie_root}
use Rattle.asm_core.specs.WellFormed.{IsInterface}
use Rattle.asm_core.specs.Reading.UnderShape.{LettersFit, IsLettered}
use Rattle.asm_core.proofs.ShapeLaws.{IsShape, is_shape}
use Rattle.asm_core.specs.declared.reg.Reg.{Reg}
use Rattle.asm_core.specs.declared.reg.Reg.TheVariants.{Eax, Ebx, Ecx, Edx, Esi, Edi, Ebp}
use Rattle.asm_core.specs.declared.reg.RegSet.{RegSet}
use Rattle.asm_core.specs.declared.shape.Kind.{Kind}
use Rattle.asm_core.specs.declared.shape.Kind.TheVariants.{Register, Memory, Number}
use Rattle.asm_core.specs.declared.shape.Shape.{Shape}
use Rattle.asm_core.specs.declared.placement.Spot.{Spot}
use Rattle.asm_core.specs.declared.placement.Placement.{Placement}
use Rattle.asm_core.specs.declared.interface.AltIface.{AltIface}
use Rattle.asm_core.specs.declared.interface.OperandIface.{OperandIface}
use Rattle.asm_core.specs.declared.interface.Interface.{Interface}
use Rattle.asm_places.specs.Placing.{lower_end}
use Rattle.asm_places.proofs.Shaped.{untied_root, outside_root}
use Rattle.asm_places.proofs.Sound.{IsSound, root_of, has_inside}
use Rattle.asm_places.proofs.SoundShapes.{sound}
use Rattle.asm_places.proofs.ToPlacement.{number_fits}

-- ---- a register of a set

-- the first in their order, ebp where no other is in the set
abbrev first_register : RegSet → Reg
first_register s =
    cond (s.0 % 2 == 1) Eax (cond (s.0 / 2 % 2 == 1) Ebx (cond (s.0 / 4 % 2 == 1) Ecx (cond (s.0 / 8 % 2 == 1) Edx (cond (s.0 / 16 % 2 == 1) Esi (cond (s.0 / 32 % 2 == 1) Edi Ebp)))))

even_of : (n : ℕ) → (n % 2 == 1) ≡ false → n % 2 ≡ 0
even_of n h = grind (arith, nat_tests)

-- a number below 128 whose six low bits are 0, but which isn't 0
highest : (n : ℕ) → n < 128 → (n ≡ 0 → ⊥) → n % 2 ≡ 0 → n / 2 % 2 ≡ 0 → n / 4 % 2 ≡ 0 → n / 8 % 2 ≡ 0 → n / 16 % 2 ≡ 0 → n / 32 % 2 ≡ 0 → n / 2 ^ 6 % 2 ≡ 1
highest n small some a b c d e f = by (n / 64) refl
  where
    by : (m : ℕ) → n / 64 ≡ m → n / 2 ^ 6 % 2 ≡ 1
    by zero h = absurd (some (omega arith))
    by (suc zero) h = omega arith
    by (suc (suc m)) h = absurd (omega arith)

first_in : (s : RegSet) → s.0 < 128 → (s.0 ≡ 0 → ⊥) → IsIn s (first_register s)
first_in s small some = by (s.0 % 2 == 1) (s.0 / 2 % 2 == 1) (s.0 / 4 % 2 == 1) (s.0 / 8 % 2 == 1) (s.0 / 16 % 2 == 1) (s.0 / 32 % 2 == 1) refl refl refl refl refl refl
  where
    by : (a b c d e f : Bool) → (s.0 % 2 == 1) ≡ a → (s.0 / 2 % 2 == 1) ≡ b → (s.0 / 4 % 2 == 1) ≡ c → (s.0 / 8 % 2 == 1) ≡ d → (s.0 / 16 % 2 == 1) ≡ e → (s.0 / 32 % 2 == 1) ≡ f
        → IsIn s (cond a Eax (cond b Ebx (cond c Ecx (cond d Edx (cond e Esi (cond f Edi Ebp))))))
    by true b c d e f ea eb ec ed ee ef = let one = eqb-true (s.0 % 2) 1 ea in omega arith
    by false true c d e f ea eb ec ed ee ef = let one = eqb-true (s.0 / 2 % 2) 1 eb in omega arith
    by false false true d e f ea eb ec ed ee ef = let one = eqb-true (s.0 / 4 % 2) 1 ec in omega arith
    by false false false true e f ea eb ec ed ee ef = let one = eqb-true (s.0 / 8 % 2) 1 ed in omega arith
    by false false false false true f ea eb ec ed ee ef = let one = eqb-true (s.0 / 16 % 2) 1 ee in omega arith
    by false false false false false true ea eb ec ed ee ef = let one = eqb-true (s.0 / 32 % 2) 1 ef in omega arith
    by false false false false false false ea eb ec ed ee ef =
        highest s.0 small some (even_of s.0 ea) (even_of (s.0 / 2) eb) (even_of (s.0 / 4) ec) (even_of (s.0 / 8) ed) (even_of (s.0 / 16) ee) (even_of (s.0 / 32) ef)

-- ---- where letters let an operand be

register_letter : (b c d : Bool) → IsMember Register ((if b then Register ∷ [] else []) ++ (if c then Memory ∷ [] else []) ++ (if d then Number ∷ [] else [])) → b ≡ true
register_letter true c d m = refl
register_letter false true true m = elim m [ inl e ↦ cc | inr n ↦ elim n [ inl e ↦ cc | inr o ↦ absurd o ] ]
register_letter false true false m = elim m [ inl e ↦ cc | inr n ↦ absurd n ]
register_letter false false true m = elim m [ inl e ↦ cc | inr n ↦ absurd n ]
register_letter false false false m = absurd m

abbrev letter_spot : AltIface → Option ℤ → Kind → Spot
letter_spot alt known Register = cond alt.pair Spot.Pair (Spot.Register (first_register alt.regs))
letter_spot alt known Memory = Spot.Memory (record { disp = pos 0; base = None; index = None })
letter_spot alt known Number = Spot.Number (unwrap_or known (lower_end alt.numbers))

register_fits : (o : OperandIface) (alt : AltIface) → alt.regs.0 < 128 → IsMember Register (letter_kinds alt) → LettersFit o alt Register (letter_spot alt o.known Register)
register_fits o alt small member = by alt.pair refl
  where
    some : (b : Bool) → alt.pair ≡ false → (alt.regs.0 == 0) ≡ b → (alt.pair || not b) ≡ true → alt.regs.0 ≡ 0 → ⊥
    some true none e h empty = let no : false ≡ true = rw none at h in cc
    some false none e h empty = let no : true ≡ false = sym (eq-eqb alt.regs.0 0 empty) ∙ e in cc

    by : (pair : Bool) → alt.pair ≡ pair → LettersFit o alt Register (cond pair Spot.Pair (Spot.Register (first_register alt.regs)))
    by true e = rw e refl
    by false e = first_in alt.regs small (some (alt.regs.0 == 0) e refl (register_letter (alt.pair || not (alt.regs.0 == 0)) alt.mem _ member))

module _ (i : Interface) (s : Shape) (is : IsSound i s) (shape : IsShape i s) (interface : IsInterface i) where
  abbrev spot_with : Option OperandIface → Option AltIface → Option Kind → Spot
  spot_with (Some o) (Some alt) (Some kind) = letter_spot alt o.known kind
  spot_with o alt kind = Spot.Number (pos 0)

  abbrev alternative_in : Option OperandIface → Option AltIface
  alternative_in None = None
  alternative_in (Some o) = slice_get o.alts s.alternative

  abbrev spot_at : ℕ → Spot
  spot_at m = spot_with (slice_get i.operands m) (alternative_in (slice_get i.operands m)) (slice_get s.kinds m)

  abbrev lettered : Placement
  lettered = record { spots = map (λ k. spot_at (tie_root i s k)) (range_with_len 0 30); count = length i.operands }

  lettered_at : (k : ℕ) → k < 30 → spot_of lettered k ≡ spot_at (tie_root i s k)
  lettered_at k below = get_or-map-range_with_len (λ k. spot_at (tie_root i s k)) 0 30 k k (Spot.Number (pos 0)) below (omega arith)

  lettered_ties : (k : ℕ) → spot_of lettered k ≡ spot_of lettered (tie_root i s k)
  lettered_ties k = by (slice_get i.operands k) refl
    where
      by : (o : Option OperandIface) → slice_get i.operands k ≡ o → spot_of lettered k ≡ spot_of lettered (tie_root i s k)
      by None e = ap (spot_of lettered) (sym (outside_root i s k e))
      by (Some o) e =
          let r = root_of i s k o is e in
          lettered_at k (has_inside i s k o is e) ∙ ap spot_at (sym r.root) ∙ sym (lettered_at (tie_root i s k) r.inside)

  member : (k : ℕ) (o : OperandIface) (alt : AltIface) (kind : Kind) → HasOperand i s k o alt kind → alt.tied ≡ None → IsMember kind (letter_kinds alt)
  member k o alt kind has untied =
      let at = shape.each k o has.is_operand in
      let same : at.allowed ≡ alt = (let both : Some at.allowed ≡ Some alt = sym at.is_allowed ∙ has.is_alternative in cc) in
      let one : at.kind.kind ≡ kind = (let both : Some at.kind.kind ≡ Some kind = sym at.kind.here ∙ has.is_kind in cc) in
      subst (λ x. IsMember x (letter_kinds alt)) one (subst (λ (a : AltIface). IsMember at.kind.kind (letter_kinds a)) same (at.kind.untied (ap (λ (a : AltIface). a.tied) same ∙ untied)))

  fits_there : (k : ℕ) (o : OperandIface) (alt : AltIface) (kind : Kind) → HasOperand i s k o alt kind → alt.tied ≡ None → LettersFit o alt kind (letter_spot alt o.known kind)
  fits_there k o alt Register has untied =
      register_fits o alt (interface.registers k s.alternative o alt (record { is_operand = has.is_operand; is_alternative = has.is_alternative })) (member k o alt Register has untied)
  fits_there k o alt Memory has untied = record { low = omega (arith, ints); high = omega (arith, ints); scale = λ x e. cc }
  fits_there k o alt Number has untied = let n = is.numbers k o alt has untied in number_fits o alt n.range n.is_range n.number o.known refl

  lettered_fits : (k : ℕ) (o : OperandIface) (alt : AltIface) (kind : Kind) → HasOperand i s k o alt kind → alt.tied ≡ None → LettersFit o alt kind (spot_of lettered k)
  lettered_fits k o alt kind has untied =
      let own = untied_root i s k o alt has.is_operand has.is_alternative untied in
      let there : spot_at k ≡ letter_spot alt o.known kind = rw (has.is_operand, has.is_alternative, has.is_kind) refl in
      subst (LettersFit o alt kind) (sym (lettered_at k (has_inside i s k o is has.is_operand) ∙ ap spot_at own ∙ there)) (fits_there k o alt kind has untied)

  is_lettered : IsLettered i s lettered
  is_lettered = record { count = refl; fits = lettered_fits; ties = lettered_ties }

-- a shape of an interface has a placement by letters
pub lettered_there : (i : Interface) (s : Shape) → IsInterface i → IsMember s (shapes_of i) → (p : Placement) × IsLettered i s p
lettered_there i s interface m = let is = sound i s interface m in let shape = is_shape i s interface m in (lettered i s is shape interface, is_lettered i s is shape interface)
