-- What choices, registers and masks of registers say of one another.
use Rattle.std.proofs.Common.{◌≡◌, inl, inr, ℕ, ◌<◌, ◌==◌, ◌&&◌, ◌||◌, not, Bool, true, false, bit_and, refl, sym, ap, ◌∙◌}
use Rattle.std.proofs.lemmas.Bool.{or_parts, or_from, and_parts, and_from, eqb-true, eq-eqb, both_ways}
use Rattle.register_search.specs.Assignment.{registers_of}
use Rattle.register_search.proofs.Sets.{each_choice}
use Rattle.asm_core.specs.Lists.{IsMember}
use Rattle.asm_core.specs.Placement.{value_registers}
use Rattle.asm_core.specs.Roomy.{order_of}
use Rattle.asm_core.specs.declared.reg.Reg.{Reg}
use Rattle.asm_core.specs.declared.reg.Reg.TheVariants.{Eax, Ebx, Ecx, Edx, Esi, Edi, Ebp}
use Rattle.asm_places.specs.Operand.{takes}
use Rattle.asm_places.specs.Placing.{choice_spot}

some_register : (Reg → Bool) → Bool
some_register test = test Eax || (test Ebx || (test Ecx || (test Edx || (test Esi || (test Edi || test Ebp)))))

no_register : (test : Reg → Bool) → some_register test ≡ false → (r : Reg) → test r ≡ false
unfolding some_register
no_register test h Eax = (or_parts (test Eax) (test Ebx || (test Ecx || (test Edx || (test Esi || (test Edi || test Ebp))))) h).0
no_register test h Ebx = (or_parts (test Ebx) (test Ecx || (test Edx || (test Esi || (test Edi || test Ebp)))) (or_parts (test Eax) (test Ebx || (test Ecx || (test Edx || (test Esi || (test Edi || test Ebp))))) h).1).0
no_register test h Ecx = (or_parts (test Ecx) (test Edx || (test Esi || (test Edi || test Ebp))) (or_parts (test Ebx) (test Ecx || (test Edx || (test Esi || (test Edi || test Ebp)))) (or_parts (test Eax) (test Ebx || (test Ecx || (test Edx || (test Esi || (test Edi || test Ebp))))) h).1).1).0
no_register test h Edx = (or_parts (test Edx) (test Esi || (test Edi || test Ebp)) (or_parts (test Ecx) (test Edx || (test Esi || (test Edi || test Ebp))) (or_parts (test Ebx) (test Ecx || (test Edx || (test Esi || (test Edi || test Ebp)))) (or_parts (test Eax) (test Ebx || (test Ecx || (test Edx || (test Esi || (test Edi || test Ebp))))) h).1).1).1).0
no_register test h Esi = (or_parts (test Esi) (test Edi || test Ebp) (or_parts (test Edx) (test Esi || (test Edi || test Ebp)) (or_parts (test Ecx) (test Edx || (test Esi || (test Edi || test Ebp))) (or_parts (test Ebx) (test Ecx || (test Edx || (test Esi || (test Edi || test Ebp)))) (or_parts (test Eax) (test Ebx || (test Ecx || (test Edx || (test Esi || (test Edi || test Ebp))))) h).1).1).1).1).0
no_register test h Edi = (or_parts (test Edi) (test Ebp) (or_parts (test Esi) (test Edi || test Ebp) (or_parts (test Edx) (test Esi || (test Edi || test Ebp)) (or_parts (test Ecx) (test Edx || (test Esi || (test Edi || test Ebp))) (or_parts (test Ebx) (test Ecx || (test Edx || (test Esi || (test Edi || test Ebp)))) (or_parts (test Eax) (test Ebx || (test Ecx || (test Edx || (test Esi || (test Edi || test Ebp))))) h).1).1).1).1).1).0
no_register test h Ebp = (or_parts (test Edi) (test Ebp) (or_parts (test Esi) (test Edi || test Ebp) (or_parts (test Edx) (test Esi || (test Edi || test Ebp)) (or_parts (test Ecx) (test Edx || (test Esi || (test Edi || test Ebp))) (or_parts (test Ebx) (test Ecx || (test Edx || (test Esi || (test Edi || test Ebp)))) (or_parts (test Eax) (test Ebx || (test Ecx || (test Edx || (test Esi || (test Edi || test Ebp))))) h).1).1).1).1).1).1

each_register : (test : Reg → Bool) → ((r : Reg) → test r ≡ false) → some_register test ≡ false
unfolding some_register
each_register test h = or_from _ _ (h Eax) (or_from _ _ (h Ebx) (or_from _ _ (h Ecx) (or_from _ _ (h Edx) (or_from _ _ (h Esi) (or_from _ _ (h Edi) (h Ebp))))))

abbrev have_common : ℕ → ℕ → Bool
have_common j l = some_register (λ r. takes j r && takes l r)

abbrev IsTold : ℕ → ℕ → Type 0
IsTold j l = (bit_and (registers_of j) (registers_of l) == 0) ≡ not (have_common j l)

told : (j : ℕ) → j < 8 → (l : ℕ) → l < 8 → IsTold j l
unfolding some_register
told j below = each_choice (λ j. (l : ℕ) → l < 8 → IsTold j l)
    (each_choice (IsTold 0) refl refl refl refl refl refl refl refl) (each_choice (IsTold 1) refl refl refl refl refl refl refl refl)
    (each_choice (IsTold 2) refl refl refl refl refl refl refl refl) (each_choice (IsTold 3) refl refl refl refl refl refl refl refl)
    (each_choice (IsTold 4) refl refl refl refl refl refl refl refl) (each_choice (IsTold 5) refl refl refl refl refl refl refl refl)
    (each_choice (IsTold 6) refl refl refl refl refl refl refl refl) (each_choice (IsTold 7) refl refl refl refl refl refl refl refl) j below

not_both : (a b : Bool) → a ≡ true → b ≡ true → (a && b) ≡ false → ⊥
not_both a b e f h = both_ways (a && b) h (and_from a b e f)

-- choices without a common bit have no common register
pub no_common : (j l : ℕ) → j < 8 → l < 8 → bit_and (registers_of j) (registers_of l) ≡ 0 → (r : Reg) → takes j r ≡ true → takes l r ≡ true → ⊥
no_common j l below_j below_l apart r in_j in_l =
    let none : have_common j l ≡ false = not_true (have_common j l) (sym (told j below_j l below_l) ∙ eq-eqb _ _ apart) in
    not_both (takes j r) (takes l r) in_j in_l (no_register (λ r. takes j r && takes l r) none r)
  where
    not_true : (b : Bool) → not b ≡ true → b ≡ false
    not_true true h = cc
    not_true false h = refl

false_unless : (b : Bool) → (b ≡ true → ⊥) → b ≡ false
false_unless true h = absurd (h refl)
false_unless false h = refl

-- and the other way round
pub no_common_bit : (j l : ℕ) → j < 8 → l < 8 → ((r : Reg) → takes j r ≡ true → takes l r ≡ true → ⊥) → bit_and (registers_of j) (registers_of l) ≡ 0
no_common_bit j l below_j below_l none =
    let no : have_common j l ≡ false = each_register (λ r. takes j r && takes l r)
    (λ r. false_unless (takes j r && takes l r) (λ both. let p = and_parts (takes j r) (takes l r) both in none r p.0 p.1)) in
    eqb-true _ _ (told j below_j l below_l ∙ ap not no)

-- ---- choices and spots

abbrev pub Agree : ℕ → Reg → Type 0
Agree j r = (IsMember r (value_registers (choice_spot j)) → takes j r ≡ true) × (takes j r ≡ true → IsMember r (value_registers (choice_spot j)))

agree_Eax : (j : ℕ) → j < 8 → Agree j Eax
agree_Eax = each_choice (λ j. Agree j Eax)
    (λ m. refl, λ t. inl refl)
    (λ m. elim m [ inl e ↦ cc | inr n ↦ absurd n ], λ t. cc)
    (λ m. elim m [ inl e ↦ cc | inr n ↦ absurd n ], λ t. cc)
    (λ m. elim m [ inl e ↦ cc | inr n ↦ absurd n ], λ t. cc)
    (λ m. elim m [ inl e ↦ cc | inr n ↦ absurd n ], λ t. cc)
    (λ m. elim m [ inl e ↦ cc | inr n ↦ absurd n ], λ t. cc)
    (λ m. elim m [ inl e ↦ cc | inr n ↦ absurd n ], λ t. cc)
    (λ m. refl, λ t. inl refl)

agree_Ebx : (j : ℕ) → j < 8 → Agree j Ebx
agree_Ebx = each_choice (λ j. Agree j Ebx)
    (λ m. elim m [ inl e ↦ cc | inr n ↦ absurd n ], λ t. cc)
    (λ m. refl, λ t. inl refl)
    (λ m. elim m [ inl e ↦ cc | inr n ↦ absurd n ], λ t. cc)
    (λ m. elim m [ inl e ↦ cc | inr n ↦ absurd n ], λ t. cc)
    (λ m. elim m [ inl e ↦ cc | inr n ↦ absurd n ], λ t. cc)
    (λ m. elim m [ inl e ↦ cc | inr n ↦ absurd n ], λ t. cc)
    (λ m. elim m [ inl e ↦ cc | inr n ↦ absurd n ], λ t. cc)
    (λ m. elim m [ inl e ↦ cc | inr n ↦ elim n [ inl e ↦ cc | inr o ↦ absurd o ] ], λ t. cc)

agree_Ecx : (j : ℕ) → j < 8 → Agree j Ecx
agree_Ecx = each_choice (λ j. Agree j Ecx)
    (λ m. elim m [ inl e ↦ cc | inr n ↦ absurd n ], λ t. cc)
    (λ m. elim m [ inl e ↦ cc | inr n ↦ absurd n ], λ t. cc)
    (λ m. refl, λ t. inl refl)
    (λ m. elim m [ inl e ↦ cc | inr n ↦ absurd n ], λ t. cc)
    (λ m. elim m [ inl e ↦ cc | inr n ↦ absurd n ], λ t. cc)
    (λ m. elim m [ inl e ↦ cc | inr n ↦ absurd n ], λ t. cc)
    (λ m. elim m [ inl e ↦ cc | inr n ↦ absurd n ], λ t. cc)
    (λ m. elim m [ inl e ↦ cc | inr n ↦ elim n [ inl e ↦ cc | inr o ↦ absurd o ] ], λ t. cc)

agree_Edx : (j : ℕ) → j < 8 → Agree j Edx
agree_Edx = each_choice (λ j. Agree j Edx)
    (λ m. elim m [ inl e ↦ cc | inr n ↦ absurd n ], λ t. cc)
    (λ m. elim m [ inl e ↦ cc | inr n ↦ absurd n ], λ t. cc)
    (λ m. elim m [ inl e ↦ cc | inr n ↦ absurd n ], λ t. cc)
    (λ m. refl, λ t. inl refl)
    (λ m. elim m [ inl e ↦ cc | inr n ↦ absurd n ], λ t. cc)
    (λ m. elim m [ inl e ↦ cc | inr n ↦ absurd n ], λ t. cc)
    (λ m. elim m [ inl e ↦ cc | inr n ↦ absurd n ], λ t. cc)
    (λ m. refl, λ t. inr (inl refl))

agree_Esi : (j : ℕ) → j < 8 → Agree j Esi
agree_Esi = each_choice (λ j. Agree j Esi)
    (λ m. elim m [ inl e ↦ cc | inr n ↦ absurd n ], λ t. cc)
    (λ m. elim m [ inl e ↦ cc | inr n ↦ absurd n ], λ t. cc)
    (λ m. elim m [ inl e ↦ cc | inr n ↦ absurd n ], λ t. cc)
    (λ m. elim m [ inl e ↦ cc | inr n ↦ absurd n ], λ t. cc)
    (λ m. refl, λ t. inl refl)
    (λ m. elim m [ inl e ↦ cc | inr n ↦ absurd n ], λ t. cc)
    (λ m. elim m [ inl e ↦ cc | inr n ↦ absurd n ], λ t. cc)
    (λ m. elim m [ inl e ↦ cc | inr n ↦ elim n [ inl e ↦ cc | inr o ↦ absurd o ] ], λ t. cc)

agree_Edi : (j : ℕ) → j < 8 → Agree j Edi
agree_Edi = each_choice (λ j. Agree j Edi)
    (λ m. elim m [ inl e ↦ cc | inr n ↦ absurd n ], λ t. cc)
    (λ m. elim m [ inl e ↦ cc | inr n ↦ absurd n ], λ t. cc)
    (λ m. elim m [ inl e ↦ cc | inr n ↦ absurd n ], λ t. cc)
    (λ m. elim m [ inl e ↦ cc | inr n ↦ absurd n ], λ t. cc)
    (λ m. elim m [ inl e ↦ cc | inr n ↦ absurd n ], λ t. cc)
    (λ m. refl, λ t. inl refl)
    (λ m. elim m [ inl e ↦ cc | inr n ↦ absurd n ], λ t. cc)
    (λ m. elim m [ inl e ↦ cc | inr n ↦ elim n [ inl e ↦ cc | inr o ↦ absurd o ] ], λ t. cc)

agree_Ebp : (j : ℕ) → j < 8 → Agree j Ebp
agree_Ebp = each_choice (λ j. Agree j Ebp)
    (λ m. elim m [ inl e ↦ cc | inr n ↦ absurd n ], λ t. cc)
    (λ m. elim m [ inl e ↦ cc | inr n ↦ absurd n ], λ t. cc)
    (λ m. elim m [ inl e ↦ cc | inr n ↦ absurd n ], λ t. cc)
    (λ m. elim m [ inl e ↦ cc | inr n ↦ absurd n ], λ t. cc)
    (λ m. elim m [ inl e ↦ cc | inr n ↦ absurd n ], λ t. cc)
    (λ m. elim m [ inl e ↦ cc | inr n ↦ absurd n ], λ t. cc)
    (λ m. refl, λ t. inl refl)
    (λ m. elim m [ inl e ↦ cc | inr n ↦ elim n [ inl e ↦ cc | inr o ↦ absurd o ] ], λ t. cc)

pub spot_registers : (j : ℕ) → j < 8 → (r : Reg) → Agree j r
spot_registers j below Eax = agree_Eax j below
spot_registers j below Ebx = agree_Ebx j below
spot_registers j below Ecx = agree_Ecx j below
spot_registers j below Edx = agree_Edx j below
spot_registers j below Esi = agree_Esi j below
spot_registers j below Edi = agree_Edi j below
spot_registers j below Ebp = agree_Ebp j below

abbrev IsOrder : ℕ → Type 0
IsOrder j = order_of (choice_spot j) ≡ j

pub choice_order : (j : ℕ) → j < 8 → order_of (choice_spot j) ≡ j
choice_order j below = each_choice IsOrder refl refl refl refl refl refl refl refl j below
