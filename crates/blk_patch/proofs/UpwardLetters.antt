-- Letters that lose the three registers without byte names say the same of places and names, where they allow none of
-- these three or all seven registers.
use Rattle.std.proofs.Common.{◌≡◌, ◌⊎◌, inl, inr, ℕ, List, ◌%◌, ◌<◌, ◌==◌, ◌&&◌, ◌||◌, not, bit_and, Bool, true, false, Option, None, Some, refl, arith, if◌then◌else◌}
use Rattle.std.proofs.lemmas.Bool.{cases_Bool}
use Rattle.std.proofs.lemmas.Nat.{and_mask}
use Rattle.asm_core.specs.Reading.Facts.{only_register, fixed_register, allows_byte_names}
use Rattle.asm_core.specs.Company.{is_pair_alone}
use Rattle.asm_core.specs.declared.reg.Reg.{Reg}
use Rattle.asm_core.specs.declared.interface.AltIface.{AltIface}
use Rattle.blk_patch.specs.Items.{has, alternative_with}
use Rattle.blk_patch.specs.declared.item.Item.{Item}

-- none of the three, or all seven
abbrev pub HasAllOrNone : ℕ → Type 0
HasAllOrNone n = (n < 16) ⊎ (n ≡ 127)

masked : (n : ℕ) → n < 16 → bit_and n 15 ≡ n
masked n low = let rest = and_mask n 4 in omega (arith, rest, low)

abbrev fixed_in : Bool → ℕ → Option Reg
fixed_in pair n = if pair then (if n == 0 then Some Reg.Eax else None) else only_register (record { 0 = n })

fixed_left : (n : ℕ) (pair : Bool) → HasAllOrNone n → fixed_in pair (bit_and n 15) ≡ fixed_in pair n
fixed_left n pair (inl low) = rw (masked n low) refl
fixed_left n pair (inr all) = rw all (by pair)
  where
    by : (pair : Bool) → fixed_in pair 15 ≡ fixed_in pair 127
    by true = refl
    by false = refl

alone_left : (n : ℕ) (pair : Bool) → HasAllOrNone n → (pair && (bit_and n 15 == 0)) ≡ (pair && (n == 0))
alone_left n pair (inl low) = rw (masked n low) refl
alone_left n pair (inr all) = rw all refl

names_left : (n : ℕ) (pair : Bool) → HasAllOrNone n
    → (pair || not (bit_and n 15 % 16 == 0)) ≡ (pair || not (n % 16 == 0))
names_left n pair (inl low) = rw (masked n low) refl
names_left n pair (inr all) = rw all refl

pub record AreLettersLeft (alt left : AltIface) : Type 0 where
  pub fixed : fixed_register left ≡ fixed_register alt
  pub alone : is_pair_alone left ≡ is_pair_alone alt
  pub names : allows_byte_names left ≡ allows_byte_names alt

module _ (items : List Item) (k : ℕ) (output : Bool) (alt : AltIface) where
  pub letters_left : (has items (Item.Byte k) ≡ true → HasAllOrNone alt.regs.0)
      → AreLettersLeft alt (alternative_with items k output alt)
  letters_left leaves = elim (cases_Bool (has items (Item.Byte k))) [
    | inl byte ↦ record {
      fixed = rw byte (fixed_left alt.regs.0 alt.pair (leaves byte));
      alone = rw byte (alone_left alt.regs.0 alt.pair (leaves byte));
      names = rw byte (names_left alt.regs.0 alt.pair (leaves byte));
    }
    | inr other ↦ record { fixed = rw other refl; alone = rw other refl; names = rw other refl }
  ]
