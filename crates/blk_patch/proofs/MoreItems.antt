-- What differs between what a statement tells the compiler with some items and with more of them: operand by operand
-- it allows less, has early marks and is read where it was, and more is clobbered.
use Rattle.std.proofs.Common.{◌≡◌, ℕ, zero, suc, ◌+◌, ◌^◌, ◌==◌, ◌&&◌, ◌||◌, not, List, [], ◌∷◌, length, map, fold, Bool, true, false, IsTrue, Option, None, Some, bit_and, bit_or, slice_get, refl, sym, ap, subst, ◌∙◌, if◌then◌else◌}
use Rattle.std.proofs.lemmas.Bool.{eqb-true}
use Rattle.asm_core.specs.Reg.{IsIn, reg_number}
use Rattle.asm_core.specs.Placement.{is_input, is_output}
use Rattle.asm_core.specs.declared.reg.Reg.{Reg}
use Rattle.asm_core.specs.declared.reg.RegSet.{RegSet}
use Rattle.asm_core.specs.declared.interface.Role.{Role}
use Rattle.asm_core.specs.declared.interface.AltIface.{AltIface}
use Rattle.asm_core.specs.declared.interface.OperandIface.{OperandIface}
use Rattle.asm_core.specs.declared.interface.Interface.{Interface}
use Rattle.blk_patch.specs.Items.{has, role_with, alternative_with, operand_with, operands_with, clobber_bit, clobbers_with, registers, with_items}
use Rattle.blk_patch.specs.Least.{AreWithin}
use Rattle.blk_patch.specs.declared.item.Item.{Item}
use Rattle.blk_patch.proofs.BitParts.{IsPart, in_first, or_part, if_part}
use Rattle.blk_patch.proofs.ItemSets.{none_within}
use Rattle.blk_patch.proofs.WithLaws.{output_with}
use Rattle.blk_patch.proofs.WithNone.{with_none}

-- ---- the relation

-- the letters allow a register
abbrev pub has_letters : AltIface → Bool
has_letters alt = alt.pair || not (alt.regs.0 == 0)

-- the second alternative is the first with more items
pub record IsMoreAlternative (old new : AltIface) : Type 0 where
  pub early : IsTrue old.early → IsTrue new.early
  pub tied : new.tied ≡ old.tied
  pub registers : (r : Reg) → IsIn new.regs r → IsIn old.regs r
  pub letters : IsTrue (has_letters new) → IsTrue (has_letters old)
  pub pair : new.pair ≡ old.pair
  pub mem : new.mem ≡ old.mem
  pub numbers : new.numbers ≡ old.numbers

module _ {A : Type 0} (R : A → A → Type 0) where
  -- one by one
  abbrev pub AreMore : List A → List A → Type 0
  AreMore [] [] = Unit {0}
  AreMore [] (y ∷ ys) = ⊥
  AreMore (x ∷ xs) [] = ⊥
  AreMore (x ∷ xs) (y ∷ ys) = R x y × AreMore xs ys

  abbrev pub AreBoth : Option A → Option A → Type 0
  AreBoth None None = Unit {0}
  AreBoth None (Some y) = ⊥
  AreBoth (Some x) None = ⊥
  AreBoth (Some x) (Some y) = R x y

  pub more_at : (xs ys : List A) → AreMore xs ys → (k : ℕ) → AreBoth (slice_get xs k) (slice_get ys k)
  more_at [] [] are k = tt
  more_at [] (y ∷ ys) are k = absurd are
  more_at (x ∷ xs) [] are k = absurd are
  more_at (x ∷ xs) (y ∷ ys) are zero = are.0
  more_at (x ∷ xs) (y ∷ ys) are (suc k) = more_at xs ys are.1 k

  pub more_long : (xs ys : List A) → AreMore xs ys → length ys ≡ length xs
  more_long [] [] are = refl
  more_long [] (y ∷ ys) are = absurd are
  more_long (x ∷ xs) [] are = absurd are
  more_long (x ∷ xs) (y ∷ ys) are = ap suc (more_long xs ys are.1)

  pub both_there : (a b : Option A) → AreBoth a b → (x : A) → a ≡ Some x → (y : A) × (b ≡ Some y) × R x y
  both_there None b are x e = cc
  both_there (Some z) None are x e = absurd are
  both_there (Some z) (Some y) are x e = (y, refl, subst (λ w. R w y) (some_is z x e) are)
    where
      some_is : (p q : A) → Some p ≡ Some q → p ≡ q
      some_is p q e = cc

-- the second operand is the first with more items
pub record IsMoreOperand (old new : OperandIface) : Type 0 where
  pub output : is_output new.role ≡ is_output old.role
  pub input : IsTrue (is_input old.role) → IsTrue (is_input new.role)
  pub size : new.size ≡ old.size
  pub pointer : new.pointer ≡ old.pointer
  pub known : new.known ≡ old.known
  pub flag : new.flag ≡ old.flag
  pub alternatives : AreMore IsMoreAlternative old.alts new.alts

-- the second interface is the first with more items
pub record IsMore (old new : Interface) : Type 0 where
  pub operands : AreMore IsMoreOperand old.operands new.operands
  pub clobbers : (r : Reg) → IsIn old.clobbers r → IsIn new.clobbers r
  pub cc : IsTrue old.cc → IsTrue new.cc
  pub memory : IsTrue old.memory → IsTrue new.memory

-- ---- with more items

input_up : (a b : Bool) → (a ≡ true → b ≡ true) → is_input (if a then Role.InOut else Role.Out) ≡ true
    → is_input (if b then Role.InOut else Role.Out) ≡ true
input_up true true up h = refl
input_up true false up h = let wrong : false ≡ true = up refl in cc
input_up false b up h = cc

early_up : (early output a b : Bool) → (a ≡ true → b ≡ true) → (early || (output && a)) ≡ true
    → (early || (output && b)) ≡ true
early_up true output a b up h = refl
early_up false true a b up h = up h
early_up false false a b up h = cc

fewer_registers : (a b : Bool) (regs : RegSet) (r : Reg) → (a ≡ true → b ≡ true)
    → IsIn (if b then record { 0 = bit_and regs.0 15 } else regs) r
    → IsIn (if a then record { 0 = bit_and regs.0 15 } else regs) r
fewer_registers true true regs r up h = h
fewer_registers true false regs r up h = let wrong : false ≡ true = up refl in cc
fewer_registers false true regs r up h = in_first regs.0 15 (reg_number r) h
fewer_registers false false regs r up h = h

nothing_left : (pair : Bool) (n : ℕ) → (pair || not (bit_and n 15 == 0)) ≡ true → (pair || not (n == 0)) ≡ true
nothing_left true n h = refl
nothing_left false n h = by (n == 0) refl
  where
    by : (b : Bool) → (n == 0) ≡ b → not (n == 0) ≡ true
    by false z = rw z refl
    by true z =
        let none : n ≡ 0 = eqb-true n 0 z in
        let wrong : not (bit_and 0 15 == 0) ≡ true = rw none at h in
        cc

fewer_letters : (a b pair : Bool) (regs : RegSet) → (a ≡ true → b ≡ true)
    → (pair || not ((if b then record { 0 = bit_and regs.0 15 } else regs).0 == 0)) ≡ true
    → (pair || not ((if a then record { 0 = bit_and regs.0 15 } else regs).0 == 0)) ≡ true
fewer_letters true true pair regs up h = h
fewer_letters true false pair regs up h = let wrong : false ≡ true = up refl in cc
fewer_letters false true pair regs up h = nothing_left pair regs.0 h
fewer_letters false false pair regs up h = h

module _ (some items : List Item) (within : AreWithin some items) where
  pub input_more : (k : ℕ) (role : Role) → is_input (role_with some k role) ≡ true
      → is_input (role_with items k role) ≡ true
  input_more k Role.Out h = input_up (has some (Item.Plus k)) (has items (Item.Plus k)) (within (Item.Plus k)) h
  input_more k Role.InOut h = refl
  input_more k Role.In h = refl

  alternative_more : (k : ℕ) (output : Bool) (alt : AltIface)
      → IsMoreAlternative (alternative_with some k output alt) (alternative_with items k output alt)
  alternative_more k output alt = record {
    early = early_up alt.early output (has some (Item.Early k)) (has items (Item.Early k)) (within (Item.Early k));
    tied = refl;
    registers = λ r h.
        fewer_registers (has some (Item.Byte k)) (has items (Item.Byte k)) alt.regs r (within (Item.Byte k)) h;
    letters =
        fewer_letters (has some (Item.Byte k)) (has items (Item.Byte k)) alt.pair alt.regs (within (Item.Byte k));
    pair = refl;
    mem = refl;
    numbers = refl;
  }

  alternatives_more : (k : ℕ) (output : Bool) (alts : List AltIface)
      → AreMore IsMoreAlternative (map (alternative_with some k output) alts)
      (map (alternative_with items k output) alts)
  alternatives_more k output [] = tt
  alternatives_more k output (alt ∷ alts) = (alternative_more k output alt, alternatives_more k output alts)

  operand_more : (k : ℕ) (o : OperandIface) → IsMoreOperand (operand_with some k o) (operand_with items k o)
  operand_more k o = record {
    output = output_with items k o.role ∙ sym (output_with some k o.role);
    input = input_more k o.role;
    size = refl;
    pointer = refl;
    known = refl;
    flag = refl;
    alternatives = alternatives_more k (is_output o.role) o.alts;
  }

  operands_more : (k : ℕ) (os : List OperandIface)
      → AreMore IsMoreOperand (operands_with some k os) (operands_with items k os)
  unfolding operands_with
  operands_more k [] = tt
  operands_more k (o ∷ os) = (operand_more k o, operands_more (k + 1) os)

  pub bits_more : (rs : List Reg) (a b : ℕ) → IsPart a b
      → IsPart (fold (λ bits r. bit_or bits (clobber_bit some r)) a rs)
      (fold (λ bits r. bit_or bits (clobber_bit items r)) b rs)
  bits_more [] a b part = part
  bits_more (r ∷ rs) a b part =
      bits_more rs (bit_or a (clobber_bit some r)) (bit_or b (clobber_bit items r))
      (or_part a (clobber_bit some r) b (clobber_bit items r) part
      (if_part (has some (Item.Clobber r)) (has items (Item.Clobber r)) (2 ^ reg_number r) (within (Item.Clobber r))))

  clobbers_more : (regs : RegSet) (r : Reg) → IsIn (clobbers_with some regs) r → IsIn (clobbers_with items regs) r
  clobbers_more regs r = bits_more registers regs.0 regs.0 (λ k e. e) (reg_number r)

  either_more : (b : Bool) (x : Item) → (b || has some x) ≡ true → (b || has items x) ≡ true
  either_more true x h = refl
  either_more false x h = within x h

  pub with_more : (i : Interface) → IsMore (with_items some i) (with_items items i)
  unfolding with_items
  with_more i = record {
    operands = operands_more 0 i.operands;
    clobbers = clobbers_more i.clobbers;
    cc = either_more i.cc Item.Cc;
    memory = either_more i.memory Item.Memory;
  }

-- a statement with items has more of them than as it stands
pub with_some : (items : List Item) (i : Interface) → IsMore i (with_items items i)
with_some items i =
    subst (λ w. IsMore w (with_items items i)) (with_none i) (with_more [] items (none_within items) i)
