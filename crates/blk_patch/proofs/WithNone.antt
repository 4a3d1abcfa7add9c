-- Without items a statement tells the compiler what it tells as it stands.
use Rattle.std.proofs.Common.{◌≡◌, ℕ, ◌+◌, ◌&&◌, ◌||◌, max, List, [], ◌∷◌, map, Bool, true, false, bit_or, refl, ap, ◌∙◌, arith}
use Rattle.std.specs.Int.{bit_at}
use Rattle.std.proofs.lemmas.Nat.Bits.{bit_at_or, bit_at-zero, same_from_bits}
use Rattle.asm_core.specs.Placement.{is_output}
use Rattle.asm_core.specs.declared.reg.RegSet.{RegSet}
use Rattle.asm_core.specs.declared.interface.Role.{Role}
use Rattle.asm_core.specs.declared.interface.AltIface.{AltIface}
use Rattle.asm_core.specs.declared.interface.OperandIface.{OperandIface}
use Rattle.asm_core.specs.declared.interface.Interface.{Interface}
use Rattle.blk_patch.specs.Items.{has, role_with, alternative_with, operand_with, operands_with, clobbers_with, with_items}

-- ---- operands

early_same : (early output : Bool) → (early || (output && false)) ≡ early
early_same true output = refl
early_same false true = refl
early_same false false = refl

role_same : (k : ℕ) (role : Role) → role_with [] k role ≡ role
unfolding has
role_same k Role.Out = refl
role_same k Role.InOut = refl
role_same k Role.In = refl

abbrev marked : AltIface → Bool → AltIface
marked alt early = record {
  early = early;
  tied = alt.tied;
  regs = alt.regs;
  pair = alt.pair;
  mem = alt.mem;
  numbers = alt.numbers;
}

alternative_same : (k : ℕ) (output : Bool) (alt : AltIface) → alternative_with [] k output alt ≡ alt
unfolding has
alternative_same k output alt = ap (marked alt) (early_same alt.early output)

alternatives_same : (k : ℕ) (output : Bool) (alts : List AltIface) → map (alternative_with [] k output) alts ≡ alts
alternatives_same k output [] = refl
alternatives_same k output (alt ∷ alts) =
    ap (λ (x : AltIface). x ∷ map (alternative_with [] k output) alts) (alternative_same k output alt)
    ∙ ap (λ xs. alt ∷ xs) (alternatives_same k output alts)

abbrev made : OperandIface → Role → List AltIface → OperandIface
made o role alts = record {
  role = role;
  size = o.size;
  pointer = o.pointer;
  known = o.known;
  flag = o.flag;
  alts = alts;
}

operand_same : (k : ℕ) (o : OperandIface) → operand_with [] k o ≡ o
operand_same k o =
    ap (λ role. made o role (map (alternative_with [] k (is_output o.role)) o.alts)) (role_same k o.role)
    ∙ ap (made o o.role) (alternatives_same k (is_output o.role) o.alts)

operands_same : (k : ℕ) (os : List OperandIface) → operands_with [] k os ≡ os
unfolding operands_with
operands_same k [] = refl
operands_same k (o ∷ os) =
    ap (λ (x : OperandIface). x ∷ operands_with [] (k + 1) os) (operand_same k o)
    ∙ ap (λ xs. o ∷ xs) (operands_same (k + 1) os)

-- ---- clobbers

more_than_none : (n : ℕ) → max n 0 ≡ n
more_than_none n = omega arith

or_none : (n : ℕ) → bit_or n 0 ≡ n
or_none n = same_from_bits (bit_or n 0) n
    (λ k. bit_at_or n 0 k ∙ ap (max (bit_at n k)) (bit_at-zero k) ∙ more_than_none (bit_at n k))

seven_none : (n : ℕ)
    → bit_or (bit_or (bit_or (bit_or (bit_or (bit_or (bit_or n 0) 0) 0) 0) 0) 0) 0 ≡ n
seven_none n = rw (or_none n, or_none n, or_none n, or_none n, or_none n, or_none n, or_none n) refl

clobbers_same : (regs : RegSet) → clobbers_with [] regs ≡ regs
unfolding has
clobbers_same regs = ap (λ n. record { 0 = n }) (seven_none regs.0)

-- ---- the whole

or_false : (b : Bool) → (b || false) ≡ b
or_false true = refl
or_false false = refl

abbrev whole : List OperandIface → RegSet → Bool → Bool → Interface
whole operands clobbers cc memory = record {
  operands = operands;
  clobbers = clobbers;
  cc = cc;
  memory = memory;
}

pub with_none : (i : Interface) → with_items [] i ≡ i
unfolding with_items has
with_none i =
    ap (λ os. whole os (clobbers_with [] i.clobbers) (i.cc || false) (i.memory || false)) (operands_same 0 i.operands)
    ∙ ap (λ c. whole i.operands c (i.cc || false) (i.memory || false)) (clobbers_same i.clobbers)
    ∙ ap (λ b. whole i.operands i.clobbers b (i.memory || false)) (or_false i.cc)
    ∙ ap (λ b. whole i.operands i.clobbers i.cc b) (or_false i.memory)
