-- A row of the table that pushes a word or sets the direction flag writes nothing else.
use Rattle.std.proofs.Common.{◌≡◌, ℕ, zero, suc, ◌&&◌, ◌||◌, not, List, [], ◌∷◌, Bool, true, false, refl}
use Rattle.std.specs.List.{list_all}
use Rattle.std.proofs.lemmas.Bool.{and_parts}
use Rattle.asm_core.specs.Table.{row_of}
use Rattle.asm_core.specs.declared.cond.Cond.{Cond}
use Rattle.asm_core.specs.declared.flag.Flag.{Flag}
use Rattle.asm_core.specs.declared.inst.Op.{Op}
use Rattle.asm_core.specs.declared.inst.Width.{Width}
use Rattle.asm_core.specs.declared.micro_op.Site.{Site}
use Rattle.asm_core.specs.declared.micro_op.Target.{Target}
use Rattle.asm_core.specs.declared.micro_op.MicroOp.{MicroOp}

abbrev pub is_pushed : Target → Bool
is_pushed Target.Push = true
is_pushed target = false

abbrev pub is_direction : Target → Bool
is_direction (Target.Site (Site.Flag Flag.Df)) = true
is_direction target = false

-- no word is pushed
abbrev pub no_push : List MicroOp → Bool
no_push = list_all (λ (op : MicroOp). not (is_pushed op.target))

-- the direction flag isn't written
abbrev pub no_direction : List MicroOp → Bool
no_direction = list_all (λ (op : MicroOp). not (is_direction op.target))

-- no word is pushed, or that is all that is written
abbrev pub pushes_alone : List MicroOp → Bool
pushes_alone (op ∷ []) = true
pushes_alone row = no_push row

-- the operations that set the direction flag
abbrev pub sets_direction : Op → Bool
sets_direction Op.Cld = true
sets_direction Op.Std = true
sets_direction op = false

abbrev is_quiet : Op → List MicroOp → Bool
is_quiet op row = (sets_direction op || no_direction row) && pushes_alone row

in_row : (op : Op) (w : Width) (n : ℕ) → is_quiet op (row_of op w n) ≡ true
in_row Op.Mov w n = refl
in_row Op.Movzbw w n = refl
in_row Op.Movzbl w n = refl
in_row Op.Movzwl w n = refl
in_row Op.Movsbw w n = refl
in_row Op.Movsbl w n = refl
in_row Op.Movswl w n = refl
in_row Op.Lea w n = refl
in_row Op.Xchg w n = refl
in_row Op.Push w n = refl
in_row Op.Pop w n = refl
in_row Op.Bswap w n = refl
in_row Op.Cltd w n = refl
in_row Op.Cwtl w n = refl
in_row Op.Nop w n = refl
in_row Op.Jmp w n = refl
in_row Op.Jecxz w n = refl
in_row Op.Loop w n = refl
in_row Op.Add w n = refl
in_row Op.Sub w n = refl
in_row Op.Adc w n = refl
in_row Op.Sbb w n = refl
in_row Op.Cmp w n = refl
in_row Op.And w n = refl
in_row Op.Or w n = refl
in_row Op.Xor w n = refl
in_row Op.Test w n = refl
in_row Op.Neg w n = refl
in_row Op.Not w n = refl
in_row Op.Inc w n = refl
in_row Op.Dec w n = refl
in_row Op.Clc w n = refl
in_row Op.Stc w n = refl
in_row Op.Cmc w n = refl
in_row Op.Shld w n = refl
in_row Op.Shrd w n = refl
in_row Op.Bsf w n = refl
in_row Op.Bsr w n = refl
in_row Op.Bt w n = refl
in_row Op.Bts w n = refl
in_row Op.Btr w n = refl
in_row Op.Btc w n = refl
in_row Op.Movs w n = refl
in_row Op.Stos w n = refl
in_row Op.Lods w n = refl
in_row Op.Cmps w n = refl
in_row Op.Scas w n = refl
in_row Op.Cld w n = refl
in_row Op.Std w n = refl
in_row Op.Xadd w n = refl
in_row Op.Cmpxchg w n = refl
in_row Op.Cmpxchg8b w n = refl
in_row Op.Cpuid w n = refl
in_row Op.Rdtsc w n = refl
in_row (Op.Cmov Cond.O) w n = refl
in_row (Op.Cmov Cond.No) w n = refl
in_row (Op.Cmov Cond.B) w n = refl
in_row (Op.Cmov Cond.Ae) w n = refl
in_row (Op.Cmov Cond.E) w n = refl
in_row (Op.Cmov Cond.Ne) w n = refl
in_row (Op.Cmov Cond.Be) w n = refl
in_row (Op.Cmov Cond.A) w n = refl
in_row (Op.Cmov Cond.S) w n = refl
in_row (Op.Cmov Cond.Ns) w n = refl
in_row (Op.Cmov Cond.P) w n = refl
in_row (Op.Cmov Cond.Np) w n = refl
in_row (Op.Cmov Cond.L) w n = refl
in_row (Op.Cmov Cond.Ge) w n = refl
in_row (Op.Cmov Cond.Le) w n = refl
in_row (Op.Cmov Cond.G) w n = refl
in_row (Op.Set Cond.O) w n = refl
in_row (Op.Set Cond.No) w n = refl
in_row (Op.Set Cond.B) w n = refl
in_row (Op.Set Cond.Ae) w n = refl
in_row (Op.Set Cond.E) w n = refl
in_row (Op.Set Cond.Ne) w n = refl
in_row (Op.Set Cond.Be) w n = refl
in_row (Op.Set Cond.A) w n = refl
in_row (Op.Set Cond.S) w n = refl
in_row (Op.Set Cond.Ns) w n = refl
in_row (Op.Set Cond.P) w n = refl
in_row (Op.Set Cond.Np) w n = refl
in_row (Op.Set Cond.L) w n = refl
in_row (Op.Set Cond.Ge) w n = refl
in_row (Op.Set Cond.Le) w n = refl
in_row (Op.Set Cond.G) w n = refl
in_row (Op.J Cond.O) w n = refl
in_row (Op.J Cond.No) w n = refl
in_row (Op.J Cond.B) w n = refl
in_row (Op.J Cond.Ae) w n = refl
in_row (Op.J Cond.E) w n = refl
in_row (Op.J Cond.Ne) w n = refl
in_row (Op.J Cond.Be) w n = refl
in_row (Op.J Cond.A) w n = refl
in_row (Op.J Cond.S) w n = refl
in_row (Op.J Cond.Ns) w n = refl
in_row (Op.J Cond.P) w n = refl
in_row (Op.J Cond.Np) w n = refl
in_row (Op.J Cond.L) w n = refl
in_row (Op.J Cond.Ge) w n = refl
in_row (Op.J Cond.Le) w n = refl
in_row (Op.J Cond.G) w n = refl
in_row Op.Mul Width.B n = refl
in_row Op.Mul w n = refl
in_row Op.Div Width.B n = refl
in_row Op.Div w n = refl
in_row Op.Idiv Width.B n = refl
in_row Op.Idiv w n = refl
in_row Op.Imul Width.B zero = refl
in_row Op.Imul Width.B (suc zero) = refl
in_row Op.Imul Width.B (suc (suc zero)) = refl
in_row Op.Imul Width.B (suc (suc (suc n))) = refl
in_row Op.Imul w zero = refl
in_row Op.Imul w (suc zero) = refl
in_row Op.Imul w (suc (suc zero)) = refl
in_row Op.Imul w (suc (suc (suc n))) = refl
in_row Op.Shl w zero = refl
in_row Op.Shl w (suc zero) = refl
in_row Op.Shl w (suc (suc n)) = refl
in_row Op.Shr w zero = refl
in_row Op.Shr w (suc zero) = refl
in_row Op.Shr w (suc (suc n)) = refl
in_row Op.Sar w zero = refl
in_row Op.Sar w (suc zero) = refl
in_row Op.Sar w (suc (suc n)) = refl
in_row Op.Rol w zero = refl
in_row Op.Rol w (suc zero) = refl
in_row Op.Rol w (suc (suc n)) = refl
in_row Op.Ror w zero = refl
in_row Op.Ror w (suc zero) = refl
in_row Op.Ror w (suc (suc n)) = refl

-- only those operations write the direction flag
pub row_direction : (op : Op) (w : Width) (n : ℕ) → sets_direction op ≡ false → no_direction (row_of op w n) ≡ true
row_direction op w n is = by (sets_direction op) is (and_parts (sets_direction op || no_direction (row_of op w n))
    (pushes_alone (row_of op w n)) (in_row op w n)).0
  where
    by : (b : Bool) → b ≡ false → (b || no_direction (row_of op w n)) ≡ true → no_direction (row_of op w n) ≡ true
    by false e h = h
    by true e h = cc

pub row_pushes : (op : Op) (w : Width) (n : ℕ) → pushes_alone (row_of op w n) ≡ true
row_pushes op w n = (and_parts (sets_direction op || no_direction (row_of op w n)) (pushes_alone (row_of op w n))
    (in_row op w n)).1
