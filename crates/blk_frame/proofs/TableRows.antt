-- No row of the table copies into a flag.
use Rattle.std.proofs.Common.{◌≡◌, ℕ, zero, suc, ◌+◌, ◌&&◌, List, [], ◌∷◌, ◌++◌, length, map, Bool, true, false, if◌then◌else◌, None, Some, slice_get, refl, sym, ap, ◌∙◌}
use Rattle.std.specs.List.{list_all}
use Rattle.std.proofs.lemmas.Bool.{and_parts, and_from}
use Rattle.asm_core.specs.Table.{row_of, is_shift, self_row}
use Rattle.asm_core.specs.Table.Bits.{no_shift_row}
use Rattle.asm_core.specs.Rows.{is_zero_count, same_register, line_row, entry_row}
use Rattle.asm_core.specs.RowTerms.{op1, op2, op3, reg, to_reg, as_temporary, guarded_op, guarded, turn_of, repeated}
use Rattle.asm_core.specs.declared.cond.Cond.{Cond}
use Rattle.asm_core.specs.declared.reg.Reg.{Reg}
use Rattle.asm_core.specs.declared.micro_op.Bytes.{Bytes}
use Rattle.asm_core.specs.declared.inst.Op.{Op}
use Rattle.asm_core.specs.declared.inst.Width.{Width}
use Rattle.asm_core.specs.declared.inst.Repeat.{Repeat}
use Rattle.asm_core.specs.declared.sym.Sym.{Sym}
use Rattle.asm_core.specs.declared.micro_op.Function.{Function}
use Rattle.asm_core.specs.declared.micro_op.Site.{Site}
use Rattle.asm_core.specs.declared.micro_op.Input.{Input}
use Rattle.asm_core.specs.declared.micro_op.Target.{Target}
use Rattle.asm_core.specs.declared.micro_op.MicroOp.{MicroOp}
use Rattle.blk_frame.specs.Lines.{CopiesNoFlag}

abbrev is_plain_op : Function → Target → Bool
is_plain_op Function.Copy (Target.Site (Site.Flag f)) = false
is_plain_op f target = true

abbrev are_plain : List MicroOp → Bool
are_plain = list_all (λ (op : MicroOp). is_plain_op op.function op.target)

plain_from : (f : Function) (target : Target) → is_plain_op f target ≡ true → CopiesNoFlag f target
plain_from Function.Copy (Target.Site (Site.Flag f)) is = cc
plain_from f target is = tt

plain_append : (xs ys : List MicroOp) → are_plain xs ≡ true → are_plain ys ≡ true → are_plain (xs ++ ys) ≡ true
plain_append [] ys first second = second
plain_append (op ∷ ops) ys first second = let parts = and_parts _ _ first in and_from _ _ parts.0
    (plain_append ops ys parts.1 second)

temporary : (f : Function) → is_plain_op f Target.Temporary ≡ true
temporary Function.Copy = refl
temporary f = refl

temporaries : (row : List MicroOp) → are_plain (map as_temporary row) ≡ true
temporaries [] = refl
temporaries (op ∷ ops) = and_from _ _ (temporary op.function) (temporaries ops)

guard : (n k : ℕ) (target : Target) (rest : List MicroOp) → are_plain rest ≡ true
    → are_plain (guarded_op n k target rest) ≡ true
guard n k (Target.Site site) rest is = is
guard n k target rest is = is

guards : (n k : ℕ) (row : List MicroOp) → are_plain (guarded n k row) ≡ true
guards n k [] = refl
guards n k (op ∷ ops) = guard n k op.target (guarded n (k + 1) ops) (guards n (k + 1) ops)

alone : (op : MicroOp) → is_plain_op op.function op.target ≡ true → are_plain (op ∷ []) ≡ true
alone op is = and_from _ _ is refl

around : (t g : List MicroOp) (a b c d : MicroOp) → are_plain t ≡ true → are_plain g ≡ true
    → is_plain_op a.function a.target ≡ true → is_plain_op b.function b.target ≡ true
    → is_plain_op c.function c.target ≡ true → is_plain_op d.function d.target ≡ true
    → are_plain (t ++ a ∷ [] ++ b ∷ [] ++ g ++ c ∷ [] ++ d ∷ []) ≡ true
around t g a b c d in_t in_g of_a of_b of_c of_d =
    plain_append (t ++ a ∷ [] ++ b ∷ [] ++ g ++ c ∷ []) (d ∷ [])
    (plain_append (t ++ a ∷ [] ++ b ∷ [] ++ g) (c ∷ [])
    (plain_append (t ++ a ∷ [] ++ b ∷ []) g
    (plain_append (t ++ a ∷ []) (b ∷ []) (plain_append t (a ∷ []) in_t (alone a of_a)) (alone b of_b)) in_g)
    (alone c of_c))
    (alone d of_d)

in_turn : (compared : Input) (stay : MicroOp) (row : List MicroOp) → is_plain_op stay.function stay.target ≡ true
    → are_plain (turn_of compared stay row) ≡ true
in_turn compared stay row last =
    around (map as_temporary row) (guarded (length row) 0 row)
    (op2 Target.Turn Function.Value (reg Reg.Ecx Bytes.All) compared)
    (op1 Target.Temporary Function.CountDown (reg Reg.Ecx Bytes.All))
    (op3 (to_reg Reg.Ecx Bytes.All) Function.Pick (Input.Earlier (length row)) (Input.Earlier (length row + 1))
    (Input.Kept (Site.Register Reg.Ecx Bytes.All))) stay
    (temporaries row) (guards (length row) 0 row) refl refl refl last

in_repeated : (r : Repeat) (row : List MicroOp) → are_plain row ≡ true → are_plain (repeated r row) ≡ true
in_repeated Repeat.No row is = is
in_repeated Repeat.Rep row is = in_turn _ _ row refl
in_repeated Repeat.Repe row is = in_turn _ _ row refl
in_repeated Repeat.Repne row is = in_turn _ _ row refl

in_no_shift : (n : ℕ) → are_plain (no_shift_row n) ≡ true
in_no_shift zero = refl
in_no_shift (suc zero) = refl
in_no_shift (suc (suc zero)) = refl
in_no_shift (suc (suc (suc n))) = refl

in_row : (op : Op) (w : Width) (n : ℕ) → are_plain (row_of op w n) ≡ true
in_row Op.Mov w n = refl
in_row Op.Movzbw w n = refl
in_row Op.Movzbl w n = refl
in_row Op.Movzwl w n = refl
in_row Op.Movsbw w n = refl
in_row Op.Movsbl w n = refl
in_row Op.Movswl w n = refl
in_row Op.Lea w n = refl
in_row Op.Xchg w n = refl
in_row Op.Push w n = refl
in_row Op.Pop w n = refl
in_row Op.Bswap w n = refl
in_row Op.Cltd w n = refl
in_row Op.Cwtl w n = refl
in_row Op.Nop w n = refl
in_row Op.Jmp w n = refl
in_row Op.Jecxz w n = refl
in_row Op.Loop w n = refl
in_row Op.Add w n = refl
in_row Op.Sub w n = refl
in_row Op.Adc w n = refl
in_row Op.Sbb w n = refl
in_row Op.Cmp w n = refl
in_row Op.And w n = refl
in_row Op.Or w n = refl
in_row Op.Xor w n = refl
in_row Op.Test w n = refl
in_row Op.Neg w n = refl
in_row Op.Not w n = refl
in_row Op.Inc w n = refl
in_row Op.Dec w n = refl
in_row Op.Clc w n = refl
in_row Op.Stc w n = refl
in_row Op.Cmc w n = refl
in_row Op.Shld w n = refl
in_row Op.Shrd w n = refl
in_row Op.Bsf w n = refl
in_row Op.Bsr w n = refl
in_row Op.Bt w n = refl
in_row Op.Bts w n = refl
in_row Op.Btr w n = refl
in_row Op.Btc w n = refl
in_row Op.Movs w n = refl
in_row Op.Stos w n = refl
in_row Op.Lods w n = refl
in_row Op.Cmps w n = refl
in_row Op.Scas w n = refl
in_row Op.Cld w n = refl
in_row Op.Std w n = refl
in_row Op.Xadd w n = refl
in_row Op.Cmpxchg w n = refl
in_row Op.Cmpxchg8b w n = refl
in_row Op.Cpuid w n = refl
in_row Op.Rdtsc w n = refl
in_row (Op.Cmov Cond.O) w n = refl
in_row (Op.Cmov Cond.No) w n = refl
in_row (Op.Cmov Cond.B) w n = refl
in_row (Op.Cmov Cond.Ae) w n = refl
in_row (Op.Cmov Cond.E) w n = refl
in_row (Op.Cmov Cond.Ne) w n = refl
in_row (Op.Cmov Cond.Be) w n = refl
in_row (Op.Cmov Cond.A) w n = refl
in_row (Op.Cmov Cond.S) w n = refl
in_row (Op.Cmov Cond.Ns) w n = refl
in_row (Op.Cmov Cond.P) w n = refl
in_row (Op.Cmov Cond.Np) w n = refl
in_row (Op.Cmov Cond.L) w n = refl
in_row (Op.Cmov Cond.Ge) w n = refl
in_row (Op.Cmov Cond.Le) w n = refl
in_row (Op.Cmov Cond.G) w n = refl
in_row (Op.Set Cond.O) w n = refl
in_row (Op.Set Cond.No) w n = refl
in_row (Op.Set Cond.B) w n = refl
in_row (Op.Set Cond.Ae) w n = refl
in_row (Op.Set Cond.E) w n = refl
in_row (Op.Set Cond.Ne) w n = refl
in_row (Op.Set Cond.Be) w n = refl
in_row (Op.Set Cond.A) w n = refl
in_row (Op.Set Cond.S) w n = refl
in_row (Op.Set Cond.Ns) w n = refl
in_row (Op.Set Cond.P) w n = refl
in_row (Op.Set Cond.Np) w n = refl
in_row (Op.Set Cond.L) w n = refl
in_row (Op.Set Cond.Ge) w n = refl
in_row (Op.Set Cond.Le) w n = refl
in_row (Op.Set Cond.G) w n = refl
in_row (Op.J Cond.O) w n = refl
in_row (Op.J Cond.No) w n = refl
in_row (Op.J Cond.B) w n = refl
in_row (Op.J Cond.Ae) w n = refl
in_row (Op.J Cond.E) w n = refl
in_row (Op.J Cond.Ne) w n = refl
in_row (Op.J Cond.Be) w n = refl
in_row (Op.J Cond.A) w n = refl
in_row (Op.J Cond.S) w n = refl
in_row (Op.J Cond.Ns) w n = refl
in_row (Op.J Cond.P) w n = refl
in_row (Op.J Cond.Np) w n = refl
in_row (Op.J Cond.L) w n = refl
in_row (Op.J Cond.Ge) w n = refl
in_row (Op.J Cond.Le) w n = refl
in_row (Op.J Cond.G) w n = refl
in_row Op.Mul Width.B n = refl
in_row Op.Mul w n = refl
in_row Op.Div Width.B n = refl
in_row Op.Div w n = refl
in_row Op.Idiv Width.B n = refl
in_row Op.Idiv w n = refl
in_row Op.Imul Width.B zero = refl
in_row Op.Imul Width.B (suc zero) = refl
in_row Op.Imul Width.B (suc (suc zero)) = refl
in_row Op.Imul Width.B (suc (suc (suc n))) = refl
in_row Op.Imul w zero = refl
in_row Op.Imul w (suc zero) = refl
in_row Op.Imul w (suc (suc zero)) = refl
in_row Op.Imul w (suc (suc (suc n))) = refl
in_row Op.Shl w zero = refl
in_row Op.Shl w (suc zero) = refl
in_row Op.Shl w (suc (suc n)) = refl
in_row Op.Shr w zero = refl
in_row Op.Shr w (suc zero) = refl
in_row Op.Shr w (suc (suc n)) = refl
in_row Op.Sar w zero = refl
in_row Op.Sar w (suc zero) = refl
in_row Op.Sar w (suc (suc n)) = refl
in_row Op.Rol w zero = refl
in_row Op.Rol w (suc zero) = refl
in_row Op.Rol w (suc (suc n)) = refl
in_row Op.Ror w zero = refl
in_row Op.Ror w (suc zero) = refl
in_row Op.Ror w (suc (suc n)) = refl

in_self : (op : Op) (row : List MicroOp) → are_plain row ≡ true → are_plain (self_row op row) ≡ true
in_self Op.Xor row is = refl
in_self Op.Sub row is = refl
in_self Op.Sbb row is = refl
in_self op row is = is

in_entry : (line : Sym) (shift self : Bool)
    → are_plain (if shift then no_shift_row (length line.args) else if self then self_row line.op
    (line_row line) else line_row line) ≡ true
in_entry line true self = in_no_shift (length line.args)
in_entry line false true = in_self line.op (line_row line)
    (in_repeated line.repeat _ (in_row line.op line.width (length line.args)))
in_entry line false false = in_repeated line.repeat _ (in_row line.op line.width (length line.args))

plain_at : (row : List MicroOp) → are_plain row ≡ true → (k : ℕ) (op : MicroOp) → slice_get row k ≡ Some op
    → CopiesNoFlag op.function op.target
plain_at [] is k op at = cc
plain_at (first ∷ ops) is zero op at = plain_from op.function op.target
    (ap (λ o. elim o [ None ↦ true | Some h ↦ is_plain_op h.function h.target ]) (sym at) ∙ (and_parts _ _ is).0)
plain_at (first ∷ ops) is (suc k) op at = plain_at ops (and_parts _ _ is).1 k op at

pub entry_plain : (line : Sym) (k : ℕ) (op : MicroOp) → slice_get (entry_row line) k ≡ Some op
    → CopiesNoFlag op.function op.target
entry_plain line = plain_at (entry_row line)
    (in_entry line (is_shift line.op && is_zero_count (slice_get line.args 0))
    (same_register (slice_get line.args 0) (slice_get line.args 1)))
