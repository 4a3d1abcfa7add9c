-- What a line writes to memory lies within the stores that it is said to make, unless it writes memory in parts.
use Rattle.std.proofs.Common.{◌≡◌, ◌⊎◌, inl, inr, ℕ, zero, suc, ◌+◌, ◌*◌, ◌/◌, ◌<◌, ◌≤◌, ◌==◌, ◌&&◌, ◌||◌, nat_lt, min, List, [], ◌∷◌, ◌++◌, length, map, Bool, true, false, if◌then◌else◌, Option, None, Some, is_none, slice_get, refl, sym, ap, subst, ◌∙◌, arith}
use Rattle.std.specs.List.{list_all, filter_map, cons_option}
use Rattle.std.proofs.lemmas.Bool.{both_ways, and_parts, and_from, or_cases, ltb-true, eq-eqb, eqb-true}
use Rattle.asm_core.specs.Lists.{IsMember}
use Rattle.asm_core.specs.Reg.{reg_number}
use Rattle.asm_core.specs.Flag.{flag_number}
use Rattle.asm_core.specs.Function.{bits_of}
use Rattle.asm_core.specs.MicroOps.{first_of, count_of, sized}
use Rattle.asm_core.specs.Entries.{origins, slice_number, slice_with, origin_rank, site_origin, line_arg, pointed_arg, by_of, write_to, write_of, count_at, site_count, or_else, target_store, row_access, memory_arg, memory_in, access_at, accesses_of}
use Rattle.asm_core.specs.Table.{row_of, is_shift, self_row}
use Rattle.asm_core.specs.Table.Bits.{no_shift_row}
use Rattle.asm_core.specs.Table.Moves.{condition}
use Rattle.asm_core.specs.Rows.{is_zero_count, same_register, line_row, entry_row}
use Rattle.asm_core.specs.RowTerms.{op1, op2, op3, arg, to_arg, reg, to_reg, as_temporary, guarded_op, guarded, turn_of, repeated}
use Rattle.asm_core.specs.declared.cond.Cond.{Cond}
use Rattle.asm_core.specs.declared.reg.Reg.{Reg}
use Rattle.asm_core.specs.declared.inst.Op.{Op}
use Rattle.asm_core.specs.declared.inst.Width.{Width}
use Rattle.asm_core.specs.declared.inst.Repeat.{Repeat}
use Rattle.asm_core.specs.declared.sym.Arg.{Arg}
use Rattle.asm_core.specs.declared.sym.Sym.{Sym}
use Rattle.asm_core.specs.declared.row.Access.{Access}
use Rattle.asm_core.specs.declared.row.Write.{Write}
use Rattle.asm_core.specs.declared.micro_op.Bytes.{Bytes}
use Rattle.asm_core.specs.declared.micro_op.Function.{Function}
use Rattle.asm_core.specs.declared.micro_op.Origin.{Origin}
use Rattle.asm_core.specs.declared.micro_op.Site.{Site}
use Rattle.asm_core.specs.declared.micro_op.Input.{Input}
use Rattle.asm_core.specs.declared.micro_op.Target.{Target}
use Rattle.asm_core.specs.declared.micro_op.MicroOp.{MicroOp}
use Rattle.blk_frame.specs.Stores.{IsStored, IsWithin, IsStoredWhole, StoresWhole, parted, PartsNoMemory}
use Rattle.blk_frame.proofs.Basics.{same_some}
use Rattle.blk_frame.proofs.Members.{in_back}

-- ---- rows that write no memory in parts

abbrev is_whole : Bytes → Bool
is_whole Bytes.Whole = true
is_whole bytes = false

abbrev is_whole_site : Sym → Site → Bool
is_whole_site s (Site.Argument k bytes) = nat_lt k 3 && (is_whole bytes || is_none (memory_arg (line_arg s k)))
is_whole_site s site = true

abbrev is_whole_target : Sym → Target → Bool
is_whole_target s (Target.Site site) = is_whole_site s site
is_whole_target s target = true

abbrev are_whole : Sym → List MicroOp → Bool
are_whole s = list_all (λ (op : MicroOp). is_whole_target s op.target)

module _ (s : Sym) where
  whole_append : (xs ys : List MicroOp) → are_whole s xs ≡ true → are_whole s ys ≡ true → are_whole s (xs ++ ys) ≡ true
  whole_append [] ys first second = second
  whole_append (op ∷ ops) ys first second = let parts = and_parts _ _ first in and_from _ _ parts.0
      (whole_append ops ys parts.1 second)

  temporaries : (row : List MicroOp) → are_whole s (map as_temporary row) ≡ true
  temporaries [] = refl
  temporaries (op ∷ ops) = temporaries ops

  guard : (n k : ℕ) (target : Target) (rest : List MicroOp) → is_whole_target s target ≡ true
      → are_whole s rest ≡ true → are_whole s (guarded_op n k target rest) ≡ true
  guard n k (Target.Site site) rest here is = and_from _ _ here is
  guard n k target rest here is = is

  guards : (n k : ℕ) (row : List MicroOp) → are_whole s row ≡ true → are_whole s (guarded n k row) ≡ true
  guards n k [] is = refl
  guards n k (op ∷ ops) is = let parts = and_parts _ _ is in guard n k op.target (guarded n (k + 1) ops) parts.0
      (guards n (k + 1) ops parts.1)

  alone : (op : MicroOp) → is_whole_target s op.target ≡ true → are_whole s (op ∷ []) ≡ true
  alone op is = and_from _ _ is refl

  around : (t g : List MicroOp) (a b c d : MicroOp) → are_whole s t ≡ true → are_whole s g ≡ true
      → is_whole_target s a.target ≡ true → is_whole_target s b.target ≡ true
      → is_whole_target s c.target ≡ true → is_whole_target s d.target ≡ true
      → are_whole s (t ++ a ∷ [] ++ b ∷ [] ++ g ++ c ∷ [] ++ d ∷ []) ≡ true
  around t g a b c d in_t in_g of_a of_b of_c of_d =
      whole_append (t ++ a ∷ [] ++ b ∷ [] ++ g ++ c ∷ []) (d ∷ [])
      (whole_append (t ++ a ∷ [] ++ b ∷ [] ++ g) (c ∷ [])
      (whole_append (t ++ a ∷ [] ++ b ∷ []) g
      (whole_append (t ++ a ∷ []) (b ∷ []) (whole_append t (a ∷ []) in_t (alone a of_a)) (alone b of_b)) in_g)
      (alone c of_c))
      (alone d of_d)

  in_turn : (compared : Input) (stay : MicroOp) (row : List MicroOp) → is_whole_target s stay.target ≡ true
      → are_whole s row ≡ true → are_whole s (turn_of compared stay row) ≡ true
  in_turn compared stay row last is =
      around (map as_temporary row) (guarded (length row) 0 row)
      (op2 Target.Turn Function.Value (reg Reg.Ecx Bytes.All) compared)
      (op1 Target.Temporary Function.CountDown (reg Reg.Ecx Bytes.All))
      (op3 (to_reg Reg.Ecx Bytes.All) Function.Pick (Input.Earlier (length row)) (Input.Earlier (length row + 1))
      (Input.Kept (Site.Register Reg.Ecx Bytes.All))) stay
      (temporaries row) (guards (length row) 0 row is) refl refl refl last

  in_repeated : (r : Repeat) (row : List MicroOp) → are_whole s row ≡ true → are_whole s (repeated r row) ≡ true
  in_repeated Repeat.No row is = is
  in_repeated Repeat.Rep row is = in_turn _ _ row refl is
  in_repeated Repeat.Repe row is = in_turn _ _ row refl is
  in_repeated Repeat.Repne row is = in_turn _ _ row refl is

  in_no_shift : (n : ℕ) → are_whole s (no_shift_row n) ≡ true
  in_no_shift zero = refl
  in_no_shift (suc zero) = refl
  in_no_shift (suc (suc zero)) = refl
  in_no_shift (suc (suc (suc n))) = refl

  after_condition : (c : Cond) (op : MicroOp) → is_whole_target s op.target ≡ true
      → are_whole s (condition c ++ op ∷ []) ≡ true
  after_condition Cond.O op is = alone op is
  after_condition c op is = alone op is

  in_row : (op : Op) (w : Width) (n : ℕ) → ((k : ℕ) → parted op ≡ Some k → memory_arg (line_arg s k) ≡ None)
      → are_whole s (row_of op w n) ≡ true
  in_row Op.Movzbw w n none = let gone = none 1 refl in rw gone refl
  in_row Op.Movzbl w n none = let gone = none 1 refl in rw gone refl
  in_row Op.Movzwl w n none = let gone = none 1 refl in rw gone refl
  in_row Op.Movsbw w n none = let gone = none 1 refl in rw gone refl
  in_row Op.Movsbl w n none = let gone = none 1 refl in rw gone refl
  in_row Op.Movswl w n none = let gone = none 1 refl in rw gone refl
  in_row Op.Bswap w n none = let gone = none 0 refl in rw gone refl
  in_row (Op.Cmov c) w n none = after_condition c
      (op3 (to_arg 1) Function.Pick (Input.Earlier 2) (arg 0) (arg 1)) refl
  in_row (Op.Set c) w n none = after_condition c (op1 (to_arg 0) Function.Value (Input.Earlier 2)) refl
  in_row (Op.J c) w n none = after_condition c (op1 Target.Jump Function.Value (Input.Earlier 2)) refl
  in_row Op.Mul Width.B n none = refl
  in_row Op.Mul w n none = refl
  in_row Op.Div Width.B n none = refl
  in_row Op.Div w n none = refl
  in_row Op.Idiv Width.B n none = refl
  in_row Op.Idiv w n none = refl
  in_row Op.Imul Width.B zero none = refl
  in_row Op.Imul Width.B (suc zero) none = refl
  in_row Op.Imul Width.B (suc (suc zero)) none = refl
  in_row Op.Imul Width.B (suc (suc (suc n))) none = refl
  in_row Op.Imul w zero none = refl
  in_row Op.Imul w (suc zero) none = refl
  in_row Op.Imul w (suc (suc zero)) none = refl
  in_row Op.Imul w (suc (suc (suc n))) none = refl
  in_row Op.Shl w zero none = refl
  in_row Op.Shl w (suc zero) none = refl
  in_row Op.Shl w (suc (suc n)) none = refl
  in_row Op.Shr w zero none = refl
  in_row Op.Shr w (suc zero) none = refl
  in_row Op.Shr w (suc (suc n)) none = refl
  in_row Op.Sar w zero none = refl
  in_row Op.Sar w (suc zero) none = refl
  in_row Op.Sar w (suc (suc n)) none = refl
  in_row Op.Rol w zero none = refl
  in_row Op.Rol w (suc zero) none = refl
  in_row Op.Rol w (suc (suc n)) none = refl
  in_row Op.Ror w zero none = refl
  in_row Op.Ror w (suc zero) none = refl
  in_row Op.Ror w (suc (suc n)) none = refl
  in_row op w n none = refl

  in_self : (op : Op) (row : List MicroOp) → are_whole s row ≡ true → are_whole s (self_row op row) ≡ true
  in_self Op.Xor row is = refl
  in_self Op.Sub row is = refl
  in_self Op.Sbb row is = refl
  in_self op row is = is

  in_line : PartsNoMemory s → are_whole s (line_row s) ≡ true
  in_line none = in_repeated s.repeat _ (in_row s.op s.width (length s.args) none.each)

  in_entry : PartsNoMemory s → (shift self : Bool)
      → are_whole s (if shift then no_shift_row (length s.args) else if self then self_row s.op
      (line_row s) else line_row s) ≡ true
  in_entry none true self = in_no_shift (length s.args)
  in_entry none false true = in_self s.op (line_row s) (in_line none)
  in_entry none false false = in_line none

-- ---- how many bytes of an origin a row stores

min_small : (k : ℕ) → min k 2 ≤ 2
min_small zero = omega arith
min_small (suc zero) = omega arith
min_small (suc (suc zero)) = omega arith
min_small (suc (suc (suc k))) = omega arith

same_min : (j k : ℕ) → j < 3 → k < 3 → min j 2 ≡ min k 2 → j ≡ k
same_min j k low_j low_k same = sym (own j low_j) ∙ same ∙ own k low_k
  where
    own : (n : ℕ) → n < 3 → min n 2 ≡ n
    own zero low = refl
    own (suc zero) low = refl
    own (suc (suc zero)) low = refl
    own (suc (suc (suc n))) low = absurd (omega (arith, low))

counted_at : (w : Width) (o : Origin) (site : Site) (n : ℕ) → count_at w o site ≡ Some n
    → (origin_rank (site_origin w site) ≡ origin_rank o) × (site_count w site ≡ n)
counted_at w o site n is = by (origin_rank (site_origin w site) == origin_rank o) refl is
  where
    by : (b : Bool) → (origin_rank (site_origin w site) == origin_rank o) ≡ b
        → (if b then Some (site_count w site) else None) ≡ Some n
        → (origin_rank (site_origin w site) ≡ origin_rank o) × (site_count w site ≡ n)
    by true e is = (eqb-true _ _ e, same_some _ _ is)
    by false e is = cc

module _ (s : Sym) (w : Width) where
  -- each store of a row to memory that is operand k is of all its bytes
  argument_count : (k : ℕ) (to : Arg) → k < 3 → memory_arg (line_arg s k) ≡ Some to → (target : Target) (n : ℕ)
      → is_whole_target s target ≡ true → target_store w (Origin.Argument k) target ≡ Some n
      → n ≡ count_of w Bytes.Whole
  argument_count k to low there (Target.Site (Site.Argument j bytes)) n whole is =
      sym counted.1 ∙ ap (count_of w) (all bytes (or_cases _ _ parts.1))
    where
      counted : (origin_rank (Origin.Argument j) ≡ origin_rank (Origin.Argument k)) × (count_of w bytes ≡ n)
      counted = counted_at w (Origin.Argument k) (Site.Argument j bytes) n is

      parts : (nat_lt j 3 ≡ true) × ((is_whole bytes || is_none (memory_arg (line_arg s j))) ≡ true)
      parts = and_parts _ _ whole

      same : j ≡ k
      same = same_min j k (ltb-true j 3 parts.0) low (let twice = counted.0 in omega (arith, twice))

      all : (b : Bytes) → (is_whole b ≡ true) ⊎ (is_none (memory_arg (line_arg s j)) ≡ true) → b ≡ Bytes.Whole
      all Bytes.Whole h = refl
      all b (inl h) = cc
      all b (inr h) = absurd (both_ways true
          (sym h ∙ ap (λ m. is_none (memory_arg (line_arg s m))) same ∙ ap is_none there) refl)
  argument_count k to low there (Target.Site (Site.Register r bytes)) n whole is =
      let counted = counted_at w (Origin.Argument k) (Site.Register r bytes) n is in
      let ranks : 13 + 4 * reg_number r + slice_number (slice_with (sized w bytes)) ≡ 2 * min k 2 = counted.0 in
      let small = min_small k in absurd (omega (arith, ranks, small))
  argument_count k to low there (Target.Site (Site.Pointed r)) n whole is =
      let counted = counted_at w (Origin.Argument k) (Site.Pointed r) n is in
      let ranks : 6 + reg_number r ≡ 2 * min k 2 = counted.0 in
      let small = min_small k in absurd (omega (arith, ranks, small))
  argument_count k to low there (Target.Site (Site.Flag f)) n whole is =
      let counted = counted_at w (Origin.Argument k) (Site.Flag f) n is in
      let ranks : 41 + flag_number f ≡ 2 * min k 2 = counted.0 in
      let small = min_small k in absurd (omega (arith, ranks, small))
  argument_count k to low there (Target.Touch j) n whole is =
      sym (counted_at w (Origin.Argument k) (Site.Argument j Bytes.Whole) n is).1
  argument_count k to low there target n whole is = cc

  -- and each to memory at the address in a register is of as many as the width says
  pointed_count : (r : Reg) (target : Target) (n : ℕ) → is_whole_target s target ≡ true
      → target_store w (Origin.Pointed r) target ≡ Some n → n ≡ bits_of w / 8
  pointed_count r (Target.Site (Site.Argument j bytes)) n whole is =
      let counted = counted_at w (Origin.Pointed r) (Site.Argument j bytes) n is in
      let ranks : 2 * min j 2 ≡ 6 + reg_number r = counted.0 in
      let small = min_small j in absurd (omega (arith, ranks, small))
  pointed_count r (Target.Site (Site.Register q bytes)) n whole is =
      sym (counted_at w (Origin.Pointed r) (Site.Register q bytes) n is).1
  pointed_count r (Target.Site (Site.Pointed q)) n whole is =
      sym (counted_at w (Origin.Pointed r) (Site.Pointed q) n is).1
  pointed_count r (Target.Site (Site.Flag f)) n whole is =
      sym (counted_at w (Origin.Pointed r) (Site.Flag f) n is).1
  pointed_count r (Target.Touch j) n whole is =
      let counted = counted_at w (Origin.Pointed r) (Site.Argument j Bytes.Whole) n is in
      let ranks : 2 * min j 2 ≡ 6 + reg_number r = counted.0 in
      let small = min_small j in absurd (omega (arith, ranks, small))
  pointed_count r target n whole is = cc

  -- where each store to an origin is of so many bytes, and there is one, the row stores so many there
  row_stores : (o : Origin) (c n : ℕ) (row : List MicroOp) (op : MicroOp) → are_whole s row ≡ true
      → ((target : Target) (m : ℕ) → is_whole_target s target ≡ true → target_store w o target ≡ Some m → m ≡ c)
      → IsMember op row → target_store w o op.target ≡ Some n → row_access true w o row ≡ Some c
  row_stores o c n [] op whole each member is = absurd member
  row_stores o c n (first ∷ ops) op whole each member is =
      by (target_store w o first.target) refl member
      (λ later. row_stores o c n ops op (and_parts _ _ whole).1 each later is)
    where
      parts : (is_whole_target s first.target ≡ true) × (are_whole s ops ≡ true)
      parts = and_parts _ _ whole

      by : (found : Option ℕ) → target_store w o first.target ≡ found → (op ≡ first) ⊎ IsMember op ops
          → (IsMember op ops → row_access true w o ops ≡ Some c) → or_else found (row_access true w o ops) ≡ Some c
      by (Some m) e h rest = ap Some (each first.target m parts.0 e)
      by None e (inl same) rest =
          let gone : target_store w o op.target ≡ None = ap (λ (y : MicroOp). target_store w o y.target) same ∙ e in cc
      by None e (inr later) rest = rest later

-- ---- accesses

from_filter_map : {A B : Type 0} (f : A → Option B) (xs : List A) (y : B) → IsMember y (filter_map f xs)
    → (x : A) × IsMember x xs × (f x ≡ Some y)
from_filter_map f [] y is = absurd is
from_filter_map {A} {B} f (x ∷ xs) y is = by (f x) refl is (λ later. from_filter_map f xs y later)
  where
    by : (o : Option B) → f x ≡ o → IsMember y (cons_option o (filter_map f xs))
        → (IsMember y (filter_map f xs) → (a : A) × IsMember a xs × (f a ≡ Some y))
        → (a : A) × IsMember a (x ∷ xs) × (f a ≡ Some y)
    by None e is rest = let found = rest is in (found.0, inr found.1, found.2)
    by (Some z) e (inl same) rest = (x, inl refl, e ∙ ap Some (sym same))
    by (Some z) e (inr later) rest = let found = rest later in (found.0, inr found.1, found.2)

pub in_filter_map : {A B : Type 0} (f : A → Option B) (xs : List A) (x : A) (y : B) → IsMember x xs → f x ≡ Some y
    → IsMember y (filter_map f xs)
in_filter_map f [] x y is e = absurd is
in_filter_map f (a ∷ xs) x y (inl same) e =
    let here : f a ≡ Some y = ap f (sym same) ∙ e in rw here (inl refl)
in_filter_map f (a ∷ xs) x y (inr later) e = by (f a) (in_filter_map f xs x y later e)
  where
    by : (o : Option _) → IsMember y (filter_map f xs) → IsMember y (cons_option o (filter_map f xs))
    by None is = is
    by (Some z) is = inr is

argument_origin : (k : ℕ) → k < 3 → IsMember (Origin.Argument k) origins
unfolding origins
argument_origin zero low = inl refl
argument_origin (suc zero) low = inr (inr (inl refl))
argument_origin (suc (suc zero)) low = inr (inr (inr (inr (inl refl))))
argument_origin (suc (suc (suc k))) low = absurd (omega (arith, low))

pointed_origin : (r : Reg) → IsMember (Origin.Pointed r) origins
unfolding origins
pointed_origin Reg.Eax = inr (inr (inr (inr (inr (inr (inl refl))))))
pointed_origin Reg.Ebx = inr (inr (inr (inr (inr (inr (inr (inl refl)))))))
pointed_origin Reg.Ecx = inr (inr (inr (inr (inr (inr (inr (inr (inl refl))))))))
pointed_origin Reg.Edx = inr (inr (inr (inr (inr (inr (inr (inr (inr (inl refl)))))))))
pointed_origin Reg.Esi = inr (inr (inr (inr (inr (inr (inr (inr (inr (inr (inl refl))))))))))
pointed_origin Reg.Edi = inr (inr (inr (inr (inr (inr (inr (inr (inr (inr (inr (inl refl)))))))))))
pointed_origin Reg.Ebp = inr (inr (inr (inr (inr (inr (inr (inr (inr (inr (inr (inr (inl refl))))))))))))

module _ (s : Sym) (row : List MicroOp) (is_row : entry_row s ≡ row) where
  stored_at : (o : Origin) (to : Arg) (c : ℕ) → IsMember o origins → memory_in s o ≡ Some to
      → row_access true s.width o row ≡ Some c → IsStored s to c
  stored_at o to c listed memory stored = record {
    access = access;
    is_access = subst (λ r. IsMember access (accesses_of r s)) (sym is_row)
        (in_back (filter_map (access_at false row s) origins) (filter_map (access_at true row s) origins) access
        (in_filter_map (access_at true row s) origins o access listed found));
    store = refl;
    there = refl;
    within = omega arith;
  } where
    access : Access
    access = record { to = to; bytes = c; store = true }

    found : access_at true row s o ≡ Some access
    found = rw stored (rw memory refl)

-- ---- all lines

from_zero : (n : ℕ) → n ≡ 0 + n
from_zero n = omega arith

module _ (s : Sym) (whole : are_whole s (entry_row s) ≡ true) where
  rank_itself : (w : Width) (site : Site) → count_at w (site_origin w site) site ≡ Some (site_count w site)
  rank_itself w site = rw (eq-eqb (origin_rank (site_origin w site)) (origin_rank (site_origin w site)) refl) refl

  whole_at : (row : List MicroOp) (op : MicroOp) → are_whole s row ≡ true → IsMember op row
      → is_whole_target s op.target ≡ true
  whole_at [] op all member = absurd member
  whole_at (first ∷ ops) op all (inl same) = ap (λ (o : MicroOp). is_whole_target s o.target) same
      ∙ (and_parts _ _ all).0
  whole_at (first ∷ ops) op all (inr later) = whole_at ops op (and_parts _ _ all).1 later

  module _ (op : MicroOp) (member : IsMember op (entry_row s)) where
    argument_stored : (k : ℕ) (bytes : Bytes) (to : Arg) → op.target ≡ Target.Site (Site.Argument k bytes)
        → memory_arg (line_arg s k) ≡ Some to → IsStored s to (first_of bytes + count_of s.width bytes)
    argument_stored k bytes to at there =
        subst (λ b. IsStored s to (first_of b + count_of s.width b)) (sym (all bytes (or_cases _ _ parts.1)))
        (subst (IsStored s to) (from_zero (count_of s.width Bytes.Whole))
        (stored_at s (entry_row s) refl (Origin.Argument k) to (count_of s.width Bytes.Whole) (argument_origin k low)
        there (row_stores s s.width (Origin.Argument k) (count_of s.width Bytes.Whole) (count_of s.width bytes)
        (entry_row s) op whole (argument_count s s.width k to low there) member
        (ap (target_store s.width (Origin.Argument k)) at ∙ rank_itself s.width (Site.Argument k bytes)))))
      where
        parts : (nat_lt k 3 ≡ true) × ((is_whole bytes || is_none (memory_arg (line_arg s k))) ≡ true)
        parts = and_parts _ _ (ap (is_whole_target s) (sym at) ∙ whole_at (entry_row s) op whole member)

        low : k < 3
        low = ltb-true k 3 parts.0

        all : (b : Bytes) → (is_whole b ≡ true) ⊎ (is_none (memory_arg (line_arg s k)) ≡ true) → b ≡ Bytes.Whole
        all Bytes.Whole h = refl
        all b (inl h) = cc
        all b (inr h) = absurd (both_ways true (sym h ∙ ap is_none there) refl)

    pointed_stored : (r : Reg) → op.target ≡ Target.Site (Site.Pointed r)
        → IsStored s (pointed_arg r) (bits_of s.width / 8)
    pointed_stored r at = stored_at s (entry_row s) refl (Origin.Pointed r) (pointed_arg r) (bits_of s.width / 8)
        (pointed_origin r) refl
        (row_stores s s.width (Origin.Pointed r) (bits_of s.width / 8) (bits_of s.width / 8) (entry_row s) op whole
        (pointed_count s s.width r) member
        (ap (target_store s.width (Origin.Pointed r)) at ∙ rank_itself s.width (Site.Pointed r)))

    within_memory : (k : ℕ) (bytes : Bytes) (arg : Arg) → op.target ≡ Target.Site (Site.Argument k bytes)
        → line_arg s k ≡ arg → IsWithin s arg (first_of bytes + count_of s.width bytes)
    within_memory k bytes (Arg.Memory j) at is = argument_stored k bytes (Arg.Memory j) at (ap memory_arg is)
    within_memory k bytes (Arg.Address disp base index) at is = argument_stored k bytes (Arg.Address disp base index) at
        (ap memory_arg is)
    within_memory k bytes (Arg.Register place slice) at is = tt
    within_memory k bytes (Arg.Number n) at is = tt
    within_memory k bytes (Arg.Hole n) at is = tt
    within_memory k bytes (Arg.Label n) at is = tt

    write_whole : (w : Write) (target : Target) → op.target ≡ target
        → write_to s (by_of s op.function op.x) target ≡ Some w → IsStoredWhole s w.to (w.first + w.count)
    write_whole w (Target.Site (Site.Argument k bytes)) at is =
        subst (λ (v : Write). IsStoredWhole s v.to (v.first + v.count)) (same_some _ _ is)
        (within_memory k bytes (line_arg s k) at refl)
    write_whole w (Target.Site (Site.Register r bytes)) at is =
        subst (λ (v : Write). IsStoredWhole s v.to (v.first + v.count)) (same_some _ _ is) tt
    write_whole w (Target.Site (Site.Pointed r)) at is =
        subst (λ (v : Write). IsStoredWhole s v.to (v.first + v.count)) (same_some _ _ is)
        (subst (IsStored s (pointed_arg r)) (from_zero (bits_of s.width / 8)) (pointed_stored r at))
    write_whole w (Target.Site (Site.Flag f)) at is =
        subst (λ (v : Write). IsStoredWhole s v.to (v.first + v.count)) (same_some _ _ is) tt
    write_whole w Target.Push at is =
        subst (λ (v : Write). IsStoredWhole s v.to (v.first + v.count)) (same_some _ _ is) tt
    write_whole w Target.Pop at is =
        subst (λ (v : Write). IsStoredWhole s v.to (v.first + v.count)) (same_some _ _ is) tt
    write_whole w target at is = cc

  whole_stores : StoresWhole s
  whole_stores = record {
    each = λ w listed. let found = from_filter_map (write_of s) (entry_row s) w listed in
        write_whole found.0 found.1 w found.0.target refl found.2;
  }

-- each line that writes no memory in parts
pub stores_whole : (line : Sym) → PartsNoMemory line → StoresWhole line
stores_whole line none = whole_stores line
    (in_entry line none (is_shift line.op && is_zero_count (slice_get line.args 0))
    (same_register (slice_get line.args 0) (slice_get line.args 1)))
