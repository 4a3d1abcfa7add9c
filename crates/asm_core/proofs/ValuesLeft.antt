-- What a step puts last into a byte that it writes is left there.
use Rattle.std.proofs.Common.{◌≡◌, ℕ, zero, suc, ◌+◌, ◌*◌, ◌/◌, ◌%◌, ◌^◌, ◌<◌, ◌≤◌, ◌&&◌, ◌||◌, not, List, [], ◌∷◌, drop, slice_get, slice_index, Bool, true, false, Option, None, Some, refl, ap, sym, subst, ◌∙◌, arith}
use Rattle.std.specs.List.{list_any, list_all}
use Rattle.std.proofs.lemmas.Bool.{and_parts, ltb-true}
use Rattle.asm_core.specs.Function.{bits_of}
use Rattle.asm_core.specs.Machine.{IsMachine, reg_in, covers}
use Rattle.asm_core.specs.Memory.{address_of, is_open_to, lets_in, in_scratch, is_good_byte, is_good_access}
use Rattle.asm_core.specs.MicroOps.{first_of, count_of, sized, bytes_named, within, arg_at, is_good_arg, is_good_site, is_good_input, is_good_target, is_good_op, arg_destination, site_destination, destination_of, destinations_of, put_all}
use Rattle.asm_core.specs.Reading.Placed.{operand_under, operand_at, inst_under}
use Rattle.asm_core.specs.Entries.{slice_with, arg_or_zero, line_arg, first_in_name, by_of, write_to_site, write_to, write_of, writes_of}
use Rattle.asm_core.specs.RowLaws.{Component, nth_byte, operand_byte, written_byte, IsToldByOne, FitsOperand, FitsSite, FitsTarget, FitsTargets, held, LeavesValues}
use Rattle.asm_core.proofs.LastWrites.{IsByte, Has, put_all_read}
use Rattle.asm_core.proofs.StepLaws.{at_kept}
use Rattle.asm_core.proofs.WriteLaws.{within_first, within_count, sized_first, sized_count, hit_is_told}
use Rattle.asm_core.specs.declared.reg.Reg.{Reg}
use Rattle.asm_core.specs.declared.reg.Slice.{Slice}
use Rattle.asm_core.specs.declared.inst.Width.{Width}
use Rattle.asm_core.specs.declared.inst.Inst.{Inst}
use Rattle.asm_core.specs.declared.inst.InstArg.{InstArg}
use Rattle.asm_core.specs.declared.sym.Arg.{Arg}
use Rattle.asm_core.specs.declared.sym.Sym.{Sym}
use Rattle.asm_core.specs.declared.placement.Placement.{Placement}
use Rattle.asm_core.specs.declared.micro_op.Bytes.{Bytes}
use Rattle.asm_core.specs.declared.micro_op.Site.{Site}
use Rattle.asm_core.specs.declared.micro_op.Target.{Target}
use Rattle.asm_core.specs.declared.micro_op.Destination.{Destination}
use Rattle.asm_core.specs.declared.micro_op.MicroOp.{MicroOp}
use Rattle.asm_core.specs.declared.row.By.{By}
use Rattle.asm_core.specs.declared.row.Written.{Written}
use Rattle.asm_core.specs.declared.row.Write.{Write}
use Rattle.asm_core.specs.declared.machine.Range.{Range}
use Rattle.asm_core.specs.declared.machine.Machine.{Machine}

-- ---- what good accesses say

pub good_at : (i : Inst) (m : Machine) (row : List MicroOp) (k : ℕ) (op : MicroOp) → list_all (is_good_op i m) row ≡ true → slice_get row k ≡ Some op → is_good_op i m op ≡ true
good_at i m [] k op all at = cc
good_at i m (first ∷ row) zero op all at = let same : first ≡ op = cc in subst (λ x. is_good_op i m x ≡ true) same (and_parts (is_good_op i m first) (list_all (is_good_op i m) row) all).0
good_at i m (first ∷ row) (suc k) op all at = good_at i m row k op (and_parts (is_good_op i m first) (list_all (is_good_op i m) row) all).1 at

pub good_target : (i : Inst) (m : Machine) (op : MicroOp) → is_good_op i m op ≡ true → is_good_target i m op.target ≡ true
good_target i m op h = (and_parts (is_good_input i m op.x && is_good_input i m op.y && is_good_input i m op.z) (is_good_target i m op.target) h).1

pub good_input : (i : Inst) (m : Machine) (op : MicroOp) → is_good_op i m op ≡ true → is_good_input i m op.x ≡ true
good_input i m op h =
    let inputs = (and_parts (is_good_input i m op.x && is_good_input i m op.y && is_good_input i m op.z) (is_good_target i m op.target) h).0 in
    (and_parts (is_good_input i m op.x) (is_good_input i m op.y) (and_parts (is_good_input i m op.x && is_good_input i m op.y) (is_good_input i m op.z) inputs).0).0

-- some range has the address
abbrev IsCovered : Machine → ℕ → Type 0
IsCovered m a = list_any (λ r. covers r a) m.ranges ≡ true

open_is_covered : (through : Option ℕ) (store : Bool) (a : ℕ) (rs : List Range) → list_any (lets_in through store a) rs ≡ true → list_any (λ r. covers r a) rs ≡ true
open_is_covered through store a [] h = h
open_is_covered through store a (r ∷ rs) h = by_test (covers r a) h (open_is_covered through store a rs)
  where
    by_test : (t : Bool) → (t && is_open_to r.owner through && (not store || r.writable) || list_any (lets_in through store a) rs) ≡ true
        → (list_any (lets_in through store a) rs ≡ true → list_any (λ r. covers r a) rs ≡ true) → (t || list_any (λ r. covers r a) rs) ≡ true
    by_test true h rest = refl
    by_test false h rest = rest h

covered_at : (m : Machine) (through : Option ℕ) (store : Bool) (n a o : ℕ) → is_good_access m through store n a ≡ true → o < n → IsCovered m ((a + o) % 2 ^ 32)
covered_at m through store zero a o good small = absurd (omega arith)
covered_at m through store (suc n) a zero good small =
    ap (λ x. list_any (λ r. covers r (x % 2 ^ 32)) m.ranges) (no_more a)
    ∙ open_is_covered through store (a % 2 ^ 32) m.ranges (and_parts (list_any (lets_in through store (a % 2 ^ 32)) m.ranges) (not (in_scratch m (a % 2 ^ 32)))
    (and_parts (is_good_byte m through store (a % 2 ^ 32)) (is_good_access m through store n (a + 1)) good).0).0
  where
    no_more : (a : ℕ) → a + 0 ≡ a
    no_more a = omega arith
covered_at m through store (suc n) a (suc o) good small =
    ap (λ x. list_any (λ r. covers r (x % 2 ^ 32)) m.ranges) (next a o)
    ∙ covered_at m through store n (a + 1) o (and_parts (is_good_byte m through store (a % 2 ^ 32)) (is_good_access m through store n (a + 1)) good).1 (omega arith)
  where
    next : (a o : ℕ) → a + suc o ≡ a + 1 + o
    next a o = omega arith

pub count_small : (w : Width) (bytes : Bytes) → count_of w bytes ≤ 8
count_small Width.B Bytes.Whole = omega arith
count_small Width.W Bytes.Whole = omega arith
count_small Width.L Bytes.Whole = omega arith
count_small Width.Q Bytes.Whole = omega arith
count_small w Bytes.Byte0 = omega arith
count_small w Bytes.Byte1 = omega arith
count_small w Bytes.Byte2 = omega arith
count_small w Bytes.Byte3 = omega arith
count_small w Bytes.Low16 = omega arith
count_small w Bytes.High16 = omega arith
count_small w Bytes.Upper24 = omega arith
count_small w Bytes.All = omega arith

-- ---- a byte that a write tells is one at the destination

-- byte o of what is put at the destination, which the state has
record IsPut (m : Machine) (d : Destination) (o : ℕ) (c : Component) : Type 0 where
  byte : IsByte d o c
  has : Has m c

module _ (p : Placement) (s : Sym) (m : Machine) (is_machine : IsMachine m) where
  register_put : (r : Reg) (slice : Slice) (first count o : ℕ) (bytes : Bytes) (c : Component) → first_of bytes ≡ first_of (bytes_named slice) + first → count_of Width.L bytes ≡ count → o < count
      → Some (Component.RegisterByte r (first_of (bytes_named slice) + (first + o))) ≡ Some c → IsPut m (Destination.Register r bytes) o c
  register_put r slice first count o bytes c at many small here =
      let same : Component.RegisterByte r (first_of (bytes_named slice) + (first + o)) ≡ c = cc in
      subst (IsPut m (Destination.Register r bytes) o) same (record { byte = (refl, (omega arith, omega arith)); has = is_machine.reg_count })

  memory_put : (through : Option ℕ) (a base first count o : ℕ) (c : Component) → count ≤ 8 → o < count → is_good_access m through true count (base + first) ≡ true → ((x : ℕ) → (a + x) % 2 ^ 32 ≡ (base + (first + x)) % 2 ^ 32)
      → Some (Component.MemoryByte ((base + (first + o)) % 2 ^ 32)) ≡ Some c → IsPut m (Destination.Memory a count) o c
  memory_put through a base first count o c few small good at here =
      let same : Component.MemoryByte ((base + (first + o)) % 2 ^ 32) ≡ c = cc in
      subst (IsPut m (Destination.Memory a count) o) same (record { byte = (sym (at o), (small, few)); has = ap (λ x. list_any (λ r. covers r (x % 2 ^ 32)) m.ranges) (grouped base first o) ∙ covered_at m through true count (base + first) o good small })
    where
      grouped : (a b c : ℕ) → a + (b + c) ≡ a + b + c
      grouped a b c = omega arith

  argument_put : (o : ℕ) (bytes : Bytes) (c : Component) (x : Option InstArg) → FitsOperand s.width bytes x → o < count_of s.width bytes → operand_byte x (first_of bytes + o) m ≡ Some c → is_good_arg s.width bytes true x m ≡ true
      → IsPut m (arg_destination s.width bytes x m) o c
  argument_put o bytes c (Some (InstArg.Register r slice)) fits small here good =
      register_put r slice (first_of bytes) (count_of s.width bytes) o (within slice bytes) c (within_first s.width slice bytes fits) (within_count s.width slice bytes fits) small here
  argument_put o bytes c (Some (InstArg.Address form k)) fits small here good =
      memory_put k ((address_of form m + first_of bytes) % 2 ^ 32) (address_of form m) (first_of bytes) (count_of s.width bytes) o c (count_small s.width bytes) small good (λ x. modulo_sum (address_of form m) (first_of bytes) x) here
    where
      modulo_sum : (a b o : ℕ) → ((a + b) % 2 ^ 32 + o) % 2 ^ 32 ≡ (a + (b + o)) % 2 ^ 32
      modulo_sum a b o = omega arith
  argument_put o bytes c (Some (InstArg.Number n)) fits small here good = cc
  argument_put o bytes c (Some (InstArg.Label n)) fits small here good = cc
  argument_put o bytes c None fits small here good = cc

  site_put : (by : By) (site : Site) (o : ℕ) (c : Component) → FitsSite p s site → o < (write_to_site s by site).count → written_byte p m (write_to_site s by site).to ((write_to_site s by site).first + o) ≡ Some c
      → is_good_site (inst_under p s) m true site ≡ true → IsPut m (site_destination (inst_under p s) m site) o c
  site_put by (Site.Argument k bytes) o c fits small here good = by_number k fits here good
    where
      by_arg : (x : Option Arg) → FitsOperand s.width bytes (operand_at p x) → written_byte p m (Written.Arg (arg_or_zero x)) (first_of bytes + o) ≡ Some c → is_good_arg s.width bytes true (operand_at p x) m ≡ true
          → IsPut m (arg_destination s.width bytes (operand_at p x) m) o c
      by_arg None fits here good = cc
      by_arg (Some arg) fits here good = argument_put o bytes c (operand_under p arg) fits small here good

      by_number : (k : ℕ) → FitsOperand s.width bytes (operand_at p (slice_get s.args k)) → written_byte p m (Written.Arg (line_arg s k)) (first_of bytes + o) ≡ Some c → is_good_arg s.width bytes true (arg_at (inst_under p s) k) m ≡ true
          → IsPut m (arg_destination s.width bytes (arg_at (inst_under p s) k) m) o c
      by_number zero fits here good = by_arg (slice_get s.args 0) fits here good
      by_number (suc zero) fits here good = by_arg (slice_get s.args 1) fits here good
      by_number (suc (suc zero)) fits here good = by_arg (slice_get s.args 2) fits here good
      by_number (suc (suc (suc k))) fits here good = cc
  site_put by (Site.Register r bytes) o c fits small here good =
      register_put r (slice_with (sized s.width bytes)) (first_in_name bytes) (count_of s.width (sized s.width bytes)) o (sized s.width bytes) c (sized_first s.width bytes) (sized_count s.width bytes) small here
  site_put by (Site.Pointed r) o c fits small here good =
      memory_put None (reg_in r m) (reg_in r m) 0 (bits_of s.width / 8) o c (count_small s.width Bytes.Whole) small (ap (is_good_access m None true (bits_of s.width / 8)) (no_more (reg_in r m)) ∙ good) (from_zero (reg_in r m)) (ap (λ x. Some (Component.MemoryByte x)) (at_register (reg_in r m) o) ∙ here)
    where
      no_more : (a : ℕ) → a + 0 ≡ a
      no_more a = omega arith

      from_zero : (a x : ℕ) → (a + x) % 2 ^ 32 ≡ (a + (0 + x)) % 2 ^ 32
      from_zero a x = omega arith

      at_register : (a o : ℕ) → (a + (0 + o)) % 2 ^ 32 ≡ ((0 % 2 ^ 32 + a + 0) % 2 ^ 32 + (0 + o)) % 2 ^ 32
      at_register a o = omega arith
  site_put by (Site.Flag f) o c fits small here good =
      let same : Component.FlagBit f ≡ c = cc in subst (IsPut m (Destination.Flag f) o) same (record { byte = (refl, omega arith); has = tt })

  -- what the write of a micro-operation tells is put at its destination
  op_put : (op : MicroOp) (w : Write) (o : ℕ) (c : Component) → FitsTarget p s op.target → write_of s op ≡ Some w → o < w.count → written_byte p m w.to (w.first + o) ≡ Some c → is_good_op (inst_under p s) m op ≡ true
      → IsPut m (destination_of (inst_under p s) m op.target) o c
  op_put op w o c fits is small here good = by_target op.target fits is (good_target (inst_under p s) m op good)
    where
      by_target : (t : Target) → FitsTarget p s t → write_to s (by_of s op.function op.x) t ≡ Some w → is_good_target (inst_under p s) m t ≡ true → IsPut m (destination_of (inst_under p s) m t) o c
      by_target (Target.Site site) fits is good =
          let same : w ≡ write_to_site s (by_of s op.function op.x) site = cc in
          site_put (by_of s op.function op.x) site o c fits (subst (λ (x : Write). o < x.count) same small) (subst (λ (x : Write). written_byte p m x.to (x.first + o) ≡ Some c) same here) good
      by_target Target.Push fits is good =
          let told : Write = record { to = Written.Push; first = 0; count = 4; by = by_of s op.function op.x } in
          let same : w ≡ told = cc in
          let at : Some (Component.ScratchByte (4 * m.scratch_top + (0 + o))) ≡ Some c = subst (λ (x : Write). written_byte p m x.to (x.first + o) ≡ Some c) same here in
          let below : o < 4 = subst (λ (x : Write). o < x.count) same small in
          let room : m.scratch_top < 16 = ltb-true m.scratch_top 16 good in
          let is_c : Component.ScratchByte (4 * m.scratch_top + (0 + o)) ≡ c = cc in
          subst (IsPut m (Destination.Push m.scratch_top) o) is_c (record { byte = (omega arith, (below, room)); has = is_machine.scratch_count })
      by_target Target.Pop fits is good =
          let told : Write = record { to = Written.Pop; first = 0; count = 0; by = by_of s op.function op.x } in
          let same : w ≡ told = cc in
          let at : None ≡ Some c = subst (λ (x : Write). written_byte p m x.to (x.first + o) ≡ Some c) same here in
          cc
      by_target t fits is good = cc

  fits_at : (row : List MicroOp) (k : ℕ) (op : MicroOp) → FitsTargets p s row → slice_get row k ≡ Some op → FitsTarget p s op.target
  fits_at [] k op fits at = cc
  fits_at (first ∷ row) zero op fits at = let same : first ≡ op = cc in subst (λ (x : MicroOp). FitsTarget p s x.target) same fits.0
  fits_at (first ∷ row) (suc k) op fits at = fits_at row k op fits.1 at

  -- the later micro-operations have their bytes too
  pub fits_later : (row : List MicroOp) (k : ℕ) → FitsTargets p s row → FitsTargets p s (drop k row)
  fits_later row zero fits = fits
  fits_later [] (suc k) fits = fits
  fits_later (op ∷ row) (suc k) fits = fits_later row k fits.1

  -- what is put at the end is left there
  pub values_left : (row : List MicroOp) (vs : List ℕ) (at : ℕ) → FitsTargets p s row → list_all (is_good_op (inst_under p s) m) row ≡ true
      → LeavesValues p s row vs m (record (put_all (destinations_of (inst_under p s) m row) 0 vs m) { at = at })
  values_left row vs at fits good k o w c last =
      let put = op_put last.op w o c (fits_at row k last.op fits last.is_op) last.is_write last.within last.here (good_at (inst_under p s) m row k last.op good last.is_op) in
      at_kept c (put_all (destinations_of (inst_under p s) m row) 0 vs m) at
      ∙ put_all_read (inst_under p s) m row k 0 o vs m last.op c last.is_op put.byte put.has
      (λ hit. last.last (subst (λ n. IsToldByOne p m (writes_of (drop n row) s) c) next (hit_is_told p s m (drop (suc k) row) c (fits_later row (suc k) fits) hit)))
      ∙ ap (λ j. held c (nth_byte o (slice_index vs j))) same
    where
      next : suc k ≡ k + 1
      next = omega arith

      same : 0 + k ≡ k
      same = omega arith
