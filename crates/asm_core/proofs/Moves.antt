-- A step that is no fault is its moves played.
use Rattle.std.proofs.Common.{◌≡◌, ℕ, ◌+◌, ◌-◌, ◌*◌, ◌%◌, ◌^◌, ◌==◌, ◌<◌, ◌≤◌, nat_le, nat_lt, ◌&&◌, List, [], ◌∷◌, slice_index, Bool, true, false, if◌then◌else◌, Option, None, Some, refl, ap, sym, ◌∙◌, arith}
use Rattle.std.specs.List.{list_all}
use Rattle.std.proofs.lemmas.Bool.{and_parts, eq-eqb, eqb-true, leb-true, ltb-true, lt-ltb, le-leb}
use Rattle.asm_core.specs.Reg.{reg_number}
use Rattle.asm_core.specs.Flag.{flag_number}
use Rattle.asm_core.specs.Machine.{IsMachine}
use Rattle.asm_core.specs.MicroOps.{first_of, count_of, arg_at, arg_destination, destination_of, destinations_of, put, put_all, values_of, read_in, is_good_op, is_good_target, is_over, next_of, row_ended}
use Rattle.asm_core.specs.RowLaws.{HoldsAfter, Component, component_in, IsHit}
use Rattle.asm_core.specs.Steps.{offset_at, put_at, played, IsCell, PlaysMoves}
use Rattle.asm_core.proofs.CopyLaws.{done_holds}
use Rattle.asm_core.proofs.LastWrites.{IsByte, Has, put_read, has_kept}
use Rattle.asm_core.proofs.Puts.{put_keeps}
use Rattle.asm_core.proofs.RegisterLaws.{same_reg}
use Rattle.asm_core.proofs.StepLaws.{at_kept}
use Rattle.asm_core.proofs.ValuesLeft.{good_target, count_small}
use Rattle.asm_core.specs.declared.flag.Flag.{Flag}
use Rattle.asm_core.specs.declared.flag.Flag.TheVariants.{Cf, Pf, Af, Zf, Sf, Of, Df}
use Rattle.asm_core.specs.declared.inst.Width.{Width}
use Rattle.asm_core.specs.declared.inst.Inst.{Inst}
use Rattle.asm_core.specs.declared.inst.InstArg.{InstArg}
use Rattle.asm_core.specs.declared.micro_op.Bytes.{Bytes}
use Rattle.asm_core.specs.declared.micro_op.Site.{Site}
use Rattle.asm_core.specs.declared.micro_op.Target.{Target}
use Rattle.asm_core.specs.declared.micro_op.Destination.{Destination}
use Rattle.asm_core.specs.declared.micro_op.MicroOp.{MicroOp}
use Rattle.asm_core.specs.declared.machine.Machine.{Machine}

-- at most 8 bytes are stored, and there is room for a pushed word
abbrev pub IsSmall : Destination → Type 0
IsSmall (Destination.Memory a n) = n ≤ 8
IsSmall (Destination.Push n) = n < 16
IsSmall d = Unit {0}

same_flag : (f g : Flag) → flag_number f ≡ flag_number g → f ≡ g
same_flag Cf Cf e = refl
same_flag Pf Pf e = refl
same_flag Af Af e = refl
same_flag Zf Zf e = refl
same_flag Sf Sf e = refl
same_flag Of Of e = refl
same_flag Df Df e = refl
same_flag f g e = cc

-- a test that some value stands behind is passed, and the value is that one
passed : (t : Bool) (n o : ℕ) → (if t then Some n else None) ≡ Some o → (t ≡ true) × (n ≡ o)
passed true n o e = (refl, cc)
passed false n o e = cc

failed : (t : Bool) (n : ℕ) → (if t then Some n else None) ≡ None → t ≡ false
failed true n e = cc
failed false n e = refl

-- the byte at that offset is one that is put
is_byte : (d : Destination) (m : Machine) (c : Component) (o : ℕ) → IsSmall d → IsCell m c → offset_at d c ≡ Some o → IsByte d o c
is_byte (Destination.Register r bytes) m (Component.RegisterByte q j) o small cell e =
    let found = passed (reg_number r == reg_number q && (nat_le (first_of bytes) j && nat_lt j (first_of bytes + count_of Width.L bytes))) (j - first_of bytes) o e in
    let tests = and_parts (reg_number r == reg_number q) (nat_le (first_of bytes) j && nat_lt j (first_of bytes + count_of Width.L bytes)) found.0 in
    let ends = and_parts (nat_le (first_of bytes) j) (nat_lt j (first_of bytes + count_of Width.L bytes)) tests.1 in
    let low : first_of bytes ≤ j = leb-true (first_of bytes) j ends.0 in
    let high : j < first_of bytes + count_of Width.L bytes = ltb-true j (first_of bytes + count_of Width.L bytes) ends.1 in
    let at : j - first_of bytes ≡ o = found.1 in
    (same_reg r q (eqb-true (reg_number r) (reg_number q) tests.0), (omega arith, omega arith))
is_byte (Destination.Memory a n) m (Component.MemoryByte x) o small cell e =
    let found = passed (nat_lt ((x + 2 ^ 32 - a % 2 ^ 32) % 2 ^ 32) n) ((x + 2 ^ 32 - a % 2 ^ 32) % 2 ^ 32) o e in
    let word : x < 2 ^ 32 = cell.0 in
    let at : (x + 2 ^ 32 - a % 2 ^ 32) % 2 ^ 32 ≡ o = found.1 in
    let within : (x + 2 ^ 32 - a % 2 ^ 32) % 2 ^ 32 < n = ltb-true ((x + 2 ^ 32 - a % 2 ^ 32) % 2 ^ 32) n found.0 in
    (omega arith, (omega arith, small))
is_byte (Destination.Flag f) m (Component.FlagBit g) o small cell e =
    let found = passed (flag_number f == flag_number g) 0 o e in
    (same_flag f g (eqb-true (flag_number f) (flag_number g) found.0), sym found.1)
is_byte (Destination.Push n) m (Component.ScratchByte j) o small cell e =
    let found = passed (nat_le (4 * n) j && nat_lt j (4 * n + 4)) (j - 4 * n) o e in
    let ends = and_parts (nat_le (4 * n) j) (nat_lt j (4 * n + 4)) found.0 in
    let low : 4 * n ≤ j = leb-true (4 * n) j ends.0 in
    let high : j < 4 * n + 4 = ltb-true j (4 * n + 4) ends.1 in
    let at : j - 4 * n ≡ o = found.1 in
    (omega arith, (omega arith, small))
is_byte d m c o small cell e = cc

-- a test that fails although it holds
contradicted : (t : Bool) → t ≡ true → t ≡ false → ⊥
contradicted t is_true is_false = cc

both_true : (a b : Bool) → a ≡ true → b ≡ true → (a && b) ≡ true
both_true a b is_a is_b = cc

-- where there is no offset, nothing is hit
is_missed : (d : Destination) (m : Machine) (c : Component) → IsCell m c → offset_at d c ≡ None → IsHit d c → ⊥
is_missed (Destination.Register r bytes) m (Component.RegisterByte q j) cell e hit =
    contradicted (reg_number r == reg_number q && (nat_le (first_of bytes) j && nat_lt j (first_of bytes + count_of Width.L bytes)))
    (both_true (reg_number r == reg_number q) (nat_le (first_of bytes) j && nat_lt j (first_of bytes + count_of Width.L bytes)) (eq-eqb (reg_number r) (reg_number q) (ap reg_number hit.0))
    (both_true (nat_le (first_of bytes) j) (nat_lt j (first_of bytes + count_of Width.L bytes)) (le-leb (first_of bytes) j hit.1.0) (lt-ltb j (first_of bytes + count_of Width.L bytes) hit.1.1)))
    (failed (reg_number r == reg_number q && (nat_le (first_of bytes) j && nat_lt j (first_of bytes + count_of Width.L bytes))) (j - first_of bytes) e)
is_missed (Destination.Memory a n) m (Component.MemoryByte x) cell e hit =
    contradicted (nat_lt ((x + 2 ^ 32 - a % 2 ^ 32) % 2 ^ 32) n) within (failed (nat_lt ((x + 2 ^ 32 - a % 2 ^ 32) % 2 ^ 32) n) ((x + 2 ^ 32 - a % 2 ^ 32) % 2 ^ 32) e)
  where
    within : nat_lt ((x + 2 ^ 32 - a % 2 ^ 32) % 2 ^ 32) n ≡ true
    within =
        let o = hit.0 in
        let small : o < n = hit.1 in
        let at : x ≡ (a + o) % 2 ^ 32 = hit.2 in
        lt-ltb ((x + 2 ^ 32 - a % 2 ^ 32) % 2 ^ 32) n (omega arith)
is_missed (Destination.Flag f) m (Component.FlagBit g) cell e hit =
    contradicted (flag_number f == flag_number g) (eq-eqb (flag_number f) (flag_number g) (ap flag_number hit)) (failed (flag_number f == flag_number g) 0 e)
is_missed (Destination.Push n) m (Component.ScratchByte j) cell e hit =
    contradicted (nat_le (4 * n) j && nat_lt j (4 * n + 4)) (both_true (nat_le (4 * n) j) (nat_lt j (4 * n + 4)) (le-leb (4 * n) j hit.0) (lt-ltb j (4 * n + 4) hit.1)) (failed (nat_le (4 * n) j && nat_lt j (4 * n + 4)) (j - 4 * n) e)
is_missed d m (Component.WholeRegister r) cell e hit = absurd cell
is_missed d m Component.Depth cell e hit = absurd cell
is_missed d m Component.Esp cell e hit = absurd cell
is_missed d m c cell e hit = absurd hit

-- ---- one value, and all

put_moved : (d : Destination) (v : ℕ) (m : Machine) (c : Component) → IsSmall d → IsCell m c → Has m c → component_in c (put d v m) ≡ put_at (offset_at d c) c v (component_in c m)
put_moved d v m c small cell has = by_offset (offset_at d c) refl
  where
    by_offset : (x : Option ℕ) → offset_at d c ≡ x → component_in c (put d v m) ≡ put_at x c v (component_in c m)
    by_offset None e = put_keeps d v m c (is_missed d m c cell e)
    by_offset (Some o) e = put_read d c o v m (is_byte d m c o small cell e) has

-- what is a cell before is one after a value is put
cell_kept : (c : Component) (m n : Machine) → IsCell m c → Has n c → IsCell n c
cell_kept (Component.RegisterByte r j) m n cell has = tt
cell_kept (Component.FlagBit f) m n cell has = tt
cell_kept (Component.MemoryByte a) m n cell has = (cell.0, has)
cell_kept (Component.ScratchByte j) m n cell has = tt
cell_kept (Component.WholeRegister r) m n cell has = cell
cell_kept Component.Depth m n cell has = cell
cell_kept Component.Esp m n cell has = cell

abbrev AreSmall : List Destination → Type 0
AreSmall [] = Unit {0}
AreSmall (d ∷ ds) = IsSmall d × AreSmall ds

all_moved : (ds : List Destination) (k : ℕ) (vs : List ℕ) (m : Machine) (c : Component) → AreSmall ds → IsCell m c → Has m c → component_in c (put_all ds k vs m) ≡ played ds k vs c (component_in c m)
all_moved [] k vs m c small cell has = refl
all_moved (d ∷ ds) k vs m c small cell has =
    let after = has_kept d (slice_index vs k) m c has in
    all_moved ds (k + 1) vs (put d (slice_index vs k) m) c small.1 (cell_kept c m (put d (slice_index vs k) m) cell after) after
    ∙ ap (played ds (k + 1) vs c) (put_moved d (slice_index vs k) m c small.0 cell has)

-- ---- a row

target_small : (i : Inst) (m : Machine) (t : Target) → is_good_target i m t ≡ true → IsSmall (destination_of i m t)
target_small i m (Target.Site (Site.Argument k bytes)) good = by_place (arg_at i k)
  where
    by_place : (x : Option InstArg) → IsSmall (arg_destination i.width bytes x m)
    by_place (Some (InstArg.Register r slice)) = tt
    by_place (Some (InstArg.Address form j)) = count_small i.width bytes
    by_place (Some (InstArg.Number n)) = tt
    by_place (Some (InstArg.Label n)) = tt
    by_place None = tt
target_small i m (Target.Site (Site.Register r bytes)) good = tt
target_small i m (Target.Site (Site.Pointed r)) good = count_small i.width Bytes.Whole
target_small i m (Target.Site (Site.Flag f)) good = tt
target_small i m Target.Push good = ltb-true m.scratch_top 16 good
target_small i m Target.Pop good = tt
target_small i m t good = tt

row_small : (i : Inst) (m : Machine) (row : List MicroOp) → list_all (is_good_op i m) row ≡ true → AreSmall (destinations_of i m row)
row_small i m [] good = tt
row_small i m (op ∷ row) good =
    let parts = and_parts (is_good_op i m op) (list_all (is_good_op i m) row) good in
    (target_small i m op.target (good_target i m op parts.0), row_small i m row parts.1)

-- a machine has its cells
has_cell : (m : Machine) (c : Component) → IsMachine m → IsCell m c → Has m c
has_cell m (Component.RegisterByte r j) is_machine cell = is_machine.reg_count
has_cell m (Component.FlagBit f) is_machine cell = tt
has_cell m (Component.MemoryByte a) is_machine cell = cell.1
has_cell m (Component.ScratchByte j) is_machine cell = is_machine.scratch_count
has_cell m (Component.WholeRegister r) is_machine cell = tt
has_cell m Component.Depth is_machine cell = tt
has_cell m Component.Esp is_machine cell = tt

pub plays_moves : (row : List MicroOp) (i : Inst) (goal choice : ℕ) (words : List ℕ) (m : Machine) → IsMachine m → is_over row (values_of i.width (read_in i choice words m) row) ≡ false
    → HoldsAfter (PlaysMoves row i (values_of i.width (read_in i choice words m) row) m) (row_ended row i goal choice words m)
plays_moves row i goal choice words m is_machine goes_on =
    done_holds (PlaysMoves row i (values_of i.width (read_in i choice words m) row) m) row i goal (values_of i.width (read_in i choice words m) row) m goes_on
    (λ good c cell. at_kept c (put_all (destinations_of i m row) 0 (values_of i.width (read_in i choice words m) row) m) (next_of row (values_of i.width (read_in i choice words m) row) goal m.at)
    ∙ all_moved (destinations_of i m row) 0 (values_of i.width (read_in i choice words m) row) m c (row_small i m row good) cell (has_cell m c is_machine cell))
