-- Beside the position a step changes only what the line's writes tell.
use Rattle.std.proofs.Common.{◌≡◌, inl, inr, ℕ, zero, suc, ◌+◌, ◌-◌, ◌*◌, ◌/◌, ◌%◌, ◌^◌, ◌<◌, ◌≤◌, pos, List, [], ◌∷◌, slice_get, Option, None, Some, refl, ap, sym, subst, ◌∙◌, arith}
use Rattle.std.specs.List.{cons_option}
use Rattle.asm_core.specs.Function.{bits_of}
use Rattle.asm_core.specs.Machine.{reg_in}
use Rattle.asm_core.specs.Memory.{address_of}
use Rattle.asm_core.specs.MicroOps.{first_of, count_of, sized, bytes_named, within, arg_at, arg_destination, site_destination, destination_of, destinations_of, values_of, read_in, row_ended}
use Rattle.asm_core.specs.Reading.Placed.{operand_under, operand_at, inst_under}
use Rattle.asm_core.specs.Entries.{slice_with, arg_or_zero, line_arg, register_arg_of, pointed_arg, first_in_name, by_of, write_to_site, write_to, write_of, writes_of}
use Rattle.asm_core.specs.RowLaws.{HoldsAfter, Component, ChangesOnly, IsHit, IsHitByOne, operand_byte, IsToldByte, IsTold, IsToldByOne, HasBytes, FitsOperand, FitsSite, FitsTarget, FitsTargets}
use Rattle.asm_core.proofs.Keeping.{holds_after_then}
use Rattle.asm_core.proofs.StepLaws.{row_changes}
use Rattle.asm_core.specs.declared.reg.Reg.{Reg}
use Rattle.asm_core.specs.declared.reg.Slice.{Slice}
use Rattle.asm_core.specs.declared.flag.Flag.{Flag}
use Rattle.asm_core.specs.declared.inst.Width.{Width}
use Rattle.asm_core.specs.declared.inst.InstArg.{InstArg}
use Rattle.asm_core.specs.declared.sym.Arg.{Arg}
use Rattle.asm_core.specs.declared.sym.Sym.{Sym}
use Rattle.asm_core.specs.declared.placement.Base.{Base}
use Rattle.asm_core.specs.declared.placement.Form.{Form}
use Rattle.asm_core.specs.declared.placement.Placement.{Placement}
use Rattle.asm_core.specs.declared.micro_op.Bytes.{Bytes}
use Rattle.asm_core.specs.declared.micro_op.Site.{Site}
use Rattle.asm_core.specs.declared.micro_op.Target.{Target}
use Rattle.asm_core.specs.declared.micro_op.Destination.{Destination}
use Rattle.asm_core.specs.declared.micro_op.MicroOp.{MicroOp}
use Rattle.asm_core.specs.declared.row.By.{By}
use Rattle.asm_core.specs.declared.row.Written.{Written}
use Rattle.asm_core.specs.declared.row.Write.{Write}
use Rattle.asm_core.specs.declared.machine.Machine.{Machine}

-- ---- where the bytes of a name are

-- bytes of a name, counted from its first, stand in the register from there on
pub within_first : (w : Width) (slice : Slice) (bytes : Bytes) → HasBytes w slice bytes → first_of (within slice bytes) ≡ first_of (bytes_named slice) + first_of bytes
within_first w Slice.Low8 Bytes.Whole h = refl
within_first w Slice.Low8 Bytes.Byte0 h = refl
within_first w Slice.Low8 Bytes.Byte1 h = refl
within_first w Slice.Low8 Bytes.Byte2 h = refl
within_first w Slice.Low8 Bytes.Byte3 h = refl
within_first w Slice.Low8 Bytes.Low16 h = refl
within_first w Slice.Low8 Bytes.High16 h = refl
within_first w Slice.Low8 Bytes.Upper24 h = refl
within_first w Slice.Low8 Bytes.All h = refl
within_first w Slice.Low16 Bytes.Whole h = refl
within_first w Slice.Low16 Bytes.Byte0 h = refl
within_first w Slice.Low16 Bytes.Byte1 h = refl
within_first w Slice.Low16 Bytes.Byte2 h = refl
within_first w Slice.Low16 Bytes.Byte3 h = refl
within_first w Slice.Low16 Bytes.Low16 h = refl
within_first w Slice.Low16 Bytes.High16 h = refl
within_first w Slice.Low16 Bytes.Upper24 h = refl
within_first w Slice.Low16 Bytes.All h = refl
within_first w Slice.All Bytes.Whole h = refl
within_first w Slice.All Bytes.Byte0 h = refl
within_first w Slice.All Bytes.Byte1 h = refl
within_first w Slice.All Bytes.Byte2 h = refl
within_first w Slice.All Bytes.Byte3 h = refl
within_first w Slice.All Bytes.Low16 h = refl
within_first w Slice.All Bytes.High16 h = refl
within_first w Slice.All Bytes.Upper24 h = refl
within_first w Slice.All Bytes.All h = refl
within_first w Slice.High8 Bytes.Whole h = refl
within_first w Slice.High8 Bytes.Byte0 h = refl
within_first w Slice.High8 Bytes.Byte1 h = absurd (omega arith)
within_first w Slice.High8 Bytes.Byte2 h = absurd (omega arith)
within_first w Slice.High8 Bytes.Byte3 h = absurd (omega arith)
within_first w Slice.High8 Bytes.Low16 h = absurd (omega arith)
within_first w Slice.High8 Bytes.High16 h = absurd (omega arith)
within_first w Slice.High8 Bytes.Upper24 h = absurd (omega arith)
within_first w Slice.High8 Bytes.All h = absurd (omega arith)

pub within_count : (w : Width) (slice : Slice) (bytes : Bytes) → HasBytes w slice bytes → count_of Width.L (within slice bytes) ≡ count_of w bytes
within_count w slice Bytes.Whole h = h
within_count w Slice.High8 Bytes.Byte0 h = refl
within_count w Slice.High8 Bytes.Byte1 h = absurd (omega arith)
within_count w Slice.High8 Bytes.Byte2 h = absurd (omega arith)
within_count w Slice.High8 Bytes.Byte3 h = absurd (omega arith)
within_count w Slice.High8 Bytes.Low16 h = absurd (omega arith)
within_count w Slice.High8 Bytes.High16 h = absurd (omega arith)
within_count w Slice.High8 Bytes.Upper24 h = absurd (omega arith)
within_count w Slice.High8 Bytes.All h = absurd (omega arith)
within_count w Slice.Low8 Bytes.Byte0 h = refl
within_count w Slice.Low8 Bytes.Byte1 h = refl
within_count w Slice.Low8 Bytes.Byte2 h = refl
within_count w Slice.Low8 Bytes.Byte3 h = refl
within_count w Slice.Low8 Bytes.Low16 h = refl
within_count w Slice.Low8 Bytes.High16 h = refl
within_count w Slice.Low8 Bytes.Upper24 h = refl
within_count w Slice.Low8 Bytes.All h = refl
within_count w Slice.Low16 Bytes.Byte0 h = refl
within_count w Slice.Low16 Bytes.Byte1 h = refl
within_count w Slice.Low16 Bytes.Byte2 h = refl
within_count w Slice.Low16 Bytes.Byte3 h = refl
within_count w Slice.Low16 Bytes.Low16 h = refl
within_count w Slice.Low16 Bytes.High16 h = refl
within_count w Slice.Low16 Bytes.Upper24 h = refl
within_count w Slice.Low16 Bytes.All h = refl
within_count w Slice.All Bytes.Byte0 h = refl
within_count w Slice.All Bytes.Byte1 h = refl
within_count w Slice.All Bytes.Byte2 h = refl
within_count w Slice.All Bytes.Byte3 h = refl
within_count w Slice.All Bytes.Low16 h = refl
within_count w Slice.All Bytes.High16 h = refl
within_count w Slice.All Bytes.Upper24 h = refl
within_count w Slice.All Bytes.All h = refl

-- bytes of a register that is used unasked, counted from the first of the least name that has them
pub sized_first : (w : Width) (bytes : Bytes) → first_of (sized w bytes) ≡ first_of (bytes_named (slice_with (sized w bytes))) + first_in_name bytes
sized_first Width.B Bytes.Whole = refl
sized_first Width.B Bytes.Byte0 = refl
sized_first Width.B Bytes.Byte1 = refl
sized_first Width.B Bytes.Byte2 = refl
sized_first Width.B Bytes.Byte3 = refl
sized_first Width.B Bytes.Low16 = refl
sized_first Width.B Bytes.High16 = refl
sized_first Width.B Bytes.Upper24 = refl
sized_first Width.B Bytes.All = refl
sized_first Width.W Bytes.Whole = refl
sized_first Width.W Bytes.Byte0 = refl
sized_first Width.W Bytes.Byte1 = refl
sized_first Width.W Bytes.Byte2 = refl
sized_first Width.W Bytes.Byte3 = refl
sized_first Width.W Bytes.Low16 = refl
sized_first Width.W Bytes.High16 = refl
sized_first Width.W Bytes.Upper24 = refl
sized_first Width.W Bytes.All = refl
sized_first Width.L Bytes.Whole = refl
sized_first Width.L Bytes.Byte0 = refl
sized_first Width.L Bytes.Byte1 = refl
sized_first Width.L Bytes.Byte2 = refl
sized_first Width.L Bytes.Byte3 = refl
sized_first Width.L Bytes.Low16 = refl
sized_first Width.L Bytes.High16 = refl
sized_first Width.L Bytes.Upper24 = refl
sized_first Width.L Bytes.All = refl
sized_first Width.Q Bytes.Whole = refl
sized_first Width.Q Bytes.Byte0 = refl
sized_first Width.Q Bytes.Byte1 = refl
sized_first Width.Q Bytes.Byte2 = refl
sized_first Width.Q Bytes.Byte3 = refl
sized_first Width.Q Bytes.Low16 = refl
sized_first Width.Q Bytes.High16 = refl
sized_first Width.Q Bytes.Upper24 = refl
sized_first Width.Q Bytes.All = refl

pub sized_count : (w : Width) (bytes : Bytes) → count_of Width.L (sized w bytes) ≡ count_of w (sized w bytes)
sized_count Width.B Bytes.Whole = refl
sized_count Width.B Bytes.Byte0 = refl
sized_count Width.B Bytes.Byte1 = refl
sized_count Width.B Bytes.Byte2 = refl
sized_count Width.B Bytes.Byte3 = refl
sized_count Width.B Bytes.Low16 = refl
sized_count Width.B Bytes.High16 = refl
sized_count Width.B Bytes.Upper24 = refl
sized_count Width.B Bytes.All = refl
sized_count Width.W Bytes.Whole = refl
sized_count Width.W Bytes.Byte0 = refl
sized_count Width.W Bytes.Byte1 = refl
sized_count Width.W Bytes.Byte2 = refl
sized_count Width.W Bytes.Byte3 = refl
sized_count Width.W Bytes.Low16 = refl
sized_count Width.W Bytes.High16 = refl
sized_count Width.W Bytes.Upper24 = refl
sized_count Width.W Bytes.All = refl
sized_count Width.L Bytes.Whole = refl
sized_count Width.L Bytes.Byte0 = refl
sized_count Width.L Bytes.Byte1 = refl
sized_count Width.L Bytes.Byte2 = refl
sized_count Width.L Bytes.Byte3 = refl
sized_count Width.L Bytes.Low16 = refl
sized_count Width.L Bytes.High16 = refl
sized_count Width.L Bytes.Upper24 = refl
sized_count Width.L Bytes.All = refl
sized_count Width.Q Bytes.Whole = refl
sized_count Width.Q Bytes.Byte0 = refl
sized_count Width.Q Bytes.Byte1 = refl
sized_count Width.Q Bytes.Byte2 = refl
sized_count Width.Q Bytes.Byte3 = refl
sized_count Width.Q Bytes.Low16 = refl
sized_count Width.Q Bytes.High16 = refl
sized_count Width.Q Bytes.Upper24 = refl
sized_count Width.Q Bytes.All = refl

some_bytes : (bytes : Bytes) → 0 < count_of Width.L bytes
some_bytes Bytes.Whole = omega arith
some_bytes Bytes.Byte0 = omega arith
some_bytes Bytes.Byte1 = omega arith
some_bytes Bytes.Byte2 = omega arith
some_bytes Bytes.Byte3 = omega arith
some_bytes Bytes.Low16 = omega arith
some_bytes Bytes.High16 = omega arith
some_bytes Bytes.Upper24 = omega arith
some_bytes Bytes.All = omega arith

-- ---- what is hit is told

module _ (p : Placement) (m : Machine) (by : By) where
  -- bytes of a register, from the first that the name names on
  register_told : (arg : Arg) (r : Reg) (slice : Slice) (first count : ℕ) (bytes : Bytes) (c : Component) → operand_under p arg ≡ Some (InstArg.Register r slice)
      → first_of bytes ≡ first_of (bytes_named slice) + first → count_of Width.L bytes ≡ count → IsHit (Destination.Register r bytes) c → IsTold p m (record { to = Written.Arg arg; first = first; count = count; by = by }) c
  register_told arg r slice first count bytes c is at many hit = by_component c hit
    where
      byte_told : (q : Reg) (o : ℕ) → r ≡ q → o < count → IsToldByte p m (record { to = Written.Arg arg; first = first; count = count; by = by }) (Component.RegisterByte q (first_of (bytes_named slice) + (first + o)))
      byte_told q o same small = (o, small, ap (λ x. operand_byte x (first + o) m) is ∙ ap (λ x. Some (Component.RegisterByte x (first_of (bytes_named slice) + (first + o)))) same)

      by_component : (c : Component) → IsHit (Destination.Register r bytes) c → IsTold p m (record { to = Written.Arg arg; first = first; count = count; by = by }) c
      by_component (Component.WholeRegister q) hit = let some = some_bytes bytes in (first_of (bytes_named slice) + (first + 0), byte_told q 0 hit (omega arith))
      by_component (Component.RegisterByte q j) hit =
          let low : first_of bytes ≤ j = hit.1.0 in
          let high : j < first_of bytes + count_of Width.L bytes = hit.1.1 in
          let same : first_of (bytes_named slice) + (first + (j - first_of bytes)) ≡ j = omega arith in
          subst (λ k. IsToldByte p m (record { to = Written.Arg arg; first = first; count = count; by = by }) (Component.RegisterByte q k)) same (byte_told q (j - first_of bytes) hit.0 (omega arith))
      by_component (Component.FlagBit f) hit = absurd hit
      by_component (Component.MemoryByte a) hit = absurd hit
      by_component (Component.ScratchByte j) hit = absurd hit
      by_component Component.Depth hit = absurd hit
      by_component Component.Esp hit = absurd hit

  -- bytes of memory at an operand's address
  memory_told : (arg : Arg) (form : Form) (k : Option ℕ) (first count a : ℕ) (c : Component) → operand_under p arg ≡ Some (InstArg.Address form k)
      → ((o : ℕ) → (a + o) % 2 ^ 32 ≡ (address_of form m + (first + o)) % 2 ^ 32) → IsHit (Destination.Memory a count) c → IsTold p m (record { to = Written.Arg arg; first = first; count = count; by = by }) c
  memory_told arg form k first count a c is at hit = by_component c hit
    where
      by_component : (c : Component) → IsHit (Destination.Memory a count) c → IsTold p m (record { to = Written.Arg arg; first = first; count = count; by = by }) c
      by_component (Component.MemoryByte x) hit = (hit.0, hit.1, ap (λ y. operand_byte y (first + hit.0) m) is ∙ ap (λ y. Some (Component.MemoryByte y)) (sym (hit.2 ∙ at hit.0)))
      by_component (Component.WholeRegister q) hit = absurd hit
      by_component (Component.RegisterByte q j) hit = absurd hit
      by_component (Component.FlagBit f) hit = absurd hit
      by_component (Component.ScratchByte j) hit = absurd hit
      by_component Component.Depth hit = absurd hit
      by_component Component.Esp hit = absurd hit

  flag_told : (c : Component) (f : Flag) → IsHit (Destination.Flag f) c → IsTold p m (record { to = Written.Flag f; first = 0; count = 1; by = by }) c
  flag_told (Component.FlagBit g) f hit = (0, omega arith, ap (λ x. Some (Component.FlagBit x)) hit)
  flag_told (Component.WholeRegister q) f hit = absurd hit
  flag_told (Component.RegisterByte q j) f hit = absurd hit
  flag_told (Component.MemoryByte a) f hit = absurd hit
  flag_told (Component.ScratchByte j) f hit = absurd hit
  flag_told Component.Depth f hit = absurd hit
  flag_told Component.Esp f hit = absurd hit

  push_told : (c : Component) → IsHit (Destination.Push m.scratch_top) c → IsTold p m (record { to = Written.Push; first = 0; count = 4; by = by }) c
  push_told (Component.ScratchByte j) hit =
      let low : 4 * m.scratch_top ≤ j = hit.0 in
      let high : j < 4 * m.scratch_top + 4 = hit.1 in
      let same : 4 * m.scratch_top + (0 + (j - 4 * m.scratch_top)) ≡ j = omega arith in
      (j - 4 * m.scratch_top, omega arith, ap (λ x. Some (Component.ScratchByte x)) same)
  push_told Component.Depth hit = tt
  push_told Component.Esp hit = tt
  push_told (Component.WholeRegister q) hit = absurd hit
  push_told (Component.RegisterByte q j) hit = absurd hit
  push_told (Component.FlagBit f) hit = absurd hit
  push_told (Component.MemoryByte a) hit = absurd hit

  pop_told : (c : Component) → IsHit (Destination.Pop m.scratch_top) c → IsTold p m (record { to = Written.Pop; first = 0; count = 0; by = by }) c
  pop_told Component.Depth hit = tt
  pop_told Component.Esp hit = tt
  pop_told (Component.WholeRegister q) hit = absurd hit
  pop_told (Component.RegisterByte q j) hit = absurd hit
  pop_told (Component.FlagBit f) hit = absurd hit
  pop_told (Component.MemoryByte a) hit = absurd hit
  pop_told (Component.ScratchByte j) hit = absurd hit

  none_hit : (c : Component) → IsHit Destination.Nowhere c → ⊥
  none_hit c hit = hit

  -- an operand of the line
  argument_told : (s : Sym) (arg : Arg) (bytes : Bytes) (c : Component) → FitsOperand s.width bytes (operand_under p arg) → IsHit (arg_destination s.width bytes (operand_under p arg) m) c
      → IsTold p m (record { to = Written.Arg arg; first = first_of bytes; count = count_of s.width bytes; by = by }) c
  argument_told s arg bytes c fits hit = by_place (operand_under p arg) refl fits hit
    where
      by_place : (o : Option InstArg) → operand_under p arg ≡ o → FitsOperand s.width bytes o → IsHit (arg_destination s.width bytes o m) c → IsTold p m (record { to = Written.Arg arg; first = first_of bytes; count = count_of s.width bytes; by = by }) c
      by_place (Some (InstArg.Register r slice)) is fits hit =
          register_told arg r slice (first_of bytes) (count_of s.width bytes) (within slice bytes) c is (within_first s.width slice bytes fits) (within_count s.width slice bytes fits) hit
      by_place (Some (InstArg.Address form k)) is fits hit =
          memory_told arg form k (first_of bytes) (count_of s.width bytes) ((address_of form m + first_of bytes) % 2 ^ 32) c is (λ o. modulo_sum (address_of form m) (first_of bytes) o) hit
        where
          modulo_sum : (a b o : ℕ) → ((a + b) % 2 ^ 32 + o) % 2 ^ 32 ≡ (a + (b + o)) % 2 ^ 32
          modulo_sum a b o = omega arith
      by_place (Some (InstArg.Number n)) is fits hit = absurd (none_hit c hit)
      by_place (Some (InstArg.Label n)) is fits hit = absurd (none_hit c hit)
      by_place None is fits hit = absurd (none_hit c hit)

-- ---- a site, a target, a row

module _ (p : Placement) (s : Sym) (m : Machine) where
  -- an operand of the instruction is the line's under the placement; where there is none, nothing is hit
  site_told : (by : By) (site : Site) (c : Component) → FitsSite p s site → IsHit (site_destination (inst_under p s) m site) c → IsTold p m (write_to_site s by site) c
  site_told by (Site.Argument k bytes) c fits hit = by_number k fits hit
    where
      by_arg : (o : Option Arg) → FitsOperand s.width bytes (operand_at p o) → IsHit (arg_destination s.width bytes (operand_at p o) m) c
          → IsTold p m (record { to = Written.Arg (arg_or_zero o); first = first_of bytes; count = count_of s.width bytes; by = by }) c
      by_arg None fits hit = absurd hit
      by_arg (Some arg) fits hit = argument_told p m by s arg bytes c fits hit

      by_number : (k : ℕ) → FitsOperand s.width bytes (operand_at p (slice_get s.args k)) → IsHit (arg_destination s.width bytes (arg_at (inst_under p s) k) m) c
          → IsTold p m (record { to = Written.Arg (line_arg s k); first = first_of bytes; count = count_of s.width bytes; by = by }) c
      by_number zero fits hit = by_arg (slice_get s.args 0) fits hit
      by_number (suc zero) fits hit = by_arg (slice_get s.args 1) fits hit
      by_number (suc (suc zero)) fits hit = by_arg (slice_get s.args 2) fits hit
      by_number (suc (suc (suc k))) fits hit = absurd hit
  site_told by (Site.Register r bytes) c fits hit =
      register_told p m by (register_arg_of r (slice_with (sized s.width bytes))) r (slice_with (sized s.width bytes)) (first_in_name bytes) (count_of s.width (sized s.width bytes)) (sized s.width bytes) c refl
      (sized_first s.width bytes) (sized_count s.width bytes) hit
  site_told by (Site.Pointed r) c fits hit =
      memory_told p m by (pointed_arg r) (record { disp = pos 0; base = Some (Base.Reg r); index = None }) None 0 (bits_of s.width / 8) (reg_in r m) c refl (λ o. at_register (reg_in r m) o) hit
    where
      at_register : (a o : ℕ) → (a + o) % 2 ^ 32 ≡ ((0 % 2 ^ 32 + a + 0) % 2 ^ 32 + (0 + o)) % 2 ^ 32
      at_register a o = omega arith
  site_told by (Site.Flag f) c fits hit = flag_told p m by c f hit

  target_told : (op : MicroOp) (c : Component) → FitsTarget p s op.target → IsHit (destination_of (inst_under p s) m op.target) c → (w : Write) × (write_of s op ≡ Some w) × IsTold p m w c
  target_told op c fits hit = by_target op.target fits hit
    where
      by_target : (t : Target) → FitsTarget p s t → IsHit (destination_of (inst_under p s) m t) c → (w : Write) × (write_to s (by_of s op.function op.x) t ≡ Some w) × IsTold p m w c
      by_target (Target.Site site) fits hit = (write_to_site s (by_of s op.function op.x) site, refl, site_told (by_of s op.function op.x) site c fits hit)
      by_target Target.Push fits hit = (record { to = Written.Push; first = 0; count = 4; by = by_of s op.function op.x }, refl, push_told p m (by_of s op.function op.x) c hit)
      by_target Target.Pop fits hit = (record { to = Written.Pop; first = 0; count = 0; by = by_of s op.function op.x }, refl, pop_told p m (by_of s op.function op.x) c hit)
      by_target t fits hit = absurd hit

  -- what is hit at a row's destinations, the row's writes tell
  pub hit_is_told : (row : List MicroOp) (c : Component) → FitsTargets p s row → IsHitByOne (destinations_of (inst_under p s) m row) c → IsToldByOne p m (writes_of row s) c
  hit_is_told [] c fits hit = absurd hit
  hit_is_told (op ∷ ops) c fits (inl hit) =
      let told = target_told op c fits.0 hit in
      subst (λ o. IsToldByOne p m (cons_option o (writes_of ops s)) c) (sym told.1) (inl told.2)
  hit_is_told (op ∷ ops) c fits (inr hit) = by_write (write_of s op) (hit_is_told ops c fits.1 hit)
    where
      by_write : (o : Option Write) → IsToldByOne p m (writes_of ops s) c → IsToldByOne p m (cons_option o (writes_of ops s)) c
      by_write None told = told
      by_write (Some w) told = inr told

  -- the first law, in the words of the line's writes
  pub changes_what_is_told : (row : List MicroOp) (goal choice : ℕ) (words : List ℕ) → FitsTargets p s row → HoldsAfter (ChangesOnly (IsToldByOne p m (writes_of row s)) m) (row_ended row (inst_under p s) goal choice words m)
  changes_what_is_told row goal choice words fits =
      holds_after_then (ChangesOnly (IsHitByOne (destinations_of (inst_under p s) m row)) m) (ChangesOnly (IsToldByOne p m (writes_of row s)) m) (row_ended row (inst_under p s) goal choice words m)
      (λ next h. record { components = λ c missed. h.components c (λ hit. missed (hit_is_told row c fits hit)); layouts = h.layouts })
      (row_changes row (inst_under p s) goal (values_of s.width (read_in (inst_under p s) choice words m) row) m)
