-- Where an instruction of the table writes, its values are left, also where it is repeated and over.
use Rattle.std.proofs.Common.{◌≡◌, inl, inr, ℕ, zero, suc, ◌+◌, ◌*◌, ◌/◌, ◌%◌, ◌^◌, ◌<◌, ◌≤◌, not, List, [], ◌∷◌, length, slice_get, slice_index, Bool, true, false, if◌then◌else◌, Option, None, Some, refl, ap, sym, subst, ◌∙◌, arith}
use Rattle.std.specs.List.{list_all}
use Rattle.std.proofs.lemmas.Option.{slice_get_past}
use Rattle.asm_core.specs.Entries.{slice_with, arg_or_zero, first_in_name, is_write, known_in, write_to_site, write_of, writes_of, write_to, by_of}
use Rattle.asm_core.specs.Flag.{flag_in}
use Rattle.asm_core.specs.Function.{bits_of, bit}
use Rattle.asm_core.specs.Machine.{IsMachine, reg_in, byte_at}
use Rattle.asm_core.specs.Memory.{address_of}
use Rattle.asm_core.specs.MicroOps.{Stepped, first_of, count_of, sized, bytes_named, within, arg_at, read_arg, read_site, read_in, values_of, is_good_op, is_over, divides, takes_outside, moved, written, row_ended}
use Rattle.asm_core.specs.Reading.Placed.{operand_under, operand_at, inst_under}
use Rattle.asm_core.specs.RowLaws.{Component, component_in, byte_of, nth_byte, operand_byte, written_byte, held, byte_by, ChangesOnly, IsToldByOne, FitsOperand, FitsSite, FitsTarget, FitsTargets, FitsCopies, LeavesValues, LeavesCopies}
use Rattle.asm_core.specs.Rows.{line_row}
use Rattle.asm_core.specs.Steps.{IsAfter, Stand, reads_at, AgreesOnWrites}
use Rattle.asm_core.proofs.BytesRead.{part_byte, word_byte}
use Rattle.asm_core.proofs.CopyLaws.{leaves_values, leaves_copies}
use Rattle.asm_core.proofs.DecideLaws.{holds_of}
use Rattle.asm_core.proofs.FactLaws.{names_decide, reads_known}
use Rattle.asm_core.proofs.StepLaws.{at_kept}
use Rattle.asm_core.proofs.WriteLaws.{within_first, within_count, sized_first, sized_count, changes_what_is_told}
use Rattle.x86_table.specs.TableLaws.{IsStepped, TellsSteps}
use Rattle.x86_table.proofs.Turns.{Guards, IsTurnRow, kept_value}
use Rattle.x86_table.proofs.TableTurns.{HasTurn}
use Rattle.asm_core.specs.declared.flag.Flag.{Flag}
use Rattle.asm_core.specs.declared.reg.Reg.{Reg}
use Rattle.asm_core.specs.declared.inst.InstArg.{InstArg}
use Rattle.asm_core.specs.declared.sym.Arg.{Arg}
use Rattle.asm_core.specs.declared.sym.Sym.{Sym}
use Rattle.asm_core.specs.declared.placement.Placement.{Placement}
use Rattle.asm_core.specs.declared.micro_op.Bytes.{Bytes}
use Rattle.asm_core.specs.declared.micro_op.Site.{Site}
use Rattle.asm_core.specs.declared.micro_op.Target.{Target}
use Rattle.asm_core.specs.declared.micro_op.MicroOp.{MicroOp}
use Rattle.asm_core.specs.declared.row.By.{By}
use Rattle.asm_core.specs.declared.row.Write.{Write}
use Rattle.asm_core.specs.declared.row.Written.{Written}
use Rattle.asm_core.specs.declared.machine.Fault.{Fault}
use Rattle.asm_core.specs.declared.machine.Machine.{Machine}

is_a_write : (s : Sym) (op : MicroOp) (w : Write) → write_of s op ≡ Some w → is_write op.target ≡ true
is_a_write s op w is = by_target op.target is
  where
    by_target : (t : Target) → write_to s (by_of s op.function op.x) t ≡ Some w → is_write t ≡ true
    by_target (Target.Site site) is = refl
    by_target Target.Push is = refl
    by_target Target.Pop is = refl
    by_target t is = cc

module _ (p : Placement) (s : Sym) (m : Machine) (is_machine : IsMachine m) (few : length s.args ≤ 3) where
  fits_at : (row : List MicroOp) (k : ℕ) (op : MicroOp) → FitsTargets p s row → slice_get row k ≡ Some op → FitsTarget p s op.target
  fits_at [] k op fits at = cc
  fits_at (first ∷ row) zero op fits at = let same : first ≡ op = cc in subst (λ (x : MicroOp). FitsTarget p s x.target) same fits.0
  fits_at (first ∷ row) (suc k) op fits at = fits_at row k op fits.1 at

  -- ---- a site holds what is read there

  abbrev Holds : Component → ℕ → ℕ → Type 0
  Holds c o v = component_in c m ≡ held c (nth_byte o v)

  operand_holds : (o : ℕ) (bytes : Bytes) (c : Component) (x : Option InstArg) → FitsOperand s.width bytes x → o < count_of s.width bytes → operand_byte x (first_of bytes + o) m ≡ Some c → Holds c o (read_arg s.width bytes x m)
  operand_holds o bytes c (Some (InstArg.Register r slice)) fits small here =
      let same : Component.RegisterByte r (first_of (bytes_named slice) + (first_of bytes + o)) ≡ c = cc in
      let many = within_count s.width slice bytes fits in
      subst (λ c. Holds c o (part_read r)) same (sym (part_byte (within slice bytes) o (reg_in r m) (omega arith) ∙ ap (λ n. byte_of n (reg_in r m)) (grouped (within_first s.width slice bytes fits))))
    where
      part_read : Reg → ℕ
      part_read r = read_arg s.width bytes (Some (InstArg.Register r slice)) m

      grouped : first_of (within slice bytes) ≡ first_of (bytes_named slice) + first_of bytes → first_of (within slice bytes) + o ≡ first_of (bytes_named slice) + (first_of bytes + o)
      grouped e = omega arith
  operand_holds o bytes c (Some (InstArg.Address form k)) fits small here =
      let same : Component.MemoryByte ((address_of form m + (first_of bytes + o)) % 2 ^ 32) ≡ c = cc in
      subst (λ c. Holds c o (read_arg s.width bytes (Some (InstArg.Address form k)) m)) same
      (sym (word_byte (count_of s.width bytes) o (address_of form m + first_of bytes) m.ranges is_machine.ranges small ∙ ap (λ x. byte_at m.ranges (x % 2 ^ 32)) grouped))
    where
      grouped : address_of form m + first_of bytes + o ≡ address_of form m + (first_of bytes + o)
      grouped = omega arith
  operand_holds o bytes c (Some (InstArg.Number n)) fits small here = cc
  operand_holds o bytes c (Some (InstArg.Label n)) fits small here = cc
  operand_holds o bytes c None fits small here = cc

  arg_holds : (o : ℕ) (bytes : Bytes) (c : Component) (x : Option Arg) → FitsOperand s.width bytes (operand_at p x) → o < count_of s.width bytes → operand_byte (operand_under p (arg_or_zero x)) (first_of bytes + o) m ≡ Some c
      → Holds c o (read_arg s.width bytes (operand_at p x) m)
  arg_holds o bytes c None fits small here = cc
  arg_holds o bytes c (Some arg) fits small here = operand_holds o bytes c (operand_under p arg) fits small here

  arg_placed : (k : ℕ) → operand_at p (slice_get s.args k) ≡ arg_at (inst_under p s) k
  arg_placed zero = refl
  arg_placed (suc zero) = refl
  arg_placed (suc (suc zero)) = refl
  arg_placed (suc (suc (suc k))) = ap (operand_at p) (slice_get_past s.args (suc (suc (suc k))) (omega arith))

  flag_holds : (f : Flag) (o : ℕ) → o < 1 → Holds (Component.FlagBit f) o (bit (flag_in f m.flags))
  flag_holds f zero small = by_bit (flag_in f m.flags)
    where
      by_bit : (b : Bool) → bit b ≡ bit b % 256 % 2
      by_bit true = refl
      by_bit false = refl
  flag_holds f (suc o) small = absurd (omega arith)

  site_holds : (by : By) (site : Site) (o : ℕ) (c : Component) → FitsSite p s site → o < (write_to_site s by site).count → written_byte p m (write_to_site s by site).to ((write_to_site s by site).first + o) ≡ Some c
      → Holds c o (read_site (inst_under p s) m site)
  site_holds by (Site.Argument k bytes) o c fits small here = arg_holds o bytes c (slice_get s.args k) fits small here ∙ ap (λ x. held c (nth_byte o (read_arg s.width bytes x m))) (arg_placed k)
  site_holds by (Site.Register r bytes) o c fits small here =
      let same : Component.RegisterByte r (first_of (bytes_named (slice_with (sized s.width bytes))) + (first_in_name bytes + o)) ≡ c = cc in
      let many = sized_count s.width bytes in
      subst (λ c. Holds c o (read_site (inst_under p s) m (Site.Register r bytes))) same (sym (part_byte (sized s.width bytes) o (reg_in r m) (omega arith) ∙ ap (λ x. byte_of x (reg_in r m)) (grouped (sized_first s.width bytes))))
    where
      grouped : first_of (sized s.width bytes) ≡ first_of (bytes_named (slice_with (sized s.width bytes))) + first_in_name bytes
          → first_of (sized s.width bytes) + o ≡ first_of (bytes_named (slice_with (sized s.width bytes))) + (first_in_name bytes + o)
      grouped e = omega arith
  site_holds by (Site.Pointed r) o c fits small here =
      let same : Component.MemoryByte (((0 % 2 ^ 32 + reg_in r m + 0) % 2 ^ 32 + (0 + o)) % 2 ^ 32) ≡ c = cc in
      subst (λ c. Holds c o (read_site (inst_under p s) m (Site.Pointed r))) same (sym (word_byte (bits_of s.width / 8) o (reg_in r m) m.ranges is_machine.ranges small ∙ ap (byte_at m.ranges) (at_register (reg_in r m) o)))
    where
      at_register : (a o : ℕ) → (a + o) % 2 ^ 32 ≡ ((0 % 2 ^ 32 + a + 0) % 2 ^ 32 + (0 + o)) % 2 ^ 32
      at_register a o = omega arith
  site_holds by (Site.Flag f) o c fits small here =
      let same : Component.FlagBit f ≡ c = cc in subst (λ c. Holds c o (read_site (inst_under p s) m (Site.Flag f))) same (flag_holds f o small)

  -- ---- a step that is over

  over_leaves : (row : List MicroOp) (n choice : ℕ) (words : List ℕ) → IsTurnRow n row → FitsTargets p s row → is_over row (values_of s.width (read_in (inst_under p s) choice words m) row) ≡ true
      → LeavesValues p s row (values_of s.width (read_in (inst_under p s) choice words m) row) m (record m { at = m.at + 1 })
  over_leaves row n choice words turn fits over k o w c last =
      let write = is_a_write s last.op w last.is_write in
      let guards = turn.writes k last.op last.is_op write in
      let same = told guards last.is_write in
      at_kept c m (m.at + 1)
      ∙ site_holds By.Named guards.site o c (subst (λ (x : MicroOp). FitsTarget p s x.target) guards.is (fits_at row k last.op fits last.is_op)) (subst (λ (x : Write). o < x.count) same last.within)
      (subst (λ (x : Write). written_byte p m x.to (x.first + o) ≡ Some c) same last.here)
      ∙ ap (λ v. held c (nth_byte o v))
      (sym (kept_value s.width (read_in (inst_under p s) choice words m) row n k last.op guards last.is_op (turn.later k last.op last.is_op write) (turn.over (values_of s.width (read_in (inst_under p s) choice words m) row) over)))
    where
      told : (guards : Guards n last.op) → write_of s last.op ≡ Some w → w ≡ write_to_site s By.Named guards.site
      told guards is = let placed : Some (write_to_site s By.Named guards.site) ≡ Some w = sym (ap (write_of s) guards.is) ∙ is in cc

  over_left : (row : List MicroOp) (n goal choice : ℕ) (words : List ℕ) (after : Machine) → IsTurnRow n row → FitsTargets p s row → is_over row (values_of s.width (read_in (inst_under p s) choice words m) row) ≡ true
      → IsAfter (row_ended row (inst_under p s) goal choice words m) after → LeavesValues p s row (values_of s.width (read_in (inst_under p s) choice words m) row) m after
  over_left row n goal choice words after turn fits over step = subst (LeavesValues p s row vs m) (sym ends) (over_leaves row n choice words turn fits over)
    where
      vs : List ℕ
      vs = values_of s.width (read_in (inst_under p s) choice words m) row

      ends : after ≡ record m { at = m.at + 1 }
      ends = subst (λ over. IsAfter (if over then Stepped.Moved (record m { at = m.at + 1 }) else if not (list_all (is_good_op (inst_under p s) m) row) then Stepped.Faulted Fault.Access else if divides row vs then Stepped.Faulted Fault.Divide else moved (takes_outside row) (written row (inst_under p s) goal vs m)) after) over step

  -- a step that is no fault, over or not
  row_leaves : (row : List MicroOp) (goal choice : ℕ) (words : List ℕ) (after : Machine) → HasTurn row → FitsTargets p s row → IsAfter (row_ended row (inst_under p s) goal choice words m) after
      → LeavesValues p s row (values_of s.width (read_in (inst_under p s) choice words m) row) m after
  row_leaves row goal choice words after has fits step = by_turn has
    where
      vs : List ℕ
      vs = values_of s.width (read_in (inst_under p s) choice words m) row

      goes_on : is_over row vs ≡ false → LeavesValues p s row vs m after
      goes_on e = holds_of (LeavesValues p s row vs m) (row_ended row (inst_under p s) goal choice words m) after (leaves_values p s m row goal choice words is_machine fits e) step

      by_over : (n : ℕ) → IsTurnRow n row → (over : Bool) → is_over row vs ≡ over → LeavesValues p s row vs m after
      by_over n turn false e = goes_on e
      by_over n turn true e = over_left row n goal choice words after turn fits e step

      by_turn : HasTurn row → LeavesValues p s row vs m after
      by_turn (inl never) = goes_on (never vs)
      by_turn (inr (n, turn)) = by_over n turn (is_over row vs) refl

-- ---- two steps

operand_held : (x : Option InstArg) (m : Machine) (o v : ℕ) (c : Component) → operand_byte x o m ≡ Some c → held c v ≡ v
operand_held (Some (InstArg.Register r slice)) m o v c is = let same : Component.RegisterByte r (first_of (bytes_named slice) + o) ≡ c = cc in ap (λ x. held x v) (sym same)
operand_held (Some (InstArg.Address form k)) m o v c is = let same : Component.MemoryByte ((address_of form m + o) % 2 ^ 32) ≡ c = cc in ap (λ x. held x v) (sym same)
operand_held x m o v c is = cc

-- what a write's bytes hold of a value, wherever they are
abbrev held_of : Written → ℕ → ℕ
held_of (Written.Flag f) v = v % 2
held_of to v = v

held_as : (p : Placement) (m : Machine) (to : Written) (o v : ℕ) (c : Component) → written_byte p m to o ≡ Some c → held c v ≡ held_of to v
held_as p m (Written.Flag f) o v c is = let same : Component.FlagBit f ≡ c = cc in ap (λ x. held x v) (sym same)
held_as p m (Written.Arg arg) o v c is = operand_held (operand_under p arg) m o v c is
held_as p m Written.Push o v c is = let same : Component.ScratchByte (4 * m.scratch_top + o) ≡ c = cc in ap (λ x. held x v) (sym same)
held_as p m Written.Pop o v c is = cc

-- ---- a row that steps as the line's does

-- A line's step is by that row too, whose operands are there where those of the line's row are.
pub record Serves (s : Sym) (row : List MicroOp) : Type 0 where
  pub turn : HasTurn row
  pub fits : (p : Placement) → FitsTargets p s (line_row s) → FitsTargets p s row
  pub copies : (p : Placement) → FitsCopies p s (line_row s) → FitsCopies p s row
  pub step : (x : Stand) → IsAfter (row_ended (line_row s) (inst_under x.at s) x.goal x.choice x.words x.before) x.after → IsAfter (row_ended row (inst_under x.at s) x.goal x.choice x.words x.before) x.after

module _ (s : Sym) (row : List MicroOp) (few : length s.args ≤ 3) (serves : Serves s row) where
  changes : (x : Stand) → IsStepped s x → ChangesOnly (IsToldByOne x.at x.before (writes_of row s)) x.before x.after
  changes x stepped =
      holds_of (ChangesOnly (IsToldByOne x.at x.before (writes_of row s)) x.before) (row_ended row (inst_under x.at s) x.goal x.choice x.words x.before) x.after
      (changes_what_is_told x.at s x.before row x.goal x.choice x.words (serves.fits x.at stepped.fits)) (serves.step x stepped.step)

  values : (x : Stand) → IsStepped s x → LeavesValues x.at s row (values_of s.width (reads_at s x) row) x.before x.after
  values x stepped = row_leaves x.at s x.before stepped.is_machine few row x.goal x.choice x.words x.after serves.turn (serves.fits x.at stepped.fits) (serves.step x stepped.step)

  agrees : (x y : Stand) → IsStepped s x → IsStepped s y → AgreesOnWrites row s x y
  agrees x y stepped_x stepped_y k o w c d last_x last_y agree =
      values x stepped_x k o w c last_x
      ∙ ap (λ v. held c (nth_byte o v)) ((names_decide row s.width (known_in s)).values (reads_at s x) (reads_at s y) k ((reads_known x.at s few).each x.choice x.words x.before) ((reads_known y.at s few).each y.choice y.words y.before) agree)
      ∙ held_as x.at x.before w.to (w.first + o) (nth_byte o (slice_index (values_of s.width (reads_at s y) row) k)) c last_x.here
      ∙ sym (held_as y.at y.before w.to (w.first + o) (nth_byte o (slice_index (values_of s.width (reads_at s y) row) k)) d last_y.here)
      ∙ sym (values y stepped_y k o w d last_y)

  -- what a guarded write leaves is no copy
  none_copied : (n : ℕ) → IsTurnRow n row → (x : Stand) → LeavesCopies x.at s row x.before x.after
  none_copied n turn x k o w c b last is =
      let guards = turn.writes k last.op last.is_op (is_a_write s last.op w last.is_write) in
      let named : Some (write_to_site s By.Named guards.site) ≡ Some w = sym (ap (write_of s) guards.is) ∙ last.is_write in
      let same : write_to_site s By.Named guards.site ≡ w = cc in
      absurd (nothing guards.site (subst (λ (x : Write). byte_by x_at before x.by o ≡ Some b) (sym same) is))
    where
      x_at : Placement
      x_at = x.at

      before : Machine
      before = x.before

      nothing : (site : Site) → byte_by x.at x.before (write_to_site s By.Named site).by o ≡ Some b → ⊥
      nothing (Site.Argument k bytes) e = cc
      nothing (Site.Register r bytes) e = cc
      nothing (Site.Pointed r) e = cc
      nothing (Site.Flag f) e = cc

  copies : (x : Stand) → IsStepped s x → FitsCopies x.at s (line_row s) → LeavesCopies x.at s row x.before x.after
  copies x stepped enough = by_turn serves.turn
    where
      by_turn : HasTurn row → LeavesCopies x.at s row x.before x.after
      by_turn (inl never) =
          holds_of (LeavesCopies x.at s row x.before) (row_ended row (inst_under x.at s) x.goal x.choice x.words x.before) x.after
          (leaves_copies x.at s x.before row x.goal x.choice x.words stepped.is_machine (serves.fits x.at stepped.fits) (serves.copies x.at enough) (never (values_of s.width (reads_at s x) row)))
          (serves.step x stepped.step)
      by_turn (inr (n, turn)) = none_copied n turn x

  pub tells_steps : TellsSteps s row
  tells_steps = record { changes = changes; values = values; writes = agrees; copies = copies }
