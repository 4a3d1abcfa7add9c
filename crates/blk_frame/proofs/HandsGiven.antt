-- The hands of a step give what the step leaves where they are put last.
use Rattle.std.proofs.Common.{◌≡◌, ℕ, zero, suc, ◌+◌, ◌<◌, ◌≤◌, List, [], ◌∷◌, ◌++◌, map, Option, None, Some, slice_get, slice_index, refl, sym, ap, subst, ◌∙◌, arith}
use Rattle.std.specs.List.{range_with_len, cons_option}
use Rattle.asm_core.specs.Entries.{write_to, write_of, writes_of, by_of, line_arg, slice_with, register_arg_of, pointed_arg, first_in_name}
use Rattle.asm_core.specs.MicroOps.{sized}
use Rattle.asm_core.specs.Reading.Placed.{operand_under}
use Rattle.asm_core.specs.RowLaws.{Component, component_in, written_byte, operand_byte, source_byte, held, IsLast, LeavesCopies}
use Rattle.asm_core.specs.Rows.{entry_row}
use Rattle.asm_core.specs.WellFormed.{IsInterface}
use Rattle.asm_core.specs.declared.flag.Flag.{Flag}
use Rattle.asm_core.specs.declared.sym.Sym.{Sym}
use Rattle.asm_core.specs.declared.row.Source.{Source}
use Rattle.asm_core.specs.declared.row.By.{By}
use Rattle.asm_core.specs.declared.row.Write.{Write}
use Rattle.asm_core.specs.declared.micro_op.Site.{Site}
use Rattle.asm_core.specs.declared.micro_op.Input.{Input}
use Rattle.asm_core.specs.declared.micro_op.Target.{Target}
use Rattle.asm_core.specs.declared.micro_op.Function.{Function}
use Rattle.asm_core.specs.declared.micro_op.MicroOp.{MicroOp}
use Rattle.asm_core.specs.declared.shape.Shape.{Shape}
use Rattle.asm_core.specs.declared.interface.Interface.{Interface}
use Rattle.asm_core.specs.declared.inst.InstArg.{InstArg}
use Rattle.asm_core.specs.declared.placement.Placement.{Placement}
use Rattle.asm_core.specs.declared.machine.Machine.{Machine}
use Rattle.blk_frame.specs.World.{Placed, World}
use Rattle.blk_frame.specs.Shown.{IsSeen, Shows, placed_by}
use Rattle.blk_frame.specs.Lines.{hand_for, hands_from, hands_of, CopiesNoFlag}
use Rattle.blk_frame.proofs.LineWrites.{IsThere, register_there}
use Rattle.blk_frame.proofs.RowWrites.{GiveLast, GivesOne, count_in}
use Rattle.blk_frame.proofs.HandValues.{IsByThere, hand_gives}

-- ---- lists

first_part : (f : ℕ → ℕ) (rest : List ℕ) (count from o : ℕ) → o < count
    → slice_get (map f (range_with_len from count) ++ rest) o ≡ Some (f (from + o))
first_part f rest zero from o lt = absurd (omega (arith, lt))
first_part f rest (suc count) from zero lt = ap (λ n. Some (f n)) (omega arith)
first_part f rest (suc count) from (suc o) lt = first_part f rest count (from + 1) o (omega (arith, lt))
    ∙ ap (λ n. Some (f n)) (omega arith)

rest_part : (f : ℕ → ℕ) (rest : List ℕ) (count from n : ℕ)
    → slice_get (map f (range_with_len from count) ++ rest) (count + n) ≡ slice_get rest n
rest_part f rest zero from n = ap (slice_get rest) (omega arith)
rest_part f rest (suc count) from n = ap (slice_get (map f (range_with_len from (suc count)) ++ rest))
    (suc_sum count n) ∙ rest_part f rest count (from + 1) n
  where
    suc_sum : (count n : ℕ) → suc count + n ≡ suc (count + n)
    suc_sum count n = omega arith

at_slice : (vs : List ℕ) (n v : ℕ) → slice_get vs n ≡ Some v → slice_index vs n ≡ v
at_slice [] n v is = cc
at_slice (w ∷ vs) zero v is = ap (λ o. elim o [ None ↦ w | Some q ↦ q ]) is
at_slice (w ∷ vs) (suc n) v is = at_slice vs n v is

begins : (vs more : List ℕ) (n v : ℕ) → slice_get vs n ≡ Some v → slice_get (vs ++ more) n ≡ Some v
begins [] more n v is = cc
begins (w ∷ vs) more zero v is = is
begins (w ∷ vs) more (suc n) v is = begins vs more n v is

-- ---- how a write comes about

module _ (line : Sym) where
  write_by : (target : Target) (by : By) (w : Write) → write_to line by target ≡ Some w → w.by ≡ by
  write_by (Target.Site (Site.Argument k bytes)) by w is = sym (ap (λ o. elim o [ None ↦ by | Some h ↦ h.by ]) is)
  write_by (Target.Site (Site.Register r bytes)) by w is = sym (ap (λ o. elim o [ None ↦ by | Some h ↦ h.by ]) is)
  write_by (Target.Site (Site.Pointed r)) by w is = sym (ap (λ o. elim o [ None ↦ by | Some h ↦ h.by ]) is)
  write_by (Target.Site (Site.Flag f)) by w is = sym (ap (λ o. elim o [ None ↦ by | Some h ↦ h.by ]) is)
  write_by Target.Push by w is = sym (ap (λ o. elim o [ None ↦ by | Some h ↦ h.by ]) is)
  write_by Target.Pop by w is = sym (ap (λ o. elim o [ None ↦ by | Some h ↦ h.by ]) is)
  write_by target by w is = cc

  copy_function : (f : Function) (z : Input) (source : Source) (first : ℕ) → by_of line f z ≡ By.Copy source first
      → f ≡ Function.Copy
  copy_function Function.Copy z source first is = refl
  copy_function Function.Set (Input.Number n) source first is = cc
  copy_function Function.Set z source first is = cc
  copy_function f z source first is = cc

  module _ (p : Placement) (m : Machine) where
    no_flag_byte : (a : Option InstArg) (o : ℕ) (f : Flag) → operand_byte a o m ≡ Some (Component.FlagBit f) → ⊥
    no_flag_byte None o f is = cc
    no_flag_byte (Some (InstArg.Number n)) o f is = cc
    no_flag_byte (Some (InstArg.Label n)) o f is = cc
    no_flag_byte (Some (InstArg.Register r slice)) o f is = cc
    no_flag_byte (Some (InstArg.Address form k)) o f is = cc

    module _ (w : Write) (o : ℕ) (f : Flag)
        (told : written_byte p m w.to (w.first + o) ≡ Some (Component.FlagBit f)) where
      told_at : (v : Write) → Some v ≡ Some w → written_byte p m v.to (v.first + o) ≡ Some (Component.FlagBit f)
      told_at v e = ap (λ q. elim q [
        | None ↦ written_byte p m v.to (v.first + o)
        | Some h ↦ written_byte p m h.to
            (h.first + o)
      ]) e ∙ told

      -- a flag is told by a write of a flag alone
      flag_told : (target : Target) (by : By) → write_to line by target ≡ Some w → CopiesNoFlag Function.Copy target → ⊥
      flag_told (Target.Site (Site.Argument k bytes)) by is none = no_flag_byte
          (operand_under p (line_arg line k)) _ f (told_at _ is)
      flag_told (Target.Site (Site.Register r bytes)) by is none = no_flag_byte
          (operand_under p (register_arg_of r (slice_with (sized line.width bytes)))) (first_in_name bytes + o) f
          (told_at _ is)
      flag_told (Target.Site (Site.Pointed r)) by is none = no_flag_byte (operand_under p (pointed_arg r)) (0 + o) f
          (told_at _ is)
      flag_told (Target.Site (Site.Flag g)) by is none = none
      flag_told Target.Push by is none = let e = told_at _ is in cc
      flag_told Target.Pop by is none = let e = told_at _ is in cc
      flag_told target by is none = cc

module _ (i : Interface) (s : Shape) (p : Placement) (interface : IsInterface i) (before after : Machine) (depth : ℕ)
    (line : Sym) (row : List MicroOp)
    (there : (k : ℕ) → IsThere i s p (line_arg line k)) (at_depth : before.scratch_top ≡ depth)
    (room : (k : ℕ) (op : MicroOp) → slice_get row k ≡ Some op → op.target ≡ Target.Push → depth < 16)
    (few : depth ≤ 16) (w : World) (shows : Shows before w) (copies : LeavesCopies p line row before after)
    (plain : (k : ℕ) (op : MicroOp) → slice_get row k ≡ Some op → CopiesNoFlag op.function op.target) where
  abbrev x : Placed
  x = placed_by i s p

  by_there : (f : Function) (z : Input) → IsByThere i s p interface depth line before after w shows at_depth few
      (by_of line f z)
  by_there Function.Copy (Input.Read (Site.Argument k bytes)) = there k
  by_there Function.Copy (Input.Read (Site.Register r bytes)) = register_there i s p interface before depth 0 0 0
      By.Named r (slice_with (sized line.width bytes))
  by_there Function.Copy (Input.Read (Site.Pointed r)) = tt
  by_there Function.Copy (Input.Read (Site.Flag f)) = tt
  by_there Function.Copy Input.Top = tt
  by_there Function.Copy z = tt
  by_there Function.Set (Input.Number n) = tt
  by_there Function.Set z = tt
  by_there f z = tt

  -- what a copy leaves is the source's byte
  copy_left : (k o : ℕ) (wr : Write) (c : Component) (source : Source) (first : ℕ) → IsSeen c
      → IsLast p line row before k o wr c → wr.by ≡ By.Copy source first
      → component_in c after ≡ source_byte p before source (first + o)
  copy_left k o wr c source first seen last is = copies k o wr c (source_byte p before source (first + o)) last
      (rw is refl) ∙ unheld c last.here
    where
      no_flag : (f : Flag) → written_byte p before wr.to (wr.first + o) ≡ Some (Component.FlagBit f) → ⊥
      no_flag f told =
          let function = copy_function line last.op.function last.op.x source first
          (sym (write_by line last.op.target (by_of line last.op.function last.op.x) wr last.is_write) ∙ is) in
          flag_told line p before wr o f told last.op.target (by_of line last.op.function last.op.x) last.is_write
          (subst (λ g. CopiesNoFlag g last.op.target) function (plain k last.op last.is_op))

      unheld : (d : Component) → written_byte p before wr.to (wr.first + o) ≡ Some d
          → held d (source_byte p before source (first + o)) ≡ source_byte p before source (first + o)
      unheld (Component.FlagBit f) told = absurd (no_flag f told)
      unheld (Component.RegisterByte r j) told = refl
      unheld (Component.ScratchByte j) told = refl
      unheld (Component.WholeRegister r) told = refl
      unheld (Component.MemoryByte a) told = refl
      unheld Component.Depth told = refl
      unheld Component.Esp told = refl

  abbrev hands : List ℕ
  hands = hands_of i s p x depth line before after w

  one_gives : (k hand kw : ℕ) (op : MicroOp) (wr : Write) → write_of line op ≡ Some wr
      → ((n : ℕ) → n < wr.count → slice_index hands (hand + n) ≡ hand_for i s p x depth line before after w kw wr n)
      → GivesOne i s p interface before after depth line row there at_depth room (slice_index hands) hand k op
  one_gives k hand kw op wr is starts other o c is_other seen last = there_is
      (ap (λ q. elim q [ None ↦ wr | Some h ↦ h ]) (sym is ∙ is_other)) last
    where
      there_is : wr ≡ other → IsLast p line row before k o other c → slice_index hands (hand + o) ≡ component_in c after
      there_is same last = starts o (subst (λ (v : Write). o < v.count) (sym same) last.within)
          ∙ gives (subst (λ (v : Write). IsLast p line row before k o v c) (sym same) last)
        where
          gives : IsLast p line row before k o wr c
              → hand_for i s p x depth line before after w kw wr o ≡ component_in c after
          gives mine = rw mine.here (hand_gives i s p interface depth line before after w shows at_depth few kw wr.by
              o (component_in c after)
              (subst (IsByThere i s p interface depth line before after w shows at_depth few)
              (sym (write_by line mine.op.target (by_of line mine.op.function mine.op.x) wr mine.is_write))
              (by_there mine.op.function mine.op.x))
              (λ source first is_copy. copy_left k o wr c source first seen mine is_copy))

  abbrev Starts : ℕ → ℕ → List Write → Type 0
  Starts hand kw wrs = (n v : ℕ) → slice_get (hands_from i s p x depth line before after w kw wrs) n ≡ Some v
      → slice_index hands (hand + n) ≡ v

  abbrev Gives : ℕ → ℕ → List MicroOp → Type 0
  Gives = GiveLast i s p interface before after depth line row there at_depth room (slice_index hands)

  by_write : (k hand kw : ℕ) (op : MicroOp) (ops : List MicroOp) (written : Option Write) → write_of line op ≡ written
      → Starts hand kw (writes_of (op ∷ ops) line)
      → ((hand kw : ℕ) → Starts hand kw (writes_of ops line) → Gives hand (k + 1) ops) → Gives hand k (op ∷ ops)
  by_write k hand kw op ops None is starts rest = (
    λ other o c is_other. absurd (none_some other (sym is ∙ is_other)),
    rest
        (hand + count_in (write_of line op)) kw
        (λ n v at. ap (slice_index hands) (same n)
        ∙ starts n v (subst (λ l. slice_get (hands_from i s p x depth line before after w kw l) n ≡ Some v)
        (sym as_list) at)),
  )
    where
      none_some : (other : Write) → None ≡ Some other → ⊥
      none_some other e = cc

      as_list : writes_of (op ∷ ops) line ≡ writes_of ops line
      as_list = ap (λ o. cons_option o (writes_of ops line)) is

      same : (n : ℕ) → hand + count_in (write_of line op) + n ≡ hand + n
      same n = ap (λ o. hand + count_in o + n) is ∙ omega arith
  by_write k hand kw op ops (Some wr) is starts rest = (
    one_gives k hand kw op wr is (λ n lt. here n lt),
    rest (hand + count_in (write_of line op)) (kw + 1)
        (λ n v at. ap (slice_index hands) (same n) ∙ starts (wr.count + n) v (later n v at)),
  )
    where
      as_list : writes_of (op ∷ ops) line ≡ wr ∷ writes_of ops line
      as_list = ap (λ o. cons_option o (writes_of ops line)) is

      same : (n : ℕ) → hand + count_in (write_of line op) + n ≡ hand + (wr.count + n)
      same n = ap (λ o. hand + count_in o + n) is ∙ omega arith

      here : (n : ℕ) → n < wr.count → slice_index hands (hand + n) ≡ hand_for i s p x depth line before after w kw wr n
      here n lt = starts n _ (ap (λ l. slice_get (hands_from i s p x depth line before after w kw l) n) as_list
          ∙ first_part (hand_for i s p x depth line before after w kw wr)
          (hands_from i s p x depth line before after w (kw + 1) (writes_of ops line)) wr.count 0 n lt
          ∙ ap (λ e. Some (hand_for i s p x depth line before after w kw wr e)) (omega arith))

      later : (n v : ℕ) → slice_get (hands_from i s p x depth line before after w (kw + 1)
          (writes_of ops line)) n ≡ Some v
          → slice_get (hands_from i s p x depth line before after w kw (writes_of (op ∷ ops) line))
          (wr.count + n) ≡ Some v
      later n v at = ap (λ l. slice_get (hands_from i s p x depth line before after w kw l) (wr.count + n)) as_list
          ∙ rest_part (hand_for i s p x depth line before after w kw wr)
          (hands_from i s p x depth line before after w (kw + 1) (writes_of ops line)) wr.count 0 n ∙ at

  pub gives_from : (ops : List MicroOp) (k hand kw : ℕ) → Starts hand kw (writes_of ops line) → Gives hand k ops
  gives_from [] k hand kw starts = tt
  gives_from (op ∷ ops) k hand kw starts = by_write k hand kw op ops (write_of line op) refl starts
      (λ next_hand next_kw more. gives_from ops (k + 1) next_hand next_kw more)

  pub hands_give : row ≡ entry_row line → Gives 0 0 row
  hands_give same = gives_from row 0 0 0 (λ n v at. ap (slice_index hands) (omega arith)
      ∙ at_slice hands n v (begins _ (0 ∷ 0 ∷ []) n v
      (subst (λ r. slice_get (hands_from i s p x depth line before after w 0 (writes_of r line)) n ≡ Some v) same at)))
