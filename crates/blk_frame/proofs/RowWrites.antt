-- The writes of a whole row: where the row tells something, the world has at the end what the step leaves there.
use Rattle.std.proofs.Common.{◌≡◌, inl, inr, ℕ, zero, suc, ◌+◌, ◌<◌, List, [], ◌∷◌, drop, Option, None, Some, slice_get, refl, sym, ap, subst, ◌∙◌, arith}
use Rattle.std.specs.List.{cons_option}
use Rattle.std.proofs.lemmas.List.{drop-drop}
use Rattle.asm_core.specs.Entries.{write_to, write_of, writes_of, by_of, line_arg, slice_with}
use Rattle.asm_core.specs.MicroOps.{sized}
use Rattle.asm_core.specs.RowLaws.{Component, component_in, IsToldByte, IsTold, IsToldByOne, IsLast}
use Rattle.asm_core.specs.WellFormed.{IsInterface}
use Rattle.asm_core.specs.declared.sym.Sym.{Sym}
use Rattle.asm_core.specs.declared.row.By.{By}
use Rattle.asm_core.specs.declared.row.Write.{Write}
use Rattle.asm_core.specs.declared.micro_op.Site.{Site}
use Rattle.asm_core.specs.declared.micro_op.Target.{Target}
use Rattle.asm_core.specs.declared.micro_op.MicroOp.{MicroOp}
use Rattle.asm_core.specs.declared.shape.Shape.{Shape}
use Rattle.asm_core.specs.declared.interface.Interface.{Interface}
use Rattle.asm_core.specs.declared.placement.Placement.{Placement}
use Rattle.asm_core.specs.declared.machine.Machine.{Machine}
use Rattle.blk_deps.specs.Line.{puts_to, puts_from}
use Rattle.blk_deps.specs.declared.step.Put.{Put}
use Rattle.blk_frame.specs.World.{Placed, World, after_puts, AreWritable}
use Rattle.blk_frame.specs.Shown.{shown, IsSeen, placed_by}
use Rattle.blk_frame.proofs.Basics.{either_way, same_some}
use Rattle.blk_frame.proofs.Hands.{HoldsHands, puts_hold, puts_append, writable_append}
use Rattle.blk_frame.proofs.OpWrites.{WritesWell, push_writes, any_flag_writes}
use Rattle.blk_frame.proofs.LineWrites.{IsThere, arg_writes, register_there, pop_writes}

slice_get-drop : (row : List MicroOp) (k : ℕ) → slice_get row k ≡ slice_get (drop k row) 0
slice_get-drop row zero = refl
slice_get-drop [] (suc k) = refl
slice_get-drop (op ∷ ops) (suc k) = slice_get-drop ops k

drop_drop : (row : List MicroOp) (k : ℕ) → drop 1 (drop k row) ≡ drop (k + 1) row
drop_drop row k = drop-drop 1 k row

abbrev pub count_in : Option Write → ℕ
count_in None = 0
count_in (Some w) = w.count

module _ (i : Interface) (s : Shape) (p : Placement) (interface : IsInterface i) (before after : Machine) (depth : ℕ)
    (line : Sym) (row : List MicroOp)
    (there : (k : ℕ) → IsThere i s p (line_arg line k)) (at_depth : before.scratch_top ≡ depth)
    (room : (k : ℕ) (op : MicroOp) → slice_get row k ≡ Some op → op.target ≡ Target.Push → depth < 16) where
  abbrev x : Placed
  x = placed_by i s p

  -- ---- one micro-operation

  target_writes : (target : Target) (by : By) (w : Write) (hand : ℕ) → (target ≡ Target.Push → depth < 16)
      → write_to line by target ≡ Some w → WritesWell i s p x before depth hand w
  target_writes (Target.Site (Site.Argument k bytes)) by w hand fits is = subst (WritesWell i s p x before depth hand)
      (same_some _ _ is) (arg_writes i s p interface before depth hand _ _ by (line_arg line k) (there k))
  target_writes (Target.Site (Site.Register r bytes)) by w hand fits is = subst (WritesWell i s p x before depth hand)
      (same_some _ _ is) (arg_writes i s p interface before depth hand _ _ by _
      (register_there i s p interface before depth hand 0 0 by r (slice_with (sized line.width bytes))))
  target_writes (Target.Site (Site.Pointed r)) by w hand fits is = subst (WritesWell i s p x before depth hand)
      (same_some _ _ is) (arg_writes i s p interface before depth hand _ _ by _ tt)
  target_writes (Target.Site (Site.Flag f)) by w hand fits is = subst (WritesWell i s p x before depth hand)
      (same_some _ _ is) (any_flag_writes i s p x before depth f hand by)
  target_writes Target.Push by w hand fits is = subst (WritesWell i s p x before depth hand) (same_some _ _ is)
      (push_writes i s p x before depth (fits refl) at_depth hand by)
  target_writes Target.Pop by w hand fits is = subst (WritesWell i s p x before depth hand) (same_some _ _ is)
      (pop_writes i s p interface before depth hand by)
  target_writes target by w hand fits is = cc

  -- ---- what hands give that are put last

  -- the hands from that one on give what the step leaves where a micro-operation writes last
  abbrev pub GivesOne : (ℕ → ℕ) → ℕ → ℕ → MicroOp → Type 0
  GivesOne given hand k op = (w : Write) (o : ℕ) (c : Component) → write_of line op ≡ Some w → IsSeen c
      → IsLast p line row before k o w c → given (hand + o) ≡ component_in c after

  abbrev pub GiveLast : (ℕ → ℕ) → ℕ → ℕ → List MicroOp → Type 0
  GiveLast given hand k [] = Unit {0}
  GiveLast given hand k (op ∷ ops) = GivesOne given hand k op
      × GiveLast given (hand + count_in (write_of line op)) (k + 1) ops

  -- ---- the row

  told_byte : (w : Write) (c : Component) → IsSeen c → IsTold p before w c → IsToldByte p before w c
  told_byte w (Component.RegisterByte r j) seen told = told
  told_byte w (Component.FlagBit f) seen told = told
  told_byte w (Component.ScratchByte j) seen told = told
  told_byte w (Component.WholeRegister r) seen told = absurd seen
  told_byte w (Component.MemoryByte a) seen told = absurd seen
  told_byte w Component.Depth seen told = absurd seen
  told_byte w Component.Esp seen told = absurd seen

  byte_told : (w : Write) (c : Component) → IsSeen c → IsToldByte p before w c → IsTold p before w c
  byte_told w (Component.RegisterByte r j) seen told = told
  byte_told w (Component.FlagBit f) seen told = told
  byte_told w (Component.ScratchByte j) seen told = told
  byte_told w (Component.WholeRegister r) seen told = absurd seen
  byte_told w (Component.MemoryByte a) seen told = absurd seen
  byte_told w Component.Depth seen told = absurd seen
  byte_told w Component.Esp seen told = absurd seen

  -- the writes of micro-operations that stand at the row's end, from the k-th on
  pub record EndsWell (k hand : ℕ) (ops : List MicroOp) : Type 0 where
    pub writable : AreWritable x (puts_from i s depth hand (writes_of ops line))
    pub elsewhere : (v : World) (c : Component) → IsSeen c → (IsToldByOne p before (writes_of ops line) c → ⊥)
        → shown (after_puts x (puts_from i s depth hand (writes_of ops line)) v) c ≡ shown v c
    pub at : (given : ℕ → ℕ) (v : World) (c : Component) → GiveLast given hand k ops → HoldsHands given v → IsSeen c
        → IsToldByOne p before (writes_of ops line) c
        → shown (after_puts x (puts_from i s depth hand (writes_of ops line)) v) c ≡ component_in c after

  told_here : (w : Write) (ws : List Write) (c : Component) → (IsToldByOne p before ws c → ⊥)
      → IsToldByOne p before (w ∷ ws) c → IsTold p before w c
  told_here w ws c none (inl told) = told
  told_here w ws c none (inr later) = absurd (none later)

  module _ (k hand : ℕ) (op : MicroOp) (ops : List MicroOp) (is_rest : ops ≡ drop (k + 1) row)
      (is_op : slice_get row k ≡ Some op) where
    nothing_more : write_of line op ≡ None → EndsWell (k + 1) (hand + count_in (write_of line op)) ops
        → EndsWell k hand (op ∷ ops)
    nothing_more is rest = record {
      writable = subst (λ l. AreWritable x (puts_from i s depth hand l)) (sym as_list)
          (subst (λ n. AreWritable x (puts_from i s depth n (writes_of ops line))) same_hand rest.writable);
      elsewhere = λ v c seen untold. same_end v c
          ∙ rest.elsewhere v c seen (λ told. untold (subst (λ l. IsToldByOne p before l c) (sym as_list) told));
      at = λ given v c gives holds seen told. same_end v c
          ∙ rest.at given v c gives.1 holds seen (subst (λ l. IsToldByOne p before l c) as_list told);
    } where
      as_list : writes_of (op ∷ ops) line ≡ writes_of ops line
      as_list = ap (λ o. cons_option o (writes_of ops line)) is

      same_hand : hand + count_in (write_of line op) ≡ hand
      same_hand = ap (λ o. hand + count_in o) is ∙ omega arith

      same_end : (v : World) (c : Component)
          → shown (after_puts x (puts_from i s depth hand (writes_of (op ∷ ops) line)) v) c
          ≡ shown (after_puts x (puts_from i s depth (hand + count_in (write_of line op)) (writes_of ops line)) v) c
      same_end v c = ap (λ l. shown (after_puts x (puts_from i s depth hand l) v) c) as_list
          ∙ ap (λ n. shown (after_puts x (puts_from i s depth n (writes_of ops line)) v) c) (sym same_hand)

    module _ (w : Write) (is : write_of line op ≡ Some w) where
      abbrev first : List Put
      first = puts_to i s depth hand w w.to

      abbrev more : List Put
      more = puts_from i s depth (hand + w.count) (writes_of ops line)

      as_list : writes_of (op ∷ ops) line ≡ w ∷ writes_of ops line
      as_list = ap (λ o. cons_option o (writes_of ops line)) is

      writes : WritesWell i s p x before depth hand w
      writes = target_writes op.target (by_of line op.function op.x) w hand (room k op is_op) is

      at_list : (v : World) (c : Component)
          → shown (after_puts x (puts_from i s depth hand (writes_of (op ∷ ops) line)) v) c ≡ shown
          (after_puts x more (after_puts x first v)) c
      at_list v c = ap (λ l. shown (after_puts x (puts_from i s depth hand l) v) c) as_list
          ∙ ap (λ u. shown u c) (puts_append x first more v)

      last_here : (given : ℕ → ℕ) (v : World) (c : Component) → GivesOne given hand k op → HoldsHands given v
          → IsSeen c → (IsToldByOne p before (writes_of ops line) c → ⊥) → IsToldByte p before w c
          → shown (after_puts x first v) c ≡ component_in c after
      last_here given v c gives holds seen none told =
          writes.at given v c told.0 holds seen told.1 told.2
          ∙ gives w told.0 c is seen (record {
            op = op;
            is_op = is_op;
            is_write = is;
            within = told.1;
            here = told.2;
            last = λ later. none (subst (λ l. IsToldByOne p before (writes_of l line) c) (sym is_rest) later);
          })

      one_more : EndsWell (k + 1) (hand + count_in (write_of line op)) ops → EndsWell k hand (op ∷ ops)
      one_more rest_is = record {
        writable = subst (λ l. AreWritable x (puts_from i s depth hand l)) (sym as_list)
            (writable_append x first more writes.writable rest.writable);
        elsewhere = λ v c seen untold. at_list v c
            ∙ rest.elsewhere (after_puts x first v) c seen
            (λ told. untold (subst (λ l. IsToldByOne p before l c) (sym as_list) (inr told)))
            ∙ writes.elsewhere v c seen (λ told. untold
            (subst (λ l. IsToldByOne p before l c) (sym as_list) (inl (byte_told w c seen told))));
        at = λ given v c gives holds seen told. at_list v c
            ∙ either_way {P = IsToldByOne p before (writes_of ops line) c} _ _
            (λ later. rest.at given (after_puts x first v) c
            (subst (λ n. GiveLast given (hand + n) (k + 1) ops) same_count gives.1)
            (puts_hold x given first v writes.writable holds) seen later)
            (λ none. rest.elsewhere (after_puts x first v) c seen none
            ∙ last_here given v c gives.0 holds seen none
            (told_byte w c seen (told_here w (writes_of ops line) c none
            (subst (λ l. IsToldByOne p before l c) as_list told))));
      } where
        same_count : count_in (write_of line op) ≡ w.count
        same_count = ap count_in is

        rest : EndsWell (k + 1) (hand + w.count) ops
        rest = subst (λ n. EndsWell (k + 1) (hand + n) ops) (ap count_in is) rest_is

    by_write : (written : Option Write) → write_of line op ≡ written
        → EndsWell (k + 1) (hand + count_in (write_of line op)) ops → EndsWell k hand (op ∷ ops)
    by_write None is rest = nothing_more is rest
    by_write (Some w) is rest = one_more w is rest

  head_at : (op : MicroOp) (ops : List MicroOp) (k : ℕ) → op ∷ ops ≡ drop k row → (slice_get row k ≡ Some op)
      × (ops ≡ drop (k + 1) row)
  head_at op ops k is = (slice_get-drop row k ∙ ap (λ l. slice_get l 0) (sym is), ap (drop 1) is ∙ drop_drop row k)

  pub ends_well : (ops : List MicroOp) (k hand : ℕ) → ops ≡ drop k row → EndsWell k hand ops
  ends_well [] k hand is = record {
    writable = tt;
    elsewhere = λ v c seen untold. refl;
    at = λ given v c gives holds
        seen told. absurd told;
  }
  ends_well (op ∷ ops) k hand is =
      let head = head_at op ops k is in
      by_write k hand op ops head.1 head.0 (write_of line op) refl
      (ends_well ops (k + 1) (hand + count_in (write_of line op)) head.1)
