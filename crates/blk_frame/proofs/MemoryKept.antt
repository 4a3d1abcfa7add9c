-- A step changes no byte of memory but of outputs' objects and, where memory is declared, of what no operand owns.
use Rattle.std.proofs.Common.{◌≡◌, ◌⊎◌, inl, inr, ℕ, ◌+◌, ◌-◌, ◌/◌, ◌%◌, ◌^◌, ◌<◌, ◌≤◌, ◌&&◌, ◌||◌, nat_lt, nat_le, List, [], ◌∷◌, length, Bool, true, false, Option, None, Some, is_some, slice_get, refl, sym, ap, subst, ◌∙◌, arith}
use Rattle.std.proofs.lemmas.Bool.{and_parts, and_from, or_cases, le-ltb, lt-ltb, ltb-true, leb-true, eq-eqb, eqb-true, cases_lt}
use Rattle.asm_core.specs.Lists.{IsMember, count_from}
use Rattle.asm_core.specs.Entry.{IsEntry, HasObject}
use Rattle.asm_core.specs.Frame.{MayWrite}
use Rattle.asm_core.specs.Function.{bits_of}
use Rattle.asm_core.specs.Machine.{Layout, reg_in, covers, byte_at, layout_of, layouts_of}
use Rattle.asm_core.specs.Memory.{address_of, is_open_to, is_good_access}
use Rattle.asm_core.specs.MicroOps.{first_of, count_of, is_good_arg, is_good_target, arg_destination, destination_of}
use Rattle.asm_core.specs.Entries.{arg_or_zero, pointed_arg, by_of, write_to_site, write_to, write_of}
use Rattle.asm_core.specs.Placement.{spot_of, tie_root, is_output}
use Rattle.asm_core.specs.Reading.Placed.{placed_place, placed_disp, placed_base, placed_index, spot_form, operand_at, inst_under}
use Rattle.asm_core.specs.Reading.Text as text
use Rattle.asm_core.specs.RowLaws.{Component, IsHit, IsToldByOne}
use Rattle.asm_core.specs.Rows.{line_row, entry_row}
use Rattle.asm_core.specs.Steps.{Stand}
use Rattle.asm_core.specs.declared.reg.Reg.{Reg}
use Rattle.asm_core.specs.declared.reg.Slice.{Slice}
use Rattle.asm_core.specs.declared.shape.Shape.{Shape}
use Rattle.asm_core.specs.declared.interface.OperandIface.{OperandIface}
use Rattle.asm_core.specs.declared.interface.Interface.{Interface}
use Rattle.asm_core.specs.declared.placement.Form.{Form}
use Rattle.asm_core.specs.declared.placement.Spot.{Spot}
use Rattle.asm_core.specs.declared.placement.Placement.{Placement}
use Rattle.asm_core.specs.declared.inst.InstArg.{InstArg}
use Rattle.asm_core.specs.declared.sym.Place.{Place}
use Rattle.asm_core.specs.declared.sym.Disp.{Disp}
use Rattle.asm_core.specs.declared.sym.Arg.{Arg}
use Rattle.asm_core.specs.declared.sym.Sym.{Sym}
use Rattle.asm_core.specs.declared.row.Write.{Write}
use Rattle.asm_core.specs.declared.micro_op.Bytes.{Bytes}
use Rattle.asm_core.specs.declared.micro_op.Site.{Site}
use Rattle.asm_core.specs.declared.micro_op.Target.{Target}
use Rattle.asm_core.specs.declared.micro_op.Destination.{Destination}
use Rattle.asm_core.specs.declared.machine.Range.{Range}
use Rattle.asm_core.specs.declared.machine.Machine.{Machine}
use Rattle.asm_core.proofs.PlacedLaws.{steps_as_line}
use Rattle.asm_core.proofs.ValuesLeft.{good_target}
use Rattle.x86_table.proofs.EntryLaws.{obeys_table}
use Rattle.blk_deps.specs.Facts.{Facts}
use Rattle.blk_deps.specs.Line.{writes_in}
use Rattle.blk_deps.specs.Operands.{numbers_in, size_at, is_root, has_own_register, has_address, is_operand_place, is_place}
use Rattle.blk_deps.specs.Rules.{is_written_address, is_of_operand}
use Rattle.blk_deps.specs.declared.fact.Fact.TheVariants.{Here}
use Rattle.blk_frame.specs.Accepted.{PassesSound}
use Rattle.blk_frame.specs.Laws.{Holds, IsTableStep, AreStates}
use Rattle.blk_frame.specs.Shown.{placed_by}
use Rattle.blk_frame.specs.Stores.{IsStored, IsWithin, IsStoredWhole, StoresWhole}
use Rattle.blk_frame.proofs.AccessRules.{not_overwritten}
use Rattle.blk_frame.proofs.HeldLaws.{same_address}
use Rattle.blk_frame.proofs.OpStores.{in_filter_map}
use Rattle.blk_frame.proofs.Places.{there_below}
use Rattle.blk_frame.proofs.StoreRules.{store_output, access_depth, address_declared, past_declared}
use Rattle.blk_frame.proofs.StoresTold.{IsReached, access_reached, IsStoredBy, byte_kept, entry_cases}

-- ---- operands and ranges

counted : {A : Type 0} (xs : List A) (from k : ℕ) → k < length xs → IsMember (from + k) (count_from from xs)
counted [] from k lt = absurd (omega (arith, lt))
counted (x ∷ xs) from k lt = elim (cases_lt 0 k) [
  | inl above ↦ inr (subst (λ n. IsMember n (count_from (from + 1) xs)) (omega (arith, above))
      (counted xs (from + 1) (k - 1) (omega (arith, lt, above))))
  | inr none ↦ inl (omega (arith, none))
]

-- what a place of the shape is that is an operand's
pub record IsUntied (i : Interface) (s : Shape) (k : ℕ) : Type 0 where
  pub operand : OperandIface
  pub is_operand : slice_get i.operands k ≡ Some operand
  pub untied : tie_root i s k ≡ k
  pub number : IsMember k (numbers_in i)

untied_place : (i : Interface) (s : Shape) (k : ℕ) → is_place i s (7 + k) ≡ true → IsUntied i s k
untied_place i s k is = by (slice_get i.operands k) refl (there_below i.operands k parts.0)
  where
    same : 7 + k - 7 ≡ k
    same = omega arith

    place : is_operand_place i s k ≡ true
    place = subst (λ n. is_operand_place i s n ≡ true) same
        (ap (λ b. b || is_operand_place i s (7 + k - 7)) (sym (le-ltb (7 + k) 7 (omega arith))) ∙ is)

    parts : (is_some (slice_get i.operands k) ≡ true) × ((has_own_register i s k || has_address i s k) ≡ true)
    parts = and_parts _ _ place

    root : (has_own_register i s k ≡ true) ⊎ (has_address i s k ≡ true) → is_root i s k ≡ true
    root (inl own) = (and_parts _ _ (and_parts _ _ own).0).1
    root (inr address) = (and_parts _ _ address).1

    by : (o : Option OperandIface) → slice_get i.operands k ≡ o → k < length i.operands → IsUntied i s k
    by (Some o) e low = record {
      operand = o;
      is_operand = e;
      untied = eqb-true (tie_root i s k) k (root (or_cases _ _ parts.1));
      number = subst (λ n. IsMember n (numbers_in i)) (from_zero k) (counted i.operands 0 k low);
    } where
      from_zero : (n : ℕ) → 0 + n ≡ n
      from_zero n = omega arith
    by None e low = let gone : false ≡ true = ap is_some (sym e) ∙ parts.0 in cc

same_range : (rs qs : List Range) (r : Range) → layouts_of rs ≡ layouts_of qs → IsMember r rs → (q : Range)
    × IsMember q qs × (layout_of q ≡ layout_of r)
same_range [] qs r same is = absurd is
same_range (f ∷ rs) [] r same is = cc
same_range (f ∷ rs) (g ∷ qs) r same (inl e) =
    let first : layout_of f ≡ layout_of g = cc in (g, inl refl, sym first ∙ ap layout_of (sym e))
same_range (f ∷ rs) (g ∷ qs) r same (inr later) =
    let others : layouts_of rs ≡ layouts_of qs = cc in
    let rest = same_range rs qs r others later in (rest.0, inr rest.1, rest.2)

abbrev layout_covers : ℕ → Layout → Bool
layout_covers a l = nat_le l.base a && nat_lt a (l.base + l.size)

abbrev layout_owner : Layout → Option ℕ
layout_owner l = l.owner

-- ---- what a store may write

module _ (i : Interface) (live : List Shape) (s : Shape) (depth : ℕ) (line : Sym) (x : Stand) (entry : Machine)
    (facts : Facts)
    (step : IsTableStep i s depth line x) (is_entry : IsEntry i s x.at entry) (states : AreStates entry x.before)
    (layouts : layouts_of x.before.ranges ≡ layouts_of entry.ranges)
    (sound : PassesSound i live s depth line facts) (here : facts Here ≡ true)
    (held : (line.args ≡ []) ⊎ Holds (placed_by i s x.at) entry facts x.before)
    (esp : depth ≡ 0 → x.before.esp ≡ entry.esp) (whole : StoresWhole line) (a : ℕ) where
  abbrev May : Type 0
  May = MayWrite i s x.at entry a

  module _ (through : Option ℕ) (reached : IsReached x.before through a) where
    at_entry : (q : Range) × IsMember q entry.ranges × (layout_of q ≡ layout_of reached.range)
    at_entry = same_range x.before.ranges entry.ranges reached.range layouts reached.is_range

    covered : covers at_entry.0 a ≡ true
    covered = ap (layout_covers a) at_entry.2 ∙ reached.here

    owned_by : at_entry.0.owner ≡ reached.range.owner
    owned_by = ap layout_owner at_entry.2

    unowned_written : reached.range.owner ≡ None → i.memory ≡ true → May
    unowned_written none memory = inr (
      memory,
      record {
        range = at_entry.0;
        is_range = at_entry.1;
        unowned = owned_by ∙ none;
        here = covered;
      },
    )

  -- at an address that is written
  address_written : (to : Arg) (size : ℕ) → is_written_address to ≡ true → IsStored line to size
      → IsReached x.before None a → May
  address_written to size written stored reached = unowned_written None reached
      (none (reached.range.owner) reached.open_to)
      (address_declared i live s depth line facts sound here stored.access stored.is_access
      (ap is_written_address stored.there ∙ written))
    where
      none : (owner : Option ℕ) → is_open_to owner None ≡ true → owner ≡ None
      none None is = refl
      none (Some k) is = cc

  -- through an operand
  module _ (k j : ℕ) (form : Form) (is_arg : slice_get line.args k ≡ Some (Arg.Memory j))
      (spot : spot_of x.at j ≡ Spot.Memory form) (first count o : ℕ) (low : o < count)
      (at : a ≡ (address_of form x.before + first + o) % 2 ^ 32)
      (stored : IsStored line (Arg.Memory j) (first + count)) (reached : IsReached x.before (Some j) a) where
    there : is_place i s (7 + j) ≡ true
    there = step.of_shape.each k (Arg.Memory j) is_arg

    place : IsUntied i s j
    place = untied_place i s j there

    output : (q : OperandIface) → slice_get i.operands j ≡ Some q → is_output q.role ≡ true
    output q is = ap (λ (p : Option OperandIface). elim p [ None ↦ false | Some y ↦ is_output y.role ]) (sym is)
        ∙ store_output i live s depth line facts sound here j stored.access place.number stored.is_access stored.store
        stored.there

    same : address_of form x.before ≡ address_of form entry
    same = by held
      where
        by : (line.args ≡ []) ⊎ Holds (placed_by i s x.at) entry facts x.before
            → address_of form x.before ≡ address_of form entry
        by (inl bare) = let gone : slice_get [] k ≡ Some (Arg.Memory j) = ap (λ l. slice_get l k) (sym bare) ∙ is_arg in
            cc
        by (inr holds) = same_address i s x.at entry x.before facts holds step.interface states j form there spot
            (not_overwritten i live s depth line facts sound step.interface stored.access j stored.is_access
            stored.there there)
            (esp (access_depth i live s depth line facts sound here j stored.access place.number stored.is_access
            stored.there))

    -- in a range of its own
    own_written : (q : Range) → IsMember q entry.ranges → covers q a ≡ true → q.owner ≡ Some j → May
    own_written q member inside owner = inl (record {
      number = j;
      operand = object.0;
      address = q.base;
      offset = a - q.base;
      object = object.1;
      output = output object.0 object.1.is_operand;
      within = let size = object.2 in omega (arith, size, above, below);
      here = let small : a < 2 ^ 32 = omega (arith, at) in omega (arith, small, above);
    }) where
      object : (p : OperandIface) × HasObject i s x.at entry j p q.base × (length q.bytes ≡ p.size)
      object = (is_entry.owned q j member owner).1

      above : q.base ≤ a
      above = leb-true q.base a (and_parts (nat_le q.base a) (nat_lt a (q.base + length q.bytes)) inside).0

      below : a < q.base + length q.bytes
      below = ltb-true a (q.base + length q.bytes)
          (and_parts (nat_le q.base a) (nat_lt a (q.base + length q.bytes)) inside).1

    -- in one that nobody owns
    open_written : reached.range.owner ≡ None → May
    open_written none = elim (cases_lt (first + o) place.operand.size) [
      | inl within ↦ inl (record {
        number = j;
        operand = place.operand;
        address = address_of form entry;
        offset = first + o;
        object = record { is_operand = place.is_operand; untied = place.untied; in_memory = (form, spot, refl) };
        output = output place.operand place.is_operand;
        within = within;
        here = at ∙ ap (λ v. (v + first + o) % 2 ^ 32) same ∙ ap (λ v. v % 2 ^ 32) (grouped
            (address_of form entry) first o);
      })
      | inr past ↦ unowned_written (Some j) reached none
          (past_declared i live s depth line facts sound here j stored.access place.number stored.is_access
          (and_from _ _ (ap (is_of_operand j) stored.there ∙ eq-eqb j j refl)
          (lt-ltb (size_at i j) stored.access.bytes (let within = stored.within in let size = size_is in omega
          (arith, within, size, past, low)))))
    ]
      where
        grouped : (a b c : ℕ) → a + b + c ≡ a + (b + c)
        grouped a b c = omega arith

        size_is : size_at i j ≡ place.operand.size
        size_is = ap (λ (p : Option OperandIface). elim p [ None ↦ 0 | Some y ↦ y.size ]) place.is_operand

    operand_written : May
    operand_written = by reached.range.owner refl reached.open_to
      where
        by : (owner : Option ℕ) → reached.range.owner ≡ owner → is_open_to owner (Some j) ≡ true → May
        by None e is = open_written e
        by (Some m) e is = own_written (at_entry (Some j) reached).0 (at_entry (Some j) reached).1
            (covered (Some j) reached)
            (owned_by (Some j) reached ∙ e ∙ ap Some (eqb-true m j is))

  -- ---- a micro-operation that has the byte

  sum_at : (b c o : ℕ) → ((b + c) % 2 ^ 32 + o) % 2 ^ 32 ≡ (b + c + o) % 2 ^ 32
  sum_at b c o = omega arith

  module _ (k : ℕ) (bytes : Bytes) where
    abbrev IsHitAt : Option InstArg → Type 0
    IsHitAt arg = IsHit (arg_destination line.width bytes arg x.before) (Component.MemoryByte a)

    abbrev IsGoodAt : Option InstArg → Type 0
    IsGoodAt arg = is_good_arg line.width bytes true arg x.before ≡ true

    -- the byte in memory at an address is reached
    reached_at : (form : Form) (through : Option ℕ) (o : ℕ) → IsGoodAt (Some (InstArg.Address form through))
        → o < count_of line.width bytes → a ≡ ((address_of form x.before + first_of bytes) % 2 ^ 32 + o) % 2 ^ 32
        → IsReached x.before through a
    reached_at form through o good low is =
        subst (IsReached x.before through) (sym (is ∙ sum_at (address_of form x.before) (first_of bytes) o))
        (access_reached x.before through true (count_of line.width bytes)
        (address_of form x.before + first_of bytes) o good low)

    by_spot : (j : ℕ) (spot : Spot) → slice_get line.args k ≡ Some (Arg.Memory j) → spot_of x.at j ≡ spot
        → IsHitAt (text.memory_arg j (spot_form spot)) → IsGoodAt (text.memory_arg j (spot_form spot))
        → IsStored line (Arg.Memory j) (first_of bytes + count_of line.width bytes) → May
    by_spot j (Spot.Memory form) is_arg spot hit good stored =
        operand_written k j form is_arg spot (first_of bytes) (count_of line.width bytes) hit.0 hit.1
        (hit.2 ∙ sum_at (address_of form x.before) (first_of bytes) hit.0) stored
        (reached_at form (Some j) hit.0 good hit.1 hit.2)
    by_spot j (Spot.Register r) is_arg spot hit good stored = absurd hit
    by_spot j Spot.Pair is_arg spot hit good stored = absurd hit
    by_spot j (Spot.Number n) is_arg spot hit good stored = absurd hit

    by_disp : (to : Arg) (disp : Disp) (base : Option Place) (index : Option (Place × ℕ))
        → is_written_address to ≡ true → IsHitAt (text.address_arg disp base index)
        → IsGoodAt (text.address_arg disp base index)
        → IsStored line to (first_of bytes + count_of line.width bytes) → May
    by_disp to (Disp.Number n) base index written hit good stored =
        address_written to (first_of bytes + count_of line.width bytes) written stored
        (reached_at (record { disp = n; base = text.base_arg base; index = text.index_arg index }) None hit.0 good
        hit.1 hit.2)
    by_disp to (Disp.Hole m) base index written hit good stored = absurd hit

    no_register : (place : Place) (slice : Slice) → IsHitAt (text.register_arg place slice) → May
    no_register (Place.Reg r) slice hit = absurd hit
    no_register (Place.Operand m) slice hit = absurd hit

    no_number : (disp : Disp) → IsHitAt (text.number_arg disp) → May
    no_number (Disp.Number n) hit = absurd hit
    no_number (Disp.Hole m) hit = absurd hit

    by_arg : (arg : Option Arg) → slice_get line.args k ≡ arg → IsHitAt (operand_at x.at arg)
        → IsGoodAt (operand_at x.at arg)
        → IsWithin line (arg_or_zero arg) (first_of bytes + count_of line.width bytes) → May
    by_arg None e hit good within = absurd hit
    by_arg (Some (Arg.Memory j)) e hit good within = by_spot j (spot_of x.at j) e refl hit good within
    by_arg (Some (Arg.Address disp base index)) e hit good within =
        by_disp (Arg.Address disp base index) (placed_disp x.at disp) (placed_base x.at base)
        (placed_index x.at index) refl hit good within
    by_arg (Some (Arg.Register at slice)) e hit good within = no_register (placed_place x.at at) slice hit
    by_arg (Some (Arg.Number n)) e hit good within = absurd hit
    by_arg (Some (Arg.Hole n)) e hit good within = no_number (placed_disp x.at (Disp.Hole n)) hit
    by_arg (Some (Arg.Label n)) e hit good within = absurd hit

  -- memory at the address in a register
  pointed_written : (r : Reg) → IsHit (Destination.Memory (reg_in r x.before) (bits_of line.width / 8))
      (Component.MemoryByte a) → is_good_access x.before None true (bits_of line.width / 8) (reg_in r x.before) ≡ true
      → IsStored line (pointed_arg r) (0 + bits_of line.width / 8) → May
  pointed_written r hit good stored = address_written (pointed_arg r) (0 + bits_of line.width / 8) refl stored
      (subst (IsReached x.before None) (sym hit.2)
      (access_reached x.before None true (bits_of line.width / 8) (reg_in r x.before) hit.0 good hit.1))

  stored_may : entry_row line ≡ line_row line → IsStoredBy (inst_under x.at line) x.before (line_row line) a → May
  stored_may own by_op = by by_op.op.target refl by_op.hit
      (good_target (inst_under x.at line) x.before by_op.op by_op.good)
    where
      -- what the micro-operation writes, the line writes
      written : (w : Write) → write_of line by_op.op ≡ Some w → IsStoredWhole line w.to (w.first + w.count)
      written w is = whole.each w (in_filter_map (write_of line) (entry_row line) by_op.op w
          (subst (IsMember by_op.op) (sym own) by_op.is_op) is)

      by : (target : Target) → by_op.op.target ≡ target
          → IsHit (destination_of (inst_under x.at line) x.before target) (Component.MemoryByte a)
          → is_good_target (inst_under x.at line) x.before target ≡ true → May
      by (Target.Site (Site.Argument k bytes)) e hit good =
          let same = (steps_as_line x.at line step.placed).operands k in
          by_arg k bytes (slice_get line.args k) refl
          (subst (IsHitAt k bytes) same hit) (subst (IsGoodAt k bytes) same good)
          (written (write_to_site line (by_of line by_op.op.function by_op.op.x) (Site.Argument k bytes))
          (ap (write_to line (by_of line by_op.op.function by_op.op.x)) e))
      by (Target.Site (Site.Pointed r)) e hit good = pointed_written r hit good
          (written (write_to_site line (by_of line by_op.op.function by_op.op.x) (Site.Pointed r))
          (ap (write_to line (by_of line by_op.op.function by_op.op.x)) e))
      by (Target.Site (Site.Register r bytes)) e hit good = absurd hit
      by (Target.Site (Site.Flag f)) e hit good = absurd hit
      by target e hit good = absurd hit

  memory_unless : (May → ⊥) → byte_at x.after.ranges a ≡ byte_at x.before.ranges a
  memory_unless none = by (entry_cases line)
    where
      by : (entry_row line ≡ line_row line)
          ⊎ ((p : Placement) (m : Machine) (c : ℕ) → IsToldByOne p m (writes_in line) (Component.MemoryByte c) → ⊥)
          → byte_at x.after.ranges a ≡ byte_at x.before.ranges a
      by (inl own) = byte_kept line x a step.stepped (λ stored. none (stored_may own stored))
      by (inr untold) = ((obeys_table.entries line step.placed.few step.plain).changes x step.stepped).components
          (Component.MemoryByte a) (untold x.at x.before a)

pub memory_kept : (i : Interface) (live : List Shape) (s : Shape) (depth : ℕ) (line : Sym) (x : Stand)
    (entry : Machine) (facts : Facts)
    → IsTableStep i s depth line x → IsEntry i s x.at entry → AreStates entry x.before
    → layouts_of x.before.ranges ≡ layouts_of entry.ranges
    → PassesSound i live s depth line facts → facts Here ≡ true
    → (line.args ≡ []) ⊎ Holds (placed_by i s x.at) entry facts x.before
    → (depth ≡ 0 → x.before.esp ≡ entry.esp) → StoresWhole line
    → (a : ℕ) → (MayWrite i s x.at entry a → ⊥) → byte_at x.after.ranges a ≡ byte_at x.before.ranges a
memory_kept i live s depth line x entry facts step is_entry states layouts sound here held esp whole a none =
    memory_unless i live s depth line x entry facts step is_entry states layouts sound here held esp whole a none
