-- Values for the hands of a step: a copy is what its cell holds, and what is put last is what the step leaves.
use Rattle.std.proofs.Common.{◌≡◌, ℕ, zero, suc, ◌+◌, ◌-◌, ◌*◌, ◌<◌, ◌≤◌, ◌&&◌, nat_lt, Bool, true, false, List, [], ◌∷◌, ◌++◌, map, None, Some, slice_get, slice_index, if◌then◌else◌, refl, sym, ap, subst, ◌∙◌, arith, append_assoc}
use Rattle.std.specs.List.{range_with_len}
use Rattle.std.proofs.lemmas.Bool.{and_parts, ltb-true, le-ltb}
use Rattle.asm_core.specs.Machine.{reg_in}
use Rattle.asm_core.specs.MicroOps.{first_of, bytes_named}
use Rattle.asm_core.specs.Reading.Placed.{operand_under}
use Rattle.asm_core.specs.RowLaws as laws
use Rattle.asm_core.specs.RowLaws.{Component, component_in, written_byte, operand_byte, byte_by, source_byte, operand_value, held, IsLast, LeavesCopies}
use Rattle.asm_core.specs.WellFormed.{IsInterface}
use Rattle.asm_core.specs.declared.reg.Slice.{Slice}
use Rattle.asm_core.specs.declared.sym.Place.{Place}
use Rattle.asm_core.specs.declared.sym.Arg.{Arg}
use Rattle.asm_core.specs.declared.sym.Sym.{Sym}
use Rattle.asm_core.specs.declared.row.Source.{Source}
use Rattle.asm_core.specs.declared.row.By.{By}
use Rattle.asm_core.specs.declared.row.Write.{Write}
use Rattle.asm_core.specs.declared.shape.Shape.{Shape}
use Rattle.asm_core.specs.declared.interface.Interface.{Interface}
use Rattle.asm_core.specs.declared.placement.Placement.{Placement}
use Rattle.asm_core.specs.declared.machine.Machine.{Machine}
use Rattle.blk_deps.specs.Cells.{place_number, byte_cell, word_cell, slice_first, place_of, byte_of, is_byte}
use Rattle.blk_deps.specs.Operands.{is_place}
use Rattle.blk_deps.specs.Line.{line_reads, reads_from, read_for, copy_of, copied_cell, writes_in}
use Rattle.blk_deps.specs.declared.step.Read.{Read}
use Rattle.blk_frame.specs.World.{Placed, World, value_in, IsCopied, AreCopied}
use Rattle.blk_frame.specs.Shown.{Shows, placed_by}
use Rattle.blk_frame.specs.Lines.{left_at, hand_value, hand_for, hands_from, hands_of}
use Rattle.blk_frame.proofs.ByteWrites.{cell_in_register, cell_place, cell_byte}
use Rattle.blk_frame.proofs.Places.{lies_in}
use Rattle.blk_frame.proofs.LineWrites.{IsThere}

-- ---- reads and hands go together

module _ (x : Placed) (w : World) where
  abbrev Copied : List Read → List ℕ → Type 0
  Copied [] vs = Unit {0}
  Copied (r ∷ rs) [] = ⊥
  Copied (r ∷ rs) (v ∷ vs) = IsCopied x w r v × Copied rs vs

  copied_hand : (read : Read) (left : ℕ) → IsCopied x w read (hand_value x w left read)
  copied_hand (Read.Copy u) left = refl
  copied_hand (Read.Compute of) left = tt

  copied_map : (read : ℕ → Read) (left : ℕ → ℕ) (ns : List ℕ) (rs : List Read) (vs : List ℕ) → Copied rs vs
      → Copied (map read ns ++ rs) (map (λ n. hand_value x w (left n) (read n)) ns ++ vs)
  copied_map read left [] rs vs rest = rest
  copied_map read left (n ∷ ns) rs vs rest = (copied_hand (read n) (left n), copied_map read left ns rs vs rest)

  copied_at : (rs : List Read) (vs : List ℕ) → Copied rs vs → (h : ℕ) (read : Read) → slice_get rs h ≡ Some read
      → IsCopied x w read (slice_index vs h)
  copied_at [] vs are h read is = cc
  copied_at (r ∷ rs) [] are h read is = absurd are
  copied_at (r ∷ rs) (v ∷ vs) are zero read is = subst (λ q. IsCopied x w q v)
      (ap (λ o. elim o [ None ↦ r | Some q ↦ q ]) is) are.0
  copied_at (r ∷ rs) (v ∷ vs) are (suc h) read is = copied_at rs vs are.1 h read is

module _ (i : Interface) (s : Shape) (p : Placement) (interface : IsInterface i) (depth : ℕ) (line : Sym)
    (before after : Machine) (w : World) where
  abbrev x : Placed
  x = placed_by i s p

  copied_from : (ws : List Write) (k : ℕ) (rs : List Read) (vs : List ℕ) → Copied x w rs vs
      → Copied x w (reads_from i s depth line k ws ++ rs) (hands_from i s p x depth line before after w k ws ++ vs)
  copied_from [] k rs vs rest = rest
  copied_from (wr ∷ wrs) k rs vs rest =
      subst (λ l. Copied x w l (hands_from i s p x depth line before after w k (wr ∷ wrs) ++ vs))
      (sym (append_assoc (map (read_for i s depth line k wr.by) (range_with_len 0 wr.count))
      (reads_from i s depth line (k + 1) wrs) rs))
      (subst (λ l. Copied x w (map (read_for i s depth line k wr.by) (range_with_len 0 wr.count) ++
      (reads_from i s depth line (k + 1) wrs ++ rs)) l)
      (sym (append_assoc (map (hand_for i s p x depth line before after w k wr) (range_with_len 0 wr.count))
      (hands_from i s p x depth line before after w (k + 1) wrs) vs))
      (copied_map x w (read_for i s depth line k wr.by)
      (λ n. left_at after (written_byte p before wr.to (wr.first + n))) (range_with_len 0 wr.count) _ _
      (copied_from wrs (k + 1) rs vs rest)))

  pub are_copied : AreCopied x w (line_reads i s depth line) (slice_index (hands_of i s p x depth line before after w))
  are_copied = record {
    each = copied_at x w (line_reads i s depth line) (hands_of i s p x depth line before after w)
        (copied_from (writes_in line) 0 _ _ (tt, (tt, tt)));
  }

  -- ---- copies

  -- a copy's cell holds the byte of the source
  abbrev pub IsSourceThere : Source → Type 0
  IsSourceThere (Source.Arg arg) = IsThere i s p arg
  IsSourceThere source = Unit {0}

  slice_start : (slice : Slice) (n : ℕ) → first_of (bytes_named slice) + n ≡ slice_first slice + n
  slice_start Slice.Low8 n = refl
  slice_start Slice.High8 n = refl
  slice_start Slice.Low16 n = refl
  slice_start Slice.All n = refl

  module _ (shows : Shows before w) (at_depth : before.scratch_top ≡ depth) (few : depth ≤ 16) where
    -- the cell of a byte that can be copied, and what the source has there
    abbrev HoldsSource : Source → ℕ → List ℕ → Type 0
    HoldsSource source n [] = Unit {0}
    HoldsSource source n (u ∷ us) = value_in x u w ≡ source_byte p before source n

    register_holds : (place : Place) (slice : Slice) (n : ℕ) → IsThere i s p (Arg.Register place slice) → (b : Bool)
        → (nat_lt (slice_first slice + n) 4 && is_place i s (place_number place)) ≡ b
        → HoldsSource (Source.Arg (Arg.Register place slice)) n
        (if b then byte_cell (place_number place) (slice_first slice + n) ∷ [] else [])
    register_holds place slice n there false e = tt
    register_holds place slice n there true e =
        let lt = ltb-true (slice_first slice + n) 4 (and_parts _ _ e).0 in
        let lies = lies_in i s p interface place there.1.0 there.0 there.1.1 in
        let u = byte_cell (place_number place) (slice_first slice + n) in
        let inside : value_in x u w ≡ w.registers (x.register_of (place_of u)) (byte_of u) = rw
        (cell_in_register x (place_number place) there.1.0 lies (slice_first slice + n) lt) refl in
        let source : operand_value (operand_under p (Arg.Register place slice)) n before ≡ laws.byte_of
        (first_of (bytes_named slice) + n) (reg_in there.1.0 before) = rw there.1.1 refl in
        inside
        ∙ ap (λ q. w.registers (x.register_of q) (byte_of u))
        (cell_place (place_number place) (slice_first slice + n) lt)
        ∙ ap (λ q. w.registers q (byte_of u)) lies.register
        ∙ ap (w.registers _) (cell_byte (place_number place) (slice_first slice + n) lt)
        ∙ shows.each (Component.RegisterByte there.1.0 (slice_first slice + n)) lt
        ∙ ap (λ b. laws.byte_of b (reg_in there.1.0 before)) (sym (slice_start slice n)) ∙ sym source

    top_holds : (n : ℕ) (b : Bool) → nat_lt n 4 ≡ b
        → HoldsSource Source.Top n (if b then word_cell (depth - 1) n ∷ [] else [])
    top_holds n false e = tt
    top_holds n true e =
        let lt = ltb-true n 4 e in
        let high : is_byte (word_cell (depth - 1) n) ≡ false = le-ltb (word_cell (depth - 1) n) 148 (omega arith) in
        let same : word_cell (depth - 1) n ≡ 154 + (4 * (depth - 1) + n) = omega arith in
        let below : 4 * (depth - 1) + n < 64 = omega (arith, lt, few) in
        rw high (ap w.cells same) ∙ shows.each (Component.ScratchByte (4 * (depth - 1) + n)) below
        ∙ ap (λ d. slice_index before.scratch (4 * (d - 1) + n)) (sym at_depth)

    source_holds : (source : Source) (n : ℕ) → IsSourceThere source
        → HoldsSource source n (copied_cell i s depth source n)
    source_holds (Source.Arg (Arg.Register place slice)) n there = register_holds place slice n there _ refl
    source_holds Source.Top n there = top_holds n _ refl
    source_holds (Source.Arg (Arg.Number k)) n there = tt
    source_holds (Source.Arg (Arg.Hole k)) n there = tt
    source_holds (Source.Arg (Arg.Memory k)) n there = tt
    source_holds (Source.Arg (Arg.Address d b k)) n there = tt
    source_holds (Source.Arg (Arg.Label k)) n there = tt
    source_holds (Source.Address arg) n there = tt
    source_holds (Source.Flag f) n there = tt
    source_holds Source.Undefined n there = tt
    source_holds Source.Outside n there = tt

    -- ---- one hand

    abbrev pub IsByThere : By → Type 0
    IsByThere (By.Copy source first) = IsSourceThere source
    IsByThere by = Unit {0}

    copy_gives : (source : Source) (n left : ℕ) (cells : List ℕ) → HoldsSource source n cells
        → left ≡ source_byte p before source n
        → hand_value x w left (copy_of i s depth line source cells) ≡ left
    copy_gives source n left [] holds is = refl
    copy_gives source n left (u ∷ us) holds is = holds ∙ sym is

    pub hand_gives : (k : ℕ) (by : By) (o left : ℕ) → IsByThere by
        → ((source : Source) (first : ℕ) → by ≡ By.Copy source first → left ≡ source_byte p before source (first + o))
        → hand_value x w left (read_for i s depth line k by o) ≡ left
    hand_gives k (By.Copy source first) o left there leaves = copy_gives source (first + o) left
        (copied_cell i s depth source (first + o)) (source_holds source (first + o) there) (leaves source first refl)
    hand_gives k By.Named o left there leaves = refl
    hand_gives k (By.Set on) o left there leaves = refl
