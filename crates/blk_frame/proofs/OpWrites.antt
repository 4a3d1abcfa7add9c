-- What one write of a line does to the world: what it tells has the values of its hands, and all else is as before.
use Rattle.std.proofs.Common.{◌≡◌, ℕ, ◌+◌, ◌*◌, ◌<◌, true, [], ◌∷◌, Some, refl, sym, ap, subst, ◌∙◌, arith}
use Rattle.asm_core.specs.Flag.{flag_number}
use Rattle.asm_core.specs.MicroOps.{first_of, bytes_named}
use Rattle.asm_core.specs.Reading.Placed.{placed_place}
use Rattle.asm_core.specs.RowLaws.{Component, written_byte, IsToldByte}
use Rattle.asm_core.specs.declared.reg.Reg.{Reg}
use Rattle.asm_core.specs.declared.reg.Slice.{Slice}
use Rattle.asm_core.specs.declared.flag.Flag.{Flag}
use Rattle.asm_core.specs.declared.sym.Place.{Place}
use Rattle.asm_core.specs.declared.sym.Arg.{Arg}
use Rattle.asm_core.specs.declared.row.By.{By}
use Rattle.asm_core.specs.declared.row.Written.{Written}
use Rattle.asm_core.specs.declared.row.Write.{Write}
use Rattle.asm_core.specs.declared.shape.Shape.{Shape}
use Rattle.asm_core.specs.declared.interface.Interface.{Interface}
use Rattle.asm_core.specs.declared.placement.Placement.{Placement}
use Rattle.asm_core.specs.declared.machine.Machine.{Machine}
use Rattle.blk_deps.specs.Cells.{place_number, slice_first, flag_cell}
use Rattle.blk_deps.specs.Operands.{is_place}
use Rattle.blk_deps.specs.Line.{puts_to, put_flag}
use Rattle.blk_deps.specs.declared.step.Put.{Put}
use Rattle.blk_frame.specs.World.{Placed, World, after_puts, AreWritable}
use Rattle.blk_frame.specs.Shown.{shown, IsSeen}
use Rattle.blk_frame.proofs.Basics.{same_some}
use Rattle.blk_frame.proofs.Hands.{HoldsHands}
use Rattle.blk_frame.proofs.ByteWrites.{LiesIn, bytes_writable, bytes_elsewhere, bytes_at}
use Rattle.blk_frame.proofs.PlainWrites.{flag_writable, flag_at, flag_elsewhere, words_writable, words_elsewhere, words_at}

module _ (i : Interface) (s : Shape) (p : Placement) (x : Placed) (m : Machine) (depth : ℕ) where
  pub record WritesWell (hand : ℕ) (w : Write) : Type 0 where
    pub writable : AreWritable x (puts_to i s depth hand w w.to)
    pub elsewhere : (v : World) (c : Component) → IsSeen c → (IsToldByte p m w c → ⊥)
        → shown (after_puts x (puts_to i s depth hand w w.to) v) c ≡ shown v c
    pub at : (given : ℕ → ℕ) (v : World) (c : Component) (o : ℕ) → HoldsHands given v → IsSeen c → o < w.count
        → written_byte p m w.to (w.first + o) ≡ Some c
        → shown (after_puts x (puts_to i s depth hand w w.to) v) c ≡ given (hand + o)

  -- ---- a register

  slice_start : (slice : Slice) (first o : ℕ)
      → first_of (bytes_named slice) + (first + o) ≡ slice_first slice + first + o
  slice_start Slice.Low8 first o = omega arith
  slice_start Slice.High8 first o = omega arith
  slice_start Slice.Low16 first o = omega arith
  slice_start Slice.All first o = omega arith

  module _ (place : Place) (slice : Slice) (r : Reg) (is : is_place i s (place_number place) ≡ true)
      (at : placed_place p place ≡ Place.Reg r) (lies : LiesIn x (place_number place) r) (hand first count : ℕ)
      (by : By) where
    abbrev to_register : Write
    to_register = record { to = Written.Arg (Arg.Register place slice); first = first; count = count; by = by }

    byte_told : (o : ℕ) → written_byte p m (Written.Arg (Arg.Register place slice)) (first + o) ≡ Some
        (Component.RegisterByte r (slice_first slice + first + o))
    byte_told o = rw at (ap (λ j. Some (Component.RegisterByte r j)) (slice_start slice first o))

    pub register_writes : WritesWell hand to_register
    register_writes = record {
      writable = bytes_writable i s x place r is lies (slice_first slice + first) hand count 0;
      elsewhere = λ v c seen untold. bytes_elsewhere i s x place r is lies
          (slice_first slice + first) hand count 0 v c seen
          (λ o le lt same. untold (o, omega (arith, lt), byte_told o ∙ ap Some (sym same)));
      at = λ given v c o holds seen lt told. there given v c o holds seen lt
          (same_some _ _ (sym (byte_told o) ∙ told));
    } where
      there : (given : ℕ → ℕ) (v : World) (c : Component) (o : ℕ) → HoldsHands given v → IsSeen c → o < count
          → Component.RegisterByte r (slice_first slice + first + o) ≡ c
          → shown (after_puts x (puts_to i s depth hand to_register to_register.to) v) c ≡ given (hand + o)
      there given v c o holds seen lt same =
          ap (shown (after_puts x (puts_to i s depth hand to_register to_register.to) v)) (sym same)
          ∙ bytes_at i s x place r is lies (slice_first slice + first) given hand count 0 v holds o (omega arith)
          (omega (arith, lt)) (subst IsSeen (sym same) seen)

  -- ---- a pushed word

  module _ (room : depth < 16) (same_depth : m.scratch_top ≡ depth) (hand : ℕ) (by : By) where
    abbrev to_push : Write
    to_push = record { to = Written.Push; first = 0; count = 4; by = by }

    word_told : (o : ℕ) → written_byte p m Written.Push (0 + o) ≡ Some (Component.ScratchByte (4 * depth + o))
    word_told o = let at : 4 * m.scratch_top + (0 + o) ≡ 4 * depth + o = omega (arith, same_depth) in ap
        (λ j. Some (Component.ScratchByte j)) at

    pub push_writes : WritesWell hand to_push
    push_writes = record {
      writable = words_writable x depth room hand 4 0;
      elsewhere = λ v c seen untold. words_elsewhere x depth room hand 4 0 v c seen
          (λ o le lt same. untold (o, omega (arith, lt), word_told o ∙ ap Some (sym same)));
      at = λ given v c o holds seen lt told. there given v c o holds lt (same_some _ _ (sym (word_told o) ∙ told));
    } where
      there : (given : ℕ → ℕ) (v : World) (c : Component) (o : ℕ) → HoldsHands given v → o < 4
          → Component.ScratchByte (4 * depth + o) ≡ c
          → shown (after_puts x (puts_to i s depth hand to_push to_push.to) v) c ≡ given (hand + o)
      there given v c o holds lt same =
          ap (shown (after_puts x (puts_to i s depth hand to_push to_push.to) v)) (sym same)
          ∙ words_at x depth room given hand 4 0 v holds o (omega arith) (omega (arith, lt)) lt

  -- ---- a flag

  module _ (f : Flag) (hand : ℕ) (by : By) where
    abbrev to_flag : Write
    to_flag = record { to = Written.Flag f; first = 0; count = 1; by = by }

    module _ (low : flag_number f < 6) (one : put_flag f hand by ≡ Put.Plain (flag_cell f) hand ∷ []) where
      flag_writes : WritesWell hand to_flag
      flag_writes = record {
        writable = subst (AreWritable x) (sym one) (flag_writable x f hand low, tt);
        elsewhere = λ v c seen untold. ap (λ l. shown (after_puts x l v) c) one
            ∙ flag_elsewhere x f hand low v c seen (λ same. untold (0, omega arith, ap Some (sym same)));
        at = λ given v c o holds seen lt told. there given v c o holds lt (same_some _ _ told);
      } where
        there : (given : ℕ → ℕ) (v : World) (c : Component) (o : ℕ) → HoldsHands given v → o < 1
            → Component.FlagBit f ≡ c
            → shown (after_puts x (puts_to i s depth hand to_flag to_flag.to) v) c ≡ given (hand + o)
        there given v c o holds lt same =
            ap (λ l. shown (after_puts x l v) c) one
            ∙ ap (shown (after_puts x (Put.Plain (flag_cell f) hand ∷ []) v)) (sym same)
            ∙ flag_at x f hand low v ∙ holds.each hand ∙ ap given (omega (arith, lt))

  -- the direction flag is no cell
  unseen : (c : Component) → IsSeen c → Some (Component.FlagBit Flag.Df) ≡ Some c → ⊥
  unseen c seen told = let low : 6 < 6 = subst IsSeen (sym (same_some _ _ told)) seen in omega (arith, low)

  direction_writes : (hand : ℕ) (by : By) → WritesWell hand (to_flag Flag.Df hand by)
  direction_writes hand (By.Set on) = record {
    writable = (tt, tt);
    elsewhere = λ v c seen untold. refl;
    at = λ given v c o holds seen lt told. absurd (unseen c seen told);
  }
  direction_writes hand (By.Copy source first) = record {
    writable = tt;
    elsewhere = λ v c seen untold. refl;
    at = λ given v c o holds seen lt told. absurd (unseen c seen told);
  }
  direction_writes hand By.Named = record {
    writable = tt;
    elsewhere = λ v c seen untold. refl;
    at = λ given v c o holds seen lt told. absurd (unseen c seen told);
  }

  pub any_flag_writes : (f : Flag) (hand : ℕ) (by : By) → WritesWell hand (to_flag f hand by)
  any_flag_writes Flag.Cf hand by = flag_writes Flag.Cf hand by (omega arith) refl
  any_flag_writes Flag.Pf hand by = flag_writes Flag.Pf hand by (omega arith) refl
  any_flag_writes Flag.Af hand by = flag_writes Flag.Af hand by (omega arith) refl
  any_flag_writes Flag.Zf hand by = flag_writes Flag.Zf hand by (omega arith) refl
  any_flag_writes Flag.Sf hand by = flag_writes Flag.Sf hand by (omega arith) refl
  any_flag_writes Flag.Of hand by = flag_writes Flag.Of hand by (omega arith) refl
  any_flag_writes Flag.Df hand by = direction_writes hand by
