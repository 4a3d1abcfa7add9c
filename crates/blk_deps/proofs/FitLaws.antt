-- What an instruction reads and puts down fits a layout of its interface with cells of 16 pushed words, where no more words are pushed
-- than can be.
use Rattle.std.proofs.Common.{◌≡◌, ℕ, ◌+◌, ◌<◌, ◌≤◌, ◌&&◌, nat_lt, IsTrue, All, List, [], ◌∷◌, length, refl, arith}
use Rattle.std.specs.List.{list_any}
use Rattle.std.proofs.lemmas.Bool.{lt-ltb}
use Rattle.std.proofs.lemmas.List.Elements.{All-nil, All-append}
use Rattle.asm_core.specs.WellFormed.{IsInterface}
use Rattle.asm_core.specs.declared.flag.Flag.{Flag}
use Rattle.asm_core.specs.declared.sym.Place.{Place}
use Rattle.asm_core.specs.declared.sym.Arg.{Arg}
use Rattle.asm_core.specs.declared.sym.Sym.{Sym}
use Rattle.asm_core.specs.declared.row.Written.{Written}
use Rattle.asm_core.specs.declared.row.By.{By}
use Rattle.asm_core.specs.declared.row.Write.{Write}
use Rattle.asm_core.specs.declared.shape.Shape.{Shape}
use Rattle.asm_core.specs.declared.interface.Interface.{Interface}
use Rattle.blk_deps.specs.Cells.{place_number, slice_first, byte_cell, word_cell, is_byte}
use Rattle.blk_deps.specs.Operands.{is_place}
use Rattle.blk_deps.specs.Layout.{IsLayout}
use Rattle.blk_deps.specs.Fits.{has_slot, fits_put, FitsLayout}
use Rattle.blk_deps.specs.Fitting.{FitsMoves, stack_layout, IsMoved}
use Rattle.blk_deps.specs.Line.{writes_in, line_reads, put_byte, put_word, put_store, set_direction, put_flag, puts_to, puts_from, line_puts, hand_count}
use Rattle.blk_deps.specs.Stack.{is_push, pushes}
use Rattle.blk_deps.specs.declared.layout.Layout.{Layout}
use Rattle.blk_deps.specs.declared.line.LineMoves.{LineMoves}
use Rattle.blk_deps.specs.declared.step.Put.{Put}
use Rattle.blk_deps.proofs.FitLists.{both_true, true_both, either_true, or_true, all_of_one, one_where, all_of_range}
use Rattle.blk_deps.proofs.FitSlots.{place_within, operand_within, byte_is, byte_slot, flag_slot, word_slot}
use Rattle.blk_deps.proofs.FitReads.{IsStackLayout, is_below, reads_fit, reads_count}

module _ (i : Interface) (s : Shape) (l : Layout) (is : IsStackLayout i l) (depth hands : ℕ) where
  abbrev PutsFit : List Put → Type 0
  PutsFit puts = All (λ put. IsTrue (fits_put l hands put)) puts

  byte_fits : (place : Place) (n hand : ℕ) → hand < hands → PutsFit (put_byte i s place n hand)
  byte_fits place n hand within =
      let p = place_number place in
      one_where (λ put. IsTrue (fits_put l hands put)) (nat_lt n 4 && is_place i s p) (Put.Place (byte_cell p n) hand)
      (λ h.
      let parts = both_true (nat_lt n 4) (is_place i s p) h in
      let there = place_within i s l p is.operands parts.1 in
      let byte = is_below n 4 parts.0 in
      let cell = true_both (is_byte (byte_cell p n)) (has_slot l (byte_cell p n)) (byte_is l p n is.layout there byte) (byte_slot l p n is.layout there byte) in
      true_both (is_byte (byte_cell p n) && has_slot l (byte_cell p n)) (nat_lt hand hands) cell (lt-ltb hand hands within))

  word_fits : (n hand : ℕ) → depth < 16 → hand < hands → PutsFit (put_word depth n hand)
  word_fits n hand room within =
      one_where (λ put. IsTrue (fits_put l hands put)) (nat_lt n 4) (Put.Plain (word_cell depth n) hand)
      (λ h. true_both (has_slot l (word_cell depth n)) (nat_lt hand hands) (word_slot l depth n is.words room (is_below n 4 h)) (lt-ltb hand hands within))

  store_fits : (k : ℕ) (w : Write) → PutsFit (put_store i s k w)
  store_fits k w = one_where (λ put. IsTrue (fits_put l hands put)) (is_place i s (7 + k)) (Put.Store k w.first w.count) (operand_within i s l k is.operands)

  direction_fits : (by : By) → PutsFit (set_direction by)
  direction_fits (By.Set on) = all_of_one (λ put. IsTrue (fits_put l hands put)) (Put.Direction on) refl
  direction_fits (By.Copy source first) = All-nil (λ put. IsTrue (fits_put l hands put))
  direction_fits By.Named = All-nil (λ put. IsTrue (fits_put l hands put))

  one_flag_fits : (n hand : ℕ) → n < 6 → hand < hands → PutsFit (Put.Plain (148 + n) hand ∷ [])
  one_flag_fits n hand small within =
      all_of_one (λ put. IsTrue (fits_put l hands put)) (Put.Plain (148 + n) hand)
      (true_both (has_slot l (148 + n)) (nat_lt hand hands) (flag_slot l n small) (lt-ltb hand hands within))

  flag_fits : (f : Flag) (hand : ℕ) (by : By) → hand < hands → PutsFit (put_flag f hand by)
  flag_fits Flag.Cf hand by within = one_flag_fits 0 hand (omega arith) within
  flag_fits Flag.Pf hand by within = one_flag_fits 1 hand (omega arith) within
  flag_fits Flag.Af hand by within = one_flag_fits 2 hand (omega arith) within
  flag_fits Flag.Zf hand by within = one_flag_fits 3 hand (omega arith) within
  flag_fits Flag.Sf hand by within = one_flag_fits 4 hand (omega arith) within
  flag_fits Flag.Of hand by within = one_flag_fits 5 hand (omega arith) within
  flag_fits Flag.Df hand by within = direction_fits by

  put_fits : (hand : ℕ) (w : Write) (to : Written) → hand + w.count < hands → (IsTrue (is_push to) → depth < 16) → PutsFit (puts_to i s depth hand w to)
  put_fits hand w (Written.Arg (Arg.Register place slice)) within room =
      all_of_range (λ put. IsTrue (fits_put l hands put)) (λ n. put_byte i s place (slice_first slice + w.first + n) (hand + n)) 0 w.count
      (λ n small. byte_fits place (slice_first slice + w.first + n) (hand + n) (omega (arith, small, within)))
  put_fits hand w (Written.Arg (Arg.Memory k)) within room = store_fits k w
  put_fits hand w (Written.Arg (Arg.Address disp base index)) within room = All-nil (λ put. IsTrue (fits_put l hands put))
  put_fits hand w (Written.Arg (Arg.Number n)) within room = All-nil (λ put. IsTrue (fits_put l hands put))
  put_fits hand w (Written.Arg (Arg.Hole h)) within room = All-nil (λ put. IsTrue (fits_put l hands put))
  put_fits hand w (Written.Arg (Arg.Label h)) within room = All-nil (λ put. IsTrue (fits_put l hands put))
  put_fits hand w (Written.Flag f) within room = flag_fits f hand w.by (omega (arith, within))
  put_fits hand w Written.Push within room =
      all_of_range (λ put. IsTrue (fits_put l hands put)) (λ n. put_word depth n (hand + n)) 0 w.count
      (λ n small. word_fits n (hand + n) (room refl) (omega (arith, small, within)))
  put_fits hand w Written.Pop within room = All-nil (λ put. IsTrue (fits_put l hands put))

  puts_from_fit : (hand : ℕ) (ws : List Write) → hand + hand_count ws < hands → (IsTrue (list_any (λ (w : Write). is_push w.to) ws) → depth < 16)
      → PutsFit (puts_from i s depth hand ws)
  puts_from_fit hand [] within room = All-nil (λ put. IsTrue (fits_put l hands put))
  puts_from_fit hand (w ∷ ws) within room =
      All-append (λ put. IsTrue (fits_put l hands put)) (puts_to i s depth hand w w.to) (puts_from i s depth (hand + w.count) ws)
      (put_fits hand w w.to (omega (arith, within)) (λ h. room (either_true (is_push w.to) (list_any (λ (w : Write). is_push w.to) ws) h)))
      (puts_from_fit (hand + w.count) ws (omega (arith, within)) (λ h. room (or_true (is_push w.to) (list_any (λ (w : Write). is_push w.to) ws) h)))

pub line_fits : (i : Interface) (s : Shape) (l : Layout) (depth : ℕ) (line : Sym)
    → IsLayout l → l.operands ≡ length i.operands → l.words ≡ 16 → depth ≤ 16 → (IsTrue (pushes line) → depth < 16)
    → FitsLayout l (line_reads i s depth line) (line_puts i s depth line)
line_fits i s l depth line layout operands words few room =
    let is : IsStackLayout i l = record { layout = layout; operands = operands; words = words } in
    let hands = length (line_reads i s depth line) in
    let count = reads_count i s depth line in
    record {
      of_reads = reads_fit i s l is depth few line;
      of_puts = puts_from_fit i s l is depth hands 0 (writes_in line) (omega (arith, count)) room;
    }

-- What is made for an instruction fits the layout with cells of pushed words.
pub moves_fit : (i : Interface) (s : Shape) (m : LineMoves) → IsInterface i → IsMoved i s m → FitsMoves (stack_layout i) m
moves_fit i s m well moved =
    let layout : IsLayout (stack_layout i) = record { operands = well.few; words = omega arith } in
    let fit = line_fits i s (stack_layout i) moved.depth moved.line layout refl refl moved.few moved.room in
    rw (moved.moves.reads, moved.moves.puts) fit

pub all_moves_fit : (i : Interface) (s : Shape) (moves : List LineMoves) → IsInterface i → All (IsMoved i s) moves → All (FitsMoves (stack_layout i)) moves
all_moves_fit i s moves well moved k d within = moves_fit i s _ well (moved k d within)
