-- A write of several bytes of a register: each byte has the value of its hand, and all else is as before.
use Rattle.std.proofs.Common.{◌≡◌, inl, inr, ℕ, zero, suc, ◌+◌, ◌<◌, ◌≤◌, ◌==◌, ◌&&◌, true, false, List, [], ◌∷◌, refl, sym, ap, subst, ◌∙◌, arith}
use Rattle.std.specs.List.{range_with_len, flat_map}
use Rattle.std.proofs.lemmas.Bool.{eq-eqb, ne_eqb, eqb-true, lt-ltb, le-ltb, and_parts, and_from, cases_lt, cases_eq, false_from_ne_true}
use Rattle.asm_core.specs.Reg.{reg_number}
use Rattle.asm_core.specs.RowLaws.{Component}
use Rattle.asm_core.specs.declared.reg.Reg.{Reg}
use Rattle.asm_core.specs.declared.sym.Place.{Place}
use Rattle.asm_core.specs.declared.shape.Shape.{Shape}
use Rattle.asm_core.specs.declared.interface.Interface.{Interface}
use Rattle.asm_core.proofs.RegisterLaws.{same_reg}
use Rattle.blk_deps.specs.Cells.{place_number, byte_cell, hand_cell, flag_cell, place_of, byte_of}
use Rattle.blk_deps.specs.Operands.{is_place}
use Rattle.blk_deps.specs.Line.{put_byte}
use Rattle.blk_deps.specs.declared.step.Put.{Put}
use Rattle.blk_frame.specs.World.{Placed, World, is_register_byte, after_put, after_puts, AreWritable}
use Rattle.blk_frame.specs.Shown.{shown, IsSeen}
use Rattle.blk_frame.proofs.Hands.{HoldsHands, puts_hold, puts_append, writable_append}

abbrev register_byte_in : Component → ℕ
register_byte_in (Component.RegisterByte q j) = j
register_byte_in c = 0

byte_equal : (q r : Reg) (j k : ℕ) → Component.RegisterByte q j ≡ Component.RegisterByte r k → j ≡ k
byte_equal q r j k e = ap register_byte_in e

pub cell_place : (n b : ℕ) → b < 4 → place_of (byte_cell n b) ≡ n
cell_place n b lt = omega arith

pub cell_byte : (n b : ℕ) → b < 4 → byte_of (byte_cell n b) ≡ b
cell_byte n b lt = omega arith

-- place u is a place of the shape, in register r
pub record LiesIn (x : Placed) (u : ℕ) (r : Reg) : Type 0 where
  pub below : u < 37
  pub in_register : x.in_register u ≡ true
  pub register : x.register_of u ≡ reg_number r

module _ (x : Placed) (u : ℕ) (r : Reg) (lies : LiesIn x u r) where
  pub cell_in_register : (b : ℕ) → b < 4 → is_register_byte x (byte_cell u b) ≡ true
  cell_in_register b lt =
      let low = lies.below in
      and_from _ _ (lt-ltb (byte_cell u b) 148 (omega (arith, lt, low)))
      (ap x.in_register (cell_place u b lt) ∙ lies.in_register)

  -- one byte
  module _ (b hand : ℕ) (lt : b < 4) (w : World) where
    abbrev put : World
    put = after_put x (Put.Place (byte_cell u b) hand) w

    at_register : x.register_of (place_of (byte_cell u b)) ≡ reg_number r
    at_register = ap x.register_of (cell_place u b lt) ∙ lies.register

    byte_there : shown put (Component.RegisterByte r b) ≡ w.cells (hand_cell hand)
    byte_there = rw (
      eq-eqb (reg_number r) (x.register_of (place_of (byte_cell u b))) (sym at_register),
      eq-eqb b
          (byte_of (byte_cell u b)) (sym (cell_byte u b lt)),
    ) refl

    byte_elsewhere : (c : Component) → IsSeen c → (c ≡ Component.RegisterByte r b → ⊥) → shown put c ≡ shown w c
    byte_elsewhere (Component.RegisterByte q j) seen other =
        let missed : (reg_number q == x.register_of (place_of (byte_cell u b)) && j == byte_of
        (byte_cell u b)) ≡ false = false_from_ne_true _ hit in
        rw missed refl
      where
        hit : (reg_number q == x.register_of (place_of (byte_cell u b)) && j == byte_of (byte_cell u b)) ≡ true → ⊥
        hit h = let parts = and_parts _ _ h in
            other (ap (λ e. Component.RegisterByte e j) (same_reg q r (eqb-true _ _ parts.0 ∙ at_register))
            ∙ ap (Component.RegisterByte r) (eqb-true _ _ parts.1 ∙ cell_byte u b lt))
    byte_elsewhere (Component.FlagBit f) seen other = let low = lies.below in rw
        (ne_eqb (flag_cell f) (byte_cell u b) (λ e. omega (arith, e, low, lt))) refl
    byte_elsewhere (Component.ScratchByte j) seen other = let low = lies.below in rw
        (ne_eqb (154 + j) (byte_cell u b) (λ e. omega (arith, e, low, lt))) refl
    byte_elsewhere (Component.WholeRegister q) seen other = absurd seen
    byte_elsewhere (Component.MemoryByte a) seen other = absurd seen
    byte_elsewhere Component.Depth seen other = absurd seen
    byte_elsewhere Component.Esp seen other = absurd seen

module _ (i : Interface) (s : Shape) (x : Placed) (place : Place) (r : Reg)
    (is : is_place i s (place_number place) ≡ true) (lies : LiesIn x (place_number place) r) (base : ℕ) where
  -- byte n of the place, counted from the base, is put there if it is one of the four
  module _ (hand n : ℕ) where
    abbrev one : List Put
    one = put_byte i s place (base + n) (hand + n)

    one_there : base + n < 4 → one ≡ Put.Place (byte_cell (place_number place) (base + n)) (hand + n) ∷ []
    one_there lt = rw (lt-ltb (base + n) 4 lt, is) refl

    one_gone : 4 ≤ base + n → one ≡ []
    one_gone le = rw (le-ltb (base + n) 4 le) refl

    one_writable : AreWritable x one
    one_writable = elim (cases_lt (base + n) 4) [
      | inl lt ↦ subst (AreWritable x) (sym (one_there lt))
          (cell_in_register x (place_number place) r lies (base + n) lt, tt)
      | inr le ↦ subst (AreWritable x) (sym (one_gone le)) tt
    ]

    one_elsewhere : (w : World) (c : Component) → IsSeen c → (c ≡ Component.RegisterByte r (base + n) → ⊥)
        → shown (after_puts x one w) c ≡ shown w c
    one_elsewhere w c seen other = elim (cases_lt (base + n) 4) [
      | inl lt ↦ ap (λ l. shown (after_puts x l w) c) (one_there lt)
          ∙ byte_elsewhere x (place_number place) r lies (base + n) (hand + n) lt w c seen other
      | inr le ↦ ap (λ l. shown (after_puts x l w) c) (one_gone le)
    ]

    one_at : (w : World) → base + n < 4 → shown (after_puts x one w) (Component.RegisterByte r (base + n)) ≡ w.cells
        (hand_cell (hand + n))
    one_at w lt = ap (λ l. shown (after_puts x l w) (Component.RegisterByte r (base + n))) (one_there lt)
        ∙ byte_there x (place_number place) r lies (base + n) (hand + n) lt w

  -- the bytes from the n-th on, so many
  abbrev pub bytes_put : ℕ → ℕ → ℕ → List Put
  bytes_put hand n count = flat_map (λ k. put_byte i s place (base + k) (hand + k)) (range_with_len n count)

  pub bytes_writable : (hand count n : ℕ) → AreWritable x (bytes_put hand n count)
  bytes_writable hand zero n = tt
  bytes_writable hand (suc count) n = writable_append x (one hand n) (bytes_put hand (n + 1) count)
      (one_writable hand n) (bytes_writable hand count (n + 1))

  pub bytes_elsewhere : (hand count n : ℕ) (w : World) (c : Component) → IsSeen c
      → ((o : ℕ) → n ≤ o → o < n + count → c ≡ Component.RegisterByte r (base + o) → ⊥)
      → shown (after_puts x (bytes_put hand n count) w) c ≡ shown w c
  bytes_elsewhere hand zero n w c seen other = refl
  bytes_elsewhere hand (suc count) n w c seen other =
      ap (λ v. shown v c) (puts_append x (one hand n) (bytes_put hand (n + 1) count) w)
      ∙ bytes_elsewhere hand count (n + 1) (after_puts x (one hand n) w) c seen
      (λ o le lt. other o (omega (arith, le)) (omega (arith, lt)))
      ∙ one_elsewhere hand n w c seen (other n (omega arith) (omega arith))

  pub bytes_at : (given : ℕ → ℕ) (hand count n : ℕ) (w : World) → HoldsHands given w → (o : ℕ) → n ≤ o → o < n + count
      → base + o < 4
      → shown (after_puts x (bytes_put hand n count) w) (Component.RegisterByte r (base + o)) ≡ given (hand + o)
  bytes_at given hand zero n w holds o le lt small = absurd (omega (arith, le, lt))
  bytes_at given hand (suc count) n w holds o le lt small =
      ap (λ v. shown v (Component.RegisterByte r (base + o)))
      (puts_append x (one hand n) (bytes_put hand (n + 1) count) w)
      ∙ elim (cases_eq o n) [
        | inl same ↦ here same
        | inr other ↦ bytes_at given hand count (n + 1)
            (after_puts x (one hand n) w) (puts_hold x given (one hand n) w (one_writable hand n) holds) o
            (omega (arith, le, other)) (omega (arith, lt)) small
      ]
    where
      here : o ≡ n → shown (after_puts x (bytes_put hand (n + 1) count) (after_puts x (one hand n) w))
          (Component.RegisterByte r (base + o)) ≡ given (hand + o)
      here same = bytes_elsewhere hand count (n + 1) (after_puts x (one hand n) w)
          (Component.RegisterByte r (base + o)) small (λ e from below is_it. past e from is_it)
          ∙ ap (λ e. shown (after_puts x (one hand n) w) (Component.RegisterByte r (base + e))) same
          ∙ one_at hand n w (subst (λ e. base + e < 4) same small) ∙ holds.each (hand + n)
          ∙ ap (λ e. given (hand + e)) (sym same)
        where
          past : (e : ℕ) → n + 1 ≤ e → Component.RegisterByte r (base + o) ≡ Component.RegisterByte r (base + e) → ⊥
          past e from is_it = let sums = byte_equal _ _ _ _ is_it in omega (arith, sums, from, same)
