-- A write of a flag or of a pushed word: its cells have the values of their hands, and all else is as before.
use Rattle.std.proofs.Common.{◌≡◌, inl, inr, ℕ, zero, suc, ◌+◌, ◌*◌, ◌<◌, ◌≤◌, List, [], ◌∷◌, refl, sym, ap, subst, ◌∙◌, arith, slice_index_or}
use Rattle.std.specs.List.{range_with_len, flat_map}
use Rattle.std.proofs.lemmas.Bool.{eq-eqb, ne_eqb, lt-ltb, le-ltb, lt-leb, cases_lt, cases_eq}
use Rattle.asm_core.specs.Flag.{flag_number}
use Rattle.asm_core.specs.RowLaws.{Component}
use Rattle.asm_core.specs.declared.flag.Flag.{Flag}
use Rattle.blk_deps.specs.Cells.{hand_cell, flag_cell, word_cell}
use Rattle.blk_deps.specs.Line.{put_word}
use Rattle.blk_deps.specs.declared.step.Put.{Put}
use Rattle.blk_frame.specs.World.{Placed, World, after_put, after_puts, AreWritable, IsWritable}
use Rattle.blk_frame.specs.Shown.{shown, IsSeen}
use Rattle.blk_frame.proofs.Hands.{HoldsHands, puts_hold, puts_append, writable_append}

abbrev scratch_component : Component → ℕ
scratch_component (Component.ScratchByte j) = j
scratch_component c = 0

module _ (x : Placed) (u hand : ℕ) (w : World) where
  plain_there : (after_put x (Put.Plain u hand) w).cells u ≡ w.cells (hand_cell hand)
  plain_there = rw (eq-eqb u u refl) refl

  plain_other : (c : ℕ) → (c ≡ u → ⊥) → (after_put x (Put.Plain u hand) w).cells c ≡ w.cells c
  plain_other c other = rw (ne_eqb c u other) refl

-- ---- flags

abbrev flag_at_place : ℕ → Flag
flag_at_place n = slice_index_or (Flag.Cf ∷ Flag.Pf ∷ Flag.Af ∷ Flag.Zf ∷ Flag.Sf ∷ Flag.Of ∷ Flag.Df ∷ []) n Flag.Cf

flag_back : (f : Flag) → flag_at_place (flag_number f) ≡ f
flag_back Flag.Cf = refl
flag_back Flag.Pf = refl
flag_back Flag.Af = refl
flag_back Flag.Zf = refl
flag_back Flag.Sf = refl
flag_back Flag.Of = refl
flag_back Flag.Df = refl

same_flag : (f g : Flag) → flag_number f ≡ flag_number g → f ≡ g
same_flag f g e = sym (flag_back f) ∙ ap flag_at_place e ∙ flag_back g

module _ (x : Placed) (f : Flag) (hand : ℕ) (low : flag_number f < 6) where
  pub flag_writable : IsWritable x (Put.Plain (flag_cell f) hand)
  flag_writable = (le-ltb (flag_cell f) 148 (omega arith), lt-leb 218 (flag_cell f) (omega (arith, low)))

  pub flag_at : (w : World) → shown (after_put x (Put.Plain (flag_cell f) hand) w) (Component.FlagBit f) ≡ w.cells
      (hand_cell hand)
  flag_at w = plain_there x (flag_cell f) hand w

  pub flag_elsewhere : (w : World) (c : Component) → IsSeen c → (c ≡ Component.FlagBit f → ⊥)
      → shown (after_put x (Put.Plain (flag_cell f) hand) w) c ≡ shown w c
  flag_elsewhere w (Component.RegisterByte q j) seen other = refl
  flag_elsewhere w (Component.FlagBit g) seen other = plain_other x (flag_cell f) hand w (flag_cell g)
      (λ e. other (ap Component.FlagBit (same_flag g f (omega (arith, e)))))
  flag_elsewhere w (Component.ScratchByte j) seen other = plain_other x (flag_cell f) hand w (154 + j)
      (λ e. omega (arith, e, low))
  flag_elsewhere w (Component.WholeRegister q) seen other = absurd seen
  flag_elsewhere w (Component.MemoryByte a) seen other = absurd seen
  flag_elsewhere w Component.Depth seen other = absurd seen
  flag_elsewhere w Component.Esp seen other = absurd seen

-- ---- words

module _ (x : Placed) (depth : ℕ) (room : depth < 16) where
  module _ (hand n : ℕ) where
    abbrev one : List Put
    one = put_word depth n (hand + n)

    one_there : n < 4 → one ≡ Put.Plain (word_cell depth n) (hand + n) ∷ []
    one_there lt = rw (lt-ltb n 4 lt) refl

    one_gone : 4 ≤ n → one ≡ []
    one_gone le = rw (le-ltb n 4 le) refl

    one_writable : AreWritable x one
    one_writable = elim (cases_lt n 4) [
      | inl lt ↦ subst (AreWritable x) (sym (one_there lt))
          ((le-ltb (word_cell depth n) 148 (omega arith), lt-leb 218 (word_cell depth n) (omega (arith, room, lt))), tt)
      | inr le ↦ subst (AreWritable x) (sym (one_gone le)) tt
    ]

    word_elsewhere : (w : World) (c : Component) → IsSeen c → (c ≡ Component.ScratchByte (4 * depth + n) → ⊥)
        → shown (after_put x (Put.Plain (word_cell depth n) (hand + n)) w) c ≡ shown w c
    word_elsewhere w (Component.RegisterByte q j) seen other = refl
    word_elsewhere w (Component.FlagBit g) seen other = plain_other x (word_cell depth n) (hand + n) w (flag_cell g)
        (λ e. omega (arith, e, seen))
    word_elsewhere w (Component.ScratchByte j) seen other = plain_other x (word_cell depth n) (hand + n) w (154 + j)
        (λ e. other (ap Component.ScratchByte (omega (arith, e))))
    word_elsewhere w (Component.WholeRegister q) seen other = absurd seen
    word_elsewhere w (Component.MemoryByte a) seen other = absurd seen
    word_elsewhere w Component.Depth seen other = absurd seen
    word_elsewhere w Component.Esp seen other = absurd seen

    one_elsewhere : (w : World) (c : Component) → IsSeen c → (c ≡ Component.ScratchByte (4 * depth + n) → ⊥)
        → shown (after_puts x one w) c ≡ shown w c
    one_elsewhere w c seen other = elim (cases_lt n 4) [
      | inl lt ↦ ap (λ l. shown (after_puts x l w) c) (one_there lt) ∙ word_elsewhere w c seen other
      | inr le ↦ ap (λ l. shown (after_puts x l w) c) (one_gone le)
    ]

    same_cell : 154 + (4 * depth + n) ≡ word_cell depth n
    same_cell = omega arith

    one_at : (w : World) → n < 4 → shown (after_puts x one w) (Component.ScratchByte (4 * depth + n)) ≡ w.cells
        (hand_cell (hand + n))
    one_at w lt =
        ap (λ l. shown (after_puts x l w) (Component.ScratchByte (4 * depth + n))) (one_there lt)
        ∙ ap (after_put x (Put.Plain (word_cell depth n) (hand + n)) w).cells same_cell
        ∙ plain_there x (word_cell depth n) (hand + n) w

  abbrev pub words_put : ℕ → ℕ → ℕ → List Put
  words_put hand n count = flat_map (λ k. put_word depth k (hand + k)) (range_with_len n count)

  pub words_writable : (hand count n : ℕ) → AreWritable x (words_put hand n count)
  words_writable hand zero n = tt
  words_writable hand (suc count) n = writable_append x (one hand n) (words_put hand (n + 1) count)
      (one_writable hand n) (words_writable hand count (n + 1))

  pub words_elsewhere : (hand count n : ℕ) (w : World) (c : Component) → IsSeen c
      → ((o : ℕ) → n ≤ o → o < n + count → c ≡ Component.ScratchByte (4 * depth + o) → ⊥)
      → shown (after_puts x (words_put hand n count) w) c ≡ shown w c
  words_elsewhere hand zero n w c seen other = refl
  words_elsewhere hand (suc count) n w c seen other =
      ap (λ v. shown v c) (puts_append x (one hand n) (words_put hand (n + 1) count) w)
      ∙ words_elsewhere hand count (n + 1) (after_puts x (one hand n) w) c seen
      (λ o le lt. other o (omega (arith, le)) (omega (arith, lt)))
      ∙ one_elsewhere hand n w c seen (other n (omega arith) (omega arith))

  pub words_at : (given : ℕ → ℕ) (hand count n : ℕ) (w : World) → HoldsHands given w → (o : ℕ) → n ≤ o → o < n + count
      → o < 4
      → shown (after_puts x (words_put hand n count) w) (Component.ScratchByte (4 * depth + o)) ≡ given (hand + o)
  words_at given hand zero n w holds o le lt small = absurd (omega (arith, le, lt))
  words_at given hand (suc count) n w holds o le lt small =
      ap (λ v. shown v (Component.ScratchByte (4 * depth + o)))
      (puts_append x (one hand n) (words_put hand (n + 1) count) w) ∙ elim (cases_eq o n) [
        | inl same ↦ here same
        | inr other ↦ words_at given hand count (n + 1) (after_puts x (one hand n) w)
            (puts_hold x given (one hand n) w (one_writable hand n) holds) o (omega (arith, le, other))
            (omega (arith, lt)) small
      ]
    where
      here : o ≡ n → shown (after_puts x (words_put hand (n + 1) count) (after_puts x (one hand n) w))
          (Component.ScratchByte (4 * depth + o)) ≡ given (hand + o)
      here same = words_elsewhere hand count (n + 1) (after_puts x (one hand n) w)
          (Component.ScratchByte (4 * depth + o)) (omega (arith, room, small)) (λ e from below is_it. past e from is_it)
          ∙ ap (λ e. shown (after_puts x (one hand n) w) (Component.ScratchByte (4 * depth + e))) same
          ∙ one_at hand n w (subst (λ e. e < 4) same small) ∙ holds.each (hand + n)
          ∙ ap (λ e. given (hand + e)) (sym same)
        where
          past : (e : ℕ) → n + 1 ≤ e → Component.ScratchByte (4 * depth + o) ≡ Component.ScratchByte (4 * depth + e) → ⊥
          past e from is_it = let sums : 4 * depth + o ≡ 4 * depth + e = ap scratch_component is_it in omega
              (arith, sums, from, same)
