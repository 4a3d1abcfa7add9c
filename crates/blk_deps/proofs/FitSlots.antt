-- The cells that an instruction can speak of have slots in a layout of its interface.
use Rattle.std.proofs.Common.{◌≡◌, ℕ, ◌+◌, ◌-◌, ◌*◌, ◌<◌, ◌≤◌, nat_lt, Bool, true, false, IsTrue, All, List, [], ◌∷◌, length, refl, arith}
use Rattle.std.proofs.lemmas.Option.{slice_get_past}
use Rattle.std.proofs.lemmas.Bool.Decides.{nat_tests}
use Rattle.std.proofs.lemmas.Bool.{lt-ltb, le-ltb}
use Rattle.std.proofs.lemmas.List.Elements.{All-cons}
use Rattle.asm_core.specs.declared.reg.Slice.{Slice}
use Rattle.asm_core.specs.declared.shape.Shape.{Shape}
use Rattle.asm_core.specs.declared.interface.Interface.{Interface}
use Rattle.blk_deps.specs.Cells.{is_byte, byte_cell, word_cell, place_cells, word_cells, slice_cells}
use Rattle.blk_deps.specs.Operands.{is_place}
use Rattle.blk_deps.specs.Layout.{IsLayout, places_in}
use Rattle.blk_deps.specs.Fits.{has_slot}
use Rattle.blk_deps.specs.declared.layout.Layout.{Layout}
use Rattle.blk_deps.proofs.SlotLemmas.{slot_of_byte}
use Rattle.blk_deps.proofs.FitLists.{all_of_one, all_of_two}

abbrev pub HaveSlots : Layout → List ℕ → Type 0
HaveSlots l cells = All (λ c. IsTrue (has_slot l c)) cells

pub place_within : (i : Interface) (s : Shape) (l : Layout) (p : ℕ) → l.operands ≡ length i.operands → IsTrue (is_place i s p) → p < places_in l
place_within i s l p count is = by_test (nat_lt p (7 + l.operands)) refl
  where
    by_test : (t : Bool) → nat_lt p (7 + l.operands) ≡ t → p < places_in l
    by_test true e = grind (arith, nat_tests, e)
    by_test false e =
        let past : 7 + l.operands ≤ p = grind (arith, nat_tests, e) in
        let none = slice_get_past i.operands (p - 7) (omega (arith, past, count)) in
        grind (arith, nat_tests, none, past, is)

pub operand_within : (i : Interface) (s : Shape) (l : Layout) (k : ℕ) → l.operands ≡ length i.operands → IsTrue (is_place i s (7 + k)) → IsTrue (nat_lt k l.operands)
operand_within i s l k count is = let within = place_within i s l (7 + k) count is in lt-ltb k l.operands (omega (arith, within))

pub byte_is : (l : Layout) (p b : ℕ) → IsLayout l → p < places_in l → b < 4 → IsTrue (is_byte (byte_cell p b))
byte_is l p b is place byte = lt-ltb (4 * p + b) 148 (omega (arith, is.operands, place, byte))

pub byte_slot : (l : Layout) (p b : ℕ) → IsLayout l → p < places_in l → b < 4 → IsTrue (has_slot l (byte_cell p b))
byte_slot l p b is place byte = rw (slot_of_byte l (byte_cell p b) is (omega (arith, place, byte))) refl

pub flag_slot : (l : Layout) (n : ℕ) → n < 6 → IsTrue (has_slot l (148 + n))
flag_slot l n few = rw (le-ltb (148 + n) 148 (omega arith), lt-ltb (148 + n) 154 (omega (arith, few))) refl

pub word_slot : (l : Layout) (n b : ℕ) → l.words ≡ 16 → n < 16 → b < 4 → IsTrue (has_slot l (word_cell n b))
word_slot l n b words word byte =
    rw (le-ltb (word_cell n b) 148 (omega arith), le-ltb (word_cell n b) 154 (omega arith), lt-ltb (word_cell n b) (154 + 4 * l.words) (omega (arith, words, word, byte))) refl

pub four_slots : (l : Layout) (f : ℕ → ℕ) → ((b : ℕ) → b < 4 → IsTrue (has_slot l (f b))) → HaveSlots l (f 0 ∷ f 1 ∷ f 2 ∷ f 3 ∷ [])
four_slots l f each =
    All-cons (λ c. IsTrue (has_slot l c)) (f 0) (f 1 ∷ f 2 ∷ f 3 ∷ []) (each 0 (omega arith))
    (All-cons (λ c. IsTrue (has_slot l c)) (f 1) (f 2 ∷ f 3 ∷ []) (each 1 (omega arith))
    (all_of_two (λ c. IsTrue (has_slot l c)) (f 2) (f 3) (each 2 (omega arith)) (each 3 (omega arith))))

pub place_slots : (l : Layout) (p : ℕ) → IsLayout l → p < places_in l → HaveSlots l (place_cells p)
place_slots l p is place = four_slots l (byte_cell p) (λ b byte. byte_slot l p b is place byte)

pub word_slots : (l : Layout) (n : ℕ) → l.words ≡ 16 → n < 16 → HaveSlots l (word_cells n)
word_slots l n words word = four_slots l (word_cell n) (λ b byte. word_slot l n b words word byte)

pub slice_slots : (l : Layout) (p : ℕ) (slice : Slice) → IsLayout l → p < places_in l → HaveSlots l (slice_cells p slice)
slice_slots l p Slice.Low8 is place = all_of_one (λ c. IsTrue (has_slot l c)) (byte_cell p 0) (byte_slot l p 0 is place (omega arith))
slice_slots l p Slice.High8 is place = all_of_one (λ c. IsTrue (has_slot l c)) (byte_cell p 1) (byte_slot l p 1 is place (omega arith))
slice_slots l p Slice.Low16 is place =
    all_of_two (λ c. IsTrue (has_slot l c)) (byte_cell p 0) (byte_cell p 1) (byte_slot l p 0 is place (omega arith)) (byte_slot l p 1 is place (omega arith))
slice_slots l p Slice.All is place = place_slots l p is place
