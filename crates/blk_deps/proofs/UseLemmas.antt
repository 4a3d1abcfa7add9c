-- What the words of a value show.
use Rattle.std.proofs.Common.{◌≡◌, ℕ, ◌+◌, ◌*◌, ◌/◌, ◌%◌, ◌<◌, ◌≤◌, nat_lt, ◌&&◌, inl, inr, List, [], ◌∷◌, length, None, Some, true, false, sym, ap, arith}
use Rattle.dataflow.specs.Bits.{facts_in}
use Rattle.std.proofs.lemmas.Bool.{cases_lt, le-ltb}
use Rattle.asm_core.specs.Reg.{reg_number}
use Rattle.asm_core.specs.declared.reg.Reg.{Reg}
use Rattle.blk_deps.specs.Cells.{place_cells}
use Rattle.blk_deps.specs.Ground.{has_cell_bit}
use Rattle.blk_deps.specs.Rules.{Used, uses_entry_of}
use Rattle.blk_deps.specs.Ruling.{some_byte, from_entry, from_class}
use Rattle.blk_deps.proofs.ByteLemmas.{bytes_of_place}
use Rattle.blk_deps.proofs.WordLemmas.{has_all}
use Rattle.blk_deps.specs.Layout.{cell_words, value_words, row_words, slot, shown_value}
use Rattle.blk_deps.specs.declared.layout.Layout.{Layout}
use Rattle.blk_deps.specs.declared.fact.Provenance.TheVariants.{EntryOf, Old}
use Rattle.blk_deps.specs.declared.fact.Property.TheVariants.{ComesFrom}
use Rattle.blk_deps.proofs.SlotLemmas.{block_inside}
use Rattle.blk_deps.proofs.PropertyLemmas.{has_no_bit}

pub entry_bit : (l : Layout) (words : List ℕ) (c x : ℕ) → slot l c ≡ Some x
    → facts_in words (64 * cell_words l + x) ≡ shown_value l words (ComesFrom (EntryOf c))
entry_bit l words c x is = let same : 64 * cell_words l + x ≡ 64 * (0 + cell_words l) + x = omega arith in
    rw is (ap (facts_in words) same)

-- a value has no more words than a row
pub fits_row : (l : Layout) → value_words l ≤ row_words l
fits_row l = let inside = block_inside l 0 (omega arith) in omega (arith, inside)

pub no_entry_bit : (l : Layout) (words : List ℕ) (c : ℕ) → length words ≡ value_words l → slot l c ≡ None → false
    ≡ shown_value l words (ComesFrom (EntryOf c))
no_entry_bit l words c size is = rw is (sym (has_no_bit l words (let fits = fits_row l in omega (arith, fits, size))))

pub reg_below : (r : Reg) → reg_number r < 7
reg_below Reg.Eax = omega arith
reg_below Reg.Ebx = omega arith
reg_below Reg.Ecx = omega arith
reg_below Reg.Edx = omega arith
reg_below Reg.Esi = omega arith
reg_below Reg.Edi = omega arith
reg_below Reg.Ebp = omega arith

in_every : (c : ℕ) → c < 192 → has_cell_bit
    (18446744073709551615 ∷ 18446744073709551615 ∷ 18446744073709551615 ∷ []) c ≡ true
in_every c below = elim (cases_lt c 64) [
  | inl first ↦ let word : c / 64 ≡ 0 = omega arith in rw word (has_all (c % 64) (omega arith))
  | inr more ↦ elim (cases_lt c 128) [
    | inl second ↦ let word : c / 64 ≡ 1 = omega arith in rw word (has_all (c % 64) (omega arith))
    | inr last ↦ let word : c / 64 ≡ 2 = omega arith in rw word (has_all (c % 64) (omega arith))
  ]
]

every_of_class : (used : Used) (c : ℕ) → c < 148 → from_class
    (18446744073709551615 ∷ 18446744073709551615 ∷ 18446744073709551615 ∷ []) used c ≡ from_entry used c
every_of_class used c below = ap (λ b. b && from_entry used c) (in_every c (omega arith))

-- the class of all bytes leaves out none
pub every_byte : (used : Used) (p : ℕ) → p < 37 → some_byte (from_class
    (18446744073709551615 ∷ 18446744073709551615 ∷ 18446744073709551615 ∷ []) used) p
    ≡ uses_entry_of used (place_cells p)
every_byte used p below =
    let first = every_of_class used (4 * p) (omega arith) in
    let second = every_of_class used (4 * p + 1) (omega arith) in
    let third = every_of_class used (4 * p + 2) (omega arith) in
    let fourth = every_of_class used (4 * p + 2 + 1) (omega arith) in
    rw (first, second, third, fourth) (bytes_of_place (from_entry used) p)

pub no_old_bit : (l : Layout) (words : List ℕ) (k : ℕ) → length words ≡ value_words l → l.operands ≤ k
    → nat_lt k l.operands ≡ shown_value l words (ComesFrom (Old k))
no_old_bit l words k size past = rw (le-ltb k l.operands past) (sym (has_no_bit l words (let fits = fits_row l in
    omega (arith, fits, size))))
