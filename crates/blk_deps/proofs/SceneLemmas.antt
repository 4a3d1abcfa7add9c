-- The places of a name, by the words that have them.
use Rattle.std.proofs.Common.{◌≡◌, ◌⊎◌, inl, inr, ℕ, ◌+◌, ◌/◌, ◌<◌, ◌≤◌, ◌==◌, nat_lt, ◌&&◌, List, [], ◌∷◌, length, slice_index, find, Option, None, Some, Bool, true, false, IsTrue, refl, sym, ap, ◌∙◌, arith}
use Rattle.std.specs.List.{slice_get}
use Rattle.std.proofs.lemmas.Bool.{cases_eq, cases_lt, eq-eqb, ne_eqb, lt-ltb, le-ltb, true≢false, ltb-true}
use Rattle.std.proofs.lemmas.Option.{slice_get_past}
use Rattle.asm_core.specs.Reg.{reg_number}
use Rattle.asm_core.specs.declared.reg.Reg.{Reg}
use Rattle.asm_core.specs.declared.finding.Cell.{Cell}
use Rattle.asm_core.specs.declared.shape.Shape.{Shape}
use Rattle.asm_core.specs.declared.interface.Interface.{Interface}
use Rattle.blk_deps.specs.Operands.{holders, first_output, bare_name, name_of, is_output_at}
use Rattle.blk_deps.specs.Ground.{has_bit, has_cell_bit}
use Rattle.blk_deps.specs.Rules.{same_cell, cells_named, uses_entry_of, breaks_u3}
use Rattle.blk_deps.specs.Ruling.{place_index, is_index, is_name_index, mask_at, AreMasks, IsMask, IsNamed, some_place, some_byte, from_entry, from_class}
use Rattle.blk_deps.specs.Layout.{places_in, value_words, shown_value}
use Rattle.blk_deps.specs.declared.layout.Layout.{Layout}
use Rattle.blk_deps.specs.declared.fact.Property.TheVariants.{Pair}
use Rattle.blk_deps.specs.Fits.{some_pair}
use Rattle.blk_deps.specs.Scenes.{IsScene, names_operand}
use Rattle.blk_deps.specs.declared.rules.scene.Scene.{Scene}
use Rattle.blk_deps.proofs.AnyLaws.{true_or_false, and_first, and_second}
use Rattle.blk_deps.proofs.ByteLemmas.{named_bytes, named_pairs, no_named_pair}
use Rattle.blk_deps.proofs.UseLemmas.{reg_below, no_entry_bit, fits_row}
use Rattle.blk_deps.proofs.SlotLemmas.{no_slot_of_byte}
use Rattle.blk_deps.proofs.PropertyLemmas.{has_no_bit}
use Rattle.blk_deps.proofs.WordLemmas.{has_none}

same_number : (a b : ℕ) → (a == b) ≡ (b == a)
same_number a b = elim (cases_eq a b) [
  | inl same ↦ rw same refl
  | inr other ↦ rw (ne_eqb a b other, ne_eqb b a (λ e. other (sym e))) refl
]

same_behind : (a b n : ℕ) → (n + a == n + b) ≡ (b == a)
same_behind a b n = elim (cases_eq b a) [
  | inl same ↦ rw (same, eq-eqb (n + a) (n + a) refl, eq-eqb a a refl) refl
  | inr other ↦ rw (ne_eqb b a other, ne_eqb (n + a) (n + b) (λ e. other (omega arith))) refl
]

index_reg : (name : Cell) (r : Reg) → is_index (place_index name) (reg_number r) ≡ same_cell name (Cell.Reg r)
index_reg (Cell.Reg q) r = same_number (reg_number r) (reg_number q)
index_reg (Cell.Operand j) r = by (true_or_false (nat_lt j 30))
  where
    by : (nat_lt j 30 ≡ true) ⊎ (nat_lt j 30 ≡ false) → is_index (place_index (Cell.Operand j)) (reg_number r) ≡ false
    by (inl is) = let below = reg_below r in rw is (ne_eqb (reg_number r) (7 + j) (λ e. omega arith))
    by (inr is) = rw is refl
index_reg (Cell.Flag f) r = refl
index_reg Cell.Memory r = refl
index_reg Cell.Cc r = refl
index_reg Cell.Nothing r = refl

index_operand : (name : Cell) (k : ℕ) → k < 30 → is_index (place_index name) (7 + k) ≡ same_cell name (Cell.Operand k)
index_operand (Cell.Reg q) k few = let below = reg_below q in ne_eqb (7 + k) (reg_number q) (λ e. omega arith)
index_operand (Cell.Operand j) k few = by (cases_lt j 30)
  where
    by : (j < 30) ⊎ (30 ≤ j) → is_index (place_index (Cell.Operand j)) (7 + k) ≡ (j == k)
    by (inl is) = rw (lt-ltb j 30 is) (same_behind k j 7)
    by (inr is) = rw (le-ltb j 30 is) (sym (ne_eqb j k (λ e. omega arith)))
index_operand (Cell.Flag f) k few = refl
index_operand Cell.Memory k few = refl
index_operand Cell.Cc k few = refl
index_operand Cell.Nothing k few = refl

-- ---- names are of registers or operands

abbrev pub is_place_name : Cell → Bool
is_place_name (Cell.Reg r) = true
is_place_name (Cell.Operand k) = true
is_place_name cell = false

bare_is : (p : ℕ) → is_place_name (bare_name p) ≡ true
bare_is p = by (true_or_false (nat_lt p 7))
  where
    by : (nat_lt p 7 ≡ true) ⊎ (nat_lt p 7 ≡ false) → is_place_name (bare_name p) ≡ true
    by (inl is) = rw is refl
    by (inr is) = rw is refl

first_is : (i : Interface) (js rest : List ℕ) (none : Cell) → is_place_name none ≡ true
    → is_place_name (first_output i js rest none) ≡ true
first_is i js [] none is = is
first_is i js (j ∷ rest) none is = by (find (is_output_at i) js)
  where
    by : (o : Option ℕ) → is_place_name (elim o [ None ↦ Cell.Operand j | Some output ↦ Cell.Operand output ]) ≡ true
    by None = refl
    by (Some output) = refl

name_is : (i : Interface) (s : Shape) (p : ℕ) → is_place_name (name_of i s p) ≡ true
name_is i s p = first_is i (holders i s p) (holders i s p) (bare_name p) (bare_is p)

unlike : (name cell : Cell) → is_place_name name ≡ true → is_place_name cell ≡ false → same_cell name cell ≡ false
unlike (Cell.Reg q) (Cell.Reg r) is other = absurd (true≢false other)
unlike (Cell.Reg q) (Cell.Operand k) is other = absurd (true≢false other)
unlike (Cell.Reg q) (Cell.Flag f) is other = refl
unlike (Cell.Reg q) Cell.Memory is other = refl
unlike (Cell.Reg q) Cell.Cc is other = refl
unlike (Cell.Reg q) Cell.Nothing is other = refl
unlike (Cell.Operand j) (Cell.Reg r) is other = absurd (true≢false other)
unlike (Cell.Operand j) (Cell.Operand k) is other = absurd (true≢false other)
unlike (Cell.Operand j) (Cell.Flag f) is other = refl
unlike (Cell.Operand j) Cell.Memory is other = refl
unlike (Cell.Operand j) Cell.Cc is other = refl
unlike (Cell.Operand j) Cell.Nothing is other = refl
unlike (Cell.Flag f) cell is other = absurd (true≢false (sym is))
unlike Cell.Memory cell is other = absurd (true≢false (sym is))
unlike Cell.Cc cell is other = absurd (true≢false (sym is))
unlike Cell.Nothing cell is other = absurd (true≢false (sym is))

-- a name that places may have, and is of an operand that there is, has a number
has_index : (count : ℕ) (cell : Cell) → count ≤ 30 → is_place_name cell ≡ true → IsTrue (names_operand count cell)
    → (y : ℕ) × (place_index cell ≡ Some y) × (y < 37) × ((name : Cell) → is_index (place_index name) y
    ≡ same_cell name cell)
has_index count (Cell.Reg r) few is within = (
  reg_number r,
  refl,
  (let below = reg_below r in
      omega arith),
  λ name. index_reg name r,
)
has_index count (Cell.Operand k) few is within =
    let below : k < 30 = (let lt = ltb-true k count within in omega (arith, lt)) in
    (7 + k, rw (lt-ltb k 30 below) refl, omega (arith, below), λ name. index_operand name k below)
has_index count (Cell.Flag f) few is within = absurd (true≢false (sym is))
has_index count Cell.Memory few is within = absurd (true≢false (sym is))
has_index count Cell.Cc few is within = absurd (true≢false (sym is))
has_index count Cell.Nothing few is within = absurd (true≢false (sym is))

no_index : (cell : Cell) → is_place_name cell ≡ false → place_index cell ≡ None
no_index (Cell.Reg r) other = absurd (true≢false other)
no_index (Cell.Operand k) other = absurd (true≢false other)
no_index (Cell.Flag f) other = refl
no_index Cell.Memory other = refl
no_index Cell.Cc other = refl
no_index Cell.Nothing other = refl

-- The word of a name has the places of that name.
pub named_mask : (i : Interface) (s : Shape) (names : List Cell) (masks : List ℕ) (cell : Cell) → length i.operands ≤ 30
    → length names ≡ 7 + length i.operands → ((p : ℕ) → p < 7 + length i.operands → slice_get names p
    ≡ Some (name_of i s p))
    → AreMasks names masks → IsTrue (names_operand (length i.operands) cell)
    → IsNamed (7 + length i.operands) (mask_at masks (place_index cell)) (λ p. same_cell (name_of i s p) cell)
named_mask i s names masks cell few count each are within = elim (true_or_false (is_place_name cell)) [
  | inl is ↦ listed (has_index (length i.operands) cell few is within)
  | inr other ↦ record {
    few = omega arith;
    below = λ p lt here. absurd (true≢false (sym here ∙ rw (no_index cell other) (has_none p)));
    same = λ p lt. rw (no_index cell other) (has_none p ∙ sym (unlike (name_of i s p) cell (name_is i s p) other));
  }
]
  where
    listed : (y : ℕ) × (place_index cell ≡ Some y) × (y < 37) × ((name : Cell) → is_index (place_index name) y
        ≡ same_cell name cell)
        → IsNamed (7 + length i.operands) (mask_at masks (place_index cell)) (λ p. same_cell (name_of i s p) cell)
    listed found = record {
      few = omega arith;
      below = λ p lt here. below p lt (sym (ap (λ o. has_bit (mask_at masks o) p) found.1) ∙ here);
      same = λ p lt. ap (λ o. has_bit (mask_at masks o) p) found.1 ∙ are.each found.0 p found.2 (omega arith)
          ∙ ap (λ o. is_name_index o found.0) (each p lt) ∙ found.3 (name_of i s p);
    }
      where
        below : (p : ℕ) → p < 64 → has_bit (slice_index masks found.0) p ≡ true → p < 7 + length i.operands
        below p few here = elim (cases_lt p (7 + length i.operands)) [
          | inl lt ↦ lt
          | inr past ↦ absurd (true≢false (sym here ∙ are.each found.0 p found.2 few
              ∙ ap (λ o. is_name_index o found.0) (slice_get_past names p (omega (arith, past, count)))))
        ]

pub mask_below : (count mask : ℕ) (named : ℕ → Bool) → IsNamed count mask named → IsMask count mask
mask_below count mask named is = record { below = is.below }

pub mask_few : (count mask : ℕ) (named : ℕ → Bool) → IsNamed count mask named → IsMask 37 mask
mask_few count mask named is = record {
  below = λ p lt here. let below = is.below p lt here in
      omega (arith, below, is.few);
}

-- ---- what is used

-- nothing comes from the bytes of places that aren't there
outside_entry : (l : Layout) (words : List ℕ) (c : ℕ) → length words ≡ value_words l → c < 148
    → 7 + l.operands ≤ c / 4 → from_entry (shown_value l words) c ≡ false
outside_entry l words c size below past = sym (no_entry_bit l words c size (no_slot_of_byte l c below (omega arith)))

-- nor is there a pair of such places
pub inside_pair : (l : Layout) (words : List ℕ) (d u : ℕ) → length words ≡ value_words l
    → shown_value l words (Pair d u) ≡ true → (d < 7 + l.operands) × (u < 7 + l.operands)
inside_pair l words d u size is = by (true_or_false (nat_lt d (places_in l) && nat_lt u (places_in l)))
  where
    by : ((nat_lt d (places_in l) && nat_lt u (places_in l))
        ≡ true) ⊎ ((nat_lt d (places_in l) && nat_lt u (places_in l)) ≡ false)
        → (d < 7 + l.operands) × (u < 7 + l.operands)
    by (inl both) = (ltb-true d (places_in l) (and_first _ _ both), ltb-true u (places_in l) (and_second _ _ both))
    by (inr neither) = absurd (true≢false (sym is ∙ rw neither (has_no_bit l words (let fits = fits_row l in
        omega (arith, fits, size)))))

-- a byte of the class that has the name
pub named_class : (i : Interface) (s : Shape) (l : Layout) (words : List ℕ) (mask : ℕ) (bits : List ℕ)
    (class : Interface → Shape → ℕ → Bool) (cell : Cell)
    → length words ≡ value_words l → l.operands ≡ length i.operands
    → IsNamed (7 + length i.operands) mask (λ p. same_cell (name_of i s p) cell) → ((c : ℕ) → c < 148
    → has_cell_bit bits c ≡ class i s c)
    → some_place mask (some_byte (from_class bits (shown_value l words)))
    ≡ uses_entry_of (shown_value l words) (cells_named i s class cell)
named_class i s l words mask bits class cell size operands is of_class =
    named_bytes (7 + length i.operands) mask (λ p. same_cell (name_of i s p) cell) (from_class bits
    (shown_value l words)) (from_entry (shown_value l words)) (class i s) 148 refl is
    (λ c lt. ap (λ b. b && from_entry (shown_value l words) c) (of_class c lt))
    (λ c lt past. outside_entry l words c size lt (omega (arith, operands)))

-- pairs of places that have the names
pub named_uses : (i : Interface) (s : Shape) (l : Layout) (words : List ℕ) (first second : ℕ) (cell other : Cell)
    → length words ≡ value_words l → l.operands ≡ length i.operands
    → IsNamed (7 + length i.operands) first (λ p. same_cell (name_of i s p) cell)
    → IsNamed (7 + length i.operands) second (λ p. same_cell (name_of i s p) other)
    → some_place second (λ u. some_place first (λ d. shown_value l words (Pair d u)))
    ≡ breaks_u3 i s cell other (shown_value l words)
named_uses i s l words first second cell other size operands firsts seconds =
    named_pairs (7 + length i.operands) first second (λ p. same_cell (name_of i s p) cell) (λ p. same_cell
    (name_of i s p) other) (λ d u. shown_value l words (Pair d u)) firsts seconds
    (λ d u is. let inside = inside_pair l words d u size is in
    (omega (arith, inside, operands), omega (arith, inside, operands)))

pub scene_mask : (x : Scene) (cell : Cell) → IsScene x
    → IsTrue (names_operand (length x.context.now.interface.now.operands) cell)
    → IsNamed (7 + length x.context.now.interface.now.operands) (mask_at x.names.now.masks (place_index cell))
    (λ p. same_cell (name_of x.context.now.interface.now x.context.now.shape.now p) cell)
scene_mask x cell is within =
    named_mask x.context.now.interface.now x.context.now.shape.now x.context.now.ground.now.names x.names.now.masks
    cell (omega (arith, is.layout.operands, is.operands))
    is.context.name_count is.context.names is.names within

pub used_class : (x : Scene) (l : Layout) (words : List ℕ) (mask : ℕ) (bits : List ℕ) (class : Interface → Shape
    → ℕ → Bool) (cell : Cell)
    → IsScene x → l ≡ x.layout.now → length words ≡ value_words l
    → IsNamed (7 + length x.context.now.interface.now.operands) mask (λ p. same_cell
    (name_of x.context.now.interface.now x.context.now.shape.now p) cell)
    → ((c : ℕ) → c < 148 → has_cell_bit bits c ≡ class x.context.now.interface.now x.context.now.shape.now c)
    → some_place mask (some_byte (from_class bits (shown_value l words)))
    ≡ uses_entry_of (shown_value l words)
    (cells_named x.context.now.interface.now x.context.now.shape.now class cell)
used_class x l words mask bits class cell is same size named of_class =
    named_class x.context.now.interface.now x.context.now.shape.now l words mask bits class cell size (ap (λ
    (m : Layout). m.operands) same ∙ is.operands) named of_class

pub mask_of_layout : (x : Scene) (l : Layout) (mask : ℕ) (named : ℕ → Bool) → IsScene x → l ≡ x.layout.now
    → IsNamed (7 + length x.context.now.interface.now.operands) mask named → IsMask (places_in l) mask
mask_of_layout x l mask named is same at =
    record {
      below = λ p lt here. let below = at.below p lt here in let operands : l.operands
          ≡ length x.context.now.interface.now.operands = ap (λ (m : Layout). m.operands) same ∙ is.operands in
          omega (arith, below, operands);
    }

pub used_pairs : (x : Scene) (l : Layout) (words : List ℕ) (first second : ℕ) (cell other : Cell) → IsScene x → l
    ≡ x.layout.now → length words ≡ value_words l
    → IsNamed (7 + length x.context.now.interface.now.operands) first (λ p. same_cell
    (name_of x.context.now.interface.now x.context.now.shape.now p) cell)
    → IsNamed (7 + length x.context.now.interface.now.operands) second (λ p. same_cell
    (name_of x.context.now.interface.now x.context.now.shape.now p) other)
    → some_place second (λ u. some_place first (λ d. shown_value l words (Pair d u)))
    ≡ breaks_u3 x.context.now.interface.now x.context.now.shape.now cell other (shown_value l words)
used_pairs x l words first second cell other is same size firsts seconds =
    named_uses x.context.now.interface.now x.context.now.shape.now l words first second cell other size (ap (λ
    (m : Layout). m.operands) same ∙ is.operands) firsts seconds

pub no_used_pairs : (i : Interface) (s : Shape) (l : Layout) (words : List ℕ) (cell other : Cell)
    → some_pair (λ d p. shown_value l words (Pair d p)) ≡ false → breaks_u3 i s cell other (shown_value l words) ≡ false
unfolding some_pair
no_used_pairs i s l words cell other none = no_named_pair (λ p. same_cell (name_of i s p) cell) (λ p. same_cell
    (name_of i s p) other) (λ d u. shown_value l words (Pair d u)) none
