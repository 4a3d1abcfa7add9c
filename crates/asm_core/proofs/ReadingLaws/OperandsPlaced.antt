-- Reading an operand commutes with placing it.
use Rattle.std.proofs.Common.{◌≡◌, ℕ, zero, suc, ◌+◌, ◌==◌, nat_lt, ℤ, pos, List, [], ◌∷◌, length, map, take, drop, Bool, true, false, cond, Option, None, Some, refl, sym, slice_index}
use Rattle.std.proofs.lemmas.List.{drop-map, take-map, length-map}
use Rattle.std.specs.Option.{option_map}
use Rattle.asm_core.proofs.ReadingLaws.CutKept.{KeepsCodes, codes-kept, begun-kept, if-map}
use Rattle.asm_core.specs.Placement.{spot_of}
use Rattle.asm_core.specs.Pieces.{piece_code}
use Rattle.asm_core.specs.Reading.Cut.{begun}
use Rattle.asm_core.specs.Reading.Written.{register_named, number_of}
use Rattle.asm_core.specs.Reading.Text.{atom_with}
use Rattle.asm_core.specs.Reading.Placed.{placed_place, placed_disp, placed_base, placed_index, spot_form}
use Rattle.asm_core.specs.Reading.Operands.{atom_code, ended, trimmed, hole_of, disp_or, disp_in, whole_register, register_place, place_or, place_in, scale_or, scale_in, before, address, indexed, base_in, index_in, between, enclosed, front_disp, address_at, address_of, register_operand, label_or, written_operand, hole_operand, operand_of, comma_outside, operands_in, operands_of, all_some}
use Rattle.asm_core.specs.declared.reg.Reg.{Reg}
use Rattle.asm_core.specs.declared.reg.Slice.{Slice}
use Rattle.asm_core.specs.declared.sym.Place.{Place}
use Rattle.asm_core.specs.declared.sym.Disp.{Disp}
use Rattle.asm_core.specs.declared.piece.Modifier.{Modifier}
use Rattle.asm_core.specs.declared.piece.Piece.{Piece}
use Rattle.asm_core.specs.declared.placement.Placement.{Placement}
use Rattle.asm_core.specs.declared.reading.Leaf.{Leaf}
use Rattle.asm_core.specs.declared.reading.Atom.{Atom}
use Rattle.asm_core.specs.declared.reading.LineOperand.{LineOperand}

abbrev pub placed_leaf : Placement → Leaf → Leaf
placed_leaf p Leaf.Nothing = Leaf.Nothing
placed_leaf p (Leaf.Register place slice count) = Leaf.Register (placed_place p place) slice count
placed_leaf p (Leaf.Immediate d) = Leaf.Immediate (placed_disp p d)
placed_leaf p (Leaf.Bare d known) = Leaf.Bare (placed_disp p d) known
placed_leaf p (Leaf.Memory k form) = Leaf.Memory k (spot_form (spot_of p k))
placed_leaf p Leaf.Nameless = Leaf.Nameless

-- the piece as a text has it
abbrev pub text_piece : Piece → Piece
text_piece (Piece.Byte b at) = Piece.Byte b 0
text_piece (Piece.Hole k m at) = Piece.Hole k Modifier.Plain 0
text_piece (Piece.Unique at) = Piece.Unique 0

abbrev pub placed_atom : Placement → Atom → Atom
placed_atom p a = atom_with (text_piece a.piece) (placed_leaf p a.leaf)

abbrev pub placed_operand : Placement → LineOperand → LineOperand
placed_operand p (LineOperand.Register place slice count) = LineOperand.Register (placed_place p place) slice count
placed_operand p (LineOperand.Immediate d) = LineOperand.Immediate (placed_disp p d)
placed_operand p (LineOperand.Memory k form) = LineOperand.Memory k (spot_form (spot_of p k))
placed_operand p (LineOperand.Address d base index) = LineOperand.Address (placed_disp p d) (placed_base p base) (placed_index p index)
placed_operand p (LineOperand.Label goal) = LineOperand.Label goal

text_piece-code : (x : Piece) → piece_code (text_piece x) ≡ piece_code x
text_piece-code (Piece.Byte b at) = refl
text_piece-code (Piece.Hole k m at) = refl
text_piece-code (Piece.Unique at) = refl

pub keeps_codes : (p : Placement) → KeepsCodes atom_code atom_code (placed_atom p)
keeps_codes p = record { each = λ x. text_piece-code x.piece }

module _ (p : Placement) where
  abbrev pub placed_all : List Atom → List Atom
  placed_all xs = map (placed_atom p) xs

  pub codes-placed : (xs : List Atom) → map atom_code (placed_all xs) ≡ map atom_code xs
  codes-placed xs = codes-kept atom_code atom_code (placed_atom p) (keeps_codes p) xs

  begun-placed : (xs : List Atom) → begun atom_code (placed_all xs) ≡ placed_all (begun atom_code xs)
  begun-placed xs = begun-kept atom_code atom_code (placed_atom p) (keeps_codes p) xs

  ended-placed : (xs : List Atom) → ended (placed_all xs) ≡ placed_all (ended xs)
  unfolding ended
  ended-placed xs = rw (codes-placed xs, take-map (placed_atom p) _ xs) refl

  pub trimmed-placed : (xs : List Atom) → trimmed (placed_all xs) ≡ placed_all (trimmed xs)
  unfolding trimmed
  trimmed-placed xs = rw (begun-placed xs) (ended-placed (begun atom_code xs))

  hole_of-placed : (xs : List Atom) → hole_of (placed_all xs) ≡ placed_leaf p (hole_of xs)
  hole_of-placed [] = refl
  hole_of-placed (x ∷ []) = refl
  hole_of-placed (x ∷ y ∷ xs) = refl

  disp_or-placed : (leaf : Leaf) (n : Option ℤ) → disp_or (placed_leaf p leaf) n ≡ option_map (placed_disp p) (disp_or leaf n)
  disp_or-placed Leaf.Nothing None = refl
  disp_or-placed Leaf.Nothing (Some n) = refl
  disp_or-placed (Leaf.Register place slice count) None = refl
  disp_or-placed (Leaf.Register place slice count) (Some n) = refl
  disp_or-placed (Leaf.Immediate d) None = refl
  disp_or-placed (Leaf.Immediate d) (Some n) = refl
  disp_or-placed (Leaf.Bare d known) n = refl
  disp_or-placed (Leaf.Memory k form) None = refl
  disp_or-placed (Leaf.Memory k form) (Some n) = refl
  disp_or-placed Leaf.Nameless None = refl
  disp_or-placed Leaf.Nameless (Some n) = refl

  disp_in-placed : (xs : List Atom) → disp_in (placed_all xs) ≡ option_map (placed_disp p) (disp_in xs)
  unfolding disp_in
  disp_in-placed xs = rw (codes-placed xs, hole_of-placed xs) (disp_or-placed (hole_of xs) (number_of (map atom_code xs)))

  -- a register that is written stands for itself
  whole_register-placed : (r : Option (Reg × Slice)) → placed_base p (whole_register r) ≡ whole_register r
  whole_register-placed None = refl
  whole_register-placed (Some (r, Slice.All)) = refl
  whole_register-placed (Some (r, Slice.Low8)) = refl
  whole_register-placed (Some (r, Slice.High8)) = refl
  whole_register-placed (Some (r, Slice.Low16)) = refl

  if_place-placed : (b : Bool) (r : Option (Reg × Slice)) → placed_base p (cond b (whole_register r) None) ≡ cond b (whole_register r) None
  if_place-placed true r = whole_register-placed r
  if_place-placed false r = refl

  place_or-placed : (leaf : Leaf) (other : Option Place) → placed_base p other ≡ other → place_or (placed_leaf p leaf) other ≡ placed_base p (place_or leaf other)
  place_or-placed Leaf.Nothing other own = sym own
  place_or-placed (Leaf.Register place Slice.All count) other own = refl
  place_or-placed (Leaf.Register place Slice.Low8 count) other own = sym own
  place_or-placed (Leaf.Register place Slice.High8 count) other own = sym own
  place_or-placed (Leaf.Register place Slice.Low16 count) other own = sym own
  place_or-placed (Leaf.Immediate d) other own = sym own
  place_or-placed (Leaf.Bare d known) other own = sym own
  place_or-placed (Leaf.Memory k form) other own = sym own
  place_or-placed Leaf.Nameless other own = sym own

  place_in-placed : (xs : List Atom) → place_in (placed_all xs) ≡ placed_base p (place_in xs)
  unfolding place_in
  place_in-placed xs =
      let text = map atom_code xs in
      rw (codes-placed xs, hole_of-placed xs) (place_or-placed (hole_of xs) (register_place text) (if_place-placed (slice_index text 0 == 37) (register_named (drop 1 text))))

  scale_or-placed : (leaf : Leaf) (n : Option ℤ) → scale_or (placed_leaf p leaf) n ≡ scale_or leaf n
  scale_or-placed Leaf.Nothing n = refl
  scale_or-placed (Leaf.Register place slice count) n = refl
  scale_or-placed (Leaf.Immediate d) n = refl
  scale_or-placed (Leaf.Bare d known) n = refl
  scale_or-placed (Leaf.Memory k form) n = refl
  scale_or-placed Leaf.Nameless n = refl

  scale_in-placed : (xs : List Atom) → scale_in (placed_all xs) ≡ scale_in xs
  unfolding scale_in
  scale_in-placed xs = rw (codes-placed xs, hole_of-placed xs) (scale_or-placed (hole_of xs) (number_of (map atom_code xs)))

  address-placed : (d : Option Disp) (base : Option (Option Place)) (index : Option (Option (Place × ℕ)))
      → address (option_map (placed_disp p) d) (option_map (placed_base p) base) (option_map (placed_index p) index) ≡ option_map (placed_operand p) (address d base index)
  address-placed None None index = refl
  address-placed None (Some base) index = refl
  address-placed (Some d) None index = refl
  address-placed (Some d) (Some base) None = refl
  address-placed (Some d) (Some base) (Some index) = refl

  indexed-placed : (place : Option Place) (scale : Option ℕ) → indexed (placed_base p place) scale ≡ option_map (placed_index p) (indexed place scale)
  indexed-placed None None = refl
  indexed-placed None (Some scale) = refl
  indexed-placed (Some place) None = refl
  indexed-placed (Some place) (Some scale) = refl

  some_base-placed : (place : Option Place) → option_map Some (placed_base p place) ≡ option_map (placed_base p) (option_map Some place)
  some_base-placed None = refl
  some_base-placed (Some place) = refl

  base_in-placed : (xs : List Atom) → base_in (placed_all xs) ≡ option_map (placed_base p) (base_in xs)
  unfolding base_in
  base_in-placed xs = rw (length-map, place_in-placed xs, some_base-placed (place_in xs)) (if-map (option_map (placed_base p)) (length xs == 0) (Some None) (option_map Some (place_in xs)))

  index_in-placed : (xs : List Atom) (n : ℕ) → index_in (placed_all xs) n ≡ option_map (placed_index p) (index_in xs n)
  unfolding index_in
  index_in-placed xs n =
      rw (
        length-map,
        take-map (placed_atom p) n xs,
        drop-map (placed_atom p) (n + 1) xs,
        trimmed-placed (take n xs),
        trimmed-placed (drop (n + 1) xs),
        trimmed-placed xs,
        place_in-placed (trimmed (take n xs)),
        scale_in-placed (trimmed (drop (n + 1) xs)),
        place_in-placed (trimmed xs),
        indexed-placed (place_in (trimmed (take n xs))) (scale_in (trimmed (drop (n + 1) xs))),
        indexed-placed (place_in (trimmed xs)) (Some 1),
      )
      (if-map (option_map (placed_index p)) (nat_lt n (length xs)) _ _)

  between-placed : (d : Option Disp) (xs : List Atom) (n : ℕ) → between (option_map (placed_disp p) d) (placed_all xs) n ≡ option_map (placed_operand p) (between d xs n)
  unfolding between
  between-placed d xs n =
      let rest = drop (n + 1) xs in
      rw (
        length-map,
        take-map (placed_atom p) n xs,
        drop-map (placed_atom p) (n + 1) xs,
        codes-placed rest,
        trimmed-placed (take n xs),
        trimmed-placed xs,
        base_in-placed (trimmed (take n xs)),
        index_in-placed rest (before 44 (map atom_code rest)),
        place_in-placed (trimmed xs),
        some_base-placed (place_in (trimmed xs)),
        address-placed d (base_in (trimmed (take n xs))) (index_in rest (before 44 (map atom_code rest))),
        address-placed d (option_map Some (place_in (trimmed xs))) (Some None),
      )
      (if-map (option_map (placed_operand p)) (nat_lt n (length xs)) _ _)

  enclosed-placed : (d : Option Disp) (xs : List Atom) (n : ℕ) → enclosed (option_map (placed_disp p) d) (placed_all xs) n ≡ option_map (placed_operand p) (enclosed d xs n)
  unfolding enclosed
  enclosed-placed d xs zero = refl
  enclosed-placed d xs (suc n) =
      let inner = take n xs in
      rw (take-map (placed_atom p) n xs, codes-placed inner, codes-placed xs, between-placed d inner (before 44 (map atom_code inner)))
      (if-map (option_map (placed_operand p)) (slice_index (map atom_code xs) n == 41) _ None)

  front_disp-placed : (xs : List Atom) → front_disp (placed_all xs) ≡ option_map (placed_disp p) (front_disp xs)
  unfolding front_disp
  front_disp-placed xs = rw (length-map, disp_in-placed xs) (if-map (option_map (placed_disp p)) (length xs == 0) (Some (Disp.Number (pos 0))) (disp_in xs))

  address_at-placed : (xs : List Atom) (n : ℕ) → address_at (placed_all xs) n ≡ option_map (placed_operand p) (address_at xs n)
  unfolding address_at
  address_at-placed xs n =
      let rest = drop (n + 1) xs in
      rw (
        length-map,
        take-map (placed_atom p) n xs,
        drop-map (placed_atom p) (n + 1) xs,
        length-map,
        ended-placed (take n xs),
        front_disp-placed (ended (take n xs)),
        disp_in-placed xs,
        enclosed-placed (front_disp (ended (take n xs))) rest (length rest),
        address-placed (disp_in xs) (Some None) (Some None),
      )
      (if-map (option_map (placed_operand p)) (nat_lt n (length xs)) _ _)

  address_of-placed : (xs : List Atom) → address_of (placed_all xs) ≡ option_map (placed_operand p) (address_of xs)
  unfolding address_of
  address_of-placed xs = rw (codes-placed xs) (address_at-placed xs (before 40 (map atom_code xs)))

  immediate-placed : (d : Option Disp) → option_map LineOperand.Immediate (option_map (placed_disp p) d) ≡ option_map (placed_operand p) (option_map LineOperand.Immediate d)
  immediate-placed None = refl
  immediate-placed (Some d) = refl

  register-placed : (r : Option (Reg × Slice)) → register_operand r ≡ option_map (placed_operand p) (register_operand r)
  register-placed None = refl
  register-placed (Some r) = refl

  label_or-placed : (goal : Option (Option ℕ)) (o : Option LineOperand) → label_or goal (option_map (placed_operand p) o) ≡ option_map (placed_operand p) (label_or goal o)
  label_or-placed None o = refl
  label_or-placed (Some goal) o = refl

  register_case-placed : (b : Bool) (r : Option (Reg × Slice)) (x : Option LineOperand) → cond b (register_operand r) (option_map (placed_operand p) x) ≡ option_map (placed_operand p) (cond b (register_operand r) x)
  register_case-placed true r x = register-placed r
  register_case-placed false r x = refl

  written_operand-placed : (goal : List ℕ → Option (Option ℕ)) (xs : List Atom) → written_operand goal (placed_all xs) ≡ option_map (placed_operand p) (written_operand goal xs)
  unfolding written_operand
  written_operand-placed goal xs =
      let text = map atom_code xs in
      rw (
        codes-placed xs,
        drop-map (placed_atom p) 1 xs,
        disp_in-placed (drop 1 xs),
        immediate-placed (disp_in (drop 1 xs)),
        address_of-placed xs,
        label_or-placed (goal text) (address_of xs),
        register_case-placed (slice_index text 0 == 37) (register_named (drop 1 text)) (label_or (goal text) (address_of xs)),
      )
      (if-map (option_map (placed_operand p)) (slice_index text 0 == 36) (option_map LineOperand.Immediate (disp_in (drop 1 xs))) _)

  hole_operand-placed : (leaf : Leaf) (o : Option LineOperand) → hole_operand (placed_leaf p leaf) (option_map (placed_operand p) o) ≡ option_map (placed_operand p) (hole_operand leaf o)
  hole_operand-placed Leaf.Nothing o = refl
  hole_operand-placed (Leaf.Register place slice count) o = refl
  hole_operand-placed (Leaf.Immediate d) o = refl
  hole_operand-placed (Leaf.Bare d known) o = refl
  hole_operand-placed (Leaf.Memory k form) o = refl
  hole_operand-placed Leaf.Nameless o = refl

  operand_of-placed : (goal : List ℕ → Option (Option ℕ)) (xs : List Atom) → operand_of goal (placed_all xs) ≡ option_map (placed_operand p) (operand_of goal xs)
  unfolding operand_of
  operand_of-placed goal xs = rw (hole_of-placed xs, written_operand-placed goal xs) (hole_operand-placed (hole_of xs) (written_operand goal xs))

  operands_in-placed : (goal : List ℕ → Option (Option ℕ)) (left : ℕ) (xs : List Atom) (n : ℕ) → operands_in goal left (placed_all xs) n ≡ map (option_map (placed_operand p)) (operands_in goal left xs n)
  unfolding operands_in
  operands_in-placed goal zero xs n = refl
  operands_in-placed goal (suc left) xs n =
      let rest = drop (n + 1) xs in
      rw (
        length-map,
        take-map (placed_atom p) n xs,
        drop-map (placed_atom p) (n + 1) xs,
        codes-placed rest,
        trimmed-placed (take n xs),
        operand_of-placed goal (trimmed (take n xs)),
        operands_in-placed goal left rest (comma_outside false (map atom_code rest)),
        if-map (map (option_map (placed_operand p))) (nat_lt n (length xs)) (operands_in goal left rest (comma_outside false (map atom_code rest))) [],
      ) refl

  pub operands_of-placed : (goal : List ℕ → Option (Option ℕ)) (xs : List Atom) → operands_of goal (placed_all xs) ≡ map (option_map (placed_operand p)) (operands_of goal xs)
  unfolding operands_of
  operands_of-placed goal xs =
      rw (length-map, codes-placed xs, operands_in-placed goal 3 xs (comma_outside false (map atom_code xs)))
      (if-map (map (option_map (placed_operand p))) (length xs == 0) [] _)

  all_more-placed : (x : LineOperand) (xs : Option (List LineOperand))
      → option_map (λ (ys : List LineOperand). placed_operand p x ∷ ys) (option_map (map (placed_operand p)) xs) ≡ option_map (map (placed_operand p)) (option_map (λ (ys : List LineOperand). x ∷ ys) xs)
  all_more-placed x None = refl
  all_more-placed x (Some xs) = refl

  pub all_some-placed : (xs : List (Option LineOperand)) → all_some (map (option_map (placed_operand p)) xs) ≡ option_map (map (placed_operand p)) (all_some xs)
  all_some-placed [] = refl
  all_some-placed (None ∷ xs) = refl
  all_some-placed (Some x ∷ xs) = rw (all_some-placed xs) (all_more-placed x (all_some xs))
