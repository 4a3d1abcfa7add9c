-- Under a placement by letters each operand of a line is placed.
use Rattle.std.proofs.Common.{◌≡◌, ℕ, zero, suc, ◌+◌, ◌==◌, ◌&&◌, ◌≤◌, nat_lt, ℤ, pos, List, [], ◌∷◌, length, map, take, drop, Bool, true, false, cond, Option, None, Some, refl, subst, slice_index, arith}
use Rattle.std.proofs.lemmas.Bool.{and_from}
use Rattle.std.specs.List.{list_all}
use Rattle.std.specs.Option.{option_map}
use Rattle.asm_core.specs.Reading.Cut.{begun}
use Rattle.asm_core.specs.Reading.Written.{register_named, number_of}
use Rattle.asm_core.specs.Reading.Operands.{atom_code, ended, trimmed, hole_of, whole_register, register_place, place_or, indexed, scale_in, number_disp, disp_or, disp_in, before, address, base_in, index_in, place_in, between, enclosed, front_disp, address_at, address_of, is_cl, register_operand, label_or, written_operand, hole_operand, operand_of, comma_outside, operands_in, operands_of, all_some}
use Rattle.asm_core.specs.Reading.Placed.{placed_disp}
use Rattle.asm_core.proofs.ReadingLaws.CutWhole.{first_true, both_true}
use Rattle.asm_core.proofs.ReadingLaws.WrittenCodes.{cond_some}
use Rattle.asm_core.specs.declared.reg.Reg.{Reg}
use Rattle.asm_core.specs.declared.reg.Slice.{Slice}
use Rattle.asm_core.specs.declared.sym.Place.{Place}
use Rattle.asm_core.specs.declared.sym.Disp.{Disp}
use Rattle.asm_core.specs.declared.placement.Spot.{Spot}
use Rattle.asm_core.specs.declared.placement.Placement.{Placement}
use Rattle.asm_core.specs.declared.reading.Leaf.{Leaf}
use Rattle.asm_core.specs.declared.reading.Atom.{Atom}
use Rattle.asm_core.specs.declared.reading.LineOperand.{LineOperand}

abbrev pub is_number : Disp → Bool
is_number (Disp.Number n) = true
is_number (Disp.Hole k) = false

abbrev pub is_memory : Spot → Bool
is_memory (Spot.Memory form) = true
is_memory (Spot.Register r) = false
is_memory Spot.Pair = false
is_memory (Spot.Number n) = false

-- Places of registers that a test passes, besides registers themselves, and memory operands that one passes.
module _ (p : Placement) (is_place_fit : Place → Bool) (registers : (r : Reg) → is_place_fit (Place.Reg r) ≡ true)
    (is_memory_fit : ℕ → Bool) where
  -- the placement says where it is
  abbrev pub is_leaf_placed : Leaf → Bool
  is_leaf_placed Leaf.Nothing = true
  is_leaf_placed (Leaf.Register place slice count) = is_place_fit place
  is_leaf_placed (Leaf.Immediate d) = is_number (placed_disp p d)
  is_leaf_placed (Leaf.Bare d known) = is_number (placed_disp p d)
  is_leaf_placed (Leaf.Memory k form) = is_memory_fit k
  is_leaf_placed Leaf.Nameless = true

  abbrev pub is_base_fit : Option Place → Bool
  is_base_fit None = true
  is_base_fit (Some place) = is_place_fit place

  abbrev pub is_index_fit : Option (Place × ℕ) → Bool
  is_index_fit None = true
  is_index_fit (Some x) = is_place_fit x.0

  abbrev pub is_operand_placed : LineOperand → Bool
  is_operand_placed (LineOperand.Register place slice count) = is_place_fit place
  is_operand_placed (LineOperand.Immediate d) = is_number (placed_disp p d)
  is_operand_placed (LineOperand.Memory k form) = is_memory_fit k
  is_operand_placed (LineOperand.Address d base index) =
      is_number (placed_disp p d) && (is_base_fit base && is_index_fit index)
  is_operand_placed (LineOperand.Label goal) = true

  abbrev pub ArePlaced : List Atom → Type 0
  ArePlaced xs = list_all (λ (x : Atom). is_leaf_placed x.leaf) xs ≡ true

  pub drop_placed : (n : ℕ) (xs : List Atom) → ArePlaced xs → ArePlaced (drop n xs)
  drop_placed zero xs h = h
  drop_placed (suc n) [] h = refl
  drop_placed (suc n) (x ∷ xs) h = drop_placed n xs (both_true (is_leaf_placed x.leaf) _ h)

  take_placed : (n : ℕ) (xs : List Atom) → ArePlaced xs → ArePlaced (take n xs)
  take_placed zero xs h = refl
  take_placed (suc n) [] h = refl
  take_placed (suc n) (x ∷ xs) h =
      and_from (is_leaf_placed x.leaf) _ (first_true (is_leaf_placed x.leaf) _ h)
      (take_placed n xs (both_true (is_leaf_placed x.leaf) _ h))

  ended_placed : (xs : List Atom) → ArePlaced xs → ArePlaced (ended xs)
  unfolding ended
  ended_placed xs h = take_placed _ xs h

  pub trimmed_placed : (xs : List Atom) → ArePlaced xs → ArePlaced (trimmed xs)
  unfolding trimmed begun
  trimmed_placed xs h = ended_placed _ (drop_placed _ xs h)

  hole_placed : (xs : List Atom) → ArePlaced xs → is_leaf_placed (hole_of xs) ≡ true
  hole_placed [] h = refl
  hole_placed (x ∷ []) h = first_true (is_leaf_placed x.leaf) _ h
  hole_placed (x ∷ y ∷ xs) h = refl

  -- ---- numbers

  number_placed : (n : Option ℤ) (d : Disp) → number_disp n ≡ Some d → is_number (placed_disp p d) ≡ true
  number_placed None d e = cc
  number_placed (Some n) d e =
      let same : Disp.Number n ≡ d = cc in subst (λ x. is_number (placed_disp p x) ≡ true) same refl

  disp_leaf : (leaf : Leaf) (n : Option ℤ) (d : Disp) → is_leaf_placed leaf ≡ true → disp_or leaf n ≡ Some d
      → is_number (placed_disp p d) ≡ true
  disp_leaf (Leaf.Bare disp known) n d h e =
      let same : disp ≡ d = cc in subst (λ x. is_number (placed_disp p x) ≡ true) same h
  disp_leaf Leaf.Nothing n d h e = number_placed n d e
  disp_leaf (Leaf.Register place slice count) n d h e = number_placed n d e
  disp_leaf (Leaf.Immediate disp) n d h e = number_placed n d e
  disp_leaf (Leaf.Memory k form) n d h e = number_placed n d e
  disp_leaf Leaf.Nameless n d h e = number_placed n d e

  -- a number that is there is one under the placement
  abbrev IsDispPlaced : Option Disp → Type 0
  IsDispPlaced o = (d : Disp) → o ≡ Some d → is_number (placed_disp p d) ≡ true

  disp_placed : (xs : List Atom) → ArePlaced xs → IsDispPlaced (disp_in xs)
  unfolding disp_in
  disp_placed xs h d e = disp_leaf (hole_of xs) (number_of (map atom_code xs)) d (hole_placed xs h) e

  front_placed : (xs : List Atom) → ArePlaced xs → IsDispPlaced (front_disp xs)
  unfolding front_disp
  front_placed xs h d e =
      cond_some (length xs == 0) (Some (Disp.Number (pos 0))) (disp_in xs) d (is_number (placed_disp p d) ≡ true)
      (λ c f. let same : Disp.Number (pos 0) ≡ d = cc in subst (λ x. is_number (placed_disp p x) ≡ true) same refl)
      (λ c f. disp_placed xs h d f) e

  -- ---- places

  -- a place that is there passes the test
  abbrev IsPlaceFit : Option Place → Type 0
  IsPlaceFit o = (place : Place) → o ≡ Some place → is_place_fit place ≡ true

  whole_fit : (r : Option (Reg × Slice)) → IsPlaceFit (whole_register r)
  whole_fit None place e = cc
  whole_fit (Some (r, Slice.All)) place e =
      let same : Place.Reg r ≡ place = cc in subst (λ x. is_place_fit x ≡ true) same (registers r)
  whole_fit (Some (r, Slice.Low8)) place e = cc
  whole_fit (Some (r, Slice.High8)) place e = cc
  whole_fit (Some (r, Slice.Low16)) place e = cc

  named_fit : (text : List ℕ) → IsPlaceFit (register_place text)
  named_fit text place e =
      cond_some (slice_index text 0 == 37) (whole_register (register_named (drop 1 text))) None place
      (is_place_fit place ≡ true)
      (λ c f. whole_fit (register_named (drop 1 text)) place f) (λ c f. cc) e

  place_fit : (leaf : Leaf) (other : Option Place) → is_leaf_placed leaf ≡ true → IsPlaceFit other
      → IsPlaceFit (place_or leaf other)
  place_fit (Leaf.Register q Slice.All count) other h named place e =
      let same : q ≡ place = cc in subst (λ x. is_place_fit x ≡ true) same h
  place_fit (Leaf.Register q Slice.Low8 count) other h named place e = named place e
  place_fit (Leaf.Register q Slice.High8 count) other h named place e = named place e
  place_fit (Leaf.Register q Slice.Low16 count) other h named place e = named place e
  place_fit Leaf.Nothing other h named place e = named place e
  place_fit (Leaf.Immediate d) other h named place e = named place e
  place_fit (Leaf.Bare d known) other h named place e = named place e
  place_fit (Leaf.Memory k form) other h named place e = named place e
  place_fit Leaf.Nameless other h named place e = named place e

  in_place : (xs : List Atom) → ArePlaced xs → IsPlaceFit (place_in xs)
  unfolding place_in
  in_place xs h place e =
      place_fit (hole_of xs) (register_place (map atom_code xs)) (hole_placed xs h) (named_fit (map atom_code xs))
      place e

  -- ---- addresses

  abbrev IsBaseFit : Option (Option Place) → Type 0
  IsBaseFit o = (base : Option Place) → o ≡ Some base → is_base_fit base ≡ true

  abbrev IsIndexFit : Option (Option (Place × ℕ)) → Type 0
  IsIndexFit o = (index : Option (Place × ℕ)) → o ≡ Some index → is_index_fit index ≡ true

  no_base : IsBaseFit (Some None)
  no_base base e = let same : None ≡ base = cc in subst (λ x. is_base_fit x ≡ true) same refl

  no_index : IsIndexFit (Some None)
  no_index index e = let same : None ≡ index = cc in subst (λ x. is_index_fit x ≡ true) same refl

  some_base : (place : Option Place) → IsPlaceFit place → IsBaseFit (option_map Some place)
  some_base None h base e = cc
  some_base (Some place) h base e =
      let same : Some place ≡ base = cc in subst (λ x. is_base_fit x ≡ true) same (h place refl)

  base_fit : (xs : List Atom) → ArePlaced xs → IsBaseFit (base_in xs)
  unfolding base_in
  base_fit xs h base e =
      cond_some (length xs == 0) (Some None) (option_map Some (place_in xs)) base (is_base_fit base ≡ true)
      (λ c f. no_base base f) (λ c f. some_base (place_in xs) (in_place xs h) base f) e

  indexed_fit : (place : Option Place) (scale : Option ℕ) → IsPlaceFit place → IsIndexFit (indexed place scale)
  indexed_fit None scale h index e = cc
  indexed_fit (Some place) None h index e = cc
  indexed_fit (Some place) (Some scale) h index e =
      let same : Some (place, scale) ≡ index = cc in subst (λ x. is_index_fit x ≡ true) same (h place refl)

  index_fit : (xs : List Atom) (n : ℕ) → ArePlaced xs → IsIndexFit (index_in xs n)
  unfolding index_in
  index_fit xs n h index e =
      cond_some (nat_lt n (length xs)) (indexed (place_in (trimmed (take n xs))) (scale_in (trimmed (drop (n + 1) xs))))
      (indexed (place_in (trimmed xs)) (Some 1)) index (is_index_fit index ≡ true)
      (λ c f. indexed_fit (place_in (trimmed (take n xs))) (scale_in (trimmed (drop (n + 1) xs)))
      (in_place (trimmed (take n xs)) (trimmed_placed (take n xs) (take_placed n xs h))) index f)
      (λ c f. indexed_fit (place_in (trimmed xs)) (Some 1) (in_place (trimmed xs) (trimmed_placed xs h)) index f) e

  abbrev IsOperandPlaced : Option LineOperand → Type 0
  IsOperandPlaced o = (a : LineOperand) → o ≡ Some a → is_operand_placed a ≡ true

  address_placed : (d : Option Disp) (base : Option (Option Place)) (index : Option (Option (Place × ℕ)))
      → IsDispPlaced d → IsBaseFit base → IsIndexFit index → IsOperandPlaced (address d base index)
  address_placed None base index h b i a e = cc
  address_placed (Some d) None index h b i a e = cc
  address_placed (Some d) (Some base) None h b i a e = cc
  address_placed (Some d) (Some base) (Some index) h b i a e =
      let same : LineOperand.Address d base index ≡ a = cc in
      subst (λ x. is_operand_placed x ≡ true) same
      (and_from (is_number (placed_disp p d)) (is_base_fit base && is_index_fit index) (h d refl)
      (and_from (is_base_fit base) (is_index_fit index) (b base refl) (i index refl)))

  between_placed : (d : Option Disp) (xs : List Atom) (n : ℕ) → IsDispPlaced d → ArePlaced xs
      → IsOperandPlaced (between d xs n)
  unfolding between
  between_placed d xs n h placed a e =
      let rest = drop (n + 1) xs in
      let first = trimmed (take n xs) in
      let comma = before 44 (map atom_code rest) in
      cond_some (nat_lt n (length xs)) (address d (base_in first) (index_in rest comma))
      (address d (option_map Some (place_in (trimmed xs))) (Some None)) a (is_operand_placed a ≡ true)
      (λ c f. address_placed d (base_in first) (index_in rest comma) h
      (base_fit first (trimmed_placed (take n xs) (take_placed n xs placed)))
      (index_fit rest comma (drop_placed (n + 1) xs placed)) a f)
      (λ c f. address_placed d (option_map Some (place_in (trimmed xs))) (Some None) h
      (some_base (place_in (trimmed xs)) (in_place (trimmed xs) (trimmed_placed xs placed))) no_index a f) e

  enclosed_placed : (d : Option Disp) (xs : List Atom) (n : ℕ) → IsDispPlaced d → ArePlaced xs
      → IsOperandPlaced (enclosed d xs n)
  unfolding enclosed
  enclosed_placed d xs zero h placed a e = cc
  enclosed_placed d xs (suc n) h placed a e =
      let inner = take n xs in
      cond_some (slice_index (map atom_code xs) n == 41) (between d inner (before 44 (map atom_code inner))) None a
      (is_operand_placed a ≡ true)
      (λ c f. between_placed d inner (before 44 (map atom_code inner)) h (take_placed n xs placed) a f) (λ c f. cc) e

  address_of_placed : (xs : List Atom) → ArePlaced xs → IsOperandPlaced (address_of xs)
  unfolding address_of address_at
  address_of_placed xs h a e =
      let n = before 40 (map atom_code xs) in
      let rest = drop (n + 1) xs in
      cond_some (nat_lt n (length xs)) (enclosed (front_disp (ended (take n xs))) rest (length rest))
      (address (disp_in xs) (Some None) (Some None)) a (is_operand_placed a ≡ true)
      (λ c f. enclosed_placed (front_disp (ended (take n xs))) rest (length rest)
      (front_placed (ended (take n xs)) (ended_placed (take n xs) (take_placed n xs h))) (drop_placed (n + 1) xs h) a f)
      (λ c f. address_placed (disp_in xs) (Some None) (Some None) (disp_placed xs h) no_base no_index a f) e

  -- ---- operands

  register_placed : (r : Option (Reg × Slice)) → IsOperandPlaced (register_operand r)
  register_placed None a e = cc
  register_placed (Some r) a e =
      let same : LineOperand.Register (Place.Reg r.0) r.1 (is_cl r) ≡ a = cc in
      subst (λ x. is_operand_placed x ≡ true) same (registers r.0)

  immediate_placed : (d : Option Disp) → IsDispPlaced d → IsOperandPlaced (option_map LineOperand.Immediate d)
  immediate_placed None h a e = cc
  immediate_placed (Some d) h a e =
      let same : LineOperand.Immediate d ≡ a = cc in subst (λ x. is_operand_placed x ≡ true) same (h d refl)

  label_placed : (to : Option (Option ℕ)) (other : Option LineOperand) → IsOperandPlaced other
      → IsOperandPlaced (label_or to other)
  label_placed None other h a e = h a e
  label_placed (Some goal) other h a e =
      let same : LineOperand.Label goal ≡ a = cc in subst (λ x. is_operand_placed x ≡ true) same refl

  module _ (goal : List ℕ → Option (Option ℕ)) where
    written_placed : (xs : List Atom) → ArePlaced xs → IsOperandPlaced (written_operand goal xs)
    unfolding written_operand
    written_placed xs h a e =
        let text = map atom_code xs in
        cond_some (slice_index text 0 == 36) (option_map LineOperand.Immediate (disp_in (drop 1 xs))) _ a
        (is_operand_placed a ≡ true)
        (λ c f. immediate_placed (disp_in (drop 1 xs)) (disp_placed (drop 1 xs) (drop_placed 1 xs h)) a f)
        (λ c f. cond_some (slice_index text 0 == 37) (register_operand (register_named (drop 1 text)))
        (label_or (goal text) (address_of xs)) a (is_operand_placed a ≡ true)
        (λ k g. register_placed (register_named (drop 1 text)) a g)
        (λ k g. label_placed (goal text) (address_of xs) (address_of_placed xs h) a g) f) e

    hole_operand_placed : (leaf : Leaf) (other : Option LineOperand) → is_leaf_placed leaf ≡ true
        → IsOperandPlaced other → IsOperandPlaced (hole_operand leaf other)
    hole_operand_placed Leaf.Nothing other h written a e = written a e
    hole_operand_placed (Leaf.Register place slice count) other h written a e =
        let same : LineOperand.Register place slice count ≡ a = cc in subst (λ x. is_operand_placed x ≡ true) same h
    hole_operand_placed (Leaf.Immediate d) other h written a e =
        let same : LineOperand.Immediate d ≡ a = cc in subst (λ x. is_operand_placed x ≡ true) same h
    hole_operand_placed (Leaf.Bare d known) other h written a e =
        let same : LineOperand.Address d None None ≡ a = cc in
        subst (λ x. is_operand_placed x ≡ true) same (and_from (is_number (placed_disp p d)) true h refl)
    hole_operand_placed (Leaf.Memory k form) other h written a e =
        let same : LineOperand.Memory k form ≡ a = cc in subst (λ x. is_operand_placed x ≡ true) same h
    hole_operand_placed Leaf.Nameless other h written a e = cc

    operand_placed : (xs : List Atom) → ArePlaced xs → IsOperandPlaced (operand_of goal xs)
    unfolding operand_of
    operand_placed xs h a e =
        hole_operand_placed (hole_of xs) (written_operand goal xs) (hole_placed xs h) (written_placed xs h) a e

    -- so many operands, all of them placed
    record Fit (most : ℕ) (os : List LineOperand) : Type 0 where
      few : length os ≤ most
      placed : list_all is_operand_placed os ≡ true

    fit_more : (most : ℕ) (first : Option LineOperand) (rest : List (Option LineOperand)) → IsOperandPlaced first
        → ((os : List LineOperand) → all_some rest ≡ Some os → Fit most os)
        → (os : List LineOperand) → all_some (first ∷ rest) ≡ Some os → Fit (suc most) os
    fit_more most None rest h more os e = cc
    fit_more most (Some a) rest h more os e = by (all_some rest) refl e
      where
        by : (others : Option (List LineOperand)) → all_some rest ≡ others
            → option_map (λ (ys : List LineOperand). a ∷ ys) others ≡ Some os → Fit (suc most) os
        by None f e = cc
        by (Some ys) f e =
            let same : a ∷ ys ≡ os = cc in
            let m = more ys f in
            let few = m.few in
            subst (Fit (suc most)) same
            (record { few = omega (arith, few); placed = and_from (is_operand_placed a) _ (h a refl) m.placed })

    operands_fit_in : (left : ℕ) (xs : List Atom) (n : ℕ) → ArePlaced xs → (os : List LineOperand)
        → all_some (operands_in goal left xs n) ≡ Some os → Fit left os
    unfolding operands_in
    operands_fit_in zero xs n h os e = cc
    operands_fit_in (suc left) xs n h os e =
        let rest = drop (n + 1) xs in
        fit_more left (operand_of goal (trimmed (take n xs))) _
        (operand_placed (trimmed (take n xs)) (trimmed_placed (take n xs) (take_placed n xs h)))
        (by (operands_in goal left rest (comma_outside false (map atom_code rest)))
        (operands_fit_in left rest (comma_outside false (map atom_code rest)) (drop_placed (n + 1) xs h))
        (nat_lt n (length xs))) os e
      where
        by : (others : List (Option LineOperand))
            → ((os : List LineOperand) → all_some others ≡ Some os → Fit left os) → (b : Bool)
            → (os : List LineOperand) → all_some (cond b others []) ≡ Some os → Fit left os
        by others more true os e = more os e
        by others more false os e =
            let same : [] ≡ os = cc in subst (Fit left) same (record { few = omega arith; placed = refl })

    pub operands_fit : (xs : List Atom) → ArePlaced xs → (os : List LineOperand)
        → all_some (operands_of goal xs) ≡ Some os → (length os ≤ 3) × (list_all is_operand_placed os ≡ true)
    unfolding operands_of
    operands_fit xs h os e = by (length xs == 0) e
      where
        by : (b : Bool)
            → all_some (cond b [] (operands_in goal 3 xs (comma_outside false (map atom_code xs)))) ≡ Some os
            → (length os ≤ 3) × (list_all is_operand_placed os ≡ true)
        by true e =
            let same : [] ≡ os = cc in
            subst (λ ys. (length ys ≤ 3) × (list_all is_operand_placed ys ≡ true)) same (omega arith, refl)
        by false e =
            let fit = operands_fit_in 3 xs (comma_outside false (map atom_code xs)) h os e in (fit.few, fit.placed)
