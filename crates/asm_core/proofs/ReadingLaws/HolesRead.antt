-- Each hole of an instruction that is read stands for a whole register or a number in its address, or is one of its
-- operands.
use Rattle.std.proofs.Common.{◌≡◌, ℕ, zero, suc, ◌+◌, ◌==◌, ◌||◌, ◌&&◌, ◌≤◌, nat_lt, not, ℤ, pos, List, [], ◌∷◌, length, take, drop, Bool, true, false, cond, Option, None, Some, refl, ap, sym, ◌∙◌, slice_index, arith}
use Rattle.std.proofs.Math.Dec.{eqb-suc-zero}
use Rattle.std.proofs.lemmas.Bool.{ltb-false, not-true}
use Rattle.std.specs.Option.{option_map}
use Rattle.std.specs.List.{list_all}
use Rattle.asm_core.specs.Reading.Cut.{is_word}
use Rattle.asm_core.specs.Reading.Written.{register_named, number_of}
use Rattle.asm_core.specs.Reading.Operands.{atom_code, ended, trimmed, hole_of, number_disp, disp_or, disp_in, whole_register, register_place, place_or, place_in, scale_of, scale_or, scale_in, before, address, indexed, base_in, index_in, between, enclosed, front_disp, address_at, address_of, register_operand, label_or, written_operand, hole_operand, operand_of, comma_outside, operands_in, operands_of, all_some}
use Rattle.asm_core.specs.Reading.Line.{line_of, line_read, name_len}
use Rattle.asm_core.proofs.ReadingLaws.CutWhole.{first_true, both_true}
use Rattle.asm_core.proofs.ReadingLaws.InstsRead.{line_operands}
use Rattle.asm_core.proofs.ReadingLaws.WrittenCodes.{cond_some, number_codes, percent_codes, NameLabels}
use Rattle.asm_core.specs.declared.reg.Reg.{Reg}
use Rattle.asm_core.specs.declared.reg.Slice.{Slice}
use Rattle.asm_core.specs.declared.sym.Place.{Place}
use Rattle.asm_core.specs.declared.sym.Disp.{Disp}
use Rattle.asm_core.specs.declared.names.Prefix.{Prefix}
use Rattle.asm_core.specs.declared.names.NameRow.{NameRow}
use Rattle.asm_core.specs.declared.reading.Leaf.{Leaf}
use Rattle.asm_core.specs.declared.reading.Atom.{Atom}
use Rattle.asm_core.specs.declared.reading.LineOperand.{LineOperand}
use Rattle.asm_core.specs.declared.placement.Form.{Form}
use Rattle.asm_core.specs.declared.reading.Line.{Line}
use Rattle.asm_core.proofs.ReadingLaws.HolesCut.{codes_of, are_held, held_codes, held_behind, held_ended, all_taken, held_trimmed, held_cut, held_comma, held_after, held_before}

-- Which leaves are lost: a whole register, a number and an address never are.
pub record MayBeLost (is_lost : Leaf → Bool) : Type 0 where
  pub nothing : is_lost Leaf.Nothing ≡ false
  pub whole : (place : Place) (count : Bool) → is_lost (Leaf.Register place Slice.All count) ≡ false
  pub immediate : (d : Disp) → is_lost (Leaf.Immediate d) ≡ false
  pub bare : (d : Disp) (known : Option ℤ) → is_lost (Leaf.Bare d known) ≡ false
  pub memory : (k : ℕ) (form : Option Form) → is_lost (Leaf.Memory k form) ≡ false

whole_some : (r : Option (Reg × Slice)) (place : Place) → whole_register r ≡ Some place
    → (q : Reg × Slice) × (r ≡ Some q)
whole_some None place e = cc
whole_some (Some q) place e = (q, refl)

-- something was made of it
abbrev IsThere : {A : Type 0} → Option A → Type 0
IsThere {A} o = (a : A) × (o ≡ Some a)

there : {A : Type 0} (o : Option A) (a : A) → o ≡ Some a → IsThere o
there o a e = (a, e)

mapped : {A B : Type 0} (f : A → B) (o : Option A) → IsThere (option_map f o) → IsThere o
mapped f None h = let no : None ≡ Some h.0 = h.1 in cc
mapped f (Some a) h = (a, refl)

address_parts : (d : Option Disp) (base : Option (Option Place)) (index : Option (Option (Place × ℕ)))
    (o : LineOperand) → address d base index ≡ Some o → IsThere d × (IsThere base × IsThere index)
address_parts None base index o e = cc
address_parts (Some d) None index o e = cc
address_parts (Some d) (Some base) None o e = cc
address_parts (Some d) (Some base) (Some index) o e = ((d, refl), ((base, refl), (index, refl)))

indexed_parts : (place : Option Place) (scale : Option ℕ) (index : Option (Place × ℕ))
    → indexed place scale ≡ Some index → IsThere place × IsThere scale
indexed_parts None scale index e = cc
indexed_parts (Some place) None index e = cc
indexed_parts (Some place) (Some scale) index e = ((place, refl), (scale, refl))

register_some : (r : Option (Reg × Slice)) (o : LineOperand) → register_operand r ≡ Some o → IsThere r
register_some None o e = cc
register_some (Some r) o e = (r, refl)

-- an operand that isn't lost as a whole
abbrev pub is_held_in : (Leaf → Bool) → LineOperand → Bool
is_held_in is_lost (LineOperand.Register place slice count) = not (is_lost (Leaf.Register place slice count))
is_held_in is_lost (LineOperand.Immediate d) = true
is_held_in is_lost (LineOperand.Memory k form) = true
is_held_in is_lost (LineOperand.Address d base index) = true
is_held_in is_lost (LineOperand.Label goal) = true

module _ (is_lost : Leaf → Bool) (never : MayBeLost is_lost) where
  abbrev IsHeldThere : Option LineOperand → Type 0
  IsHeldThere o = (a : LineOperand) × ((o ≡ Some a) × (is_held_in is_lost a ≡ true))

  abbrev AreHeldThere : Option (List LineOperand) → Type 0
  AreHeldThere o = (os : List LineOperand) × ((o ≡ Some os) × (list_all (is_held_in is_lost) os ≡ true))

  -- ---- operands

  leaf_held : (x : Atom) (leaf : Leaf) → x.leaf ≡ leaf → is_lost leaf ≡ false → are_held is_lost (x ∷ []) ≡ true
  leaf_held x leaf e h = by (not (atom_code x == 0)) (is_lost x.leaf) (rw e h)
    where
      by : (b c : Bool) → c ≡ false → ((b || not c) && true) ≡ true
      by true c h = refl
      by false true h = cc
      by false false h = refl

  -- what was made of a whole hole, or of the codes
  by_hole : {A : Type 0} (g : Leaf → Option A) (a : A) (xs : List Atom)
      → (g Leaf.Nothing ≡ Some a → are_held is_lost xs ≡ true)
      → ((leaf : Leaf) → (is_lost leaf ≡ false → are_held is_lost xs ≡ true) → g leaf ≡ Some a
      → are_held is_lost xs ≡ true)
      → g (hole_of xs) ≡ Some a → are_held is_lost xs ≡ true
  by_hole g a [] nothing each e = refl
  by_hole g a (x ∷ y ∷ xs) nothing each e = nothing e
  by_hole g a (x ∷ []) nothing each e = each x.leaf (leaf_held x x.leaf refl) e

  disp_number : (xs : List Atom) (d : Disp) (n : Option ℤ) → number_of (codes_of xs) ≡ n → number_disp n ≡ Some d
      → are_held is_lost xs ≡ true
  disp_number xs d None e f = cc
  disp_number xs d (Some n) e f = held_codes is_lost xs (number_codes (codes_of xs) n e)

  disp_leaf : (xs : List Atom) (d : Disp) (leaf : Leaf) → (is_lost leaf ≡ false → are_held is_lost xs ≡ true)
      → disp_or leaf (number_of (codes_of xs)) ≡ Some d → are_held is_lost xs ≡ true
  disp_leaf xs d (Leaf.Bare disp known) held e = held (never.bare disp known)
  disp_leaf xs d Leaf.Nothing held e = disp_number xs d (number_of (codes_of xs)) refl e
  disp_leaf xs d (Leaf.Register place slice count) held e = disp_number xs d (number_of (codes_of xs)) refl e
  disp_leaf xs d (Leaf.Immediate disp) held e = disp_number xs d (number_of (codes_of xs)) refl e
  disp_leaf xs d (Leaf.Memory k form) held e = disp_number xs d (number_of (codes_of xs)) refl e
  disp_leaf xs d Leaf.Nameless held e = disp_number xs d (number_of (codes_of xs)) refl e

  disp_held : (xs : List Atom) (d : Disp) → disp_in xs ≡ Some d → are_held is_lost xs ≡ true
  unfolding disp_in
  disp_held xs d e =
      by_hole (λ leaf. disp_or leaf (number_of (codes_of xs))) d xs (disp_number xs d (number_of (codes_of xs)) refl)
      (disp_leaf xs d) e

  place_written : (xs : List Atom) (place : Place) → register_place (codes_of xs) ≡ Some place
      → are_held is_lost xs ≡ true
  place_written xs place e =
      cond_some (slice_index (codes_of xs) 0 == 37) (whole_register (register_named (drop 1 (codes_of xs)))) None place
      (are_held is_lost xs ≡ true)
      (λ h f. let r = whole_some (register_named (drop 1 (codes_of xs))) place f in
      held_codes is_lost xs (percent_codes (codes_of xs) r.0 h r.1)) (λ h f. cc) e

  place_leaf : (xs : List Atom) (place : Place) (leaf : Leaf) → (is_lost leaf ≡ false → are_held is_lost xs ≡ true)
      → place_or leaf (register_place (codes_of xs)) ≡ Some place → are_held is_lost xs ≡ true
  place_leaf xs place (Leaf.Register at Slice.All count) held e = held (never.whole at count)
  place_leaf xs place (Leaf.Register at Slice.Low8 count) held e = place_written xs place e
  place_leaf xs place (Leaf.Register at Slice.High8 count) held e = place_written xs place e
  place_leaf xs place (Leaf.Register at Slice.Low16 count) held e = place_written xs place e
  place_leaf xs place Leaf.Nothing held e = place_written xs place e
  place_leaf xs place (Leaf.Immediate disp) held e = place_written xs place e
  place_leaf xs place (Leaf.Bare disp known) held e = place_written xs place e
  place_leaf xs place (Leaf.Memory k form) held e = place_written xs place e
  place_leaf xs place Leaf.Nameless held e = place_written xs place e

  place_held : (xs : List Atom) (place : Place) → place_in xs ≡ Some place → are_held is_lost xs ≡ true
  unfolding place_in
  place_held xs place e =
      by_hole (λ leaf. place_or leaf (register_place (codes_of xs))) place xs (place_written xs place)
      (place_leaf xs place) e

  scale_number : (xs : List Atom) (scale : ℕ) (n : Option ℤ) → number_of (codes_of xs) ≡ n → scale_of n ≡ Some scale
      → are_held is_lost xs ≡ true
  scale_number xs scale None e f = cc
  scale_number xs scale (Some n) e f = held_codes is_lost xs (number_codes (codes_of xs) n e)

  scale_leaf : (xs : List Atom) (scale : ℕ) (leaf : Leaf) → (is_lost leaf ≡ false → are_held is_lost xs ≡ true)
      → scale_or leaf (number_of (codes_of xs)) ≡ Some scale → are_held is_lost xs ≡ true
  scale_leaf xs scale (Leaf.Bare disp known) held e = held (never.bare disp known)
  scale_leaf xs scale Leaf.Nothing held e = scale_number xs scale (number_of (codes_of xs)) refl e
  scale_leaf xs scale (Leaf.Register place slice count) held e = scale_number xs scale (number_of (codes_of xs)) refl e
  scale_leaf xs scale (Leaf.Immediate disp) held e = scale_number xs scale (number_of (codes_of xs)) refl e
  scale_leaf xs scale (Leaf.Memory k form) held e = scale_number xs scale (number_of (codes_of xs)) refl e
  scale_leaf xs scale Leaf.Nameless held e = scale_number xs scale (number_of (codes_of xs)) refl e

  scale_held : (xs : List Atom) (scale : ℕ) → scale_in xs ≡ Some scale → are_held is_lost xs ≡ true
  unfolding scale_in
  scale_held xs scale e =
      by_hole (λ leaf. scale_or leaf (number_of (codes_of xs))) scale xs
      (scale_number xs scale (number_of (codes_of xs)) refl) (scale_leaf xs scale) e

  base_held : (xs : List Atom) (base : Option Place) → base_in xs ≡ Some base → are_held is_lost xs ≡ true
  unfolding base_in
  base_held [] base e = refl
  base_held (x ∷ xs) base e =
      cond_some (length (x ∷ xs) == 0) (Some None) (option_map Some (place_in (x ∷ xs))) base
      (are_held is_lost (x ∷ xs) ≡ true)
      (λ h f. let no : false ≡ true = rw (eqb-suc-zero (length xs)) at h in cc)
      (λ h f. let p = mapped Some (place_in (x ∷ xs)) (base, f) in place_held (x ∷ xs) p.0 p.1) e

  index_held : (xs : List Atom) (index : Option (Place × ℕ)) → index_in xs (before 44 (codes_of xs)) ≡ Some index
      → are_held is_lost xs ≡ true
  unfolding index_in
  index_held xs index e =
      let n = before 44 (codes_of xs) in
      cond_some (nat_lt n (length xs))
      (indexed (place_in (trimmed (take n xs))) (scale_in (trimmed (drop (n + 1) xs))))
      (indexed (place_in (trimmed xs)) (Some 1)) index (are_held is_lost xs ≡ true)
      (λ h f. let parts = indexed_parts _ _ index f in
      held_cut is_lost 44 refl xs
      (held_trimmed is_lost (take n xs) (place_held (trimmed (take n xs)) parts.0.0 parts.0.1))
      (held_trimmed is_lost (drop (n + 1) xs) (scale_held (trimmed (drop (n + 1) xs)) parts.1.0 parts.1.1)))
      (λ h f. let parts = indexed_parts (place_in (trimmed xs)) (Some 1) index f in held_trimmed is_lost xs
      (place_held (trimmed xs) parts.0.0 parts.0.1)) e

  between_held : (d : Option Disp) (xs : List Atom) (o : LineOperand)
      → between d xs (before 44 (codes_of xs)) ≡ Some o → IsThere d × (are_held is_lost xs ≡ true)
  unfolding between
  between_held d xs o e =
      let n = before 44 (codes_of xs) in
      let rest = drop (n + 1) xs in
      cond_some (nat_lt n (length xs))
      (address d (base_in (trimmed (take n xs))) (index_in rest (before 44 (codes_of rest))))
      (address d (option_map Some (place_in (trimmed xs))) (Some None)) o (IsThere d × (are_held is_lost xs ≡ true))
      (λ h f. let parts = address_parts d _ _ o f in (
        parts.0,
        held_cut is_lost 44 refl xs
            (held_trimmed is_lost (take n xs) (base_held (trimmed (take n xs)) parts.1.0.0 parts.1.0.1))
            (index_held rest parts.1.1.0 parts.1.1.1),
      ))
      (λ h f. let parts = address_parts d (option_map Some (place_in (trimmed xs))) (Some None) o f in
      let place = mapped Some (place_in (trimmed xs)) parts.1.0 in
      (parts.0, held_trimmed is_lost xs (place_held (trimmed xs) place.0 place.1))) e

  enclosed_held : (d : Option Disp) (xs : List Atom) (n : ℕ) (o : LineOperand) → length xs ≤ n
      → enclosed d xs n ≡ Some o → IsThere d × (are_held is_lost xs ≡ true)
  unfolding enclosed
  enclosed_held d xs zero o short e = cc
  enclosed_held d xs (suc n) o short e =
      let inner = take n xs in
      cond_some (slice_index (codes_of xs) n == 41) (between d inner (before 44 (codes_of inner))) None o
      (IsThere d × (are_held is_lost xs ≡ true))
      (λ h f. let b = between_held d inner o f in (b.0, held_before is_lost 40 n xs (omega arith) b.1 h)) (λ h f. cc) e

  front_held : (xs : List Atom) (d : Disp) → front_disp xs ≡ Some d → are_held is_lost xs ≡ true
  unfolding front_disp
  front_held [] d e = refl
  front_held (x ∷ xs) d e =
      cond_some (length (x ∷ xs) == 0) (Some (Disp.Number (pos 0))) (disp_in (x ∷ xs)) d
      (are_held is_lost (x ∷ xs) ≡ true)
      (λ h f. let no : false ≡ true = rw (eqb-suc-zero (length xs)) at h in cc) (λ h f. disp_held (x ∷ xs) d f) e

  address_held : (xs : List Atom) (o : LineOperand) → address_of xs ≡ Some o → are_held is_lost xs ≡ true
  unfolding address_of address_at
  address_held xs o e =
      let n = before 40 (codes_of xs) in
      let rest = drop (n + 1) xs in
      cond_some (nat_lt n (length xs)) (enclosed (front_disp (ended (take n xs))) rest (length rest))
      (address (disp_in xs) (Some None) (Some None)) o (are_held is_lost xs ≡ true)
      (λ h f. let b = enclosed_held (front_disp (ended (take n xs))) rest (length rest) o (omega arith) f in
      held_cut is_lost 40 refl xs (held_ended is_lost (take n xs) (front_held (ended (take n xs)) b.0.0 b.0.1)) b.1)
      (λ h f. let parts = address_parts (disp_in xs) (Some None) (Some None) o f in disp_held xs parts.0.0 parts.0.1) e

  module _ (goal : List ℕ → Option (Option ℕ)) (labels : NameLabels goal) where
    label_held : (xs : List Atom) (o : LineOperand) (to : Option (Option ℕ)) → goal (codes_of xs) ≡ to
        → label_or to (address_of xs) ≡ Some o → are_held is_lost xs ≡ true
    label_held xs o None e f = address_held xs o f
    label_held xs o (Some to) e f = held_codes is_lost xs (labels.each (codes_of xs) to e)

    written_held : (xs : List Atom) (o : LineOperand) → written_operand goal xs ≡ Some o → are_held is_lost xs ≡ true
    unfolding written_operand
    written_held xs o e =
        let text = codes_of xs in
        cond_some (slice_index text 0 == 36) (option_map LineOperand.Immediate (disp_in (drop 1 xs))) _ o
        (are_held is_lost xs ≡ true)
        (λ h f. let d = mapped LineOperand.Immediate (disp_in (drop 1 xs)) (o, f) in held_after is_lost 35 xs h
        (disp_held (drop 1 xs) d.0 d.1))
        (λ h f. cond_some (slice_index text 0 == 37) (register_operand (register_named (drop 1 text)))
        (label_or (goal text) (address_of xs)) o (are_held is_lost xs ≡ true)
        (λ k g. let r = register_some (register_named (drop 1 text)) o g in held_codes is_lost xs
        (percent_codes text r.0 k r.1)) (λ k g. label_held xs o (goal text) refl g) f) e

    operand_leaf : (xs : List Atom) (o : LineOperand) → is_held_in is_lost o ≡ true → (leaf : Leaf)
        → (is_lost leaf ≡ false → are_held is_lost xs ≡ true)
        → hole_operand leaf (written_operand goal xs) ≡ Some o → are_held is_lost xs ≡ true
    operand_leaf xs o own Leaf.Nothing held e = held never.nothing
    operand_leaf xs o own (Leaf.Register place slice count) held e =
        let same : o ≡ LineOperand.Register place slice count = cc in
        held (not-true (is_lost (Leaf.Register place slice count)) (ap (is_held_in is_lost) (sym same) ∙ own))
    operand_leaf xs o own (Leaf.Immediate d) held e = held (never.immediate d)
    operand_leaf xs o own (Leaf.Bare d known) held e = held (never.bare d known)
    operand_leaf xs o own (Leaf.Memory k form) held e = held (never.memory k form)
    operand_leaf xs o own Leaf.Nameless held e = cc

    operand_held : (xs : List Atom) (o : LineOperand) → is_held_in is_lost o ≡ true → operand_of goal xs ≡ Some o
        → are_held is_lost xs ≡ true
    unfolding operand_of
    operand_held xs o own e =
        by_hole (λ leaf. hole_operand leaf (written_operand goal xs)) o xs (written_held xs o) (operand_leaf xs o own) e

    -- the first of several that are all there, and the rest
    all_parts : (o : Option LineOperand) (rest : List (Option LineOperand)) (os : List LineOperand)
        → list_all (is_held_in is_lost) os ≡ true → all_some (o ∷ rest) ≡ Some os
        → IsHeldThere o × AreHeldThere (all_some rest)
    all_parts None rest os own e = cc
    all_parts (Some o) rest os own e = by (all_some rest) e
      where
        by : (others : Option (List LineOperand)) → option_map (λ (ys : List LineOperand). o ∷ ys) others ≡ Some os
            → IsHeldThere (Some o) × AreHeldThere others
        by None f = cc
        by (Some ys) f =
            let same : os ≡ o ∷ ys = cc in
            let all : (is_held_in is_lost o && list_all (is_held_in is_lost) ys) ≡ true =
            ap (list_all (is_held_in is_lost)) (sym same) ∙ own in
            ((o, (refl, first_true (is_held_in is_lost o) _ all)), (ys, (refl, both_true (is_held_in is_lost o) _ all)))

    operands_held : (left : ℕ) (xs : List Atom)
        → AreHeldThere (all_some (operands_in goal left xs (comma_outside false (codes_of xs))))
        → are_held is_lost xs ≡ true
    unfolding operands_in
    operands_held zero xs os = let e = os.1.0 in cc
    operands_held (suc left) xs os =
        let n = comma_outside false (codes_of xs) in
        let rest = drop (n + 1) xs in
        let parts = all_parts _ _ os.0 os.1.1 os.1.0 in
        let first = held_trimmed is_lost (take n xs)
        (operand_held (trimmed (take n xs)) parts.0.0 parts.0.1.1 parts.0.1.0) in
        by left xs first (operands_held left rest) (nat_lt n (length xs)) refl parts.1
      where
        by : (left : ℕ) (xs : List Atom) → are_held is_lost (take (comma_outside false (codes_of xs)) xs) ≡ true
            → (let rest = drop (comma_outside false (codes_of xs) + 1) xs in AreHeldThere
            (all_some (operands_in goal left rest (comma_outside false (codes_of rest)))) → are_held is_lost rest
            ≡ true)
            → (b : Bool) → nat_lt (comma_outside false (codes_of xs)) (length xs) ≡ b
            → (let rest = drop (comma_outside false (codes_of xs) + 1) xs in AreHeldThere
            (all_some (cond b (operands_in goal left rest (comma_outside false (codes_of rest))) []))) → are_held
            is_lost xs ≡ true
        by left xs first more true h rest = held_comma is_lost false xs first (more rest)
        by left xs first more false h rest =
            all_taken is_lost (comma_outside false (codes_of xs)) xs (ltb-false _ (length xs) h) first

    all_held : (xs : List Atom) → AreHeldThere (all_some (operands_of goal xs)) → are_held is_lost xs ≡ true
    unfolding operands_of
    all_held [] os = refl
    all_held (x ∷ xs) os = by (length (x ∷ xs) == 0) (eqb-suc-zero (length xs)) os
      where
        by : (b : Bool) → b ≡ false
            → AreHeldThere
            (all_some (cond b [] (operands_in goal 3 (x ∷ xs) (comma_outside false (codes_of (x ∷ xs)))))) → are_held
            is_lost (x ∷ xs) ≡ true
        by true h os = cc
        by false h os = operands_held 3 (x ∷ xs) os

    pub line_read_held : (rows : List NameRow) (before : List Prefix) (place : ℕ) (xs : List Atom) (l : Line)
        → line_read (line_of rows goal before place xs) ≡ Some l
        → list_all (is_held_in is_lost) l.operands ≡ true → are_held is_lost xs ≡ true
    line_read_held rows before place xs l e own =
        let n = name_len (codes_of xs) in
        held_behind is_lost is_word refl xs
        (held_trimmed is_lost (drop n xs)
        (all_held (trimmed (drop n xs)) (l.operands, (line_operands rows goal before place xs l e, own))))
