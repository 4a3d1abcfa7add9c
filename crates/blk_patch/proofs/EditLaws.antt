-- Edits, one byte, one operand and one name at a time.
use Rattle.std.proofs.Common.{◌≡◌, ℕ, zero, suc, ◌+◌, ◌<◌, ◌≤◌, List, [], ◌∷◌, ◌++◌, length, take, drop, get_or, codes, true, false, refl, sym, ap, ◌∙◌, arith}
use Rattle.std.proofs.lemmas.List.{append_assoc, append-nil, drop_all, drop_more}
use Rattle.asm_core.specs.declared.edit.Edit.{Edit}
use Rattle.asm_core.specs.declared.statement.Quoted.{Quoted}
use Rattle.asm_core.specs.declared.statement.Part.{Part}
use Rattle.asm_core.specs.declared.statement.Parts.{Parts}
use Rattle.blk_patch.specs.Items.{has}
use Rattle.blk_patch.specs.Edits.{change_of, change_at, byte_edits, position_after, edits_from, beginning, constraint_edits, operand_edits, clobber_name, names_among, quoted, listed, clobber_edits, edits_of}
use Rattle.blk_patch.specs.declared.item.Item.{Item}
use Rattle.blk_patch.specs.declared.constraint.Change.{Change}
use Rattle.blk_patch.specs.declared.constraint.Position.{Position}

-- ---- operands

module _ (items : List Item) where
  taken_more : (ps : List Part) (k m n : ℕ) (p : Part) → k < length ps → n ≡ m + k
      → operand_edits items m (take (suc k) ps)
      ≡ operand_edits items m (take k ps) ++ constraint_edits (change_of items n) (get_or ps k p).constraint
  unfolding operand_edits
  taken_more [] k m n p lt e = absurd (omega (arith, lt))
  taken_more (x ∷ ps) zero m n p lt e =
      let same : m ≡ n = omega (arith, e) in
      append-nil (constraint_edits (change_of items m) x.constraint)
      ∙ ap (λ j. constraint_edits (change_of items j) x.constraint) same
  taken_more (x ∷ ps) (suc k) m n p lt e =
      ap (λ l. constraint_edits (change_of items m) x.constraint ++ l)
      (taken_more ps k (m + 1) n p (omega (arith, lt)) (omega (arith, e)))
      ∙ sym (append_assoc (constraint_edits (change_of items m) x.constraint)
      (operand_edits items (m + 1) (take k ps)) (constraint_edits (change_of items n) (get_or ps k p).constraint))

  -- those before the next, and the next
  pub operands_more : (before old new : List Edit) (ps : List Part) (k m n : ℕ) (p : Part) (change : Change)
      → k < length ps → n ≡ m + k → old ≡ before ++ operand_edits items m (take k ps) → p ≡ get_or ps k p
      → change ≡ change_of items n → new ≡ old ++ constraint_edits change p.constraint
      → new ≡ before ++ operand_edits items m (take (k + 1) ps)
  operands_more before old new ps k m n p change lt e so_far is_part is_change more =
      let next : suc k ≡ k + 1 = omega arith in
      let last : Part = get_or ps k p in
      more ∙ ap (λ c. old ++ constraint_edits c p.constraint) is_change
      ∙ ap (λ (x : Part). old ++ constraint_edits (change_of items n) x.constraint) is_part
      ∙ ap (λ l. l ++ constraint_edits (change_of items n) last.constraint) so_far
      ∙ append_assoc before (operand_edits items m (take k ps)) (constraint_edits (change_of items n) last.constraint)
      ∙ ap (λ l. before ++ l) (sym (taken_more ps k m n p lt e))
      ∙ ap (λ j. before ++ operand_edits items m (take j ps)) next

  pub operands_begin : (edits : List Edit) (m : ℕ) → edits ≡ edits ++ operand_edits items m []
  unfolding operand_edits
  operands_begin edits m = sym (append-nil edits)

  pub operands_joined : (xs ys : List Part) (m n : ℕ) → n ≡ m + length xs
      → operand_edits items m (xs ++ ys) ≡ operand_edits items m xs ++ operand_edits items n ys
  unfolding operand_edits
  operands_joined [] ys m n e = let same : m ≡ n = omega (arith, e) in ap (λ j. operand_edits items j ys) same
  operands_joined (x ∷ xs) ys m n e =
      ap (λ l. constraint_edits (change_of items m) x.constraint ++ l)
      (operands_joined xs ys (m + 1) n (omega (arith, e)))
      ∙ sym (append_assoc (constraint_edits (change_of items m) x.constraint) (operand_edits items (m + 1) xs)
      (operand_edits items n ys))

  -- those of the outputs, of the inputs and of the clobber list
  pub edits_more : (parts : Parts) (count : ℕ) (none first second whole : List Edit) → none ≡ []
      → first ≡ none ++ operand_edits items 0 parts.outputs → count ≡ length parts.outputs
      → second ≡ first ++ operand_edits items count parts.inputs
      → whole ≡ second ++ clobber_edits items parts → whole ≡ edits_of items parts
  unfolding edits_of
  edits_more parts count none first second whole is_none is_first is_count is_second is_whole =
      is_whole ∙ ap (λ l. l ++ clobber_edits items parts)
      (is_second ∙ ap (λ l. l ++ operand_edits items count parts.inputs)
      (is_first ∙ ap (λ l. l ++ operand_edits items 0 parts.outputs) is_none)
      ∙ sym (operands_joined parts.outputs parts.inputs 0 count (omega (arith, is_count))))

-- ---- bytes

pub bytes_begin : (change : Change) (q : Quoted) (bytes ats : List ℕ) (old : List Edit) → bytes ≡ q.bytes → ats ≡ q.at
    → old ++ edits_from change beginning bytes ats ≡ old ++ constraint_edits change q
bytes_begin change q bytes ats old is_bytes is_ats =
    ap (λ bs. old ++ edits_from change beginning bs ats) is_bytes
    ∙ ap (λ l. old ++ edits_from change beginning q.bytes l) is_ats

module _ (change : Change) (position : Position) (bytes ats : List ℕ) (n d : ℕ) where
  abbrev behind : Position → List Edit
  behind after = edits_from change after (drop (n + 1) bytes) (drop (n + 1) ats)

  byte_next : (b at : ℕ) (bs ats2 : List ℕ) → edits_from change position (b ∷ bs) (at ∷ ats2)
      ≡ byte_edits (change_at change position b bs) at ++ edits_from change (position_after position b) bs ats2
  unfolding edits_from
  byte_next b at bs ats2 = refl

  bytes_next : n < length bytes → n < length ats → edits_from change position (drop n bytes) (drop n ats)
      ≡ byte_edits (change_at change position (get_or bytes n d) (drop (n + 1) bytes)) (get_or ats n d)
      ++ behind (position_after position (get_or bytes n d))
  bytes_next lt lt2 =
      ap (λ bs. edits_from change position bs (drop n ats)) (drop_more bytes n d lt)
      ∙ ap (λ l. edits_from change position (get_or bytes n d ∷ drop (n + 1) bytes) l) (drop_more ats n d lt2)
      ∙ byte_next (get_or bytes n d) (get_or ats n d) (drop (n + 1) bytes) (drop (n + 1) ats)

  pub bytes_more : (old new whole : List Edit) (after : Position) (here : Change) (rest : List ℕ)
      → n < length bytes → n < length ats → old ++ edits_from change position (drop n bytes) (drop n ats) ≡ whole
      → rest ≡ drop (n + 1) bytes → here ≡ change_at change position (get_or bytes n d) rest
      → new ≡ old ++ byte_edits here (get_or ats n d) → after ≡ position_after position (get_or bytes n d)
      → new ++ behind after ≡ whole
  bytes_more old new whole after here rest lt lt2 so_far is_rest is_here is_new is_after =
      let asked = change_at change position (get_or bytes n d) (drop (n + 1) bytes) in
      let byte = byte_edits asked (get_or ats n d) in
      let others = behind (position_after position (get_or bytes n d)) in
      let same : here ≡ asked = is_here ∙ ap (change_at change position (get_or bytes n d)) is_rest in
      ap (λ p. new ++ behind p) is_after
      ∙ ap (λ l. l ++ others) (is_new ∙ ap (λ c. old ++ byte_edits c (get_or ats n d)) same)
      ∙ append_assoc old byte others
      ∙ ap (λ l. old ++ l) (sym (bytes_next lt lt2))
      ∙ so_far

  no_bytes : (ats2 : List ℕ) → edits_from change position [] ats2 ≡ []
  unfolding edits_from
  no_bytes ats2 = refl

  no_offsets : (bs : List ℕ) → edits_from change position bs [] ≡ []
  unfolding edits_from
  no_offsets [] = refl
  no_offsets (b ∷ bs) = refl

  pub bytes_done : (old whole : List Edit) → length bytes ≤ n
      → old ++ edits_from change position (drop n bytes) (drop n ats) ≡ whole → old ≡ whole
  bytes_done old whole le so_far =
      let none = ap (λ (bs : List ℕ). edits_from change position bs (drop n ats)) (drop_all n bytes le) in
      sym (append-nil old) ∙ ap (λ l. old ++ l) (sym (none ∙ no_bytes (drop n ats))) ∙ so_far

  pub offsets_done : (old whole : List Edit) → length ats ≤ n
      → old ++ edits_from change position (drop n bytes) (drop n ats) ≡ whole → old ≡ whole
  offsets_done old whole le so_far =
      let none = ap (λ (l : List ℕ). edits_from change position (drop n bytes) l) (drop_all n ats le) in
      sym (append-nil old) ∙ ap (λ l. old ++ l) (sym (none ∙ no_offsets (drop n bytes))) ∙ so_far

-- ---- names of clobbers

module _ (items : List Item) where
  name_there : (x : Item) (rest : List Item) → has items x ≡ true
      → names_among items (x ∷ rest) ≡ clobber_name x ∷ names_among items rest
  name_there x rest e = rw e refl

  name_not : (x : Item) (rest : List Item) → has items x ≡ false → names_among items (x ∷ rest) ≡ names_among items rest
  name_not x rest e = rw e refl

  listed_more : (lead name : List ℕ) (names : List (List ℕ))
      → listed lead (name ∷ names) ≡ lead ++ quoted name ++ listed (codes ", ") names
  unfolding listed
  listed_more lead name names = refl

  listed_none : (lead : List ℕ) → listed lead [] ≡ []
  unfolding listed
  listed_none lead = refl

  module _ (xs : List Item) (k : ℕ) (d : Item) (lead whole old : List ℕ)
      (so_far : old ++ listed lead (names_among items (drop k xs)) ≡ whole) where
    pub names_more : k < length xs → has items (get_or xs k d) ≡ true → (new : List ℕ)
        → new ≡ old ++ lead ++ quoted (clobber_name (get_or xs k d))
        → new ++ listed (codes ", ") (names_among items (drop (k + 1) xs)) ≡ whole
    names_more lt there new is =
        let name = quoted (clobber_name (get_or xs k d)) in
        let rest = listed (codes ", ") (names_among items (drop (k + 1) xs)) in
        ap (λ l. l ++ rest) is
        ∙ ap (λ l. l ++ rest) (append_assoc old lead name)
        ∙ append_assoc old (lead ++ name) rest
        ∙ ap (λ l. old ++ l) (sym (ap (λ l. listed lead (names_among items l)) (drop_more xs k d lt)
        ∙ ap (listed lead) (name_there (get_or xs k d) (drop (k + 1) xs) there)
        ∙ listed_more lead (clobber_name (get_or xs k d)) (names_among items (drop (k + 1) xs))))
        ∙ so_far

    pub names_same : k < length xs → has items (get_or xs k d) ≡ false
        → old ++ listed lead (names_among items (drop (k + 1) xs)) ≡ whole
    names_same lt absent =
        ap (λ l. old ++ l) (sym (ap (λ l. listed lead (names_among items l)) (drop_more xs k d lt)
        ∙ ap (listed lead) (name_not (get_or xs k d) (drop (k + 1) xs) absent)))
        ∙ so_far

    pub names_done : length xs ≤ k → old ≡ whole
    names_done le =
        let none = ap (λ (l : List Item). listed lead (names_among items l)) (drop_all k xs le) in
        sym (append-nil old) ∙ ap (λ l. old ++ l) (sym (none ∙ listed_none lead)) ∙ so_far
