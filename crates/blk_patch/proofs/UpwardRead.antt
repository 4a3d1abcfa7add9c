-- Lines that were read under shapes of an accepted statement leave no instruction unread, and no jump leaves the block.
use Rattle.std.proofs.Common.{◌≡◌, inl, inr, ℕ, zero, suc, ◌+◌, ◌<◌, ◌==◌, ◌&&◌, ◌||◌, nat_lt, List, [], ◌∷◌, ◌++◌, length, map, fold, find, is_none, Bool, true, false, Option, None, Some, IsSome, Result, Ok, Err, All, slice_get, option_map, refl, sym, ap, subst, ◌∙◌, arith, if◌then◌else◌}
use Rattle.std.specs.List.{list_any, list_all}
use Rattle.std.proofs.lemmas.List.Elements.{All-head, All-tail}
use Rattle.asm_core.specs.Lists.{IsMember, count_from, optional_at}
use Rattle.asm_core.specs.Company.{all_places}
use Rattle.asm_core.specs.Reading.Names.{names}
use Rattle.asm_core.specs.Reading.Cut.{Raw, instruction_count}
use Rattle.asm_core.specs.Reading.Line.{inst_of_reading, left_out_from, lines_with, lines_of_raws, readings_of, template_raws, lines_under}
use Rattle.asm_core.specs.declared.names.NameRow.{NameRow}
use Rattle.asm_core.specs.declared.finding.Rule.{Rule}
use Rattle.asm_core.specs.declared.shape.Shape.{Shape}
use Rattle.asm_core.specs.declared.sym.Sym.{Sym}
use Rattle.asm_core.specs.declared.piece.Piece.{Piece}
use Rattle.asm_core.specs.declared.interface.Interface.{Interface}
use Rattle.asm_core.specs.declared.lines.JumpTarget.{JumpTarget}
use Rattle.asm_core.specs.declared.lines.Lines.{Lines}
use Rattle.asm_core.specs.declared.lines.LinesEnd.{LinesEnd}
use Rattle.asm_core.specs.declared.reading.Atom.{Atom}
use Rattle.asm_core.specs.declared.reading.Reading.{Reading}
use Rattle.blk_check.specs.Readable.{with_lines, readings_under, has_none, leaves_out, is_unread, instruction_mark, first_unread, is_lost, first_lost, line_number, lesser, j1_line, u1_line, finding_at, shape_findings}
use Rattle.blk_check.proofs.ReadLaws.{AreRead, AreFound}

-- ---- lists

pub all_member : {A : Type 0} (P : A → Type 0) (xs : List A) → All P xs → (x : A) → IsMember x xs → P x
all_member P [] all x member = absurd member
all_member P (y ∷ ys) all x (inl same) = subst P (sym same) (All-head P y ys all)
all_member P (y ∷ ys) all x (inr later) = all_member P ys (All-tail P y ys all) x later

none_finds : {A : Type 0} (p : A → Bool) (xs : List A) → ((x : A) → IsMember x xs → p x ≡ false) → find p xs ≡ None
none_finds p [] each = refl
none_finds p (x ∷ xs) each = rw (each x (inl refl)) (none_finds p xs (λ y member. each y (inr member)))

none_passes : {A : Type 0} (p : A → Bool) (xs : List A) → ((x : A) → IsMember x xs → p x ≡ false)
    → list_any p xs ≡ false
none_passes p [] each = refl
none_passes p (x ∷ xs) each = rw (each x (inl refl)) (none_passes p xs (λ y member. each y (inr member)))

counted_below : {A : Type 0} (m : ℕ) (xs : List A) (k : ℕ) → IsMember k (count_from m xs) → k < m + length xs
counted_below m [] k member = absurd member
counted_below m (x ∷ xs) k (inl same) = omega (arith, same)
counted_below m (x ∷ xs) k (inr later) = let below = counted_below (m + 1) xs k later in omega (arith, below)

-- ---- lines under a shape

module _ (i : Interface) (ps : List Piece) where
  -- they are among the lines under several
  pub line_among : (ss : List Shape) (t : Shape) (x : Lines) → lines_under names i t ps ≡ Ok x → (xs : List Lines)
      → readings_under i ps ss ≡ Ok xs → (k : ℕ) → slice_get ss k ≡ Some t → IsMember x xs
  unfolding readings_under
  line_among [] t x under xs read k at = cc
  line_among (q ∷ ss) t x under xs read k at =
      by (line_among ss t x under) (lines_under names i q ps) (readings_under i ps ss) refl refl read k at
    where
      by : ((ys : List Lines) → readings_under i ps ss ≡ Ok ys → (k : ℕ) → slice_get ss k ≡ Some t → IsMember x ys)
          → (r : Result Lines LinesEnd) (rs : Result (List Lines) LinesEnd) → lines_under names i q ps ≡ r
          → readings_under i ps ss ≡ rs → with_lines r rs ≡ Ok xs → (k : ℕ) → slice_get (q ∷ ss) k ≡ Some t
          → IsMember x xs
      by rest (Err end) rs one others e k at = cc
      by rest (Ok y) (Err end) one others e k at = cc
      by rest (Ok y) (Ok ys) one others e zero at =
          let same : y ∷ ys ≡ xs = cc in
          let is : q ≡ t = cc in
          let both : Ok y ≡ Ok x = sym one ∙ ap (λ z. lines_under names i z ps) is ∙ under in
          let line : y ≡ x = cc in
          subst (IsMember x) same (inl (sym line))
      by rest (Ok y) (Ok ys) one others e (suc k) at =
          let same : y ∷ ys ≡ xs = cc in
          subst (IsMember x) same (inr (rest ys others k at))

-- ---- no instruction is left out

left_none : (count n : ℕ) (rs : List Reading) → All (λ s. IsSome s) (map (inst_of_reading count) rs)
    → left_out_from n rs ≡ []
left_none count n [] all = refl
left_none count n (Reading.Read l ∷ rs) all =
    left_none count (n + 1) rs
    (All-tail (λ s. IsSome s) (inst_of_reading count (Reading.Read l)) (map (inst_of_reading count) rs) all)
left_none count n (Reading.LeftOut ∷ rs) all =
    let none = All-head (λ (s : Option Sym). IsSome s) None (map (inst_of_reading count) rs) all in cc
left_none count n (Reading.Unread ∷ rs) all =
    let none = All-head (λ (s : Option Sym). IsSome s) None (map (inst_of_reading count) rs) all in cc

nothing_left_out : (rows : List NameRow) (raws : List (Raw Atom)) (x : Lines) → lines_of_raws rows raws ≡ Ok x
    → AreRead x → x.left_out ≡ []
nothing_left_out rows raws x is read = by (nat_lt 512 (instruction_count raws)) is
  where
    of_lines : AreRead (lines_with raws (readings_of rows raws))
        → (lines_with raws (readings_of rows raws)).left_out ≡ []
    of_lines all = left_none (instruction_count raws) 0 (readings_of rows raws) all

    by : (b : Bool) → (if b then Err LinesEnd.TooMany else Ok (lines_with raws (readings_of rows raws))) ≡ Ok x
        → x.left_out ≡ []
    by true e = cc
    by false e =
        let same : lines_with raws (readings_of rows raws) ≡ x = cc in
        subst (λ (z : Lines). AreRead z → z.left_out ≡ []) same of_lines read

some_at : (xs : List (Option Sym)) → All (λ s. IsSome s) xs → (k : ℕ) → k < length xs
    → is_none (optional_at xs k) ≡ false
some_at [] all k below = absurd (omega (arith, below))
some_at (None ∷ xs) all zero below = let none = All-head (λ (s : Option Sym). IsSome s) None xs all in cc
some_at (Some s ∷ xs) all zero below = refl
some_at (x ∷ xs) all (suc k) below = some_at xs (All-tail (λ s. IsSome s) x xs all) k (omega (arith, below))

-- ---- the whole

module _ (i : Interface) (ps : List Piece) where
  -- a line under some shape, that is read and whose jumps stay inside
  pub record IsGood (x : Lines) : Type 0 where
    pub shape : Shape
    pub under : lines_under names i shape ps ≡ Ok x
    pub read : AreRead x
    pub found : AreFound x

  leaves_none : (x : Lines) → IsGood x → (k : ℕ) → leaves_out k x ≡ false
  leaves_none x good k =
      ap (list_any (λ n. n == k)) (nothing_left_out names (template_raws i good.shape ps) x good.under good.read)

  pub none_unread : (xs : List Lines) → ((x : Lines) → IsMember x xs → IsGood x) → first_unread xs ≡ None
  unfolding first_unread
  none_unread [] good = refl
  none_unread (x ∷ xs) good =
      ap (option_map (instruction_mark x)) (none_finds (is_unread (x ∷ xs)) (count_from 0 x.insts) is_read)
    where
      is_read : (k : ℕ) → IsMember k (count_from 0 x.insts) → is_unread (x ∷ xs) k ≡ false
      is_read k member =
          let some : has_none k x ≡ false =
          some_at x.insts (good x (inl refl)).read k
          (let below = counted_below 0 x.insts k member in omega (arith, below)) in
          let left : list_any (leaves_out k) (x ∷ xs) ≡ false =
          none_passes (leaves_out k) (x ∷ xs) (λ y there. leaves_none y (good y there) k) in
          both (has_none k x) (list_all (has_none k) xs) (list_any (leaves_out k) (x ∷ xs)) some left
        where
          both : (a b c : Bool) → a ≡ false → c ≡ false → ((a && b) || c) ≡ false
          both a b c first second = rw (first, second) refl

  pub none_lost : (xs : List Lines) → ((x : Lines) → IsMember x xs → IsGood x) → j1_line xs ≡ None
  unfolding j1_line
  none_lost xs good = by xs (λ x member. (good x member).found)
    where
      by : (xs : List Lines) → ((x : Lines) → IsMember x xs → find is_lost x.targets ≡ None)
          → fold (λ least (x : Lines). lesser least (first_lost x)) None xs ≡ None
      by [] each = refl
      by (x ∷ xs) each =
          ap (λ o. fold (λ least (y : Lines). lesser least (first_lost y))
          (option_map (λ (t : JumpTarget). line_number t.inst) o) xs) (each x (inl refl))
          ∙ by xs (λ y member. each y (inr member))

-- where neither U1 nor J1 is found, none is
pub none_found_of_shapes : (i : Interface) (live : List Shape) (xs : List Lines)
    → u1_line i (map (all_places i) live) xs ≡ None → j1_line xs ≡ None → shape_findings i live xs ≡ []
unfolding shape_findings
none_found_of_shapes i live xs first second =
    ap (λ o. finding_at Rule.U1 o ++ finding_at Rule.J1 (j1_line xs)) first
    ∙ ap (λ o. finding_at Rule.U1 None ++ finding_at Rule.J1 o) second

second_none : (a b : Option ℕ) → finding_at Rule.U1 a ++ finding_at Rule.J1 b ≡ [] → b ≡ None
second_none None None e = refl
second_none None (Some m) e = cc
second_none (Some n) b e = cc

pub none_lost_before : (i : Interface) (live : List Shape) (xs : List Lines) → shape_findings i live xs ≡ []
    → j1_line xs ≡ None
unfolding shape_findings
none_lost_before i live xs e = second_none (u1_line i (map (all_places i) live) xs) (j1_line xs) e

first_none : (a b : Option ℕ) → finding_at Rule.U1 a ++ finding_at Rule.J1 b ≡ [] → a ≡ None
first_none None b e = refl
first_none (Some n) b e = cc

pub none_differs_before : (i : Interface) (live : List Shape) (xs : List Lines) → shape_findings i live xs ≡ []
    → u1_line i (map (all_places i) live) xs ≡ None
unfolding shape_findings
none_differs_before i live xs e = first_none (u1_line i (map (all_places i) live) xs) (j1_line xs) e
