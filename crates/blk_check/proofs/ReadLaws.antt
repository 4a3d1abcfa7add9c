-- Where nothing is found, each shape reads each instruction, and each reading has a block.
use Rattle.std.proofs.Common.{◌≡◌, ℕ, zero, suc, ◌+◌, ◌≤◌, ◌<◌, ◌||◌, not, List, [], ◌∷◌, ◌++◌, length, map, fold, find, nat_lt, get_or, is_none, Bool, true, false, cond, Option, None, Some, IsSome, Result, Ok, Err, All, refl, sym, subst, ◌∙◌, arith}
use Rattle.std.specs.Option.{option_map}
use Rattle.std.specs.List.{list_any, list_all, AllZip}
use Rattle.std.proofs.lemmas.List.Elements.{All-nil, All-cons, All-head, All-tail, All-get_or, All-weaker}
use Rattle.asm_core.specs.Lists.{count_from, optional_at}
use Rattle.asm_core.specs.Company.{all_places}
use Rattle.asm_core.specs.Reading.Names.{names}
use Rattle.asm_core.specs.Reading.Cut.{instruction_count}
use Rattle.asm_core.specs.Reading.Line.{lines_under}
use Rattle.asm_core.specs.Reading.UnderShape.{statements_of}
use Rattle.asm_core.specs.declared.sym.Sym.{Sym}
use Rattle.asm_core.specs.declared.piece.Piece.{Piece}
use Rattle.asm_core.specs.declared.finding.Rule.{Rule}
use Rattle.asm_core.specs.declared.shape.Shape.{Shape}
use Rattle.asm_core.specs.declared.interface.Interface.{Interface}
use Rattle.asm_core.specs.declared.company.Places.{Places}
use Rattle.asm_core.specs.declared.lines.JumpTarget.{JumpTarget}
use Rattle.asm_core.specs.declared.lines.Named.{Named}
use Rattle.asm_core.specs.declared.lines.Lines.{Lines}
use Rattle.asm_core.specs.declared.lines.LinesEnd.{LinesEnd}
use Rattle.asm_core.specs.declared.lines.Graph.{Graph}
use Rattle.blk_deps.specs.Ways.{IsGraph}
use Rattle.blk_check.specs.Readable.{with_lines, readings_under, inst_at, has_none, leaves_out, is_unread, instruction_mark, first_unread, read_alike, is_read_twofold, names_one, breaks_u1, instructions_in, differing, or_end, some_output_differs, u1_line, is_lost, first_lost, line_number, lesser, j1_line, finding_at, shape_findings}
use Rattle.blk_check.specs.Judged.{graphs_of}
use Rattle.blk_check.proofs.GoalLaws.{LeadsInside, IsCounted, lines_counted}
use Rattle.blk_check.proofs.BlockLaws.{none_found, AreInside, IsGraphOf, has_graph}

-- ---- tests

or_false : (a b : Bool) → (a || b) ≡ false → (a ≡ false) × (b ≡ false)
or_false true b e = cc
or_false false b e = (refl, e)

not_false_true : (b : Bool) → not b ≡ false → b ≡ true
not_false_true true e = refl
not_false_true false e = cc

unmapped : {A B : Type 0} (f : A → B) (o : Option A) → option_map f o ≡ None → o ≡ None
unmapped f None e = refl
unmapped f (Some x) e = cc

none_passes : {A : Type 0} (p : A → Bool) (xs : List A) → list_any p xs ≡ false → All (λ x. p x ≡ false) xs
none_passes p [] e = All-nil (λ x. p x ≡ false)
none_passes p (x ∷ xs) e =
    let both = or_false (p x) (list_any p xs) e in
    All-cons (λ x. p x ≡ false) x xs both.0 (none_passes p xs both.1)

all_pass : {A : Type 0} (p : A → Bool) (xs : List A) → All (λ x. p x ≡ true) xs → list_all p xs ≡ true
all_pass p [] all = refl
all_pass p (x ∷ xs) all = rw (All-head (λ x. p x ≡ true) x xs all) (all_pass p xs (All-tail (λ x. p x ≡ true) x xs all))

-- what holds of each number of a list holds at each place
at_each : {A : Type 0} (P : ℕ → Type 0) (m : ℕ) (xs : List A) → All P (count_from m xs) → (k : ℕ) → k < length xs → P (m + k)
at_each P m [] all k lt = absurd (omega arith)
at_each P m (x ∷ xs) all zero lt = let same : m ≡ m + 0 = omega arith in subst P same (All-head P m (count_from (m + 1) xs) all)
at_each P m (x ∷ xs) all (suc k) lt =
    let same : m + 1 + k ≡ m + suc k = omega arith in
    let below : k < length xs = omega arith in
    subst P same (at_each P (m + 1) xs (All-tail P m (count_from (m + 1) xs) all) k below)

optional_there : {A : Type 0} (xs : List (Option A)) (k : ℕ) (d : Option A) → k < length xs → optional_at xs k ≡ get_or xs k d
optional_there [] k d lt = absurd (omega arith)
optional_there (x ∷ xs) zero d lt = refl
optional_there (x ∷ xs) (suc k) d lt = optional_there xs k d (let below : k < length xs = omega arith in below)

-- ---- one instruction under all shapes

both_read : (a : Sym) (o : Option Sym) → read_alike (Some a) o ≡ true → IsSome o
both_read a None e = cc
both_read a (Some b) e = refl

none_read : (o : Option Sym) → read_alike None o ≡ true → is_none o ≡ true
none_read None e = refl
none_read (Some b) e = cc

module _ (n : ℕ) (x : Lines) (xs : List Lines) where
  -- each reads it as the first does
  alike : is_read_twofold (x ∷ xs) n ≡ false → All (λ (y : Lines). read_alike (inst_at n x) (inst_at n y) ≡ true) xs
  alike one =
      All-weaker (λ (y : Lines). not (read_alike (inst_at n x) (inst_at n y)) ≡ false) (λ (y : Lines). read_alike (inst_at n x) (inst_at n y) ≡ true)
      (λ y e. not_false_true (read_alike (inst_at n x) (inst_at n y)) e) xs (none_passes (λ (y : Lines). not (read_alike (inst_at n x) (inst_at n y))) xs one)

  read_by : (o : Option Sym) → inst_at n x ≡ o → All (λ (y : Lines). read_alike o (inst_at n y) ≡ true) xs → list_all (has_none n) (x ∷ xs) ≡ false → All (λ (y : Lines). IsSome (inst_at n y)) (x ∷ xs)
  read_by (Some a) e same some =
      All-cons (λ (y : Lines). IsSome (inst_at n y)) x xs (rw e refl)
      (All-weaker (λ (y : Lines). read_alike (Some a) (inst_at n y) ≡ true) (λ (y : Lines). IsSome (inst_at n y)) (λ y e. both_read a (inst_at n y) e) xs same)
  read_by None e same some =
      let others = All-weaker (λ (y : Lines). read_alike None (inst_at n y) ≡ true) (λ (y : Lines). has_none n y ≡ true) (λ y e. none_read (inst_at n y) e) xs same in
      let all : list_all (has_none n) (x ∷ xs) ≡ true = all_pass (has_none n) (x ∷ xs) (All-cons (λ (y : Lines). has_none n y ≡ true) x xs (rw e refl) others) in
      let wrong : true ≡ false = sym all ∙ some in
      cc

  -- all shapes read it
  read_at : is_unread (x ∷ xs) n ≡ false → is_read_twofold (x ∷ xs) n ≡ false → All (λ (y : Lines). IsSome (inst_at n y)) (x ∷ xs)
  read_at some one =
      read_by (inst_at n x) refl (alike one) (or_false (list_all (has_none n) (x ∷ xs)) (list_any (leaves_out n) (x ∷ xs)) some).0

-- ---- all instructions

-- each instruction is read
abbrev pub AreRead : Lines → Type 0
AreRead x = All (λ s. IsSome s) x.insts

-- by columns, and so by rows
rows_read : (n : ℕ) (xs : List Lines) → All (λ (x : Lines). length x.insts ≡ n) xs → ((k : ℕ) → k < n → All (λ (y : Lines). IsSome (inst_at k y)) xs) → All AreRead xs
rows_read n xs counts columns k d below = row
  where
    x : Lines
    x = get_or xs k d

    row : AreRead (get_or xs k d)
    row j e inside =
        let count : length (get_or xs k d).insts ≡ n = All-get_or (λ (x : Lines). length x.insts ≡ n) xs k d below counts in
        let here = All-get_or (λ (y : Lines). IsSome (inst_at j y)) xs k d below (columns j (omega (arith, inside, count))) in
        subst (λ s. IsSome s) (optional_there (get_or xs k d).insts j e inside) here

pub all_read : (n : ℕ) (d : Named) (xs : List Lines) → All (λ (x : Lines). length x.insts ≡ n) xs → first_unread xs ≡ None → find (breaks_u1 d xs) (instructions_in xs) ≡ None → All AreRead xs
unfolding first_unread
all_read n d [] counts some one = All-nil AreRead
all_read n d (x ∷ xs) counts some one =
    let count = All-head (λ (x : Lines). length x.insts ≡ n) x xs counts in
    rows_read n (x ∷ xs) counts (λ k lt. column k (omega (arith, lt, count)))
  where
    unread : All (λ k. is_unread (x ∷ xs) k ≡ false) (count_from 0 x.insts)
    unread = none_found (is_unread (x ∷ xs)) (count_from 0 x.insts) (unmapped (instruction_mark x) (find (is_unread (x ∷ xs)) (count_from 0 x.insts)) some)

    broken : All (λ k. breaks_u1 d (x ∷ xs) k ≡ false) (count_from 0 x.insts)
    broken = none_found (breaks_u1 d (x ∷ xs)) (count_from 0 x.insts) one

    column : (k : ℕ) → k < length x.insts → All (λ (y : Lines). IsSome (inst_at k y)) (x ∷ xs)
    column k lt =
        let place : 0 + k ≡ k = omega arith in
        let read = at_each (λ k. is_unread (x ∷ xs) k ≡ false) 0 x.insts unread k lt in
        let same = at_each (λ k. breaks_u1 d (x ∷ xs) k ≡ false) 0 x.insts broken k lt in
        read_at k x xs (subst (λ m. is_unread (x ∷ xs) m ≡ false) place read)
        (or_false (is_read_twofold (x ∷ xs) k) (list_any (names_one d k) (x ∷ xs)) (subst (λ m. breaks_u1 d (x ∷ xs) m ≡ false) place same)).0

-- ---- readings of one template

module _ (i : Interface) (ps : List Piece) where
  abbrev IsOfTemplate : Lines → Type 0
  IsOfTemplate = IsCounted (instruction_count (statements_of ps))

  with_counted : (s : Shape) (r : Result Lines LinesEnd) (rs : Result (List Lines) LinesEnd) (xs : List Lines) → lines_under names i s ps ≡ r → ((ys : List Lines) → rs ≡ Ok ys → All IsOfTemplate ys)
      → with_lines r rs ≡ Ok xs → All IsOfTemplate xs
  with_counted s (Err end) rs xs first others e = cc
  with_counted s (Ok x) (Err end) xs first others e = cc
  with_counted s (Ok x) (Ok ys) xs first others e =
      let same : x ∷ ys ≡ xs = cc in
      subst (All IsOfTemplate) same (All-cons IsOfTemplate x ys (lines_counted names i s ps x first) (others ys refl))

  -- They have as many instructions as the template, whatever the shape.
  pub readings_counted : (ss : List Shape) (xs : List Lines) → readings_under i ps ss ≡ Ok xs → All (IsCounted (instruction_count (statements_of ps))) xs
  unfolding readings_under
  readings_counted [] xs is = let none : [] ≡ xs = cc in subst (All IsOfTemplate) none (All-nil IsOfTemplate)
  readings_counted (s ∷ ss) xs is = with_counted s (lines_under names i s ps) (readings_under i ps ss) xs refl (λ ys others. readings_counted ss ys others) is

  pub readings_read : (ss : List Shape) (d : Named) (xs : List Lines) → readings_under i ps ss ≡ Ok xs → first_unread xs ≡ None → find (breaks_u1 d xs) (instructions_in xs) ≡ None → All AreRead xs
  readings_read ss d xs is some one =
      let n = instruction_count (statements_of ps) in
      all_read n d xs (All-weaker IsOfTemplate (λ (x : Lines). length x.insts ≡ n) (λ x c. c.count) xs (readings_counted ss xs is)) some one

-- ---- findings

no_lesser : (a b : Option ℕ) → lesser a b ≡ None → (a ≡ None) × (b ≡ None)
no_lesser None b e = (refl, e)
no_lesser (Some a) None e = cc
no_lesser (Some a) (Some b) e = by (nat_lt b a) e
  where
    by : (c : Bool) → cond c (Some b) (Some a) ≡ None → (Some a ≡ None) × (Some b ≡ None)
    by true e = cc
    by false e = cc

none_lost : (least : Option ℕ) (xs : List Lines) → fold (λ least (x : Lines). lesser least (first_lost x)) least xs ≡ None → (least ≡ None) × All (λ (x : Lines). first_lost x ≡ None) xs
none_lost least [] e = (e, All-nil (λ (x : Lines). first_lost x ≡ None))
none_lost least (x ∷ xs) e =
    let behind = none_lost (lesser least (first_lost x)) xs e in
    let here = no_lesser least (first_lost x) behind.0 in
    (here.0, All-cons (λ (x : Lines). first_lost x ≡ None) x xs here.1 behind.1)

-- no jump goes to a label that isn't there
abbrev pub AreFound : Lines → Type 0
AreFound x = find is_lost x.targets ≡ None

pub none_found_lost : (xs : List Lines) → j1_line xs ≡ None → All AreFound xs
unfolding j1_line
none_found_lost xs e =
    All-weaker (λ (x : Lines). first_lost x ≡ None) AreFound (λ x e. unmapped (λ (t : JumpTarget). line_number t.inst) (find is_lost x.targets) e) xs (none_lost None xs e).1

no_end : (o : Option ℕ) (b : Bool) → or_end o b ≡ None → o ≡ None
no_end None b e = refl
no_end (Some n) b e = cc

none_broken : (i : Interface) (ps : List (List Places)) (xs : List Lines) → u1_line i ps xs ≡ None → find (breaks_u1 (differing i ps) xs) (instructions_in xs) ≡ None
unfolding u1_line
none_broken i ps xs e = no_end (find (breaks_u1 (differing i ps) xs) (instructions_in xs)) (some_output_differs i ps) e

no_findings : (a b : Option ℕ) → finding_at Rule.U1 a ++ finding_at Rule.J1 b ≡ [] → (a ≡ None) × (b ≡ None)
no_findings None None e = (refl, refl)
no_findings None (Some m) e = cc
no_findings (Some n) b e = cc

-- ---- blocks

-- the blocks of readings
pub record AreBlocksOf (xs : List Lines) (gs : List Graph) : Type 0 where
  pub are : graphs_of xs ≡ Ok gs
  pub each : AllZip IsGraphOf xs gs
  pub graphs : All IsGraph gs

one_block : (x : Lines) (xs : List Lines) (g : Graph) (gs : List Graph) → IsGraphOf x g → AreBlocksOf xs gs → AreBlocksOf (x ∷ xs) (g ∷ gs)
unfolding graphs_of
one_block x xs g gs is are = record { are = rw (is.is, are.are) refl; each = (is, are.each); graphs = All-cons IsGraph g gs is.graph are.graphs }

no_block : AreBlocksOf [] []
unfolding graphs_of
no_block = record { are = refl; each = tt; graphs = All-nil IsGraph }

-- readings whose instructions are all read, and whose jumps stay inside, have blocks
pub has_blocks : (n : ℕ) (xs : List Lines) → All (IsCounted n) xs → All AreRead xs → All AreFound xs → (gs : List Graph) × AreBlocksOf xs gs
has_blocks n [] counted read found = ([], no_block)
has_blocks n (x ∷ xs) counted read found =
    let c = All-head (IsCounted n) x xs counted in
    let inside : AreInside (length x.insts) x.targets = record { found = All-head AreFound x xs found; inside = subst (λ m. All (LeadsInside m) x.targets) (sym c.count) c.targets } in
    let g = has_graph x (subst (λ m. m ≤ 512) (sym c.count) c.few) (All-head AreRead x xs read) inside in
    let gs = has_blocks n xs (All-tail (IsCounted n) x xs counted) (All-tail AreRead x xs read) (All-tail AreFound x xs found) in
    (g.0 ∷ gs.0, one_block x xs g.0 gs.0 g.1 gs.1)

module _ (i : Interface) (ps : List Piece) (live : List Shape) (xs : List Lines) (is : readings_under i ps live ≡ Ok xs) (some : first_unread xs ≡ None) (none : shape_findings i live xs ≡ []) where
  parts : (u1_line i (map (all_places i) live) xs ≡ None) × (j1_line xs ≡ None)
  unfolding shape_findings
  parts = no_findings (u1_line i (map (all_places i) live) xs) (j1_line xs) none

  -- Where nothing is found all is read.
  pub judged_read : All AreRead xs
  judged_read = readings_read i ps live (differing i (map (all_places i) live)) xs is some (none_broken i (map (all_places i) live) xs parts.0)

  -- Where nothing is found there are blocks.
  pub judged_blocks : (gs : List Graph) × AreBlocksOf xs gs
  judged_blocks = has_blocks (instruction_count (statements_of ps)) xs (readings_counted i ps live xs is) judged_read (none_found_lost xs parts.1)

  -- they are the blocks
  pub blocks_are : (gs : List Graph) → graphs_of xs ≡ Ok gs → AreBlocksOf xs gs
  blocks_are gs e =
      let both : Ok judged_blocks.0 ≡ Ok gs = sym judged_blocks.1.are ∙ e in
      let same : judged_blocks.0 ≡ gs = cc in
      subst (AreBlocksOf xs) same judged_blocks.1
