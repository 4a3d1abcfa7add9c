-- The nodes that begin a block, marked and numbered upwards.
use Rattle.std.proofs.Common.{◌≡◌, inl, inr, ℕ, zero, suc, ◌+◌, ◌<◌, ◌≤◌, List, [], ◌∷◌, ◌++◌, length, Bool, true, false, if◌then◌else◌, Option, None, Some, slice_get, slice_index, slice_set, refl, sym, ap, subst, ◌∙◌, arith, length-append}
use Rattle.std.proofs.Math.ListN.{get_or-append}
use Rattle.std.proofs.Math.Seq.{get_or-append_seam}
use Rattle.std.proofs.lemmas.Bool.{cases_lt, cases_eq}
use Rattle.std.proofs.lemmas.List.{get_or-set_same, get_or-set_other, length-set}
use Rattle.asm_core.specs.declared.sym.Sym.{Sym}
use Rattle.asm_core.specs.declared.lines.Graph.{Graph}
use Rattle.blk_flow.specs.Graph.{always_jumps}
use Rattle.blk_deps.specs.Ways.{size_of, next_of, goes, IsGraph}
use Rattle.blk_deps.specs.Heads.{is_head, IsMarked, MarksHeads, AreHeadsTo, grown, firsts_to, number_of, AreNumbered}

-- ---- lists that grow by a number

grown_keeps : (b : Bool) (xs : List ℕ) (k i : ℕ) → i < length xs → slice_index (grown b xs k) i ≡ slice_index xs i
grown_keeps true xs k i below = get_or-append xs (k ∷ []) 0 i below
grown_keeps false xs k i below = refl

at_seam : (xs : List ℕ) (k i : ℕ) → length xs ≤ i → i < length (xs ++ k ∷ []) → slice_index (xs ++ k ∷ []) i ≡ k
at_seam xs k i past below =
    let long = length-append xs (k ∷ []) in
    let same : i ≡ length xs = omega (arith, past, below, long) in
    ap (slice_index (xs ++ k ∷ [])) same ∙ get_or-append_seam xs k [] 0

grown_all : (P : ℕ → Type 0) (b : Bool) (xs : List ℕ) (k : ℕ) → (b ≡ true → P k)
    → ((i : ℕ) → i < length xs → P (slice_index xs i))
    → (i : ℕ) → i < length (grown b xs k) → P (slice_index (grown b xs k) i)
grown_all P true xs k new old i below = elim (cases_lt i (length xs)) [
  | inl lt ↦ subst P (sym (grown_keeps true xs k i lt)) (old i lt)
  | inr past ↦ subst P (sym (at_seam xs k i past below)) (new refl)
]
grown_all P false xs k new old i below = old i below

grown_rises : (b : Bool) (xs : List ℕ) (k : ℕ) → ((i : ℕ) → i < length xs → slice_index xs i < k)
    → ((i j : ℕ) → i < j → j < length xs → slice_index xs i < slice_index xs j)
    → (i j : ℕ) → i < j → j < length (grown b xs k) → slice_index (grown b xs k) i < slice_index (grown b xs k) j
grown_rises true xs k less old i j lt below = elim (cases_lt j (length xs)) [
  | inl inside ↦
      let one = grown_keeps true xs k i (omega (arith, lt, inside)) in
      let two = grown_keeps true xs k j inside in
      let rise = old i j lt inside in
      omega (arith, one, two, rise)
  | inr past ↦
      let long = length-append xs (k ∷ []) in
      let before : i < length xs = omega (arith, lt, below, long) in
      let one = grown_keeps true xs k i before in
      let two = at_seam xs k j past below in
      let rise = less i before in
      omega (arith, one, two, rise)
]
grown_rises false xs k less old i j lt below = old i j lt below

-- ---- marked nodes in order

module _ (heads : List Bool) where
  pub are_marked : (n i : ℕ) → i < number_of heads n → (slice_index (firsts_to heads n) i < n)
      × (is_head heads (slice_index (firsts_to heads n) i) ≡ true)
  are_marked zero i below = absurd (omega (arith, below))
  are_marked (suc n) i below =
      grown_all (λ m. (m < suc n) × (is_head heads m ≡ true)) (is_head heads n) (firsts_to heads n) n
      (λ is. (omega arith, is)) (λ j inside. let old = are_marked n j inside in (omega (arith, old.0), old.1)) i below

  pub rise : (n i j : ℕ) → i < j → j < number_of heads n → slice_index (firsts_to heads n) i < slice_index
      (firsts_to heads n) j
  rise zero i j lt below = absurd (omega (arith, below))
  rise (suc n) i j lt below =
      grown_rises (is_head heads n) (firsts_to heads n) n (λ k inside. (are_marked n k inside).0) (rise n) i j lt below

  new_one : (n : ℕ) (b : Bool) → b ≡ true → (xs : List ℕ) → (length xs < length (grown b xs n))
      × (slice_index (grown b xs n) (length xs) ≡ n)
  new_one n true is xs = let long = length-append xs (n ∷ []) in (omega (arith, long), get_or-append_seam xs n [] 0)
  new_one n false is xs = cc

  old_one : (n : ℕ) (b : Bool) (xs : List ℕ) (i m : ℕ) → (i < length xs) × (slice_index xs i ≡ m)
      → (i < length (grown b xs n)) × (slice_index (grown b xs n) i ≡ m)
  old_one n true xs i m old = let long = length-append xs (n ∷ []) in
      (omega (arith, long, old.0), grown_keeps true xs n i old.0 ∙ old.1)
  old_one n false xs i m old = old

  -- a marked node has its number
  pub numbered : (n m : ℕ) → m < n → is_head heads m ≡ true
      → (number_of heads m < number_of heads n) × (slice_index (firsts_to heads n) (number_of heads m) ≡ m)
  numbered zero m below is = absurd (omega (arith, below))
  numbered (suc n) m below is = elim (cases_eq m n) [
    | inl same ↦
        subst (λ k. (number_of heads k < number_of heads (suc n))
        × (slice_index (firsts_to heads (suc n)) (number_of heads k) ≡ k)) (sym same)
        (new_one n (is_head heads n) (subst (λ k. is_head heads k ≡ true) same is) (firsts_to heads n))
    | inr differs ↦ old_one n (is_head heads n) (firsts_to heads n) (number_of heads m) m
        (numbered n m (omega (arith, below, differs)) is)
  ]

-- ---- numbering

pub none_numbered : (heads : List Bool) → AreNumbered heads 0 [] []
none_numbered heads = record { are_firsts = refl; count = refl; are_numbers = λ m below. absurd (omega (arith, below)) }

pub numbers_on : (heads : List Bool) (n : ℕ) (firsts numbers more longer : List ℕ) → AreNumbered heads n firsts numbers
    → more ≡ grown (is_head heads n) firsts n → longer ≡ numbers ++ length firsts ∷ []
    → AreNumbered heads (n + 1) more longer
numbers_on heads n firsts numbers more longer are grew pushed =
    let next : suc n ≡ n + 1 = omega arith in
    let long : length longer ≡ length numbers + 1 = ap length pushed ∙ length-append numbers (length firsts ∷ []) in
    record {
      are_firsts = grew ∙ ap (λ xs. grown (is_head heads n) xs n) are.are_firsts ∙ ap (firsts_to heads) next;
      count = long ∙ ap (λ k. k + 1) are.count;
      are_numbers = λ m below. elim (cases_eq m n) [
        | inl same ↦
            let at : m ≡ length numbers = same ∙ sym are.count in
            ap (λ xs. slice_index xs m) pushed ∙ ap (slice_index (numbers ++ length firsts ∷ [])) at
            ∙ get_or-append_seam numbers (length firsts) [] 0 ∙ ap length are.are_firsts
            ∙ sym (ap (number_of heads) same)
        | inr differs ↦
            ap (λ xs. slice_index xs m) pushed ∙ get_or-append numbers (length firsts ∷ []) 0 m
            (omega (arith, below, differs, are.count))
            ∙ are.are_numbers m (omega (arith, below, differs))
      ];
    }

-- ---- where an instruction goes

next_within : (g : Graph) → IsGraph g → (n : ℕ) → n < size_of g → (line : Option Sym) → next_of g n line ≤ size_of g
next_within g is n within None = omega (arith, within)
next_within g is n within (Some line) = if_within (always_jumps line.op) where
  if_within : (b : Bool) → (if b then slice_index g.goals n else n + 1) ≤ size_of g
  if_within true = is.inside n within
  if_within false = omega (arith, within)

pub goes_within : (g : Graph) → IsGraph g → (n : ℕ) → n < size_of g → (goes g n 0 ≤ size_of g)
    × (goes g n 1 ≤ size_of g)
goes_within g is n within = (next_within g is n within (slice_get g.insts n), is.inside n within)

-- ---- marking

begun_at : (xs : List Bool) (size i : ℕ) → length xs ≡ size + 1 → i ≤ size → is_head (slice_set xs i true) i ≡ true
begun_at xs size i long within = get_or-set_same xs i true false (omega (arith, long, within))

still : (xs : List Bool) (size i j : ℕ) → length xs ≡ size + 1 → i ≤ size → is_head xs j ≡ true
    → is_head (slice_set xs i true) j ≡ true
still xs size i j long within is = elim (cases_eq i j) [
  | inl same ↦ subst (λ k. is_head (slice_set xs i true) k ≡ true) same (begun_at xs size i long within)
  | inr differs ↦ get_or-set_other xs i j true false (λ same. differs (sym same)) ∙ is
]

pub begun : (g : Graph) (xs : List Bool) (size : ℕ) → size ≡ size_of g → length xs ≡ size + 1
    → AreHeadsTo g 0 (slice_set (slice_set xs 0 true) size true)
begun g xs size same long =
    let once : length (slice_set xs 0 true) ≡ size + 1 = length-set xs 0 true ∙ long in
    record {
      count = length-set (slice_set xs 0 true) size true ∙ once ∙ ap (λ n. n + 1) same;
      first = still (slice_set xs 0 true) size size 0 once (omega arith) (begun_at xs size 0 long (omega arith));
      last = subst (λ n. is_head (slice_set (slice_set xs 0 true) size true) n ≡ true) same
          (begun_at (slice_set xs 0 true) size size once (omega arith));
      marked = λ m below. absurd (omega (arith, below));
    }

marked_still : (g : Graph) (m n : ℕ) (old new : List Bool) → MarksHeads g n old new → IsMarked g old m
    → IsMarked g new m
marked_still g m n old new marks (inl on) = inl on
marked_still g m n old new marks (inr jump) = inr (marks.kept _ jump.0, marks.kept _ jump.1, marks.kept _ jump.2)

pub marks_on : (g : Graph) (n : ℕ) (old new : List Bool) → AreHeadsTo g n old → MarksHeads g n old new
    → AreHeadsTo g (n + 1) new
marks_on g n old new are marks = record {
  count = marks.count ∙ are.count;
  first = marks.kept 0 are.first;
  last = marks.kept (size_of g) are.last;
  marked = λ m below. elim (cases_eq m n) [
    | inl same ↦ subst (IsMarked g new) (sym same) marks.marked
    | inr differs ↦ marked_still g m n old new marks (are.marked m (omega (arith, below, differs)))
  ];
}
