-- Jumps stay inside: the goal of a label is an instruction, or the end.
use Rattle.std.proofs.Common.{◌≡◌, ℕ, zero, suc, ◌+◌, ◌-◌, ◌==◌, ◌||◌, ◌&&◌, ◌≤◌, ◌<◌, nat_le, nat_lt, List, [], ◌∷◌, length, map, take, drop, reverse, find, slice_index, Bool, true, false, cond, Option, None, Some, IfSome, Ok, Err, All, refl, sym, ap, subst, ◌∙◌, arith}
use Rattle.std.specs.Option.{option_map}
use Rattle.std.specs.Str.Parse.{digits_value}
use Rattle.std.proofs.lemmas.Bool.{ltb-false}
use Rattle.std.proofs.lemmas.List.{length-map, length-reverse, get_or-reverse}
use Rattle.std.proofs.lemmas.List.Elements.{All-nil, All-cons, All-head, All-tail, All-append}
use Rattle.asm_core.specs.Reading.Cut.{is_blank, is_unique_label, same_name, Raw, instruction_count, labels_from}
use Rattle.asm_core.specs.Reading.Facts.{facts_of, atom_of}
use Rattle.asm_core.specs.Reading.UnderShape.{statements_of}
use Rattle.asm_core.proofs.ReadingLaws.BodiesRead.{statements-kept}
use Rattle.asm_core.proofs.ReadingLaws.CutKept.{instruction_count-kept}
use Rattle.asm_core.specs.Reading.Written.{register_named}
use Rattle.asm_core.specs.Reading.Operands.{atom_code, ended, trimmed, hole_of, disp_in, before, address, base_in, index_in, between, enclosed, front_disp, address_at, address_of, place_in, register_operand, label_or, written_operand, hole_operand, operand_of, comma_outside, operands_in, operands_of, all_some}
use Rattle.asm_core.specs.Reading.Chosen.{class_of, choice_of, prefixes_fit}
use Rattle.asm_core.specs.Reading.Line.{Defined, goal_in, defines_number, numbered_goal, is_reference, goal_of, line_with, line_chosen, line_of_operands, line_at, line_of, name_len, place_from, readings_from, readings_of, label_in, onto_targets, target_in, target_of, targets_from, inst_of_reading, lines_with, lines_of_raws, lines_under, template_raws}
use Rattle.asm_core.specs.declared.reg.Reg.{Reg}
use Rattle.asm_core.specs.declared.reg.Slice.{Slice}
use Rattle.asm_core.specs.declared.sym.Place.{Place}
use Rattle.asm_core.specs.declared.sym.Disp.{Disp}
use Rattle.asm_core.specs.declared.names.Prefix.{Prefix}
use Rattle.asm_core.specs.declared.names.NameRow.{NameRow}
use Rattle.asm_core.specs.declared.names.Choice.{Choice}
use Rattle.asm_core.specs.declared.names.Prefixed.{Prefixed}
use Rattle.asm_core.specs.declared.piece.Piece.{Piece}
use Rattle.asm_core.specs.declared.reading.Leaf.{Leaf}
use Rattle.asm_core.specs.declared.reading.Atom.{Atom}
use Rattle.asm_core.specs.declared.reading.LineOperand.{LineOperand}
use Rattle.asm_core.specs.declared.reading.Reading.{Reading}
use Rattle.asm_core.specs.declared.shape.Shape.{Shape}
use Rattle.asm_core.specs.declared.interface.Interface.{Interface}
use Rattle.asm_core.specs.declared.lines.JumpTarget.{JumpTarget}
use Rattle.asm_core.specs.declared.lines.Lines.{Lines}
use Rattle.asm_core.specs.declared.lines.LinesEnd.{LinesEnd}

-- ---- what is in an option

either_has : {A : Type 0} (P : A → Type 0) (b : Bool) (x y : Option A) → IfSome x P → IfSome y P → IfSome (cond b x y) P
either_has P true x y hx hy = hx
either_has P false x y hx hy = hy

map_has : {A B : Type 0} (P : B → Type 0) (f : A → B) (o : Option A) → ((a : A) → P (f a)) → IfSome (option_map f o) P
map_has P f None h = tt
map_has P f (Some a) h = h a

found_has : {A : Type 0} (P : A → Type 0) (p : A → Bool) (xs : List A) → All P xs → IfSome (find p xs) P
found_has P p [] all = tt
found_has P p (x ∷ xs) all = either_has P (p x) (Some x) (find p xs) (All-head P x xs all) (found_has P p xs (All-tail P x xs all))

All-reverse : {A : Type 0} (P : A → Type 0) (xs : List A) → All P xs → All P (reverse xs)
All-reverse P xs all k d below =
    let inside : k < length xs = omega (arith, below, length-reverse xs) in
    subst P (sym (get_or-reverse xs k d inside)) (all (length xs - 1 - k) d (omega (arith, inside)))

-- ---- the goals of labels

module _ (m : ℕ) where
  abbrev IsWithin : ℕ → Type 0
  IsWithin n = n ≤ m

  -- the label stands before an instruction, or before the end
  abbrev IsDefined : Defined → Type 0
  IsDefined l = l.1 ≤ m

  labels_within : {X : Type 0} (n : ℕ) (raws : List (Raw X)) → n + instruction_count raws ≤ m → All IsDefined (labels_from n raws)
  labels_within n [] le = All-nil IsDefined
  labels_within n (Raw.Named name ∷ raws) le = All-cons IsDefined (name, n) (labels_from n raws) (omega (arith, le)) (labels_within n raws le)
  labels_within n (Raw.Dead from ∷ raws) le = labels_within (n + 1) raws (omega (arith, le))
  labels_within n (Raw.Live before from body ∷ raws) le = labels_within (n + 1) raws (omega (arith, le))

  -- an operand that is a label has a goal inside, or none
  abbrev GoesWithin : Option (Option ℕ) → Type 0
  GoesWithin o = IfSome o (λ goal. IfSome goal IsWithin)

  option_map_within : (o : Option Defined) → IfSome o IsDefined → IfSome (option_map (λ (l : Defined). l.1) o) IsWithin
  option_map_within None h = tt
  option_map_within (Some l) h = h

  goal_in_within : (labels : List Defined) (is : Defined → Bool) → All IsDefined labels → IfSome (goal_in labels is) IsWithin
  goal_in_within labels is all = option_map_within (find is labels) (found_has IsDefined is labels all)

  numbered_within : (labels : List Defined) (inst n : ℕ) (back : Bool) → All IsDefined labels → IfSome (numbered_goal labels inst n back) IsWithin
  numbered_within labels inst n true all = goal_in_within (reverse labels) (λ l. defines_number n l && nat_le l.1 inst) (All-reverse IsDefined labels all)
  numbered_within labels inst n false all = goal_in_within labels (λ l. defines_number n l && nat_lt inst l.1) all

  pub goal_of_within : (labels : List Defined) (inst : ℕ) (text : List ℕ) → All IsDefined labels → GoesWithin (goal_of labels inst text)
  unfolding goal_of
  goal_of_within labels inst text all =
      let n = length text - 1 in
      let digits = take n text in
      let last = slice_index text n in
      either_has (λ goal. IfSome goal IsWithin) (is_reference digits && ((last == 98) || (last == 102))) (Some (numbered_goal labels inst (digits_value 10 digits) (last == 98))) _
      (numbered_within labels inst (digits_value 10 digits) (last == 98) all)
      (either_has (λ goal. IfSome goal IsWithin) (is_unique_label text) (Some (goal_in labels (λ l. same_name l.0 text))) None (goal_in_within labels (λ l. same_name l.0 text) all) tt)

  -- ---- operands

  abbrev IsInside : LineOperand → Type 0
  IsInside o = GoesWithin (label_in o)

  address_within : (d : Option Disp) (base : Option (Option Place)) (index : Option (Option (Place × ℕ))) → IfSome (address d base index) IsInside
  address_within (Some d) (Some base) (Some index) = tt
  address_within (Some d) (Some base) None = tt
  address_within (Some d) None index = tt
  address_within None base index = tt

  between_within : (d : Option Disp) (xs : List Atom) (n : ℕ) → IfSome (between d xs n) IsInside
  unfolding between
  between_within d xs n =
      let rest = drop (n + 1) xs in
      either_has IsInside (nat_lt n (length xs)) (address d (base_in (trimmed (take n xs))) (index_in rest (before 44 (map atom_code rest)))) (address d (option_map Some (place_in (trimmed xs))) (Some None))
      (address_within d _ _) (address_within d _ _)

  enclosed_within : (d : Option Disp) (xs : List Atom) (n : ℕ) → IfSome (enclosed d xs n) IsInside
  unfolding enclosed
  enclosed_within d xs zero = tt
  enclosed_within d xs (suc n) =
      let inner = take n xs in
      either_has IsInside (slice_index (map atom_code xs) n == 41) (between d inner (before 44 (map atom_code inner))) None (between_within d inner _) tt

  address_at_within : (xs : List Atom) (n : ℕ) → IfSome (address_at xs n) IsInside
  unfolding address_at
  address_at_within xs n =
      let rest = drop (n + 1) xs in
      either_has IsInside (nat_lt n (length xs)) (enclosed (front_disp (ended (take n xs))) rest (length rest)) (address (disp_in xs) (Some None) (Some None))
      (enclosed_within _ rest (length rest)) (address_within (disp_in xs) (Some None) (Some None))

  address_of_within : (xs : List Atom) → IfSome (address_of xs) IsInside
  unfolding address_of
  address_of_within xs = address_at_within xs (before 40 (map atom_code xs))

  register_within : (r : Option (Reg × Slice)) → IfSome (register_operand r) IsInside
  register_within None = tt
  register_within (Some r) = tt

  label_within : (goal : Option (Option ℕ)) (other : Option LineOperand) → GoesWithin goal → IfSome other IsInside → IfSome (label_or goal other) IsInside
  label_within None other g h = h
  label_within (Some goal) other g h = g

  -- what tells the goals of labels tells none outside
  pub record TellsInside (goal : List ℕ → Option (Option ℕ)) : Type 0 where
    pub each : (text : List ℕ) → GoesWithin (goal text)

  module _ (goal : List ℕ → Option (Option ℕ)) (inside : TellsInside goal) where
    written_within : (xs : List Atom) → IfSome (written_operand goal xs) IsInside
    unfolding written_operand
    written_within xs =
        let text = map atom_code xs in
        either_has IsInside (slice_index text 0 == 36) (option_map LineOperand.Immediate (disp_in (drop 1 xs))) _ (map_has IsInside LineOperand.Immediate (disp_in (drop 1 xs)) (λ d. tt))
        (either_has IsInside (slice_index text 0 == 37) (register_operand (register_named (drop 1 text))) (label_or (goal text) (address_of xs)) (register_within (register_named (drop 1 text)))
        (label_within (goal text) (address_of xs) (inside.each text) (address_of_within xs)))

    hole_within : (leaf : Leaf) (other : Option LineOperand) → IfSome other IsInside → IfSome (hole_operand leaf other) IsInside
    hole_within Leaf.Nothing other h = h
    hole_within (Leaf.Register place slice count) other h = tt
    hole_within (Leaf.Immediate d) other h = tt
    hole_within (Leaf.Bare d known) other h = tt
    hole_within (Leaf.Memory k form) other h = tt
    hole_within Leaf.Nameless other h = tt

    operand_within : (xs : List Atom) → IfSome (operand_of goal xs) IsInside
    unfolding operand_of
    operand_within xs = hole_within (hole_of xs) (written_operand goal xs) (written_within xs)

    abbrev IsReadInside : Option LineOperand → Type 0
    IsReadInside o = IfSome o IsInside

    operands_in_within : (left : ℕ) (xs : List Atom) (n : ℕ) → All IsReadInside (operands_in goal left xs n)
    unfolding operands_in
    operands_in_within zero xs n = All-cons IsReadInside None [] tt (All-nil IsReadInside)
    operands_in_within (suc left) xs n =
        let rest = drop (n + 1) xs in
        All-cons IsReadInside (operand_of goal (trimmed (take n xs))) _ (operand_within (trimmed (take n xs)))
        (either_all (nat_lt n (length xs)) (operands_in goal left rest (comma_outside false (map atom_code rest))) [] (operands_in_within left rest _) (All-nil IsReadInside))
      where
        either_all : (b : Bool) (xs ys : List (Option LineOperand)) → All IsReadInside xs → All IsReadInside ys → All IsReadInside (cond b xs ys)
        either_all true xs ys hx hy = hx
        either_all false xs ys hx hy = hy

    operands_of_within : (xs : List Atom) → All IsReadInside (operands_of goal xs)
    unfolding operands_of
    operands_of_within xs = by (length xs == 0)
      where
        by : (b : Bool) → All IsReadInside (cond b [] (operands_in goal 3 xs (comma_outside false (map atom_code xs))))
        by true = All-nil IsReadInside
        by false = operands_in_within 3 xs (comma_outside false (map atom_code xs))

  -- ---- readings

  onto_all : (o : LineOperand) (os : Option (List LineOperand)) → IsInside o → IfSome os (All IsInside) → IfSome (option_map (λ (ys : List LineOperand). o ∷ ys) os) (All IsInside)
  onto_all o None h hs = tt
  onto_all o (Some os) h hs = All-cons IsInside o os h hs

  all_some_within : (os : List (Option LineOperand)) → All (λ o. IfSome o IsInside) os → IfSome (all_some os) (All IsInside)
  all_some_within [] all = All-nil IsInside
  all_some_within (None ∷ os) all = tt
  all_some_within (Some o ∷ os) all =
      onto_all o (all_some os) (All-head (λ o. IfSome o IsInside) (Some o) os all) (all_some_within os (All-tail (λ o. IfSome o IsInside) (Some o) os all))

  abbrev StaysInside : Reading → Type 0
  StaysInside (Reading.Read l) = All IsInside l.operands
  StaysInside Reading.LeftOut = Unit {0}
  StaysInside Reading.Unread = Unit {0}

  with_within : (c : Choice) (os : List LineOperand) (place : ℕ) (p : Option Prefixed) → All IsInside os → StaysInside (line_with c os place p)
  with_within c os place None all = tt
  with_within c os place (Some p) all = by c.row.left_out
    where
      by : (b : Bool) → StaysInside (cond b Reading.LeftOut (Reading.Read (record { op = c.op; width = c.width; operands = os; repeat = p.repeat; lock = p.lock; place = place })))
      by true = tt
      by false = all

  chosen_within : (before : List Prefix) (os : List LineOperand) (place : ℕ) (c : Option Choice) → All IsInside os → StaysInside (line_chosen before os place c)
  chosen_within before os place None all = tt
  chosen_within before os place (Some c) all = with_within c os place (prefixes_fit c.row (map class_of os) before) all

  line_of_operands_within : (rows : List NameRow) (before : List Prefix) (name : List ℕ) (place : ℕ) (os : Option (List LineOperand)) → IfSome os (All IsInside)
      → StaysInside (line_of_operands rows before name place os)
  line_of_operands_within rows before name place None all = tt
  line_of_operands_within rows before name place (Some os) all = chosen_within before os place (choice_of rows name (map class_of os)) all

  module _ (rows : List NameRow) where
    line_at_within : (goal : List ℕ → Option (Option ℕ)) → TellsInside goal → (before : List Prefix) (place : ℕ) (xs : List Atom) (n : ℕ) → StaysInside (line_at rows goal before place xs n)
    unfolding line_at
    line_at_within goal inside before place xs n = by ((length xs == n) || is_blank (slice_index (map atom_code xs) n))
      where
        by : (b : Bool) → StaysInside (cond b (line_of_operands rows before (take n (map atom_code xs)) place (all_some (operands_of goal (trimmed (drop n xs))))) Reading.Unread)
        by true = line_of_operands_within rows before (take n (map atom_code xs)) place (all_some (operands_of goal (trimmed (drop n xs)))) (all_some_within (operands_of goal (trimmed (drop n xs))) (operands_of_within goal inside (trimmed (drop n xs))))
        by false = tt

    line_of_within : (goal : List ℕ → Option (Option ℕ)) → TellsInside goal → (before : List Prefix) (place : ℕ) (xs : List Atom) → StaysInside (line_of rows goal before place xs)
    unfolding line_of
    line_of_within goal inside before place xs = line_at_within goal inside before place xs (name_len (map atom_code xs))

    readings_within : (labels : List Defined) → All IsDefined labels → (n : ℕ) (raws : List (Raw Atom)) → All StaysInside (readings_from rows labels n raws)
    unfolding readings_from
    readings_within labels all n [] = All-nil StaysInside
    readings_within labels all n (Raw.Named name ∷ raws) = readings_within labels all n raws
    readings_within labels all n (Raw.Dead from ∷ raws) = All-cons StaysInside Reading.Unread (readings_from rows labels (n + 1) raws) tt (readings_within labels all (n + 1) raws)
    readings_within labels all n (Raw.Live before from body ∷ raws) =
        All-cons StaysInside (line_of rows (goal_of labels n) before (place_from from) body) (readings_from rows labels (n + 1) raws)
        (line_of_within (goal_of labels n) (record { each = λ text. goal_of_within labels n text all }) before (place_from from) body)
        (readings_within labels all (n + 1) raws)

  -- ---- targets

  -- the goal, where there is one, is an instruction's number or m
  abbrev pub LeadsInside : JumpTarget → Type 0
  LeadsInside t = IfSome t.goal IsWithin

  onto_within : (n : ℕ) (goal : Option (Option ℕ)) (others : List JumpTarget) → GoesWithin goal → All LeadsInside others → All LeadsInside (onto_targets n goal others)
  onto_within n None others h all = all
  onto_within n (Some goal) others h all = All-cons LeadsInside (record { inst = n; goal = goal }) others h all

  target_in_within : (n : ℕ) (os : List LineOperand) → All IsInside os → All LeadsInside (target_in n os)
  target_in_within n [] all = All-nil LeadsInside
  target_in_within n (o ∷ os) all = onto_within n (label_in o) (target_in n os) (All-head IsInside o os all) (target_in_within n os (All-tail IsInside o os all))

  target_of_within : (n : ℕ) (r : Reading) → StaysInside r → All LeadsInside (target_of n r)
  target_of_within n (Reading.Read l) h = target_in_within n l.operands h
  target_of_within n Reading.LeftOut h = All-nil LeadsInside
  target_of_within n Reading.Unread h = All-nil LeadsInside

  targets_within : (n : ℕ) (rs : List Reading) → All StaysInside rs → All LeadsInside (targets_from n rs)
  targets_within n [] all = All-nil LeadsInside
  targets_within n (r ∷ rs) all =
      All-append LeadsInside (target_of n r) (targets_from (n + 1) rs) (target_of_within n r (All-head StaysInside r rs all)) (targets_within (n + 1) rs (All-tail StaysInside r rs all))

-- ---- lines

pub reading_count : (rows : List NameRow) (labels : List Defined) (n : ℕ) (raws : List (Raw Atom)) → length (readings_from rows labels n raws) ≡ instruction_count raws
unfolding readings_from
reading_count rows labels n [] = refl
reading_count rows labels n (Raw.Named name ∷ raws) = reading_count rows labels n raws
reading_count rows labels n (Raw.Dead from ∷ raws) = let others = reading_count rows labels (n + 1) raws in omega (arith, others)
reading_count rows labels n (Raw.Live before from body ∷ raws) = let others = reading_count rows labels (n + 1) raws in omega (arith, others)

-- what lines keep whose template has so many instructions
pub record IsCounted (n : ℕ) (x : Lines) : Type 0 where
  pub count : length x.insts ≡ n
  pub few : n ≤ 512
  pub targets : All (LeadsInside n) x.targets

counted_raws : (rows : List NameRow) (raws : List (Raw Atom)) (x : Lines) → lines_of_raws rows raws ≡ Ok x → IsCounted (instruction_count raws) x
unfolding readings_of
counted_raws rows raws x is = by (nat_lt 512 (instruction_count raws)) refl is
  where
    by : (b : Bool) → nat_lt 512 (instruction_count raws) ≡ b → cond b (Err LinesEnd.TooMany) (Ok (lines_with raws (readings_of rows raws))) ≡ Ok x → IsCounted (instruction_count raws) x
    by true many e = cc
    by false few e =
        let same : lines_with raws (readings_of rows raws) ≡ x = cc in
        subst (IsCounted (instruction_count raws)) same (record {
          count = length-map (readings_of rows raws) (inst_of_reading (instruction_count raws)) ∙ reading_count rows (labels_from 0 raws) 0 raws;
          few = ltb-false 512 (instruction_count raws) few;
          targets = targets_within (instruction_count raws) 0 (readings_of rows raws)
              (readings_within (instruction_count raws) rows (labels_from 0 raws) (labels_within (instruction_count raws) 0 raws (omega arith)) 0 raws);
        })

module _ (rows : List NameRow) (i : Interface) (s : Shape) (ps : List Piece) (x : Lines) (is : lines_under rows i s ps ≡ Ok x) where
  -- The template has one count of instructions, whatever the shape.
  pub lines_counted : IsCounted (instruction_count (statements_of ps)) x
  lines_counted =
      let same = ap instruction_count (statements-kept i s ps) ∙ instruction_count-kept (atom_of (facts_of i s)) (statements_of ps) in
      subst (λ n. IsCounted n x) same (counted_raws rows (template_raws i s ps) x is)

  -- A jump's goal, where there is one, is an instruction or the end.
  pub goals_inside : All (LeadsInside (length x.insts)) x.targets
  goals_inside = subst (λ n. All (LeadsInside n) x.targets) (sym lines_counted.count) lines_counted.targets
