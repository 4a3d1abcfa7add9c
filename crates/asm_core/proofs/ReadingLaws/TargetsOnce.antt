-- An instruction has one label at the most among its operands, and so one target.
use Rattle.std.proofs.Common.{◌≡◌, inl, inr, ℕ, suc, ◌+◌, ◌&&◌, ◌<◌, ◌≤◌, nat_le, All, count_by, List, [], ◌∷◌, ◌++◌, length, map, Bool, true, false, cond, Option, None, Some, Ok, refl, ap, sym, subst, ◌∙◌, arith}
use Rattle.std.proofs.lemmas.Bool.Decides.{nat_tests}
use Rattle.std.proofs.lemmas.List.{length-map}
use Rattle.std.proofs.lemmas.List.Elements.{All-nil, All-cons, All-head, All-tail}
use Rattle.std.specs.List.{list_all}
use Rattle.asm_core.specs.Lists.{IsMember}
use Rattle.asm_core.specs.Reading.Cut.{Raw, labels_from}
use Rattle.asm_core.specs.Reading.Chosen.{Class, class_of, allows_label, slot_allows, all_stand, is_memory, first_of_two, size_in, op_in, choice, choice_in, first_choice, suffixed_choice, choice_of}
use Rattle.asm_core.specs.Reading.Line.{Defined, goal_of, line_of, line_read, place_from, readings_from, readings_of, label_in, target_in, target_of, targets_from, template_raws, lines_under}
use Rattle.asm_core.specs.Reading.Names.{names}
use Rattle.asm_core.proofs.ReadingLaws.CutWhole.{first_true, both_true}
use Rattle.asm_core.proofs.ReadingLaws.InstsRead.{line_choice, insts_are, targets_are}
use Rattle.asm_core.specs.declared.inst.Op.{Op}
use Rattle.asm_core.specs.declared.inst.Width.{Width}
use Rattle.asm_core.specs.declared.names.Choice.{Choice}
use Rattle.asm_core.specs.declared.names.NameRow.{NameRow}
use Rattle.asm_core.specs.declared.names.Prefix.{Prefix}
use Rattle.asm_core.specs.declared.names.Slot.{Slot}
use Rattle.asm_core.specs.declared.piece.Piece.{Piece}
use Rattle.asm_core.specs.declared.shape.Shape.{Shape}
use Rattle.asm_core.specs.declared.interface.Interface.{Interface}
use Rattle.asm_core.specs.declared.reading.Atom.{Atom}
use Rattle.asm_core.specs.declared.reading.Line.{Line}
use Rattle.asm_core.specs.declared.reading.LineOperand.{LineOperand}
use Rattle.asm_core.specs.declared.reading.Reading.{Reading}
use Rattle.asm_core.specs.declared.lines.JumpTarget.{JumpTarget}
use Rattle.asm_core.specs.declared.lines.Lines.{Lines}

-- ---- labels by the table of names

-- how many pass
abbrev passing : {A : Type 0} → (A → Bool) → List A → ℕ
passing p [] = 0
passing p (x ∷ xs) = cond (p x) (suc (passing p xs)) (passing p xs)

abbrev is_label : Class → Bool
is_label Class.Label = true
is_label (Class.Register w count) = false
is_label Class.Memory = false
is_label Class.Number = false

abbrev takes_label : Option Slot → Bool
takes_label None = false
takes_label (Some slot) = allows_label slot.allowed

-- a row has one place for a label at the most
abbrev has_one_label : NameRow → Bool
has_one_label row = nat_le (passing takes_label row.slots) 1

names_once : list_all has_one_label names ≡ true
names_once = refl

label_stands : (w : Width) (slot : Slot) (c : Class) → slot_allows w slot c ≡ true → is_label c ≡ true
    → allows_label slot.allowed ≡ true
label_stands w slot Class.Label h e = h
label_stands w slot (Class.Register v count) h e = cc
label_stands w slot Class.Memory h e = cc
label_stands w slot Class.Number h e = cc

onto_labels : (b d : Bool) (m n : ℕ) → (b ≡ true → d ≡ true) → m ≤ n → cond b (suc m) m ≤ cond d (suc n) n
onto_labels true true m n h le = omega (arith, le)
onto_labels true false m n h le = let wrong : false ≡ true = h refl in cc
onto_labels false true m n h le = omega (arith, le)
onto_labels false false m n h le = omega (arith, le)

-- labels stand where labels may stand
labels_stand : (w : Width) (slots : List (Option Slot)) (cs : List Class) → all_stand w slots cs ≡ true
    → passing is_label cs ≤ passing takes_label slots
labels_stand w [] [] h = omega arith
labels_stand w [] (c ∷ cs) h = cc
labels_stand w (None ∷ slots) [] h = omega arith
labels_stand w (None ∷ slots) (c ∷ cs) h = cc
labels_stand w (Some slot ∷ slots) [] h = cc
labels_stand w (Some slot ∷ slots) (c ∷ cs) h =
    onto_labels (is_label c) (allows_label slot.allowed) (passing is_label cs) (passing takes_label slots)
    (label_stands w slot c (first_true (slot_allows w slot c) _ h))
    (labels_stand w slots cs (both_true (slot_allows w slot c) _ h))

abbrev HasOne : List Class → Type 0
HasOne cs = passing is_label cs ≤ 1

choice_once : (row : NameRow) (op : Option Op) (w : Option Width) (cs : List Class) (c : Choice)
    → has_one_label row ≡ true → choice row op w cs ≡ Some c → HasOne cs
choice_once row None w cs c one e = cc
choice_once row (Some op) None cs c one e = cc
choice_once row (Some op) (Some w) cs c one e = by (all_stand w row.slots cs) (nat_le (count_by is_memory cs) 1) refl e
  where
    by : (a b : Bool) → all_stand w row.slots cs ≡ a
        → cond (a && b) (Some (record { row = row; op = op; width = w })) None ≡ Some c → HasOne cs
    by true b stands e =
        let few = labels_stand w row.slots cs stands in
        let most : passing takes_label row.slots ≤ 1 = grind (arith, nat_tests, one) in omega (arith, few, most)
    by false b stands e = cc

either_once : (cs : List Class) (x y : Option Choice) (c : Choice) → ((d : Choice) → x ≡ Some d → HasOne cs)
    → ((d : Choice) → y ≡ Some d → HasOne cs) → first_of_two x y ≡ Some c → HasOne cs
either_once cs None y c first second e = second c e
either_once cs (Some d) y c first second e = first d refl

first_once : (name : List ℕ) (suffix : Option Width) (cs : List Class) (rows : List NameRow) (c : Choice)
    → list_all has_one_label rows ≡ true → first_choice name suffix cs rows ≡ Some c → HasOne cs
first_once name suffix cs [] c all e = cc
first_once name suffix cs (row ∷ rows) c all e =
    either_once cs (choice_in name suffix cs row) (first_choice name suffix cs rows) c
    (λ d f. choice_once row (op_in row name) (size_in row suffix cs) cs d (first_true (has_one_label row) _ all) f)
    (λ d f. first_once name suffix cs rows d (both_true (has_one_label row) _ all) f) e

suffixed_once : (rows : List NameRow) (name : List ℕ) (cs : List Class) (w : Option Width) (c : Choice)
    → list_all has_one_label rows ≡ true → suffixed_choice rows name cs w ≡ Some c → HasOne cs
suffixed_once rows name cs None c all e = cc
suffixed_once rows name cs (Some w) c all e = first_once name (Some w) cs rows c all e

chosen_once : (rows : List NameRow) (name : List ℕ) (cs : List Class) (c : Choice)
    → list_all has_one_label rows ≡ true → choice_of rows name cs ≡ Some c → HasOne cs
unfolding choice_of
chosen_once rows name cs c all e =
    either_once cs (first_choice name None cs rows) _ c (λ d f. first_once name None cs rows d all f)
    (λ d f. suffixed_once rows _ cs _ d all f) e

-- ---- targets

-- no target, or one
abbrev OneTarget : List JumpTarget → Type 0
OneTarget ts = length ts ≤ 1

label_class : (o : LineOperand) → label_in o ≡ None → is_label (class_of o) ≡ false
label_class (LineOperand.Register place slice count) e = refl
label_class (LineOperand.Immediate d) e = refl
label_class (LineOperand.Memory k form) e = refl
label_class (LineOperand.Address d base index) e = refl
label_class (LineOperand.Label goal) e = cc

targets_counted : (n : ℕ) (os : List LineOperand) → length (target_in n os) ≡ passing is_label (map class_of os)
targets_counted n [] = refl
targets_counted n (LineOperand.Register place slice count ∷ os) = targets_counted n os
targets_counted n (LineOperand.Immediate d ∷ os) = targets_counted n os
targets_counted n (LineOperand.Memory k form ∷ os) = targets_counted n os
targets_counted n (LineOperand.Address d base index ∷ os) = targets_counted n os
targets_counted n (LineOperand.Label goal ∷ os) = ap suc (targets_counted n os)

-- all are of that instruction
targets_own : (n : ℕ) (os : List LineOperand) (t : JumpTarget) → IsMember t (target_in n os) → t.inst ≡ n
targets_own n [] t m = absurd m
targets_own n (LineOperand.Register place slice count ∷ os) t m = targets_own n os t m
targets_own n (LineOperand.Immediate d ∷ os) t m = targets_own n os t m
targets_own n (LineOperand.Memory k form ∷ os) t m = targets_own n os t m
targets_own n (LineOperand.Address d base index ∷ os) t m = targets_own n os t m
targets_own n (LineOperand.Label goal ∷ os) t m =
    elim m [ inl e ↦ ap (λ (x : JumpTarget). x.inst) e | inr rest ↦ targets_own n os t rest ]

-- what is read has one target at the most
abbrev ReadsOnce : Reading → Type 0
ReadsOnce r = (l : Line) → line_read r ≡ Some l → passing is_label (map class_of l.operands) ≤ 1

reading_once : (n : ℕ) (r : Reading) → ReadsOnce r → length (target_of n r) ≤ 1
reading_once n (Reading.Read l) once =
    let few = once l refl in let same = targets_counted n l.operands in omega (arith, few, same)
reading_once n Reading.LeftOut once = omega arith
reading_once n Reading.Unread once = omega arith

reading_own : (n : ℕ) (r : Reading) (t : JumpTarget) → IsMember t (target_of n r) → t.inst ≡ n
reading_own n (Reading.Read l) t m = targets_own n l.operands t m
reading_own n Reading.LeftOut t m = absurd m
reading_own n Reading.Unread t m = absurd m

line_once : (goal : List ℕ → Option (Option ℕ)) (before : List Prefix) (place : ℕ) (xs : List Atom)
    → ReadsOnce (line_of names goal before place xs)
line_once goal before place xs l e =
    let c = line_choice names goal before place xs l e in
    chosen_once names _ (map class_of l.operands) c.0 names_once c.1

readings_once : (labels : List Defined) (n : ℕ) (raws : List (Raw Atom))
    → All ReadsOnce (readings_from names labels n raws)
unfolding readings_from
readings_once labels n [] = All-nil ReadsOnce
readings_once labels n (Raw.Named name ∷ raws) = readings_once labels n raws
readings_once labels n (Raw.Dead from ∷ raws) =
    All-cons ReadsOnce Reading.Unread _ (λ l e. cc) (readings_once labels (n + 1) raws)
readings_once labels n (Raw.Live before from body ∷ raws) =
    All-cons ReadsOnce (line_of names (goal_of labels n) before (place_from from) body) _
    (line_once (goal_of labels n) before (place_from from) body) (readings_once labels (n + 1) raws)

-- ---- lists of targets

member_of : (t : JumpTarget) (xs ys : List JumpTarget) (P : Type 0) → (IsMember t xs → P) → (IsMember t ys → P)
    → IsMember t (xs ++ ys) → P
member_of t [] ys P left right m = right m
member_of t (x ∷ xs) ys P left right m =
    elim m [ inl e ↦ left (inl e) | inr rest ↦ member_of t xs ys P (λ k. left (inr k)) right rest ]

only_member : (t u : JumpTarget) (xs : List JumpTarget) → length xs ≤ 1 → IsMember t xs → IsMember u xs → t ≡ u
only_member t u [] few m k = absurd m
only_member t u (x ∷ []) few m k =
    elim m [ inl e ↦ elim k [ inl f ↦ e ∙ sym f | inr none ↦ absurd none ] | inr none ↦ absurd none ]
only_member t u (x ∷ y ∷ xs) few m k = absurd (omega (arith, few))

-- the instructions that have targets
pub targets_within : (n : ℕ) (rs : List Reading) (t : JumpTarget) → IsMember t (targets_from n rs)
    → (n ≤ t.inst) × (t.inst < n + length rs)
targets_within n [] t m = absurd m
targets_within n (r ∷ rs) t m =
    member_of t (target_of n r) (targets_from (n + 1) rs) ((n ≤ t.inst) × (t.inst < n + suc (length rs)))
    (λ k. let own = reading_own n r t k in (omega (arith, own), omega (arith, own)))
    (λ k. let w = targets_within (n + 1) rs t k in let low = w.0 in let high = w.1 in
    (omega (arith, low), omega (arith, high))) m

targets_alike : (n : ℕ) (rs : List Reading) → All ReadsOnce rs → (t u : JumpTarget) → IsMember t (targets_from n rs)
    → IsMember u (targets_from n rs) → t.inst ≡ u.inst → t ≡ u
targets_alike n [] once t u m k same = absurd m
targets_alike n (r ∷ rs) once t u m k same =
    let later : (v : JumpTarget) → v.inst ≡ n → IsMember v (targets_from (n + 1) rs) → ⊥ = λ v own j.
    (let low = (targets_within (n + 1) rs v j).0 in omega (arith, own, low)) in
    member_of t (target_of n r) (targets_from (n + 1) rs) (t ≡ u)
    (λ here. member_of u (target_of n r) (targets_from (n + 1) rs) (t ≡ u)
    (λ there. only_member t u (target_of n r) (reading_once n r (All-head ReadsOnce r rs once)) here there)
    (λ there. absurd (later u (sym same ∙ reading_own n r t here) there)) k)
    (λ here. member_of u (target_of n r) (targets_from (n + 1) rs) (t ≡ u)
    (λ there. absurd (later t (same ∙ reading_own n r u there) here))
    (λ there. targets_alike (n + 1) rs (All-tail ReadsOnce r rs once) t u here there same) k) m

-- ---- the targets of lines under a shape

pub record HaveTargets (lines : Lines) : Type 0 where
  pub within : (t : JumpTarget) → IsMember t lines.targets → t.inst < length lines.insts
  pub once : (t u : JumpTarget) → IsMember t lines.targets → IsMember u lines.targets → t.inst ≡ u.inst → t ≡ u

module _ (i : Interface) (s : Shape) (ps : List Piece) (lines : Lines) (read : lines_under names i s ps ≡ Ok lines)
  where
    abbrev readings : List Reading
    readings = readings_of names (template_raws i s ps)

    all_once : All ReadsOnce readings
    unfolding readings_of
    all_once = readings_once (labels_from 0 (template_raws i s ps)) 0 (template_raws i s ps)

    as_many : length lines.insts ≡ length readings
    as_many = ap length (sym (insts_are names i s ps lines read)) ∙ rw length-map refl

    of_readings : (t : JumpTarget) → IsMember t lines.targets → IsMember t (targets_from 0 readings)
    of_readings t m = subst (IsMember t) (sym (targets_are names i s ps lines read)) m

    -- Each target is of an instruction of the lines, and each instruction has one target at the most.
    pub have_targets : HaveTargets lines
    have_targets = record {
      within =
          λ t m. (let high = (targets_within 0 readings t (of_readings t m)).1 in let many = as_many in omega
          (arith, high, many));
      once = λ t u m k same. targets_alike 0 readings all_once t u (of_readings t m) (of_readings u k) same;
    }
