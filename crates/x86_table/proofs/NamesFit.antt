-- Each line that is read by the table of names has the operands that its row asks for.
use Rattle.std.proofs.Common.{◌≡◌, ◌⊎◌, inl, inr, ℕ, zero, suc, ◌+◌, ◌-◌, ◌==◌, ◌≤◌, nat_le, ◌&&◌, ◌||◌, not, List, [], ◌∷◌, ◌++◌, map, take, drop, length, count_by, slice_get, slice_index, Bool, true, false, if◌then◌else◌, Option, None, Some, refl, sym, ap, subst, ◌∙◌, arith}
use Rattle.std.specs.List.{list_all}
use Rattle.std.specs.Option.{option_map, option_and_then}
use Rattle.std.proofs.lemmas.Bool.{and_parts, leb-true, eqb-true}
use Rattle.std.proofs.lemmas.List.{length-map}
use Rattle.asm_core.specs.Cond.{cond_named}
use Rattle.asm_core.specs.Lists.{IsMember}
use Rattle.asm_core.specs.MicroOps.{first_of, count_of, bytes_named}
use Rattle.asm_core.specs.Reading.Chosen.{Class, is_memory, lock_fits, class_of, width_bytes, same_width, slice_width, slot_allows, all_stand, has_suffix, if_suffix, size_in, register_width, first_of_two, op_in, with_condition, choice, choice_in, first_choice, suffixed_choice, choice_of, prefixed, prefixes_fit, suffix_width}
use Rattle.asm_core.specs.Reading.Line.{name_len, line_with, line_chosen, line_of_operands, line_at, line_of, arg_of, sym_of}
use Rattle.asm_core.specs.Reading.Cut.{is_blank}
use Rattle.asm_core.specs.Reading.Names.{names}
use Rattle.asm_core.specs.Reading.Operands.{atom_code, trimmed, operands_of, all_some}
use Rattle.asm_core.specs.RowLaws.{HasBytes, byte_count, target_count}
use Rattle.asm_core.specs.RowTerms.{repeated}
use Rattle.asm_core.specs.Rows.{line_row}
use Rattle.asm_core.specs.Table.{row_of}
use Rattle.asm_core.specs.declared.cond.Cond.{Cond}
use Rattle.asm_core.specs.declared.cond.Cond.TheVariants as conds
use Rattle.asm_core.specs.declared.inst.Op.{Op}
use Rattle.asm_core.specs.declared.inst.Repeat.{Repeat}
use Rattle.asm_core.specs.declared.inst.Width.{Width}
use Rattle.asm_core.specs.declared.micro_op.Bytes.{Bytes}
use Rattle.asm_core.specs.declared.micro_op.Function.{Function}
use Rattle.asm_core.specs.declared.micro_op.Input.{Input}
use Rattle.asm_core.specs.declared.micro_op.MicroOp.{MicroOp}
use Rattle.asm_core.specs.declared.micro_op.Site.{Site}
use Rattle.asm_core.specs.declared.micro_op.Target.{Target}
use Rattle.asm_core.specs.declared.names.Choice.{Choice}
use Rattle.asm_core.specs.declared.names.NameRow.{NameRow}
use Rattle.asm_core.specs.declared.names.Operation.{Operation}
use Rattle.asm_core.specs.declared.names.Prefix.{Prefix}
use Rattle.asm_core.specs.declared.names.Prefixed.{Prefixed}
use Rattle.asm_core.specs.declared.names.Slot.{Slot}
use Rattle.asm_core.specs.declared.reading.Atom.{Atom}
use Rattle.asm_core.specs.declared.reading.Line.{Line}
use Rattle.asm_core.specs.declared.reading.LineOperand.{LineOperand}
use Rattle.asm_core.specs.declared.reading.Reading.{Reading}
use Rattle.asm_core.specs.declared.reg.Slice.{Slice}
use Rattle.asm_core.specs.declared.sym.Disp.{Disp}
use Rattle.asm_core.specs.declared.sym.Sym.{Sym}
use Rattle.x86_table.specs.TableLaws.{IsPlain, HasArg, HasSite, HasTarget, HasInput, HasOperands}
use Rattle.x86_table.proofs.NamesCheck.{has_bytes, class_has, widths, classes, place_has, site_has, target_has, input_has, op_has, conditions, operations_of, may_be, repeats_of, operand_count, is_plain, repeat_has, width_has, row_has, names_have}

-- ---- lists and tests

pub all_at : {A : Type 0} (p : A → Bool) (x : A) (xs : List A) → list_all p xs ≡ true → IsMember x xs → p x ≡ true
all_at p x [] all member = absurd member
all_at p x (y ∷ ys) all (inl same) = ap p same ∙ (and_parts (p y) (list_all p ys) all).0
all_at p x (y ∷ ys) all (inr member) = all_at p x ys (and_parts (p y) (list_all p ys) all).1 member

pub implied : (a b : Bool) → (not a || b) ≡ true → a ≡ true → b ≡ true
implied true b e h = e
implied false b e h = cc

either_true : (a b : Bool) → (a ≡ true) ⊎ (b ≡ true) → (a || b) ≡ true
either_true true b h = refl
either_true false b (inl h) = cc
either_true false b (inr h) = h

mapped_member : {A B : Type 0} (f : A → B) (x : A) (xs : List A) → IsMember x xs → IsMember (f x) (map f xs)
mapped_member f x [] member = member
mapped_member f x (y ∷ ys) (inl same) = inl (ap f same)
mapped_member f x (y ∷ ys) (inr member) = inr (mapped_member f x ys member)

-- ---- all of a kind

pub width_there : (w : Width) → IsMember w widths
width_there Width.B = inl refl
width_there Width.W = inr (inl refl)
width_there Width.L = inr (inr (inl refl))
width_there Width.Q = inr (inr (inr (inl refl)))

class_there : (c : Class) → IsMember c classes
class_there (Class.Register Width.B true) = inl refl
class_there (Class.Register Width.W true) = inr (inl refl)
class_there (Class.Register Width.L true) = inr (inr (inl refl))
class_there (Class.Register Width.Q true) = inr (inr (inr (inl refl)))
class_there (Class.Register Width.B false) = inr (inr (inr (inr (inl refl))))
class_there (Class.Register Width.W false) = inr (inr (inr (inr (inr (inl refl)))))
class_there (Class.Register Width.L false) = inr (inr (inr (inr (inr (inr (inl refl))))))
class_there (Class.Register Width.Q false) = inr (inr (inr (inr (inr (inr (inr (inl refl)))))))
class_there Class.Memory = inr (inr (inr (inr (inr (inr (inr (inr (inl refl))))))))
class_there Class.Number = inr (inr (inr (inr (inr (inr (inr (inr (inr (inl refl)))))))))
class_there Class.Label = inr (inr (inr (inr (inr (inr (inr (inr (inr (inr (inl refl))))))))))

condition_there : (c : Cond) → IsMember c conditions
condition_there conds.O = inl refl
condition_there conds.No = inr (inl refl)
condition_there conds.B = inr (inr (inl refl))
condition_there conds.Ae = inr (inr (inr (inl refl)))
condition_there conds.E = inr (inr (inr (inr (inl refl))))
condition_there conds.Ne = inr (inr (inr (inr (inr (inl refl)))))
condition_there conds.Be = inr (inr (inr (inr (inr (inr (inl refl))))))
condition_there conds.A = inr (inr (inr (inr (inr (inr (inr (inl refl)))))))
condition_there conds.S = inr (inr (inr (inr (inr (inr (inr (inr (inl refl))))))))
condition_there conds.Ns = inr (inr (inr (inr (inr (inr (inr (inr (inr (inl refl)))))))))
condition_there conds.P = inr (inr (inr (inr (inr (inr (inr (inr (inr (inr (inl refl))))))))))
condition_there conds.Np = inr (inr (inr (inr (inr (inr (inr (inr (inr (inr (inr (inl refl)))))))))))
condition_there conds.L = inr (inr (inr (inr (inr (inr (inr (inr (inr (inr (inr (inr (inl refl))))))))))))
condition_there conds.Ge = inr (inr (inr (inr (inr (inr (inr (inr (inr (inr (inr (inr (inr (inl refl)))))))))))))
condition_there conds.Le = inr (inr (inr (inr (inr (inr (inr (inr (inr (inr (inr (inr (inr (inr (inl refl))))))))))))))
condition_there conds.G = inr (inr (inr (inr (inr (inr (inr (inr (inr (inr (inr (inr (inr (inr (inr (inl refl)))))))))))))))

-- ---- operands

slice_count : (slice : Slice) → count_of Width.L (bytes_named slice) ≡ width_bytes (slice_width slice)
slice_count Slice.Low8 = refl
slice_count Slice.High8 = refl
slice_count Slice.Low16 = refl
slice_count Slice.All = refl

bytes_there : (w : Width) (slice : Slice) (bytes : Bytes) → has_bytes w (slice_width slice) bytes ≡ true → HasBytes w slice bytes
bytes_there w slice Bytes.Whole e = slice_count slice ∙ eqb-true (width_bytes (slice_width slice)) (count_of w Bytes.Whole) e
bytes_there w slice Bytes.Byte0 e = subst (λ n. 0 + 1 ≤ n) (sym (slice_count slice)) (leb-true (0 + 1) (width_bytes (slice_width slice)) e)
bytes_there w slice Bytes.Byte1 e = subst (λ n. 1 + 1 ≤ n) (sym (slice_count slice)) (leb-true (1 + 1) (width_bytes (slice_width slice)) e)
bytes_there w slice Bytes.Byte2 e = subst (λ n. 2 + 1 ≤ n) (sym (slice_count slice)) (leb-true (2 + 1) (width_bytes (slice_width slice)) e)
bytes_there w slice Bytes.Byte3 e = subst (λ n. 3 + 1 ≤ n) (sym (slice_count slice)) (leb-true (3 + 1) (width_bytes (slice_width slice)) e)
bytes_there w slice Bytes.Low16 e = subst (λ n. 0 + 2 ≤ n) (sym (slice_count slice)) (leb-true (0 + 2) (width_bytes (slice_width slice)) e)
bytes_there w slice Bytes.High16 e = subst (λ n. 2 + 2 ≤ n) (sym (slice_count slice)) (leb-true (2 + 2) (width_bytes (slice_width slice)) e)
bytes_there w slice Bytes.Upper24 e = subst (λ n. 1 + 3 ≤ n) (sym (slice_count slice)) (leb-true (1 + 3) (width_bytes (slice_width slice)) e)
bytes_there w slice Bytes.All e = subst (λ n. 0 + 4 ≤ n) (sym (slice_count slice)) (leb-true (0 + 4) (width_bytes (slice_width slice)) e)

module _ (count : ℕ) where
  arg_there : (w : Width) (bytes : Bytes) (o : LineOperand) → class_has w bytes (class_of o) ≡ true → HasArg w bytes (Some (arg_of count o))
  arg_there w bytes (LineOperand.Register place slice is_count) e = bytes_there w slice bytes e
  arg_there w bytes (LineOperand.Immediate (Disp.Number n)) e = eqb-true (first_of bytes) 0 e
  arg_there w bytes (LineOperand.Immediate (Disp.Hole k)) e = eqb-true (first_of bytes) 0 e
  arg_there w bytes (LineOperand.Memory k form) e = tt
  arg_there w bytes (LineOperand.Address d base index) e = tt
  arg_there w bytes (LineOperand.Label goal) e = tt

  -- operands stand in the places of a row of the table
  module _ (w : Width) where
    place_there : (bytes : Bytes) (k : ℕ) (slots : List (Option Slot)) (os : List LineOperand) → all_stand w slots (map class_of os) ≡ true → place_has w bytes (slice_get slots k) ≡ true
        → HasArg w bytes (slice_get (map (arg_of count) os) k)
    place_there bytes k [] [] stand has = by k
      where
        by : (k : ℕ) → HasArg w bytes (slice_get (map (arg_of count) []) k)
        by k = tt
    place_there bytes k [] (o ∷ os) stand has = cc
    place_there bytes k (None ∷ slots) [] stand has = tt
    place_there bytes k (None ∷ slots) (o ∷ os) stand has = cc
    place_there bytes k (Some slot ∷ slots) [] stand has = cc
    place_there bytes zero (Some slot ∷ slots) (o ∷ os) stand has =
        let allowed = (and_parts (slot_allows w slot (class_of o)) (all_stand w slots (map class_of os)) stand).0 in
        let each = all_at (λ c. not (slot_allows w slot c) || class_has w bytes c) (class_of o) classes has (class_there (class_of o)) in
        arg_there w bytes o (implied (slot_allows w slot (class_of o)) (class_has w bytes (class_of o)) each allowed)
    place_there bytes (suc k) (Some slot ∷ slots) (o ∷ os) stand has =
        place_there bytes k slots os (and_parts (slot_allows w slot (class_of o)) (all_stand w slots (map class_of os)) stand).1 has

    counted : (slots : List (Option Slot)) (os : List LineOperand) → all_stand w slots (map class_of os) ≡ true → length os ≡ operand_count slots
    counted [] [] stand = refl
    counted [] (o ∷ os) stand = cc
    counted (None ∷ slots) [] stand = refl
    counted (None ∷ slots) (o ∷ os) stand = cc
    counted (Some slot ∷ slots) [] stand = cc
    counted (Some slot ∷ slots) (o ∷ os) stand =
        let rest = counted slots os (and_parts (slot_allows w slot (class_of o)) (all_stand w slots (map class_of os)) stand).1 in
        omega (arith, rest)

-- ---- rows of micro-operations

module _ (s : Sym) (slots : List (Option Slot)) (each : (bytes : Bytes) (k : ℕ) → place_has s.width bytes (slice_get slots k) ≡ true → HasArg s.width bytes (slice_get s.args k)) where
  site_there : (site : Site) → site_has s.width slots site ≡ true → HasSite s site
  site_there (Site.Argument k bytes) e = each bytes k e
  site_there (Site.Register r bytes) e = tt
  site_there (Site.Pointed r) e = tt
  site_there (Site.Flag f) e = tt

  target_there : (target : Target) → target_has s.width slots target ≡ true → HasTarget s target
  target_there (Target.Site site) e = site_there site e
  target_there target e = tt

  input_there : (f : Function) (x : Input) (count : ℕ) → input_has s.width slots f x count ≡ true → HasInput s f x count
  input_there Function.Copy (Input.Read site) count e =
      let both = and_parts (site_has s.width slots site) (nat_le count (byte_count s.width site)) e in
      (site_there site both.0, leb-true count (byte_count s.width site) both.1)
  input_there Function.Copy Input.Top count e = leb-true count 4 e
  input_there Function.Set (Input.Number n) count e = leb-true n 1 e
  input_there f x count e = tt

  operands_there : (row : List MicroOp) → list_all (op_has s.width slots) row ≡ true → HasOperands s row
  operands_there [] e = tt
  operands_there (op ∷ ops) e =
      let both = and_parts (op_has s.width slots op) (list_all (op_has s.width slots) ops) e in
      let here = and_parts (target_has s.width slots op.target) (input_has s.width slots op.function op.x (target_count s.width op.target)) both.0 in
      (target_there op.target here.0, (input_there op.function op.x (target_count s.width op.target) here.1, operands_there ops both.1))

-- ---- what is chosen

-- an instruction of a line of the table of names, whose operands may stand there
pub record IsChosen (cs : List Class) (c : Choice) : Type 0 where
  pub there : IsMember c.row names
  pub operation : IsMember c.op (operations_of c.row.operation)
  pub width : may_be c.row c.width ≡ true
  pub stand : all_stand c.width c.row.slots cs ≡ true

operation_there : (operation : Operation) (rest : List ℕ) (op : Op) → with_condition operation rest ≡ Some op → IsMember op (operations_of operation)
operation_there (Operation.Of x) rest op e = by (length rest == 0) e
  where
    by : (b : Bool) → (if b then Some x else None) ≡ Some op → IsMember op (x ∷ [])
    by true e = let same : x ≡ op = cc in inl (sym same)
    by false e = cc
operation_there Operation.Cmov rest op e = by (cond_named rest) e
  where
    by : (c : Option Cond) → option_map Op.Cmov c ≡ Some op → IsMember op (map Op.Cmov conditions)
    by None e = cc
    by (Some c) e = let same : Op.Cmov c ≡ op = cc in subst (λ x. IsMember x (map Op.Cmov conditions)) same (mapped_member Op.Cmov c conditions (condition_there c))
operation_there Operation.Set rest op e = by (cond_named rest) e
  where
    by : (c : Option Cond) → option_map Op.Set c ≡ Some op → IsMember op (map Op.Set conditions)
    by None e = cc
    by (Some c) e = let same : Op.Set c ≡ op = cc in subst (λ x. IsMember x (map Op.Set conditions)) same (mapped_member Op.Set c conditions (condition_there c))
operation_there Operation.Jump rest op e = by (cond_named rest) e
  where
    by : (c : Option Cond) → option_map Op.J c ≡ Some op → IsMember op (map Op.J conditions)
    by None e = cc
    by (Some c) e = let same : Op.J c ≡ op = cc in subst (λ x. IsMember x (map Op.J conditions)) same (mapped_member Op.J c conditions (condition_there c))

named_there : (b : Bool) (r : NameRow) (rest : List ℕ) (op : Op) → (if b then with_condition r.operation rest else None) ≡ Some op → IsMember op (operations_of r.operation)
named_there true r rest op e = operation_there r.operation rest op e
named_there false r rest op e = cc

suffix_there : (r : NameRow) (suffix : Option Width) (w : Width) → if_suffix r.suffixes suffix ≡ Some w → may_be r w ≡ true
suffix_there r None w e = cc
suffix_there r (Some v) w e = by (has_suffix r.suffixes v) refl e
  where
    by : (b : Bool) → has_suffix r.suffixes v ≡ b → (if b then Some v else None) ≡ Some w → may_be r w ≡ true
    by true h e = let same : v ≡ w = cc in either_true (has_suffix r.suffixes w) _ (inl (subst (λ x. has_suffix r.suffixes x ≡ true) same h))
    by false h e = cc

same_itself : (w : Width) → same_width w w ≡ true
same_itself Width.B = refl
same_itself Width.W = refl
same_itself Width.L = refl
same_itself Width.Q = refl

abbrev is_own_width : Option Width → Width → Bool
is_own_width own w = elim own [ None ↦ false | Some v ↦ same_width v w ]

own_there : (own : Option Width) (r : NameRow) (cs : List Class) (w : Width) → r.width ≡ own → first_of_two own (if_suffix r.suffixes (register_width r.slots cs)) ≡ Some w → may_be r w ≡ true
own_there None r cs w o e = suffix_there r (register_width r.slots cs) w e
own_there (Some v) r cs w o e =
    let same : v ≡ w = cc in
    either_true (has_suffix r.suffixes w) (is_own_width r.width w) (inr (ap (λ own. is_own_width own w) o ∙ subst (λ x. same_width v x ≡ true) same (same_itself v)))

width_may : (r : NameRow) (suffix : Option Width) (cs : List Class) (w : Width) → size_in r suffix cs ≡ Some w → may_be r w ≡ true
width_may r (Some v) cs w e = suffix_there r (Some v) w e
width_may r None cs w e = own_there r.width r cs w refl e

choice_there : (r : NameRow) (cs : List Class) (op : Option Op) (w : Option Width) (c : Choice) → IsMember r names → ((x : Op) → op ≡ Some x → IsMember x (operations_of r.operation))
    → ((x : Width) → w ≡ Some x → may_be r x ≡ true) → choice r op w cs ≡ Some c → IsChosen cs c
choice_there r cs None w c member ops size e = cc
choice_there r cs (Some op) None c member ops size e = cc
choice_there r cs (Some op) (Some w) c member ops size e = by (all_stand w r.slots cs) (nat_le (count_memory) 1) refl e
  where
    count_memory : ℕ
    count_memory = count_by is_memory cs

    made : Choice
    made = record { row = r; op = op; width = w }

    by : (b few : Bool) → all_stand w r.slots cs ≡ b → (if b && few then Some made else None) ≡ Some c → IsChosen cs c
    by false few h e = cc
    by true false h e = cc
    by true true h e = let same : made ≡ c = cc in subst (IsChosen cs) same (record { there = member; operation = ops op refl; width = size w refl; stand = h })

module _ (name : List ℕ) (suffix : Option Width) (cs : List Class) where
  row_there : (r : NameRow) (c : Choice) → IsMember r names → choice_in name suffix cs r ≡ Some c → IsChosen cs c
  row_there r c member e =
      choice_there r cs (op_in r name) (size_in r suffix cs) c member (λ x h. named_there _ r _ x h) (λ x h. width_may r suffix cs x h) e

  first_there : (rows : List NameRow) (c : Choice) → ((r : NameRow) → IsMember r rows → IsMember r names) → first_choice name suffix cs rows ≡ Some c → IsChosen cs c
  first_there [] c within e = cc
  first_there (r ∷ rows) c within e = by (choice_in name suffix cs r) refl e (λ h. first_there rows c (λ q member. within q (inr member)) h)
    where
      by : (o : Option Choice) → choice_in name suffix cs r ≡ o → first_of_two o (first_choice name suffix cs rows) ≡ Some c → (first_choice name suffix cs rows ≡ Some c → IsChosen cs c) → IsChosen cs c
      by None h e rest = rest e
      by (Some x) h e rest = row_there r c (within r (inl refl)) (h ∙ e)

chosen_there : (name : List ℕ) (cs : List Class) (c : Choice) → choice_of names name cs ≡ Some c → IsChosen cs c
unfolding choice_of
chosen_there name cs c e = by (first_choice name None cs names) refl e
  where
    suffixed : (w : Option Width) (short : List ℕ) → suffixed_choice names short cs w ≡ Some c → IsChosen cs c
    suffixed None short e = cc
    suffixed (Some w) short e = first_there short (Some w) cs names c (λ r member. member) e

    by : (o : Option Choice) → first_choice name None cs names ≡ o → first_of_two o (suffixed_choice names (take (length name - 1) name) cs (suffix_width (slice_index name (length name - 1)))) ≡ Some c → IsChosen cs c
    by None h e = suffixed (suffix_width (slice_index name (length name - 1))) (take (length name - 1) name) e
    by (Some x) h e = first_there name None cs names c (λ r member. member) (h ∙ e)

-- ---- prefixes

behind_rep : (o : Option Repeat) (x : Repeat) (xs : List Repeat) → IsMember x xs → IsMember x ((elim o [ None ↦ [] | Some repeat ↦ repeat ∷ [] ]) ++ xs)
behind_rep None x xs member = member
behind_rep (Some first) x xs member = inr member

compared_there : (r : NameRow) (p : Prefixed) (x : Repeat) → IsMember x (Repeat.Repe ∷ Repeat.Repne ∷ []) → (b : Bool) → r.compares ≡ b → (if b then prefixed x false else None) ≡ Some p → IsMember p.repeat (repeats_of r)
compared_there r p x member false h e = cc
compared_there r p x member true h e =
    let same : record { repeat = x; lock = false } ≡ p = cc in
    subst (λ y. IsMember y (repeats_of r)) (ap (λ (q : Prefixed). q.repeat) same)
    (inr (behind_rep r.rep x _ (subst (λ b. IsMember x (if b then Repeat.Repe ∷ Repeat.Repne ∷ [] else [])) (sym h) member)))

repeat_there : (r : NameRow) (cs : List Class) (before : List Prefix) (p : Prefixed) → prefixes_fit r cs before ≡ Some p → IsMember p.repeat (repeats_of r)
repeat_there r cs [] p e = let same : record { repeat = Repeat.No; lock = false } ≡ p = cc in inl (sym (ap (λ (q : Prefixed). q.repeat) same))
repeat_there r cs (x ∷ y ∷ ys) p e = cc
repeat_there r cs (Prefix.Lock ∷ []) p e = by (lock_fits r.lock cs) e
  where
    by : (b : Bool) → (if b then prefixed Repeat.No true else None) ≡ Some p → IsMember p.repeat (repeats_of r)
    by true e = let same : record { repeat = Repeat.No; lock = true } ≡ p = cc in inl (sym (ap (λ (q : Prefixed). q.repeat) same))
    by false e = cc
repeat_there r cs (Prefix.Rep ∷ []) p e = by r.rep refl e
  where
    by : (o : Option Repeat) → r.rep ≡ o → option_and_then (λ repeat. prefixed repeat false) o ≡ Some p → IsMember p.repeat (repeats_of r)
    by None h e = cc
    by (Some repeat) h e =
        let same : record { repeat = repeat; lock = false } ≡ p = cc in
        inr (subst (λ o. IsMember p.repeat ((elim o [ None ↦ [] | Some repeat ↦ repeat ∷ [] ]) ++ (if r.compares then Repeat.Repe ∷ Repeat.Repne ∷ [] else []))) (sym h) (inl (sym (ap (λ (q : Prefixed). q.repeat) same))))
repeat_there r cs (Prefix.Repe ∷ []) p e = compared_there r p Repeat.Repe (inl refl) r.compares refl e
repeat_there r cs (Prefix.Repne ∷ []) p e = compared_there r p Repeat.Repne (inr (inl refl)) r.compares refl e

-- ---- lines

none_left : (os : List LineOperand) (count : ℕ) → length os ≡ 0 → map (arg_of count) os ≡ []
none_left [] count e = refl
none_left (o ∷ os) count e = cc

plain_there : (count : ℕ) (l : Line) (n : ℕ) → length l.operands ≡ n → is_plain l.repeat n ≡ true → IsPlain (sym_of count l)
plain_there count l n counted e = by l.repeat refl e
  where
    by : (repeat : Repeat) → l.repeat ≡ repeat → is_plain repeat n ≡ true → IsPlain (sym_of count l)
    by Repeat.No h e = inl h
    by Repeat.Rep h e = inr (none_left l.operands count (counted ∙ eqb-true n 0 e))
    by Repeat.Repe h e = inr (none_left l.operands count (counted ∙ eqb-true n 0 e))
    by Repeat.Repne h e = inr (none_left l.operands count (counted ∙ eqb-true n 0 e))

-- A line as the table of names has it: its operation, its size, its operands and its prefix are ones of a row.
pub record IsOfRow (l : Line) : Type 0 where
  pub choice : Choice
  pub chosen : IsChosen (map class_of l.operands) choice
  pub op : l.op ≡ choice.op
  pub width : l.width ≡ choice.width
  pub repeat : IsMember l.repeat (repeats_of choice.row)

-- A line of the table's names has the operands of its row, and is plain.
pub record FitsTable (s : Sym) : Type 0 where
  pub operands : HasOperands s (line_row s)
  pub plain : IsPlain s

-- how many operands it has
pub operands_counted : (l : Line) (c : Choice) → IsChosen (map class_of l.operands) c → length l.operands ≡ operand_count c.row.slots
operands_counted l c chosen = counted (length l.operands) c.width c.row.slots l.operands chosen.stand

pub line_fits : (count : ℕ) (l : Line) → IsOfRow l → FitsTable (sym_of count l)
line_fits count l of_row = record { operands = subst (HasOperands (sym_of count l)) is_row has; plain = plain_there count l (operand_count c.row.slots) number both.0 }
  where
    c : Choice
    c = of_row.choice

    stand : all_stand l.width c.row.slots (map class_of l.operands) ≡ true
    stand = subst (λ w. all_stand w c.row.slots (map class_of l.operands) ≡ true) (sym of_row.width) of_row.chosen.stand

    row : row_has c.row ≡ true
    row = all_at row_has c.row names names_have of_row.chosen.there

    sized : list_all (λ x. list_all (repeat_has c.row l.width x) (repeats_of c.row)) (operations_of c.row.operation) ≡ true
    sized = implied (may_be c.row l.width) _ (all_at (width_has c.row) l.width widths row (width_there l.width)) (subst (λ w. may_be c.row w ≡ true) (sym of_row.width) of_row.chosen.width)

    made : List MicroOp
    made = repeated l.repeat (row_of l.op l.width (operand_count c.row.slots))

    both : (is_plain l.repeat (operand_count c.row.slots) ≡ true) × (list_all (op_has l.width c.row.slots) (repeated l.repeat (row_of l.op l.width (operand_count c.row.slots))) ≡ true)
    both =
        and_parts _ _
        (all_at (repeat_has c.row l.width l.op) l.repeat (repeats_of c.row)
        (all_at (λ x. list_all (repeat_has c.row l.width x) (repeats_of c.row)) l.op (operations_of c.row.operation) sized (subst (λ x. IsMember x (operations_of c.row.operation)) (sym of_row.op) of_row.chosen.operation)) of_row.repeat)

    number : length l.operands ≡ operand_count c.row.slots
    number = operands_counted l c of_row.chosen

    is_row : repeated l.repeat (row_of l.op l.width (operand_count c.row.slots)) ≡ line_row (sym_of count l)
    is_row = ap (λ n. repeated l.repeat (row_of l.op l.width n)) (sym number ∙ sym (length-map l.operands (arg_of count)))

    has : HasOperands (sym_of count l) (repeated l.repeat (row_of l.op l.width (operand_count c.row.slots)))
    has =
        operands_there (sym_of count l) c.row.slots (λ bytes k e. place_there count l.width bytes k c.row.slots l.operands stand e)
        (repeated l.repeat (row_of l.op l.width (operand_count c.row.slots))) both.1

read_with : (c : Choice) (os : List LineOperand) (place : ℕ) (before : List Prefix) (p : Option Prefixed) (l : Line) → IsChosen (map class_of os) c → prefixes_fit c.row (map class_of os) before ≡ p
    → line_with c os place p ≡ Reading.Read l → IsOfRow l
read_with c os place before None l chosen h e = cc
read_with c os place before (Some p) l chosen h e = by c.row.left_out e
  where
    made : Line
    made = record { op = c.op; width = c.width; operands = os; repeat = p.repeat; lock = p.lock; place = place }

    by : (b : Bool) → (if b then Reading.LeftOut else Reading.Read made) ≡ Reading.Read l → IsOfRow l
    by true e = cc
    by false e =
        let same : made ≡ l = cc in
        subst IsOfRow same (record { choice = c; chosen = chosen; op = refl; width = refl; repeat = repeat_there c.row (map class_of os) before p h })

read_chosen : (os : List LineOperand) (place : ℕ) (before : List Prefix) (name : List ℕ) (c : Option Choice) (l : Line) → choice_of names name (map class_of os) ≡ c
    → line_chosen before os place c ≡ Reading.Read l → IsOfRow l
read_chosen os place before name None l h e = cc
read_chosen os place before name (Some c) l h e = read_with c os place before (prefixes_fit c.row (map class_of os) before) l (chosen_there name (map class_of os) c h) refl e

read_operands : (before : List Prefix) (name : List ℕ) (place : ℕ) (os : Option (List LineOperand)) (l : Line) → line_of_operands names before name place os ≡ Reading.Read l → IsOfRow l
read_operands before name place None l e = cc
read_operands before name place (Some os) l e = read_chosen os place before name (choice_of names name (map class_of os)) l refl e

read_if : (before : List Prefix) (name : List ℕ) (place : ℕ) (os : Option (List LineOperand)) (b : Bool) (l : Line) → (if b then line_of_operands names before name place os else Reading.Unread) ≡ Reading.Read l → IsOfRow l
read_if before name place os true l e = read_operands before name place os l e
read_if before name place os false l e = cc

-- Each instruction that is read is of a row of the table.
pub read_of_row : (goal : List ℕ → Option (Option ℕ)) (before : List Prefix) (place : ℕ) (xs : List Atom) (l : Line) → line_of names goal before place xs ≡ Reading.Read l → IsOfRow l
unfolding line_of line_at
read_of_row goal before place xs l e =
    let n = name_len (map atom_code xs) in
    read_if before (take n (map atom_code xs)) place (all_some (operands_of goal (trimmed (drop n xs))))
    ((length xs == n) || is_blank (slice_index (map atom_code xs) n)) l e
