-- What an operand prints is read as the same bytes of a template would be, but for two things that only the operand tells: whether
-- `%cl` may be a count, and the number of a memory operand. (As a base `%esp` is read where an operand prints it alone.)
use Rattle.std.proofs.Common.{◌≡◌, ◌⊎◌, inl, inr, ℕ, zero, suc, ◌+◌, ◌-◌, ◌==◌, ◌&&◌, ◌≤◌, ◌<◌, nat_le, nat_lt, max, ℤ, pos, negsuc, List, [], ◌∷◌, length, map, take, Bool, true, false, Option, None, Some, refl, sym, ◌∙◌, slice_index, decimal, arith}
use Rattle.std.proofs.lemmas.Bool.{ltb-false, le-ltb, ne_eqb}
use Rattle.std.proofs.lemmas.Bool.Decides.{nat_tests}
use Rattle.std.proofs.lemmas.List.{length-map}
use Rattle.std.proofs.lemmas.Int.{ints}
use Rattle.std.proofs.lemmas.Fmt.{decimal_is_IsNumeral}
use Rattle.std.proofs.lemmas.Str.Parse.{digit_from_value}
use Rattle.std.specs.Int.{IsInRange}
use Rattle.std.specs.Str.Parse.{AllDigits}
use Rattle.std.specs.Fmt.{signed_decimal}
use Rattle.std.specs.Option.{option_map, option_and_then}
use Rattle.std.specs.List.{list_all}
use Rattle.asm_core.specs.Reading.Written.{register_named, number_of}
use Rattle.asm_core.specs.Reading.Operands.{atom_code, hole_of, disp_in, before, address_at, address_of, written_operand, operand_of}
use Rattle.asm_core.specs.Reading.Text.{atom_with, read_register, read_number, inst_arg_of}
use Rattle.asm_core.specs.Reading.Line.{Defined, is_reference, goal_of}
use Rattle.asm_core.specs.Reading.Placed.{IsWordNumber}
use Rattle.asm_core.specs.Expansion.{name_of}
use Rattle.asm_core.proofs.ReadingLaws.ReadBack.{register_back, number_back, signed_first, lacks, lacks_case, signed_lacks}
use Rattle.asm_core.specs.declared.reg.Reg.{Reg}
use Rattle.asm_core.specs.declared.reg.Reg.TheVariants.{Eax, Ebx, Ecx, Edx, Esi, Edi, Ebp}
use Rattle.asm_core.specs.declared.reg.Slice.{Slice}
use Rattle.asm_core.specs.declared.reg.Slice.TheVariants.{Low8, High8, Low16, All}
use Rattle.asm_core.specs.declared.sym.Disp.{Disp}
use Rattle.asm_core.specs.declared.piece.Modifier.{Modifier}
use Rattle.asm_core.specs.declared.piece.Piece.{Piece}
use Rattle.asm_core.specs.declared.inst.InstArg.{InstArg}
use Rattle.asm_core.specs.declared.reading.OperandFacts.{OperandFacts}
use Rattle.asm_core.specs.declared.reading.Leaf.{Leaf}
use Rattle.asm_core.specs.declared.reading.Atom.{Atom}
use Rattle.asm_core.specs.declared.reading.LineOperand.{LineOperand}

-- the bytes as a template has them
abbrev pub written : List ℕ → List Atom
written text = map (λ b. atom_with (Piece.Byte b 0) Leaf.Nothing) text

-- what an operand gave, as one element
abbrev pub given : ℕ → Leaf → List Atom
given k leaf = atom_with (Piece.Hole k Modifier.Plain 0) leaf ∷ []

-- an operand of an instruction, the number of a memory operand aside
abbrev pub unowned : InstArg → InstArg
unowned (InstArg.Register r slice) = InstArg.Register r slice
unowned (InstArg.Number n) = InstArg.Number n
unowned (InstArg.Address form k) = InstArg.Address form None
unowned (InstArg.Label n) = InstArg.Label n

abbrev pub arg_said : ℕ → LineOperand → Option InstArg
arg_said count o = option_map unowned (inst_arg_of count o)

-- the operand that elements are read as
abbrev pub said : (List ℕ → Option (Option ℕ)) → ℕ → List Atom → Option InstArg
said goal count xs = option_and_then (arg_said count) (operand_of goal xs)

-- no byte has a code that means something else
abbrev pub wide : List ℕ → Bool
wide text = list_all (λ c. nat_le 2 c) text

pub both_true : (a b : Bool) → (a && b) ≡ true → b ≡ true
both_true true b h = h
both_true false b h = cc

pub first_true : (a b : Bool) → (a && b) ≡ true → a ≡ true
first_true true b h = refl
first_true false b h = cc

wide_code : (c : ℕ) → nat_le 2 c ≡ true → max c 2 ≡ c
wide_code c h = let low : 2 ≤ c = grind (arith, nat_tests) in omega arith

pub codes_written : (text : List ℕ) → wide text ≡ true → map atom_code (written text) ≡ text
codes_written [] h = refl
codes_written (c ∷ cs) h = rw (wide_code c (first_true (nat_le 2 c) (wide cs) h), codes_written cs (both_true (nat_le 2 c) (wide cs) h)) refl

pub no_hole_written : (text : List ℕ) → hole_of (written text) ≡ Leaf.Nothing
no_hole_written [] = refl
no_hole_written (c ∷ []) = refl
no_hole_written (c ∷ d ∷ cs) = refl

pub operand_written : (goal : List ℕ → Option (Option ℕ)) (text : List ℕ) → operand_of goal (written text) ≡ written_operand goal (written text)
unfolding operand_of
operand_written goal text = rw (no_hole_written text) refl

pub disp_written : (text : List ℕ) (z : ℤ) → wide text ≡ true → number_of text ≡ Some z → disp_in (written text) ≡ Some (Disp.Number z)
unfolding disp_in
disp_written text z h e = rw (no_hole_written text, codes_written text h, e) refl

-- ---- registers

abbrev pub wide_or : Option (List ℕ) → Bool
wide_or None = true
wide_or (Some text) = wide text

pub wide_names : (r : Reg) (s : Slice) → wide_or (name_of r s) ≡ true
wide_names Eax All = refl
wide_names Eax Low16 = refl
wide_names Eax Low8 = refl
wide_names Eax High8 = refl
wide_names Ebx All = refl
wide_names Ebx Low16 = refl
wide_names Ebx Low8 = refl
wide_names Ebx High8 = refl
wide_names Ecx All = refl
wide_names Ecx Low16 = refl
wide_names Ecx Low8 = refl
wide_names Ecx High8 = refl
wide_names Edx All = refl
wide_names Edx Low16 = refl
wide_names Edx Low8 = refl
wide_names Edx High8 = refl
wide_names Esi All = refl
wide_names Esi Low16 = refl
wide_names Esi Low8 = refl
wide_names Esi High8 = refl
wide_names Edi All = refl
wide_names Edi Low16 = refl
wide_names Edi Low8 = refl
wide_names Edi High8 = refl
wide_names Ebp All = refl
wide_names Ebp Low16 = refl
wide_names Ebp Low8 = refl
wide_names Ebp High8 = refl

register_written : (goal : List ℕ → Option (Option ℕ)) (count : ℕ) (r : Reg) (s : Slice) (name : List ℕ) → name_of r s ≡ Some name → said goal count (written (37 ∷ name)) ≡ Some (InstArg.Register r s)
unfolding written_operand
register_written goal count r s name e =
    let h : wide name ≡ true = rw e at (wide_names r s) in
    rw (operand_written goal (37 ∷ name), codes_written name h, register_back r s name e) refl

register_given : (goal : List ℕ → Option (Option ℕ)) (count k : ℕ) (fact : OperandFacts) (r : Reg) (s : Slice) (name : List ℕ) → name_of r s ≡ Some name
    → said goal count (given k (read_register fact (register_named name))) ≡ Some (InstArg.Register r s)
unfolding operand_of
register_given goal count k fact r s name e = rw (register_back r s name e) refl

-- a register that an operand prints is read as if it were written
pub register_as_written : (goal : List ℕ → Option (Option ℕ)) (count k : ℕ) (fact : OperandFacts) (r : Reg) (s : Slice) (name : List ℕ) → name_of r s ≡ Some name
    → said goal count (given k (read_register fact (register_named name))) ≡ said goal count (written (37 ∷ name))
register_as_written goal count k fact r s name e = register_given goal count k fact r s name e ∙ sym (register_written goal count r s name e)

-- ---- numbers

pub wide_lacks : (text : List ℕ) → lacks 0 text ≡ true → lacks 1 text ≡ true → wide text ≡ true
wide_lacks [] h k = refl
wide_lacks (c ∷ cs) h k =
    let none = lacks_case (c == 0) (lacks 0 cs) h in
    let one = lacks_case (c == 1) (lacks 1 cs) k in
    let low : nat_le 2 c ≡ true = high_code c none.0 one.0 in
    rw (low, wide_lacks cs none.1 one.1) refl
  where
    high_code : (c : ℕ) → (c == 0) ≡ false → (c == 1) ≡ false → nat_le 2 c ≡ true
    high_code c h k = grind (arith, nat_tests)

pub wide_number : (z : ℤ) → IsWordNumber z → wide (signed_decimal z) ≡ true
wide_number z word = wide_lacks (signed_decimal z) (signed_lacks 0 z (omega arith) word) (signed_lacks 1 z (omega arith) word)

immediate_written : (goal : List ℕ → Option (Option ℕ)) (count : ℕ) (z : ℤ) → IsWordNumber z → said goal count (written (36 ∷ signed_decimal z)) ≡ Some (InstArg.Number z)
unfolding written_operand
immediate_written goal count z word =
    rw (operand_written goal (36 ∷ signed_decimal z), disp_written (signed_decimal z) z (wide_number z word) (number_back z word)) refl

immediate_given : (goal : List ℕ → Option (Option ℕ)) (count k : ℕ) (fact : OperandFacts) (z : ℤ) → IsWordNumber z → said goal count (given k (read_number fact (36 ∷ signed_decimal z))) ≡ Some (InstArg.Number z)
unfolding operand_of
immediate_given goal count k fact z word = rw (number_back z word) refl

-- a number with `$` is read as if it were written
pub immediate_as_written : (goal : List ℕ → Option (Option ℕ)) (count k : ℕ) (fact : OperandFacts) (z : ℤ) → IsWordNumber z
    → said goal count (given k (read_number fact (36 ∷ signed_decimal z))) ≡ said goal count (written (36 ∷ signed_decimal z))
immediate_as_written goal count k fact z word = immediate_given goal count k fact z word ∙ sym (immediate_written goal count z word)

pub first_lacks : (c : ℕ) (text : List ℕ) → (0 == c) ≡ false → lacks c text ≡ true → (slice_index text 0 == c) ≡ false
first_lacks c [] other h = other
first_lacks c (x ∷ xs) other h = (lacks_case (x == c) (lacks c xs) h).0

pub all_before : (c : ℕ) (text : List ℕ) → lacks c text ≡ true → nat_lt (before c text) (length text) ≡ false
all_before c [] h = refl
all_before c (x ∷ xs) h =
    let parts = lacks_case (x == c) (lacks c xs) h in
    let rest = ltb-false (before c xs) (length xs) (all_before c xs parts.1) in
    rw (parts.0) (le-ltb (1 + before c xs) (suc (length xs)) (omega arith))

pub absolute_written : (z : ℤ) → IsWordNumber z → address_of (written (signed_decimal z)) ≡ Some (LineOperand.Address (Disp.Number z) None None)
unfolding address_of address_at
absolute_written z word =
    let text = signed_decimal z in
    rw (codes_written text (wide_number z word), length-map, all_before 40 text (signed_lacks 40 z (omega arith) word), disp_written text z (wide_number z word) (number_back z word)) refl

bare_written : (goal : List ℕ → Option (Option ℕ)) (count : ℕ) (z : ℤ) → IsWordNumber z → goal (signed_decimal z) ≡ None
    → said goal count (written (signed_decimal z)) ≡ Some (InstArg.Address (record { disp = z; base = None; index = None }) None)
unfolding written_operand
bare_written goal count z word none =
    let text = signed_decimal z in
    rw (
      operand_written goal text,
      codes_written text (wide_number z word),
      first_lacks 36 text refl (signed_lacks 36 z (omega arith) word),
      first_lacks 37 text refl (signed_lacks 37 z (omega arith) word),
      none,
      absolute_written z word,
    ) refl

bare_given : (goal : List ℕ → Option (Option ℕ)) (count k : ℕ) (fact : OperandFacts) (z : ℤ) → IsWordNumber z
    → said goal count (given k (read_number fact (signed_decimal z))) ≡ Some (InstArg.Address (record { disp = z; base = None; index = None }) None)
unfolding operand_of
bare_given goal count k fact z word = rw (signed_first z word, number_back z word) refl

-- a number without `$` is read as if it were written, where it is no label
pub bare_as_written : (goal : List ℕ → Option (Option ℕ)) (count k : ℕ) (fact : OperandFacts) (z : ℤ) → IsWordNumber z → goal (signed_decimal z) ≡ None
    → said goal count (given k (read_number fact (signed_decimal z))) ≡ said goal count (written (signed_decimal z))
bare_as_written goal count k fact z word none = bare_given goal count k fact z word ∙ sym (bare_written goal count z word none)

-- ---- what no label is

digits_pass : (c : ℕ) → ((d : ℕ) → IsInRange 48 57 d → (d == c) ≡ false) → (ds : List ℕ) → AllDigits 10 ds → lacks c ds ≡ true
digits_pass c other [] h = refl
digits_pass c other (d ∷ ds) h = rw (other d (digit_from_value d h.0), digits_pass c other ds h.1) refl

-- a number has digits and `-` alone
pub signed_pass : (c : ℕ) → (45 == c) ≡ false → ((d : ℕ) → IsInRange 48 57 d → (d == c) ≡ false) → (z : ℤ) → IsWordNumber z → lacks c (signed_decimal z) ≡ true
signed_pass c dash other (pos n) word =
    let high : n ≤ 4294967295 = omega (arith, ints, word.high) in
    let h = decimal_is_IsNumeral n (omega arith) in
    digits_pass c other (decimal n) h.0.1
signed_pass c dash other (negsuc n) word =
    let high : suc n ≤ 2147483648 = omega (arith, ints, word.low) in
    let h = decimal_is_IsNumeral (suc n) (omega arith) in
    rw (dash, digits_pass c other (decimal (suc n)) h.0.1) refl

pub at_lacks : (c n : ℕ) (text : List ℕ) → (0 == c) ≡ false → lacks c text ≡ true → (slice_index text n == c) ≡ false
at_lacks c n [] other h = other
at_lacks c zero (x ∷ xs) other h = (lacks_case (x == c) (lacks c xs) h).0
at_lacks c (suc n) (x ∷ xs) other h = at_lacks c n xs other (lacks_case (x == c) (lacks c xs) h).1

pub digit_apart : (c : ℕ) → (c < 48) ⊎ (57 < c) → (d : ℕ) → IsInRange 48 57 d → (d == c) ≡ false
digit_apart c (inl low) d range = ne_eqb d c (λ e. absurd (omega (arith, e, range)))
digit_apart c (inr high) d range = ne_eqb d c (λ e. absurd (omega (arith, e, range)))

no_reference : (b : Bool) → (b && false) ≡ false
no_reference true = refl
no_reference false = refl

-- a text without `b`, `f` and `.` names no label
pub no_label_text : (labels : List Defined) (inst : ℕ) (text : List ℕ) → lacks 98 text ≡ true → lacks 102 text ≡ true → lacks 46 text ≡ true → goal_of labels inst text ≡ None
unfolding goal_of
no_label_text labels inst text b f dot =
    let n = length text - 1 in
    rw (at_lacks 98 n text refl b, at_lacks 102 n text refl f, no_reference (is_reference (take n text)), at_lacks 46 0 text refl dot) refl

-- a number is no label
pub number_no_label : (labels : List Defined) (inst : ℕ) (z : ℤ) → IsWordNumber z → goal_of labels inst (signed_decimal z) ≡ None
number_no_label labels inst z word =
    no_label_text labels inst (signed_decimal z) (signed_pass 98 refl (digit_apart 98 (inr (omega arith))) z word) (signed_pass 102 refl (digit_apart 102 (inr (omega arith))) z word)
    (signed_pass 46 refl (digit_apart 46 (inl (omega arith))) z word)
