-- An address that an operand prints is read as the same bytes of a template would be.
use Rattle.std.proofs.Common.{◌≡◌, inl, inr, ℕ, zero, suc, ◌+◌, ◌-◌, ◌==◌, ◌&&◌, ◌<◌, nat_lt, ℤ, pos, negsuc, List, [], ◌∷◌, ◌++◌, length, map, take, drop, Bool, true, false, Option, None, Some, refl, ap, sym, ◌∙◌, slice_index, decimal, length-append, append_assoc, arith}
use Rattle.std.proofs.Math.Dec.{eqb-suc-zero}
use Rattle.std.proofs.lemmas.Bool.{lt-ltb}
use Rattle.std.proofs.lemmas.List.{length-map}
use Rattle.std.specs.Fmt.{signed_decimal}
use Rattle.std.specs.List.{prefix_len}
use Rattle.asm_core.specs.Reg.{reg_name}
use Rattle.asm_core.specs.Reading.Cut.{is_blank, begun}
use Rattle.asm_core.specs.Reading.Written.{magnitude_of, number_of}
use Rattle.asm_core.specs.Reading.Operands.{atom_code, content_len, ended, trimmed, place_in, scale_of, scale_in, before, base_in, index_in, between, enclosed, front_disp, address_at, address_of, written_operand, operand_of}
use Rattle.asm_core.specs.Placement.{IsForm}
use Rattle.asm_core.specs.Reading.Line.{Defined, is_reference, goal_of}
use Rattle.asm_core.specs.Reading.Placed.{IsWordNumber}
use Rattle.asm_core.specs.Expansion.{registers_text, disp_text, form_text}
use Rattle.asm_core.specs.Reading.Text.{base_arg, index_arg, form_read}
use Rattle.asm_core.proofs.ReadingLaws.AsWritten.{said, given, operand_written, first_lacks, absolute_written, signed_pass, digit_apart, number_no_label, written, wide, codes_written, no_hole_written, disp_written, wide_lacks, wide_number, first_true, both_true, all_before}
use Rattle.asm_core.proofs.ReadingLaws.ReadBack.{lacks, lacks_case, number_back, name_back, form_back, IsScale, scale_word, scale_small, decimal_lacks, signed_lacks, disp_lacks, register_lacks, Cutter}
use Rattle.asm_core.specs.declared.reg.Reg.{Reg}
use Rattle.asm_core.specs.declared.sym.Place.{Place}
use Rattle.asm_core.specs.declared.sym.Disp.{Disp}
use Rattle.asm_core.specs.declared.inst.InstArg.{InstArg}
use Rattle.asm_core.specs.declared.placement.Base.{Base}
use Rattle.asm_core.specs.declared.placement.Form.{Form}
use Rattle.asm_core.specs.declared.reading.Leaf.{Leaf}
use Rattle.asm_core.specs.declared.reading.LineOperand.{LineOperand}

-- ---- cuts at a byte

wide-append : (xs ys : List ℕ) → wide xs ≡ true → wide ys ≡ true → wide (xs ++ ys) ≡ true
wide-append [] ys hx hy = hy
wide-append (x ∷ xs) ys hx hy = rw (first_true _ (wide xs) hx, wide-append xs ys (both_true _ (wide xs) hx) hy) refl

before_cut : (c : ℕ) (xs ys : List ℕ) → (c == c) ≡ true → lacks c xs ≡ true → before c (xs ++ c ∷ ys) ≡ length xs
before_cut c [] ys same h = rw same refl
before_cut c (x ∷ xs) ys same h =
    let parts = lacks_case (x == c) (lacks c xs) h in
    let more : 1 + length xs ≡ suc (length xs) = omega arith in
    rw (parts.0, before_cut c xs ys same parts.1) more

take_cut : (c : ℕ) (xs ys : List ℕ) → take (length xs) (written (xs ++ c ∷ ys)) ≡ written xs
take_cut c [] ys = refl
take_cut c (x ∷ xs) ys = rw (take_cut c xs ys) refl

drop_next : (c : ℕ) (xs ys : List ℕ) → drop (suc (length xs)) (written (xs ++ c ∷ ys)) ≡ written ys
drop_next c [] ys = refl
drop_next c (x ∷ xs) ys = drop_next c xs ys

drop_cut : (c : ℕ) (xs ys : List ℕ) → drop (length xs + 1) (written (xs ++ c ∷ ys)) ≡ written ys
drop_cut c xs ys = let next : length xs + 1 ≡ suc (length xs) = omega arith in rw next (drop_next c xs ys)

is_inside : (c : ℕ) (xs ys : List ℕ) → nat_lt (length xs) (length (written (xs ++ c ∷ ys))) ≡ true
is_inside c xs ys = lt-ltb (length xs) (length (written (xs ++ c ∷ ys))) (below xs)
  where
    below : (xs : List ℕ) → length xs < length (written (xs ++ c ∷ ys))
    below [] = omega arith
    below (x ∷ xs) = let lt = below xs in omega arith

last_is : (c : ℕ) (xs : List ℕ) → slice_index (xs ++ c ∷ []) (length xs) ≡ c
last_is c [] = refl
last_is c (x ∷ xs) = last_is c xs

length_last : (c : ℕ) (xs : List ℕ) → length (written (xs ++ c ∷ [])) ≡ suc (length xs)
length_last c [] = refl
length_last c (x ∷ xs) = ap suc (length_last c xs)

-- ---- no blanks

no_blank : (c : ℕ) (cs : List ℕ) → lacks 32 (c ∷ cs) ≡ true → lacks 9 (c ∷ cs) ≡ true → is_blank c ≡ false
no_blank c cs h k = rw ((lacks_case (c == 32) (lacks 32 cs) h).0, (lacks_case (c == 9) (lacks 9 cs) k).0) refl

none_ended : (b : Bool) → (b && false) ≡ false
none_ended true = refl
none_ended false = refl

content_all : (cs : List ℕ) → lacks 32 cs ≡ true → lacks 9 cs ≡ true → content_len cs ≡ length cs
content_all [] h k = refl
content_all (c ∷ cs) h k =
    let more : 1 + length cs ≡ suc (length cs) = omega arith in
    rw (no_blank c cs h k, none_ended (content_len cs == 0), content_all cs (lacks_case (c == 32) (lacks 32 cs) h).1 (lacks_case (c == 9) (lacks 9 cs) k).1) more

take_all : (text : List ℕ) → take (length text) (written text) ≡ written text
take_all [] = refl
take_all (c ∷ cs) = rw (take_all cs) refl

ended_written : (text : List ℕ) → wide text ≡ true → lacks 32 text ≡ true → lacks 9 text ≡ true → ended (written text) ≡ written text
unfolding ended
ended_written text w h k = rw (codes_written text w, content_all text h k) (take_all text)

none_begun : (cs : List ℕ) → lacks 32 cs ≡ true → lacks 9 cs ≡ true → prefix_len is_blank cs ≡ 0
none_begun [] h k = refl
none_begun (c ∷ cs) h k = rw (no_blank c cs h k) refl

begun_written : (text : List ℕ) → wide text ≡ true → lacks 32 text ≡ true → lacks 9 text ≡ true → begun atom_code (written text) ≡ written text
unfolding begun
begun_written text w h k = rw (codes_written text w, none_begun text h k) refl

trimmed_written : (text : List ℕ) → wide text ≡ true → lacks 32 text ≡ true → lacks 9 text ≡ true → trimmed (written text) ≡ written text
unfolding trimmed
trimmed_written text w h k = rw (begun_written text w h k) (ended_written text w h k)

-- a text that is cut nowhere: it has no blanks
pub record IsPart (text : List ℕ) : Type 0 where
  is_wide : wide text ≡ true
  no_space : lacks 32 text ≡ true
  no_tab : lacks 9 text ≡ true

trimmed_part : (text : List ℕ) → IsPart text → trimmed (written text) ≡ written text
trimmed_part text part = trimmed_written text part.is_wide part.no_space part.no_tab

-- ---- registers, scales, displacements

register_part : (r : Reg) → IsPart (37 ∷ reg_name r)
register_part Reg.Eax = record { is_wide = refl; no_space = refl; no_tab = refl }
register_part Reg.Ebx = record { is_wide = refl; no_space = refl; no_tab = refl }
register_part Reg.Ecx = record { is_wide = refl; no_space = refl; no_tab = refl }
register_part Reg.Edx = record { is_wide = refl; no_space = refl; no_tab = refl }
register_part Reg.Esi = record { is_wide = refl; no_space = refl; no_tab = refl }
register_part Reg.Edi = record { is_wide = refl; no_space = refl; no_tab = refl }
register_part Reg.Ebp = record { is_wide = refl; no_space = refl; no_tab = refl }

place_written : (r : Reg) → place_in (trimmed (written (37 ∷ reg_name r))) ≡ Some (Place.Reg r)
unfolding place_in
place_written r = let part = register_part r in rw (trimmed_part (37 ∷ reg_name r) part, no_hole_written (37 ∷ reg_name r), codes_written (37 ∷ reg_name r) part.is_wide, name_back r) refl

base_written : (r : Reg) → base_in (trimmed (written (37 ∷ reg_name r))) ≡ Some (Some (Place.Reg r))
unfolding base_in
base_written r =
    let part = register_part r in
    rw (place_written r, trimmed_part (37 ∷ reg_name r) part, eqb-suc-zero (length (written (reg_name r)))) refl

scale_part : (n : ℕ) → IsScale n → IsPart (decimal n)
scale_part n is =
    let small = scale_small n is in
    record {
      is_wide = wide_lacks (decimal n) (decimal_lacks 0 n (omega arith) small) (decimal_lacks 1 n (omega arith) small);
      no_space = decimal_lacks 32 n (omega arith) small;
      no_tab = decimal_lacks 9 n (omega arith) small;
    }

scale_some : (n : ℕ) → IsScale n → scale_of (Some (pos n)) ≡ Some n
scale_some n (inl e) = rw e refl
scale_some n (inr (inl e)) = rw e refl
scale_some n (inr (inr (inl e))) = rw e refl
scale_some n (inr (inr (inr (inl e)))) = rw e refl
scale_some n (inr (inr (inr (inr h)))) = absurd h

scale_written : (n : ℕ) → IsScale n → scale_in (trimmed (written (decimal n))) ≡ Some n
unfolding scale_in
scale_written n is =
    let part = scale_part n is in
    rw (trimmed_part (decimal n) part, no_hole_written (decimal n), codes_written (decimal n) part.is_wide, number_back (pos n) (scale_word n is)) (scale_some n is)

no_number : number_of [] ≡ None
unfolding number_of magnitude_of
no_number = refl

front_written : (text : List ℕ) (z : ℤ) → wide text ≡ true → number_of text ≡ Some z → front_disp (written text) ≡ Some (Disp.Number z)
unfolding front_disp
front_written [] z w e = let no : None ≡ Some z = sym no_number ∙ e in cc
front_written (c ∷ cs) z w e = rw (eqb-suc-zero (length (written cs)), disp_written (c ∷ cs) z w e) refl

no_front : front_disp (written []) ≡ Some (Disp.Number (pos 0))
unfolding front_disp
no_front = refl

number_part : (z : ℤ) → IsWordNumber z → IsPart (signed_decimal z)
number_part z word = record { is_wide = wide_number z word; no_space = signed_lacks 32 z (omega arith) word; no_tab = signed_lacks 9 z (omega arith) word }

number_front : (z : ℤ) → IsWordNumber z → front_disp (ended (written (signed_decimal z))) ≡ Some (Disp.Number z)
number_front z word =
    let part = number_part z word in
    rw (ended_written (signed_decimal z) part.is_wide part.no_space part.no_tab) (front_written (signed_decimal z) z part.is_wide (number_back z word))

disp_front : (z : ℤ) → IsWordNumber z → front_disp (ended (written (disp_text z))) ≡ Some (Disp.Number z)
disp_front (pos zero) word = rw (ended_written [] refl refl refl) no_front
disp_front (pos (suc n)) word = number_front (pos (suc n)) word
disp_front (negsuc n) word = number_front (negsuc n) word

disp_wide : (z : ℤ) → IsWordNumber z → wide (disp_text z) ≡ true
disp_wide (pos zero) word = refl
disp_wide (pos (suc n)) word = wide_number (pos (suc n)) word
disp_wide (negsuc n) word = wide_number (negsuc n) word

-- ---- what stands between the parentheses

abbrev inside : Option Disp → List ℕ → Option LineOperand
inside d text = between d (written text) (before 44 (map atom_code (written text)))

alone_inside : (d : Disp) (text : List ℕ) (place : Place) → wide text ≡ true → lacks 44 text ≡ true → place_in (trimmed (written text)) ≡ Some place → inside (Some d) text ≡ Some (LineOperand.Address d (Some place) None)
unfolding between
alone_inside d text place w no_comma e = rw (codes_written text w, length-map, all_before 44 text no_comma, e) refl

index_inside : (first last : List ℕ) (place : Place) (n : ℕ) → wide (first ++ 44 ∷ last) ≡ true → lacks 44 first ≡ true → place_in (trimmed (written first)) ≡ Some place → scale_in (trimmed (written last)) ≡ Some n
    → index_in (written (first ++ 44 ∷ last)) (before 44 (map atom_code (written (first ++ 44 ∷ last)))) ≡ Some (Some (place, n))
unfolding index_in
index_inside first last place n w no_comma e f =
    rw (codes_written (first ++ 44 ∷ last) w, before_cut 44 first last refl no_comma, is_inside 44 first last, take_cut 44 first last, drop_cut 44 first last, e, f) refl

both_inside : (d : Disp) (first rest : List ℕ) (base : Option Place) (index : Option (Place × ℕ)) → wide (first ++ 44 ∷ rest) ≡ true → lacks 44 first ≡ true → base_in (trimmed (written first)) ≡ Some base
    → index_in (written rest) (before 44 (map atom_code (written rest))) ≡ Some index → inside (Some d) (first ++ 44 ∷ rest) ≡ Some (LineOperand.Address d base index)
unfolding between
both_inside d first rest base index w no_comma e f =
    rw (codes_written (first ++ 44 ∷ rest) w, before_cut 44 first rest refl no_comma, is_inside 44 first rest, take_cut 44 first rest, drop_cut 44 first rest, e, f) refl

closed : (d : Disp) (inner : List ℕ) (n : ℕ) (o : LineOperand) → wide (inner ++ 41 ∷ []) ≡ true → n ≡ suc (length inner) → inside (Some d) inner ≡ Some o → enclosed (Some d) (written (inner ++ 41 ∷ [])) n ≡ Some o
unfolding enclosed
closed d inner n o w at e = rw (at, codes_written (inner ++ 41 ∷ []) w, last_is 41 inner, take_cut 41 inner []) e

in_parentheses : (d : Disp) (front inner : List ℕ) (o : LineOperand) → wide (front ++ 40 ∷ (inner ++ 41 ∷ [])) ≡ true → wide (inner ++ 41 ∷ []) ≡ true → lacks 40 front ≡ true
    → front_disp (ended (written front)) ≡ Some d → inside (Some d) inner ≡ Some o → address_of (written (front ++ 40 ∷ (inner ++ 41 ∷ []))) ≡ Some o
unfolding address_of address_at
in_parentheses d front inner o w v no_open e f =
    let rest = inner ++ 41 ∷ [] in
    rw (codes_written (front ++ 40 ∷ rest) w, before_cut 40 front rest refl no_open, is_inside 40 front rest, take_cut 40 front rest, drop_cut 40 front rest, e) (closed d inner (length (written rest)) o v (length_last 41 inner) f)

-- ---- addresses with registers

-- what stands between the parentheses is read
record IsInner (d : Disp) (text : List ℕ) (base : Option Place) (index : Option (Place × ℕ)) : Type 0 where
  is_wide : wide text ≡ true
  is_read : inside (Some d) text ≡ Some (LineOperand.Address d base index)

base_inner : (d : Disp) (r : Reg) → IsInner d (37 ∷ reg_name r) (Some (Place.Reg r)) None
base_inner d r = let part = register_part r in record { is_wide = part.is_wide; is_read = alone_inside d (37 ∷ reg_name r) (Place.Reg r) part.is_wide (register_lacks Cutter.Comma r) (place_written r) }

no_base : base_in (trimmed (written [])) ≡ Some None
unfolding base_in
no_base = rw (trimmed_part [] (record { is_wide = refl; no_space = refl; no_tab = refl })) refl

-- the text of an index and its scale
abbrev scaled_text : Reg → ℕ → List ℕ
scaled_text r n = (37 ∷ reg_name r) ++ 44 ∷ decimal n

scaled_wide : (r : Reg) (n : ℕ) → IsScale n → wide (scaled_text r n) ≡ true
scaled_wide r n is = wide-append (37 ∷ reg_name r) (44 ∷ decimal n) (register_part r).is_wide (scale_part n is).is_wide

scaled_read : (r : Reg) (n : ℕ) → IsScale n → index_in (written (scaled_text r n)) (before 44 (map atom_code (written (scaled_text r n)))) ≡ Some (Some (Place.Reg r, n))
scaled_read r n is = index_inside (37 ∷ reg_name r) (decimal n) (Place.Reg r) n (scaled_wide r n is) (register_lacks Cutter.Comma r) (place_written r) (scale_written n is)

index_inner : (d : Disp) (r : Reg) (n : ℕ) → IsScale n → IsInner d (44 ∷ scaled_text r n) None (Some (Place.Reg r, n))
index_inner d r n is = let w = scaled_wide r n is in record { is_wide = w; is_read = both_inside d [] (scaled_text r n) None (Some (Place.Reg r, n)) w refl no_base (scaled_read r n is) }

pair_inner : (d : Disp) (b r : Reg) (n : ℕ) → IsScale n → IsInner d ((37 ∷ reg_name b) ++ 44 ∷ scaled_text r n) (Some (Place.Reg b)) (Some (Place.Reg r, n))
pair_inner d b r n is =
    let w : wide ((37 ∷ reg_name b) ++ 44 ∷ scaled_text r n) ≡ true = wide-append (37 ∷ reg_name b) (44 ∷ scaled_text r n) (register_part b).is_wide (scaled_wide r n is) in
    record { is_wide = w; is_read = both_inside d (37 ∷ reg_name b) (scaled_text r n) (Some (Place.Reg b)) (Some (Place.Reg r, n)) w (register_lacks Cutter.Comma b) (base_written b) (scaled_read r n is) }

closed_wide : (text : List ℕ) → wide text ≡ true → wide (text ++ 41 ∷ []) ≡ true
closed_wide text w = wide-append text (41 ∷ []) w refl

address_wide : (d : ℤ) (text : List ℕ) → IsWordNumber d → wide text ≡ true → wide (disp_text d ++ 40 ∷ (text ++ 41 ∷ [])) ≡ true
address_wide d text word w = wide-append (disp_text d) (40 ∷ (text ++ 41 ∷ [])) (disp_wide d word) (closed_wide text w)

address_written : (d : ℤ) (text : List ℕ) (base : Option Place) (index : Option (Place × ℕ)) → IsWordNumber d → IsInner (Disp.Number d) text base index
    → address_of (written (disp_text d ++ 40 ∷ (text ++ 41 ∷ []))) ≡ Some (LineOperand.Address (Disp.Number d) base index)
address_written d text base index word inner =
    in_parentheses (Disp.Number d) (disp_text d) text (LineOperand.Address (Disp.Number d) base index) (address_wide d text word inner.is_wide) (closed_wide text inner.is_wide)
    (disp_lacks 40 d (omega arith) word) (disp_front d word) inner.is_read

-- ---- operands

first_of : (c : ℕ) (front rest : List ℕ) → (40 == c) ≡ false → lacks c front ≡ true → (slice_index (front ++ 40 ∷ rest) 0 == c) ≡ false
first_of c [] rest other h = other
first_of c (x ∷ xs) rest other h = (lacks_case (x == c) (lacks c xs) h).0

last_of : (c : ℕ) (xs : List ℕ) → slice_index (xs ++ c ∷ []) (length (xs ++ c ∷ []) - 1) ≡ c
last_of c xs = let at : length (xs ++ c ∷ []) - 1 ≡ length xs = (let long : length (xs ++ c ∷ []) ≡ length xs + 1 = length-append xs (c ∷ []) in omega arith) in rw at (last_is c xs)

module _ (goal : List ℕ → Option (Option ℕ)) (count : ℕ) where
  operand_said : (d : ℤ) (text : List ℕ) (base : Option Place) (index : Option (Place × ℕ)) → IsWordNumber d → IsInner (Disp.Number d) text base index → goal (disp_text d ++ 40 ∷ (text ++ 41 ∷ [])) ≡ None
      → said goal count (written (disp_text d ++ 40 ∷ (text ++ 41 ∷ []))) ≡ Some (InstArg.Address (record { disp = d; base = base_arg base; index = index_arg index }) None)
  unfolding written_operand
  operand_said d text base index word inner none =
      let whole = disp_text d ++ 40 ∷ (text ++ 41 ∷ []) in
      rw (
        operand_written goal whole,
        codes_written whole (address_wide d text word inner.is_wide),
        first_of 36 (disp_text d) (text ++ 41 ∷ []) refl (disp_lacks 36 d (omega arith) word),
        first_of 37 (disp_text d) (text ++ 41 ∷ []) refl (disp_lacks 37 d (omega arith) word),
        none,
        address_written d text base index word inner,
      ) refl

  number_said : (d : ℤ) → IsWordNumber d → goal (signed_decimal d) ≡ None → said goal count (written (signed_decimal d)) ≡ Some (InstArg.Address (record { disp = d; base = None; index = None }) None)
  unfolding written_operand
  number_said d word none =
      let text = signed_decimal d in
      rw (
        operand_written goal text,
        codes_written text (wide_number d word),
        first_lacks 36 text refl (signed_lacks 36 d (omega arith) word),
        first_lacks 37 text refl (signed_lacks 37 d (omega arith) word),
        none,
        absolute_written d word,
      ) refl

  form_said : (d : ℤ) (base : Option Base) (index : Option (Reg × ℕ)) → IsWordNumber d → ((x : Reg × ℕ) → index ≡ Some x → IsScale x.1) → (base ≡ Some Base.Esp → ⊥)
      → (let f : Form = record { disp = d; base = base; index = index } in goal (form_text f) ≡ None → said goal count (written (form_text f)) ≡ Some (InstArg.Address f None))
  form_said d None None word scale other none = number_said d word none
  form_said d (Some Base.Esp) index word scale other none = absurd (other refl)
  form_said d (Some (Base.Reg b)) None word scale other none = operand_said d (37 ∷ reg_name b) (Some (Place.Reg b)) None word (base_inner (Disp.Number d) b) none
  form_said d None (Some (r, n)) word scale other none = operand_said d (44 ∷ scaled_text r n) None (Some (Place.Reg r, n)) word (index_inner (Disp.Number d) r n (scale (r, n) refl)) none
  form_said d (Some (Base.Reg b)) (Some (r, n)) word scale other none =
      operand_said d ((37 ∷ reg_name b) ++ 44 ∷ scaled_text r n) (Some (Place.Reg b)) (Some (Place.Reg r, n)) word (pair_inner (Disp.Number d) b r n (scale (r, n) refl)) none

  memory_given : (k root : ℕ) (f : Form) → IsForm f → said goal count (given k (Leaf.Memory root (Some (form_read (form_text f))))) ≡ Some (InstArg.Address f None)
  unfolding operand_of
  memory_given k root f is = rw (form_back f is) refl

  -- an address that an operand prints is read as if it were written, where its base isn't `%esp` and it is no label
  pub memory_as_written : (k root : ℕ) (f : Form) → IsForm f → (f.base ≡ Some Base.Esp → ⊥) → goal (form_text f) ≡ None
      → said goal count (given k (Leaf.Memory root (Some (form_read (form_text f))))) ≡ said goal count (written (form_text f))
  memory_as_written k root f is other none =
      memory_given k root f is ∙ sym (form_said f.disp f.base f.index (record { low = is.low; high = is.high }) is.scale other none)

-- ---- an address is no label

disp_no_dot : (d : ℤ) → IsWordNumber d → lacks 46 (disp_text d) ≡ true
disp_no_dot (pos zero) word = refl
disp_no_dot (pos (suc n)) word = signed_pass 46 refl (digit_apart 46 (inl (omega arith))) (pos (suc n)) word
disp_no_dot (negsuc n) word = signed_pass 46 refl (digit_apart 46 (inl (omega arith))) (negsuc n) word

no_reference : (b : Bool) → (b && false) ≡ false
no_reference true = refl
no_reference false = refl

closed_no_label : (labels : List Defined) (inst : ℕ) (front text : List ℕ) → text ≡ front ++ 41 ∷ [] → (slice_index text 0 == 46) ≡ false → goal_of labels inst text ≡ None
unfolding goal_of
closed_no_label labels inst front text e dot =
    let last : slice_index text (length text - 1) ≡ 41 = rw e (last_of 41 front) in
    rw (last, no_reference (is_reference (take (length text - 1) text)), dot) refl

address_no_label : (labels : List Defined) (inst : ℕ) (d : ℤ) (text : List ℕ) → IsWordNumber d → goal_of labels inst (disp_text d ++ 40 ∷ (text ++ 41 ∷ [])) ≡ None
address_no_label labels inst d text word =
    closed_no_label labels inst (disp_text d ++ 40 ∷ text) (disp_text d ++ 40 ∷ (text ++ 41 ∷ [])) (sym (append_assoc (disp_text d) (40 ∷ text) (41 ∷ [])))
    (first_of 46 (disp_text d) (text ++ 41 ∷ []) refl (disp_no_dot d word))

form_no_label : (labels : List Defined) (inst : ℕ) (d : ℤ) (base : Option Base) (index : Option (Reg × ℕ)) → IsWordNumber d → goal_of labels inst (form_text (record { disp = d; base = base; index = index })) ≡ None
form_no_label labels inst d None None word = number_no_label labels inst d word
form_no_label labels inst d (Some b) index word = address_no_label labels inst d (registers_text (Some b) index) word
form_no_label labels inst d None (Some x) word = address_no_label labels inst d (registers_text None (Some x)) word

-- an address is no label
pub memory_no_label : (labels : List Defined) (inst : ℕ) (f : Form) → IsForm f → goal_of labels inst (form_text f) ≡ None
memory_no_label labels inst f is = form_no_label labels inst f.disp f.base f.index (record { low = is.low; high = is.high })
