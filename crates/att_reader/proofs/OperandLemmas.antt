-- The commas between operands, and the operands one by one.
use Rattle.std.proofs.Common.{◌≡◌, ◌∙◌, ◌<◌, ◌≤◌, ◌+◌, ◌-◌, ◌==◌, ℕ, zero, suc, List, [], ◌∷◌, ◌++◌, map, length, take, drop, get_or, Option, None, Some, option_map, Bool, true, false, if◌then◌else◌, refl, sym, lt-ltb, append_assoc, arith}
use Rattle.std.proofs.lemmas.List.{drop_more, drop_all, length-map}
use Rattle.std.proofs.lemmas.Bool.{le-ltb}
use Rattle.asm_core.specs.Reading.Operands.{all_some, atom_code, comma_outside, operand_of, operands_in, operands_of, trimmed}
use Rattle.asm_core.specs.declared.reading.Atom.{Atom}
use Rattle.asm_core.specs.declared.reading.LineOperand.{LineOperand}
use Rattle.att_reader.specs.Text.{is_comma, is_inside, operand_len}

-- how many codes stand before the comma, the first of them being c
abbrev pub len_from : Bool → ℕ → List ℕ → ℕ
len_from inside c cs = if is_comma inside c then 0 else 1 + comma_outside (is_inside inside c) cs

comma_step : (cs : List ℕ) (i : ℕ) (inside : Bool) → i < length cs
    → comma_outside inside (drop i cs) ≡ len_from inside (get_or cs i 0) (drop (i + 1) cs)
comma_step cs i inside lt = rw (drop_more cs i 0 lt) refl

pub comma_found : (cs : List ℕ) (i : ℕ) (inside : Bool) → i < length cs → is_comma inside (get_or cs i 0) ≡ true
    → comma_outside inside (drop i cs) ≡ 0
comma_found cs i inside lt e = comma_step cs i inside lt ∙ rw e refl

pub comma_passed : (cs : List ℕ) (i : ℕ) (inside : Bool) → i < length cs → is_comma inside (get_or cs i 0) ≡ false
    → comma_outside inside (drop i cs) ≡ 1 + comma_outside (is_inside inside (get_or cs i 0)) (drop (i + 1) cs)
comma_passed cs i inside lt e = comma_step cs i inside lt ∙ rw e refl

pub comma_none : (cs : List ℕ) (i : ℕ) (inside : Bool) → length cs ≤ i → comma_outside inside (drop i cs) ≡ 0
comma_none cs i inside le = rw (drop_all i cs le) refl

pub ruleset comma_steps = (comma_found, comma_passed, comma_none)

-- where operands jump
abbrev Goal : Type 0
Goal = List ℕ → Option (Option ℕ)

abbrev pub onto : List LineOperand → Option (List LineOperand) → Option (List LineOperand)
onto done os = option_map (λ (ys : List LineOperand). done ++ ys) os

-- the operands behind those that are there, where each is one
unfoldable pub operands_behind : Goal → List LineOperand → ℕ → List Atom → Option (List LineOperand)
operands_behind goal done left xs = onto done (all_some (operands_in goal left xs (operand_len xs)))

onto_none : (os : Option (List LineOperand)) → onto [] os ≡ os
onto_none None = refl
onto_none (Some os) = refl

onto_one : (done : List LineOperand) (o : LineOperand) (os : Option (List LineOperand))
    → onto done (option_map (λ (ys : List LineOperand). o ∷ ys) os) ≡ onto (done ++ o ∷ []) os
onto_one done o None = refl
onto_one done o (Some os) = rw (append_assoc) refl

pub operands_begin : (goal : Goal) (xs : List Atom) → (length xs == 0) ≡ false
    → all_some (operands_of goal xs) ≡ operands_behind goal [] 3 xs
unfolding operands_behind operands_of operand_len
operands_begin goal xs some =
    rw some (sym (onto_none (all_some (operands_in goal 3 xs (comma_outside false (map atom_code xs))))))

pub operands_empty : (goal : Goal) (xs : List Atom) → (length xs == 0) ≡ true → all_some (operands_of goal xs) ≡ Some []
unfolding operands_of
operands_empty goal xs e = rw e refl

pub operands_over : (goal : Goal) (done : List LineOperand) (left : ℕ) (xs : List Atom) → left ≤ 0
    → operands_behind goal done left xs ≡ None
unfolding operands_behind operands_in
operands_over goal done zero xs le = refl
operands_over goal done (suc left) xs le = absurd (omega arith)

pub operand_refused : (goal : Goal) (done : List LineOperand) (left : ℕ) (xs : List Atom) → 0 < left
    → operand_of goal (trimmed (take (operand_len xs) xs)) ≡ None → operands_behind goal done left xs ≡ None
unfolding operands_behind operands_in
operand_refused goal done zero xs some e = absurd (omega arith)
operand_refused goal done (suc left) xs some e = rw e refl

pub operand_last : (goal : Goal) (done : List LineOperand) (left : ℕ) (xs : List Atom) (o : LineOperand) → 0 < left
    → operand_of goal (trimmed (take (operand_len xs) xs)) ≡ Some o
    → operand_len xs ≡ length xs → operands_behind goal done left xs ≡ Some (done ++ o ∷ [])
unfolding operands_behind operands_in
operand_last goal done zero xs o some e le = absurd (omega arith)
operand_last goal done (suc left) xs o some e le = rw (e, le-ltb (operand_len xs) (length xs) (omega arith)) refl

more : (goal : Goal) (done : List LineOperand) (left : ℕ) (xs : List Atom) (o : LineOperand)
    → operand_of goal (trimmed (take (operand_len xs) xs)) ≡ Some o → operand_len xs < length xs
    → operands_behind goal done (suc left) xs
    ≡ operands_behind goal (done ++ o ∷ []) left (drop (operand_len xs + 1) xs)
unfolding operands_behind operands_in operand_len
more goal done left xs o e lt =
    let n = comma_outside false (map atom_code xs) in
    let rest = drop (n + 1) xs in
    rw (e, lt-ltb n (length xs) lt)
    (onto_one done o (all_some (operands_in goal left rest (comma_outside false (map atom_code rest)))))

pub operand_more : (goal : Goal) (done : List LineOperand) (left : ℕ) (xs : List Atom) (o : LineOperand) → 0 < left
    → operand_of goal (trimmed (take (operand_len xs) xs)) ≡ Some o
    → operand_len xs < length xs
    → operands_behind goal done left xs
    ≡ operands_behind goal (done ++ o ∷ []) (left - 1) (drop (operand_len xs + 1) xs)
operand_more goal done zero xs o some e lt = absurd (omega arith)
operand_more goal done (suc left) xs o some e lt =
    let less : suc left - 1 ≡ left = omega arith in
    rw less (more goal done left xs o e lt)

pub ruleset operand_steps = (operands_begin, operands_empty, operands_over, operand_refused, operand_last, operand_more)

-- one turn of the loop over operands
pub operand_turn : (goal : Goal) (done done' : List LineOperand) (left : ℕ) (xs front trim rest : List Atom)
    (cs : List ℕ) (n : ℕ) (o : LineOperand) (whole : Option (List LineOperand))
    → 0 < left → n ≡ operand_len xs → n ≤ length cs → cs ≡ map atom_code xs → (n ≡ length xs → ⊥) → front ≡ take n xs
    → trim ≡ trimmed front → operand_of goal trim ≡ Some o
    → done' ≡ done ++ o ∷ [] → rest ≡ drop (n + 1) xs → operands_behind goal done left xs ≡ whole
    → operands_behind goal done' (left - 1) rest ≡ whole
operand_turn goal done done' left xs front trim rest cs n o whole some is within codes other f t here d r all =
    let long : length cs ≡ length xs = rw codes (length-map xs atom_code) in
    let read : operand_of goal (trimmed (take (operand_len xs) xs)) ≡ Some o = rw (← is, ← f, ← t) here in
    let short : operand_len xs < length xs = omega arith in
    rw (d, r, is) (sym (operand_more goal done left xs o some read short) ∙ all)
