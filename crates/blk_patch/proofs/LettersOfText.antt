-- The interface that a statement's text gives has the letters that its constraints write.
use Rattle.std.proofs.Common.{◌≡◌, inl, ℕ, zero, suc, ◌+◌, ◌==◌, nat_lt, List, [], ◌∷◌, ◌++◌, length, map, replicate, find, cond, is_some, Bool, true, false, Option, None, Some, option_map, Result, Ok, slice_get, refl, sym, ap, subst, ◌∙◌, if◌then◌else◌, arith}
use Rattle.std.specs.List.{list_any, flat_map, slice_split}
use Rattle.std.proofs.lemmas.Bool.{eqb-true, or_parts}
use Rattle.std.proofs.lemmas.List.Folds.{list_any-append}
use Rattle.asm_core.specs.Lists.{optional_at}
use Rattle.asm_core.specs.Constraint.{alternatives_in, is_comma, symbols_from, is_signed, behind_sign, flag_of, alternatives_unless_flag, constrained_output, constrained_input, constrained_operand, constrained_from, constrained_operands, names_of}
use Rattle.asm_core.specs.Interface.{alternative_of, flag_alternative, size_or_zero, known_in, flag_operand, placed_operand, operand_of, made_of, first_clobber_mark, first_operand_mark, constraint_mark, first_constraint_mark, or_else, first_mark, template_scan, unless_malformed, scanned_interface, unless_marked, interface_of}
use Rattle.asm_core.specs.Malformed.{is_other, has_other, is_constraint_outside, malformed_findings, alternative_count}
use Rattle.asm_core.specs.Pieces.{Scan, Outside, Scanned, scan_of}
use Rattle.asm_core.specs.Size.{sizes_of}
use Rattle.asm_core.specs.WellFormed.{HasAlternative}
use Rattle.asm_core.specs.declared.cond.Cond.{Cond}
use Rattle.asm_core.specs.declared.mark.Mark.{Mark}
use Rattle.asm_core.specs.declared.finding.Finding.{Finding}
use Rattle.asm_core.specs.declared.operand.Operand.{Operand}
use Rattle.asm_core.specs.declared.statement.Part.{Part}
use Rattle.asm_core.specs.declared.statement.Parts.{Parts}
use Rattle.asm_core.specs.declared.statement.Body.{Body}
use Rattle.asm_core.specs.declared.statement.Statement.{Statement}
use Rattle.asm_core.specs.declared.interface.Role.{Role}
use Rattle.asm_core.specs.declared.interface.AltIface.{AltIface}
use Rattle.asm_core.specs.declared.interface.OperandIface.{OperandIface}
use Rattle.asm_core.specs.declared.interface.Interface.{Interface}
use Rattle.asm_core.specs.declared.interface.IfaceEnd.{IfaceEnd}
use Rattle.asm_core.specs.declared.constraint.Symbol.{Symbol}
use Rattle.asm_core.specs.declared.constraint.ConstrainedOperand.{ConstrainedOperand}
use Rattle.blk_patch.specs.Letters.{HasLetters}
use Rattle.blk_patch.specs.Suggested.{is_high_letter, has_high_from, has_high_letter}
use Rattle.blk_patch.proofs.SymbolLetters.{IsSuited, IsKnown, Each, AllIn, registers_suit, symbols_suit}
use Rattle.blk_patch.proofs.UpwardLetters.{HasAllOrNone}

-- ---- lists

some_is : {A : Type 0} (x y : A) → Some x ≡ Some y → x ≡ y
some_is x y e = cc

module _ {A B : Type 0} where
  mapped_at : (f : A → B) (xs : List A) (k : ℕ) (y : B) → slice_get (map f xs) k ≡ Some y
      → (x : A) × (slice_get xs k ≡ Some x) × (y ≡ f x)
  mapped_at f [] k y e = cc
  mapped_at f (x ∷ xs) zero y e = (x, refl, sym (some_is (f x) y e))
  mapped_at f (x ∷ xs) (suc k) y e = mapped_at f xs k y e

module _ {A : Type 0} where
  repeated : (count k : ℕ) (x y : A) → slice_get (replicate count x) k ≡ Some y → y ≡ x
  repeated zero k x y e = cc
  repeated (suc count) zero x y e = sym (some_is x y e)
  repeated (suc count) (suc k) x y e = repeated count k x y e

  none_passes : (p : A → Bool) (xs : List A) (k : ℕ) (x : A) → find p xs ≡ None → slice_get xs k ≡ Some x → p x ≡ false
  none_passes p [] k x none e = cc
  none_passes p (y ∷ ys) k x none e = by (p y) refl none k e (λ n. none_passes p ys n x)
    where
      by : (t : Bool) → p y ≡ t → cond t (Some y) (find p ys) ≡ None → (n : ℕ) → slice_get (y ∷ ys) n ≡ Some x
          → ((m : ℕ) → find p ys ≡ None → slice_get ys m ≡ Some x → p x ≡ false) → p x ≡ false
      by true h none n f later = cc
      by false h none zero f later = subst (λ z. p z ≡ false) (some_is y x f) h
      by false h none (suc n) f later = later n none f

-- ---- one constraint

module _ (outputs : List (Option (List ℕ))) where
  each_known : (ss : List Symbol) → list_any is_other ss ≡ false → Each IsKnown ss
  each_known [] e = tt
  each_known (s ∷ ss) e =
      let parts = or_parts (is_other s) (list_any is_other ss) e in (parts.0, each_known ss parts.1)

  all_known : (parts : List (List ℕ))
      → list_any is_other (flat_map (λ (ss : List Symbol). ss) (map (symbols_from outputs 0) parts)) ≡ false
      → AllIn outputs IsKnown 0 parts
  all_known [] e = tt
  all_known (part ∷ parts) e =
      let first = symbols_from outputs 0 part in
      let rest = flat_map (λ (ss : List Symbol). ss) (map (symbols_from outputs 0) parts) in
      let both = or_parts (list_any is_other first) (list_any is_other rest)
      (sym (list_any-append is_other first rest) ∙ e) in
      (each_known first both.0, all_known parts both.1)

  suited_at : (parts : List (List ℕ)) (a : ℕ) (ss : List Symbol) → AllIn outputs IsSuited 0 parts
      → slice_get (map (symbols_from outputs 0) parts) a ≡ Some ss → Each IsSuited ss
  suited_at [] a ss all e = cc
  suited_at (part ∷ parts) zero ss all e =
      subst (Each IsSuited) (some_is (symbols_from outputs 0 part) ss e) all.0
  suited_at (part ∷ parts) (suc a) ss all e = suited_at parts a ss all.1 e

  alternatives_suit : (text : List ℕ) → has_high_from false text ≡ false
      → list_any is_other (flat_map (λ (ss : List Symbol). ss) (alternatives_in outputs text)) ≡ false
      → (a : ℕ) (ss : List Symbol) → slice_get (alternatives_in outputs text) a ≡ Some ss → Each IsSuited ss
  unfolding alternatives_in
  alternatives_suit text high known a ss e =
      suited_at (slice_split is_comma text) a ss
      (symbols_suit outputs text high (all_known (slice_split is_comma text) known)) e

high_behind : (text : List ℕ) → has_high_from false text ≡ false → has_high_from false (behind_sign text) ≡ false
unfolding has_high_from
high_behind [] high = refl
high_behind (b ∷ bs) high = by (b == 61) (b == 43) refl refl
  where
    rest : (sign : ℕ) → (b == sign) ≡ true → (sign == 91) ≡ false → has_high_from false bs ≡ false
    rest sign is other =
        let opens : (b == 91) ≡ false = subst (λ n. (n == 91) ≡ false) (sym (eqb-true b sign is)) other in
        subst (λ inside. has_high_from inside bs ≡ false) opens
        (or_parts (is_high_letter b) (has_high_from (b == 91) bs) high).1

    by : (t u : Bool) → (b == 61) ≡ t → (b == 43) ≡ u
        → has_high_from false
        (if is_signed (if t then Role.Out else (if u then Role.InOut else Role.In)) then bs else b ∷ bs) ≡ false
    by true u e f = rest 61 e refl
    by false true e f = rest 43 f refl
    by false false e f = high

-- ---- operands

module _ (outputs : List (Option (List ℕ))) (n : ℕ) (part : Part) (typed : Option Operand)
    (high : has_high_letter part.constraint.bytes ≡ false) where
  abbrev Suits : ConstrainedOperand → Type 0
  Suits w = has_other w ≡ false → (a : ℕ) (ss : List Symbol) → slice_get w.alternatives a ≡ Some ss → Each IsSuited ss

  abbrev outer : List (List Symbol)
  outer = alternatives_in outputs (behind_sign part.constraint.bytes)

  output_suits : Suits (constrained_output outputs n part typed)
  output_suits = by (flag_of part.constraint.bytes)
    where
      by : (flag : Option Cond)
          → list_any is_other (flat_map (λ (ss : List Symbol). ss) (alternatives_unless_flag flag outer)) ≡ false
          → (a : ℕ) (ss : List Symbol) → slice_get (alternatives_unless_flag flag outer) a ≡ Some ss
          → Each IsSuited ss
      by None known a ss at =
          alternatives_suit outputs (behind_sign part.constraint.bytes) (high_behind part.constraint.bytes high) known
          a ss at
      by (Some c) known a ss at = cc

  operand_suits : Suits (constrained_operand outputs n part typed)
  unfolding constrained_operand
  operand_suits = by (nat_lt n (length outputs))
    where
      by : (t : Bool)
          → Suits (if t then constrained_output outputs n part typed else constrained_input outputs n part typed)
      by true = output_suits
      by false = alternatives_suit outputs part.constraint.bytes high

-- operand k of these parts, which are numbered from m upwards
record IsOf (outputs : List (Option (List ℕ))) (part : Part) (w : ConstrainedOperand) : Type 0 where
  number : ℕ
  typed : Option Operand
  is : w ≡ constrained_operand outputs number part typed

operand_at : (outputs : List (Option (List ℕ))) (types : List (Option Operand)) (m : ℕ) (ps : List Part) (k : ℕ)
    (part : Part) (w : ConstrainedOperand) → slice_get ps k ≡ Some part
    → slice_get (constrained_from outputs types m ps) k ≡ Some w → IsOf outputs part w
unfolding constrained_from
operand_at outputs types m [] k part w e f = cc
operand_at outputs types m (p ∷ ps) zero part w e f = record {
  number = m;
  typed = optional_at types m;
  is =
      sym (some_is (constrained_operand outputs m p (optional_at types m)) w f)
      ∙ ap (λ q. constrained_operand outputs m q (optional_at types m)) (some_is p part e);
}
operand_at outputs types m (p ∷ ps) (suc k) part w e f = operand_at outputs types (m + 1) ps k part w e f

module _ (count : ℕ) (sizes : List (Option ℕ)) (w : ConstrainedOperand) (a : ℕ) (alt : AltIface)
    (suits : (ss : List Symbol) → slice_get w.alternatives a ≡ Some ss → Each IsSuited ss) where
  flag_suits : (size : ℕ) → slice_get (flag_operand count size w).alts a ≡ Some alt → HasAllOrNone alt.regs.0
  flag_suits size e =
      let same = repeated count a flag_alternative alt e in
      inl (rw same (omega arith))

  placed_suits : (size : ℕ) → slice_get (placed_operand size w).alts a ≡ Some alt → HasAllOrNone alt.regs.0
  unfolding alternative_of
  placed_suits size e =
      let is = mapped_at (alternative_of w.output size (known_in w.typed)) w.alternatives a alt e in
      by is.0 is.1 is.2
    where
      by : (ss : List Symbol) → slice_get w.alternatives a ≡ Some ss
          → alt ≡ alternative_of w.output size (known_in w.typed) ss → HasAllOrNone alt.regs.0
      by ss at same = subst (λ (x : AltIface). HasAllOrNone x.regs.0) (sym same) (registers_suit ss (suits ss at))

  made_suits : slice_get (operand_of count sizes w).alts a ≡ Some alt → HasAllOrNone alt.regs.0
  unfolding operand_of
  made_suits e = by (is_some w.flag) e
    where
      by : (t : Bool)
          → slice_get (if t then flag_operand count (size_or_zero (optional_at sizes w.number)) w
          else placed_operand (size_or_zero (optional_at sizes w.number)) w).alts a ≡ Some alt
          → HasAllOrNone alt.regs.0
      by true at = flag_suits (size_or_zero (optional_at sizes w.number)) at
      by false at = placed_suits (size_or_zero (optional_at sizes w.number)) at

-- ---- interfaces

-- what stands behind an interface
record IsMade (parts : Parts) (strict : Bool) (ws : List ConstrainedOperand) (i : Interface) : Type 0 where
  is : made_of strict parts.clobbers ws ≡ i
  inside : first_constraint_mark ws ≡ None

unmarked : (mark : Option Mark) (rest : Result Interface IfaceEnd) (i : Interface) → unless_marked mark rest ≡ Ok i
    → (mark ≡ None) × (rest ≡ Ok i)
unmarked None rest i e = (refl, e)
unmarked (Some mark) rest i e = cc

well_formed : (made : Interface) (fs : List Finding) (i : Interface) → unless_malformed made fs ≡ Ok i → made ≡ i
well_formed made [] i e = cc
well_formed made (f ∷ fs) i e = cc

made_from : (parts : Parts) (strict : Bool) (ws : List ConstrainedOperand) (names : List (Option (List ℕ)))
    (scan : Scan) (i : Interface) → scanned_interface parts strict ws names scan ≡ Ok i
    → made_of strict parts.clobbers ws ≡ i
made_from parts strict ws names (Outside place) i e = cc
made_from parts strict ws names (Scanned pieces missing) i e =
    well_formed (made_of strict parts.clobbers ws) (malformed_findings ws names parts.clobbers pieces missing) i e

no_mark : (a b c : Option Mark) → or_else a (or_else b c) ≡ None → c ≡ None
no_mark None None c e = e
no_mark None (Some m) c e = cc
no_mark (Some m) b c e = cc

unmapped : {A B : Type 0} (f : A → B) (o : Option A) → option_map f o ≡ None → o ≡ None
unmapped f None e = refl
unmapped f (Some x) e = cc

module _ (parts : Parts) (types : List (Option Operand)) (strict : Bool) (i : Interface) where
  abbrev ws : List ConstrainedOperand
  ws = constrained_operands parts types

  made : interface_of parts types strict ≡ Ok i → IsMade parts strict ws i
  unfolding interface_of
  made e =
      let names = names_of (parts.outputs ++ parts.inputs) in
      let scan = template_scan parts.bad_template (scan_of parts.template names) in
      let is = unmarked (first_mark parts.clobbers ws) (scanned_interface parts strict ws names scan) i e in
      record {
        is = made_from parts strict ws names scan i is.1;
        inside = no_mark (first_clobber_mark parts.clobbers) (first_operand_mark ws) (first_constraint_mark ws) is.0;
      }

  nothing_other : first_constraint_mark ws ≡ None → (k : ℕ) (w : ConstrainedOperand) → slice_get ws k ≡ Some w
      → has_other w ≡ false
  unfolding first_constraint_mark is_constraint_outside
  nothing_other inside k w at =
      let none = unmapped constraint_mark (find (is_constraint_outside ws) ws) inside in
      let passed : is_constraint_outside ws w ≡ false = none_passes (is_constraint_outside ws) ws k w none at in
      (or_parts (has_other w) _ passed).0

  part_at : (k : ℕ) (part : Part) (w : ConstrainedOperand) → slice_get (parts.outputs ++ parts.inputs) k ≡ Some part
      → slice_get ws k ≡ Some w → IsOf (names_of parts.outputs) part w
  unfolding constrained_operands
  part_at k part w e f =
      operand_at (names_of parts.outputs) types 0 (parts.outputs ++ parts.inputs) k part w e f

  operands_made : (k : ℕ) (o : OperandIface) → made_of strict parts.clobbers ws ≡ i → slice_get i.operands k ≡ Some o
      → slice_get (map (operand_of (alternative_count ws) (sizes_of ws)) ws) k ≡ Some o
  unfolding made_of
  operands_made k o is at = subst (λ (x : Interface). slice_get x.operands k ≡ Some o) (sym is) at

  letter_sets : interface_of parts types strict ≡ Ok i → (k a : ℕ) (part : Part) (o : OperandIface) (alt : AltIface)
      → slice_get (parts.outputs ++ parts.inputs) k ≡ Some part
      → has_high_letter part.constraint.bytes ≡ false → HasAlternative i k a o alt → HasAllOrNone alt.regs.0
  letter_sets e k a part o alt at high there =
      let m = made e in
      let found = mapped_at (operand_of (alternative_count ws) (sizes_of ws)) ws k o
      (operands_made k o m.is there.is_operand) in
      by m found.0 found.1 found.2
    where
      by : IsMade parts strict ws i → (w : ConstrainedOperand) → slice_get ws k ≡ Some w
          → o ≡ operand_of (alternative_count ws) (sizes_of ws) w → HasAllOrNone alt.regs.0
      by m w is same =
          let of = part_at k part w at is in
          made_suits (alternative_count ws) (sizes_of ws) w a alt
          (subst (λ (v : ConstrainedOperand). has_other v ≡ false → (ss : List Symbol)
          → slice_get v.alternatives a ≡ Some ss → Each IsSuited ss) (sym of.is)
          (λ known ss there. operand_suits (names_of parts.outputs) of.number part of.typed high known a ss there)
          (nothing_other m.inside k w is))
          (subst (λ (q : OperandIface). slice_get q.alts a ≡ Some alt) same there.is_alternative)

  -- the interface that a statement's text gives has its constraints' letters
  pub has_letters : interface_of parts types strict ≡ Ok i → HasLetters i (Body.Parts parts)
  has_letters e = record {
    each = λ other k a part o alt same at high there.
        letter_sets e k a part o alt
        (subst (λ (p : Parts). slice_get (p.outputs ++ p.inputs) k ≡ Some part) (sym (parts_same parts other same)) at)
        high there;
  }
    where
      parts_same : (p q : Parts) → Body.Parts p ≡ Body.Parts q → p ≡ q
      parts_same p q e = cc

  pub letters_stated : (s : Statement) → s.body ≡ Body.Parts parts → interface_of parts types strict ≡ Ok i
      → HasLetters i s.body
  letters_stated s body e = subst (HasLetters i) (sym body) (has_letters e)
