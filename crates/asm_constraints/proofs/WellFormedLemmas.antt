-- An interface keeps what every interface keeps.
use Rattle.std.proofs.Common.{◌≡◌, ◌⊎◌, inl, inr, ℕ, ◌<◌, ◌≤◌, ◌==◌, ◌&&◌, not, ℤ, pos, ◌≤ℤ◌, List, length, Bool, true, false, Option, None, Some, is_some, is_none, option_map, slice_get, if◌then◌else◌, refl, sym, ◌∙◌, ap, subst, eq-eqb, arith}
use Rattle.std.specs.List.{list_any, find}
use Rattle.std.proofs.lemmas.Bool.{ltb-false, lt-ltb}
use Rattle.std.proofs.lemmas.Bool.Decides.{nat_tests}
use Rattle.std.proofs.lemmas.List.{length-map, length-replicate}
use Rattle.std.proofs.lemmas.Int.{ints}
use Rattle.std.proofs.lemmas.Option.{slice_get_within, slice_get-map}
use Rattle.asm_core.specs.Lists.{optional_at}
use Rattle.asm_core.specs.Constraint.{is_signed, all_symbols}
use Rattle.asm_core.specs.Placement.{is_output}
use Rattle.asm_core.specs.Malformed.{is_early, is_output_mark, is_sign, is_unsigned_output, is_marked_input, alternative_count, differs_in_count, is_numbered, is_odd_one, is_stray_tie, has_stray_tie, is_malformed}
use Rattle.asm_core.specs.Interface.{symbol_tie, tie_in, is_tied_symbol, tie_of, alternative_of, flag_alternative, size_or_zero, known_in, flag_operand, placed_operand, operand_of, made_of}
use Rattle.asm_core.specs.Size.{sizes_of}
use Rattle.asm_core.specs.WellFormed.{HasAlternative, IsUntiedOutput, IsTie, HasNumber, IsInterface}
use Rattle.asm_core.specs.declared.interface.Role.{Role}
use Rattle.asm_core.specs.declared.interface.AltIface.{AltIface}
use Rattle.asm_core.specs.declared.interface.OperandIface.{OperandIface}
use Rattle.asm_core.specs.declared.interface.Interface.{Interface}
use Rattle.asm_core.specs.declared.piece.Piece.{Piece}
use Rattle.asm_core.specs.declared.statement.Quoted.{Quoted}
use Rattle.asm_core.specs.declared.constraint.Symbol.{Symbol}
use Rattle.asm_core.specs.declared.constraint.Symbol.TheVariants as symbols
use Rattle.asm_core.specs.declared.constraint.ConstrainedOperand.{ConstrainedOperand}
use Rattle.asm_constraints.proofs.ListLemmas.{Has, slice_get_there, any-true, any_part-false, find-Some, find-None, slice_get-replicate, slice_get_mapped, false_left, false_right}
use Rattle.asm_constraints.proofs.RangeLemmas.{numbers_of-kept}
use Rattle.asm_constraints.proofs.ReadLemmas.{IsRead, TiesBelow}
use Rattle.asm_constraints.proofs.RegisterLemmas.{registers_of-below}

-- ---- what the rule K2 rules out

pub record IsSound (ws : List ConstrainedOperand) (w : ConstrainedOperand) : Type 0 where
  pub signed : is_unsigned_output w ≡ false
  pub unmarked : is_marked_input w ≡ false
  pub even : is_odd_one ws w ≡ false
  pub tied_well : has_stray_tie w ≡ false

pub sound_unless : (ws : List ConstrainedOperand) (names : List (Option (List ℕ))) (clobbers : List Quoted) (pieces : List Piece) (w : ConstrainedOperand)
    → is_malformed ws names clobbers pieces w ≡ false → IsSound ws w
unfolding is_malformed
sound_unless ws names clobbers pieces w e =
    let behind_first = false_right (is_unsigned_output w) _ e in
    let behind_second = false_right (is_marked_input w) _ behind_first in
    let behind_third = false_right (is_odd_one ws w) _ behind_second in
    record {
      signed = false_left (is_unsigned_output w) _ e;
      unmarked = false_left (is_marked_input w) _ behind_first;
      even = false_left (is_odd_one ws w) _ behind_second;
      tied_well = false_left (has_stray_tie w) _ behind_third;
    }

-- the operands of a statement with n outputs that is not malformed
pub record AreSound (n : ℕ) (ws : List ConstrainedOperand) : Type 0 where
  pub outputs : n ≤ length ws
  pub few : length ws ≤ 30
  pub read : (k : ℕ) (w : ConstrainedOperand) → slice_get ws k ≡ Some w → IsRead n k w
  pub sound : (k : ℕ) (w : ConstrainedOperand) → slice_get ws k ≡ Some w → IsSound ws w

-- ---- how an operand of the interface comes about

-- an alternative of an operand that is no flag output
record IsPlaced (w : ConstrainedOperand) (o : OperandIface) (a : ℕ) (alt : AltIface) : Type 0 where
  size : ℕ
  alternative : List Symbol
  there : slice_get w.alternatives a ≡ Some alternative
  is : alt ≡ alternative_of w.output size (known_in w.typed) alternative
  known : o.known ≡ known_in w.typed

record IsFlag (o : OperandIface) (alt : AltIface) : Type 0 where
  is : alt ≡ flag_alternative
  known : o.known ≡ Some (pos 0)

module _ (count : ℕ) where
  flag_case : (size : ℕ) (w : ConstrainedOperand) (o : OperandIface) (a : ℕ) (alt : AltIface) → o ≡ flag_operand count size w → slice_get o.alts a ≡ Some alt → IsFlag o alt
  flag_case size w o a alt e at = record {
    is = slice_get-replicate count a flag_alternative alt (subst (λ (q : OperandIface). slice_get q.alts a ≡ Some alt) e at);
    known = ap (λ (q : OperandIface). q.known) e;
  }

  placed_case : (size : ℕ) (w : ConstrainedOperand) (o : OperandIface) (a : ℕ) (alt : AltIface) → o ≡ placed_operand size w → slice_get o.alts a ≡ Some alt → IsPlaced w o a alt
  placed_case size w o a alt e at =
      let of = slice_get_mapped (alternative_of w.output size (known_in w.typed)) w.alternatives a alt (subst (λ (q : OperandIface). slice_get q.alts a ≡ Some alt) e at) in
      record { size = size; alternative = of.0; there = of.1; is = of.2; known = ap (λ (q : OperandIface). q.known) e }

  case_at : (b : Bool) (size : ℕ) (w : ConstrainedOperand) (o : OperandIface) (a : ℕ) (alt : AltIface) → o ≡ (if b then flag_operand count size w else placed_operand size w)
      → slice_get o.alts a ≡ Some alt → IsPlaced w o a alt ⊎ IsFlag o alt
  case_at true size w o a alt e at = inr (flag_case size w o a alt e at)
  case_at false size w o a alt e at = inl (placed_case size w o a alt e at)

  case_of : (sizes : List (Option ℕ)) (w : ConstrainedOperand) (o : OperandIface) (a : ℕ) (alt : AltIface) → o ≡ operand_of count sizes w
      → slice_get o.alts a ≡ Some alt → IsPlaced w o a alt ⊎ IsFlag o alt
  unfolding operand_of
  case_of sizes w o a alt e at = case_at (is_some w.flag) (size_or_zero (optional_at sizes w.number)) w o a alt e at

  role_at : (b : Bool) (size : ℕ) (w : ConstrainedOperand) → (if b then flag_operand count size w else placed_operand size w).role ≡ w.role
  role_at true size w = refl
  role_at false size w = refl

  role-operand_of : (sizes : List (Option ℕ)) (w : ConstrainedOperand) → (operand_of count sizes w).role ≡ w.role
  unfolding operand_of
  role-operand_of sizes w = role_at (is_some w.flag) (size_or_zero (optional_at sizes w.number)) w

  length_at : (b : Bool) (size : ℕ) (w : ConstrainedOperand) → is_some w.flag ≡ b → (is_some w.flag ≡ false → length w.alternatives ≡ count)
      → length (if b then flag_operand count size w else placed_operand size w).alts ≡ count
  length_at true size w e same = length-replicate count flag_alternative
  length_at false size w e same = length-map w.alternatives (alternative_of w.output size (known_in w.typed)) ∙ same e

  length-operand_of : (sizes : List (Option ℕ)) (w : ConstrainedOperand) → (is_some w.flag ≡ false → length w.alternatives ≡ count) → length (operand_of count sizes w).alts ≡ count
  unfolding operand_of
  length-operand_of sizes w same = length_at (is_some w.flag) (size_or_zero (optional_at sizes w.number)) w refl same

-- ---- counts of alternatives

-- no operand differs in its count: the first one that did would be malformed
not_odd : (ws : List ConstrainedOperand) (w v : ConstrainedOperand) (o : Option ConstrainedOperand) → o ≡ Some v → w ≡ v → is_numbered w.number o ≡ false → ⊥
not_odd ws w v o found same e =
    let numbers : is_numbered w.number o ≡ (v.number == w.number) = ap (is_numbered w.number) found in
    let equal : (v.number == w.number) ≡ true = eq-eqb v.number w.number (ap (λ (x : ConstrainedOperand). x.number) (sym same)) in
    let both : true ≡ false = sym equal ∙ (sym numbers ∙ e) in
    cc

no_odd_at : (n : ℕ) (ws : List ConstrainedOperand) → AreSound n ws → (o : Option ConstrainedOperand) → find (differs_in_count (alternative_count ws)) ws ≡ o → o ≡ None
unfolding is_odd_one
no_odd_at n ws g None e = refl
no_odd_at n ws g (Some v) e =
    let found = find-Some (differs_in_count (alternative_count ws)) ws v e in
    absurd (not_odd ws found.item v (find (differs_in_count (alternative_count ws)) ws) e found.holds (g.sound found.place found.item found.there).even)

no_odd_one : (n : ℕ) (ws : List ConstrainedOperand) → AreSound n ws → find (differs_in_count (alternative_count ws)) ws ≡ None
no_odd_one n ws g = no_odd_at n ws g (find (differs_in_count (alternative_count ws)) ws) refl

equal_unless : (b : Bool) (x y : ℕ) → b ≡ true → (b && not (x == y)) ≡ false → x ≡ y
equal_unless true x y t e = grind (arith, nat_tests)
equal_unless false x y t e = cc

own_unless_flag : {A : Type 0} (o : Option A) → is_some o ≡ false → is_none o ≡ true
own_unless_flag None e = refl
own_unless_flag (Some x) e = cc

same_count : (count : ℕ) (w : ConstrainedOperand) → differs_in_count count w ≡ false → is_some w.flag ≡ false → length w.alternatives ≡ count
same_count count w e f = equal_unless (is_none w.flag) (length w.alternatives) count (own_unless_flag w.flag f) e

-- ---- symbols

signed-output : (role : Role) → is_signed role ≡ is_output role
signed-output Role.Out = refl
signed-output Role.InOut = refl
signed-output Role.In = refl

tie_symbol : (s : Symbol) (m : ℕ) → symbol_tie s ≡ Some m → s ≡ symbols.Tie (Some m)
tie_symbol (symbols.Letter letter) m e = cc
tie_symbol symbols.Early m e = cc
tie_symbol (symbols.Tie output) m e = ap symbols.Tie e
tie_symbol symbols.Sign m e = cc
tie_symbol symbols.Other m e = cc

tie_found : (alternative : List Symbol) (o : Option Symbol) (m : ℕ) → find is_tied_symbol alternative ≡ o → tie_in o ≡ Some m → Has (λ (s : Symbol). s ≡ symbols.Tie (Some m)) alternative
tie_found alternative None m f e = cc
tie_found alternative (Some s) m f e =
    let found = find-Some is_tied_symbol alternative s f in
    record { place = found.place; item = found.item; there = found.there; holds = found.holds ∙ tie_symbol s m e }

-- the tie of an alternative stands in it
tie_of-there : (alternative : List Symbol) (m : ℕ) → tie_of alternative ≡ Some m → Has (λ (s : Symbol). s ≡ symbols.Tie (Some m)) alternative
unfolding tie_of
tie_of-there alternative m e = tie_found alternative (find is_tied_symbol alternative) m refl e

not_false : (b : Bool) → b ≡ false → b ≡ true → ⊥
not_false b e f = let both : false ≡ true = sym e ∙ f in cc

true_unless_false : (b : Bool) → (b ≡ false → ⊥) → b ≡ true
true_unless_false true f = refl
true_unless_false false f = absurd (f refl)

false_unless_true : (b : Bool) → (b ≡ true → ⊥) → b ≡ false
false_unless_true true f = absurd (f refl)
false_unless_true false f = refl

none_unless : (o : Option ℕ) → ((x : ℕ) → o ≡ Some x → ⊥) → o ≡ None
none_unless None f = refl
none_unless (Some x) f = absurd (f x refl)

signed_if : (b c : Bool) → b ≡ true → (b && not c) ≡ false → c ≡ true
signed_if true true t e = refl
signed_if true false t e = cc
signed_if false c t e = cc

unmarked_if : (b c : Bool) → b ≡ false → (not b && c) ≡ false → c ≡ false
unmarked_if true c f e = cc
unmarked_if false c f e = e

-- an input has no early mark
early_placed : {ws : List ConstrainedOperand} (w : ConstrainedOperand) (o : OperandIface) (a : ℕ) (alt : AltIface) (p : IsPlaced w o a alt) → IsSound ws w → alt.early ≡ true → w.output ≡ false → ⊥
unfolding alternative_of
early_placed w o a alt p sound e input =
    let marked = any-true is_early p.alternative (sym (ap (λ (x : AltIface). x.early) p.is) ∙ e) in
    let none = unmarked_if w.output (list_any is_output_mark (all_symbols w)) input sound.unmarked in
    let unmarked = any_part-false is_output_mark w.alternatives a marked.place p.alternative marked.item none p.there marked.there in
    not_false (is_early marked.item) (false_right (is_sign marked.item) (is_early marked.item) unmarked) marked.holds

-- ---- the whole

module _ (strict : Bool) (clobbers : List Quoted) (n : ℕ) (ws : List ConstrainedOperand) (g : AreSound n ws) where
  abbrev made : Interface
  made = made_of strict clobbers ws

  record ComesFrom (k : ℕ) (o : OperandIface) : Type 0 where
    from : ConstrainedOperand
    there : slice_get ws k ≡ Some from
    is : o ≡ operand_of (alternative_count ws) (sizes_of ws) from

  comes_from : (k : ℕ) (o : OperandIface) → slice_get made.operands k ≡ Some o → ComesFrom k o
  unfolding made_of
  comes_from k o at =
      let of = slice_get_mapped (operand_of (alternative_count ws) (sizes_of ws)) ws k o at in
      record { from = of.0; there = of.1; is = of.2 }

  role_of : (k : ℕ) (o : OperandIface) (c : ComesFrom k o) → o.role ≡ c.from.role
  role_of k o c = ap (λ (q : OperandIface). q.role) c.is ∙ role-operand_of (alternative_count ws) (sizes_of ws) c.from

  count_of_alternatives : (k : ℕ) (o : OperandIface) → slice_get made.operands k ≡ Some o → length o.alts ≡ alternative_count ws
  count_of_alternatives k o at =
      let c = comes_from k o at in
      let even : differs_in_count (alternative_count ws) c.from ≡ false = find-None (differs_in_count (alternative_count ws)) ws k c.from (no_odd_one n ws g) c.there in
      ap (λ (q : OperandIface). length q.alts) c.is ∙ length-operand_of (alternative_count ws) (sizes_of ws) c.from (same_count (alternative_count ws) c.from even)

  case_here : (k a : ℕ) (o : OperandIface) (alt : AltIface) (c : ComesFrom k o) → slice_get o.alts a ≡ Some alt → IsPlaced c.from o a alt ⊎ IsFlag o alt
  case_here k a o alt c at = case_of (alternative_count ws) (sizes_of ws) c.from o a alt c.is at

  -- ---- ties

  untied_flag : (o : OperandIface) (alt : AltIface) → IsFlag o alt → alt.tied ≡ None
  untied_flag o alt f = ap (λ (x : AltIface). x.tied) f.is

  tie_of_placed : (w : ConstrainedOperand) (o : OperandIface) (a m : ℕ) (alt : AltIface) (p : IsPlaced w o a alt) → alt.tied ≡ Some m → tie_of p.alternative ≡ Some m
  unfolding alternative_of
  tie_of_placed w o a m alt p e = sym (ap (λ (x : AltIface). x.tied) p.is) ∙ e

  -- a tied operand is an input, and its tie names one of the outputs
  record IsTiedInput (w : ConstrainedOperand) (m : ℕ) : Type 0 where
    input : w.output ≡ false
    below : m < n

  tied_input : (k : ℕ) (o : OperandIface) (a m : ℕ) (alt : AltIface) (c : ComesFrom k o) → slice_get o.alts a ≡ Some alt → alt.tied ≡ Some m → IsTiedInput c.from m
  tied_input k o a m alt c at e =
      elim (case_here k a o alt c at) [
        | inr f ↦ let both : None ≡ Some m = sym (untied_flag o alt f) ∙ e in cc
        | inl p ↦
            let tie = tie_of-there p.alternative m (tie_of_placed c.from o a m alt p e) in
            let stray = any_part-false (is_stray_tie c.from.output) c.from.alternatives a tie.place p.alternative tie.item (g.sound k c.from c.there).tied_well p.there tie.there in
            record {
              input = subst (λ (s : Symbol). is_stray_tie c.from.output s ≡ false) tie.holds stray;
              below = subst (TiesBelow n) tie.holds ((g.read k c.from c.there).below a tie.place p.alternative tie.item p.there tie.there);
            }
      ]

  -- ---- early marks

  early_marked : (k : ℕ) (o : OperandIface) (a : ℕ) (alt : AltIface) (c : ComesFrom k o) → slice_get o.alts a ≡ Some alt → alt.early ≡ true → c.from.output ≡ true
  early_marked k o a alt c at e =
      elim (case_here k a o alt c at) [
        | inr f ↦ absurd (not_false alt.early (ap (λ (x : AltIface). x.early) f.is) e)
        | inl p ↦ true_unless_false c.from.output (λ input. early_placed c.from o a alt p (g.sound k c.from c.there) e input)
      ]

  is_output_of : (k : ℕ) (o : OperandIface) (c : ComesFrom k o) → c.from.output ≡ true → is_output o.role ≡ true
  is_output_of k o c e =
      sym (signed-output o.role) ∙ (ap is_signed (role_of k o c) ∙ signed_if c.from.output (is_signed c.from.role) e (g.sound k c.from c.there).signed)

  is_input_of : (k : ℕ) (o : OperandIface) (c : ComesFrom k o) → c.from.output ≡ false → is_output o.role ≡ false
  is_input_of k o c e = sym (signed-output o.role) ∙ (ap is_signed (role_of k o c) ∙ (g.read k c.from c.there).input_alone e)

  -- ---- numbers

  number_of_flag : (o : OperandIface) (alt : AltIface) (range : ℤ × ℤ) → IsFlag o alt → alt.numbers ≡ Some range → HasNumber o alt range
  number_of_flag o alt range f e =
      let whole : ◌≡◌ {A = Option (ℤ × ℤ)} (Some (pos 0, pos 0)) (Some range) = sym (ap (λ (x : AltIface). x.numbers) f.is) ∙ e in
      let same : (pos 0, pos 0) ≡ range = cc in
      subst (HasNumber o alt) same (record {
        low = omega (arith, ints);
        high = omega (arith, ints);
        least = λ none. let both : None ≡ Some (pos 0) = sym none ∙ f.known in cc;
        known = λ m k. let zero_is : ◌≡◌ {A = Option ℤ} (Some (pos 0)) (Some m) = sym f.known ∙ k in let is : pos 0 ≡ m = cc in
            subst (λ (z : ℤ). (pos 0 ≤ℤ z) × (z ≤ℤ pos 0)) is (omega (arith, ints), omega (arith, ints));
      })

  number_of_placed : (w : ConstrainedOperand) (o : OperandIface) (a : ℕ) (alt : AltIface) (range : ℤ × ℤ) → IsPlaced w o a alt → alt.numbers ≡ Some range → HasNumber o alt range
  unfolding alternative_of
  number_of_placed w o a alt range p e =
      let kept = numbers_of-kept w.output p.size (known_in w.typed) p.alternative range (sym (ap (λ (x : AltIface). x.numbers) p.is) ∙ e) in
      record {
        low = kept.word.low;
        high = kept.word.high;
        least = λ none. let low = kept.zero_in.low in let high = kept.zero_in.high in omega (arith, ints, low, high);
        known = λ m k. kept.known_in m (sym p.known ∙ k);
      }

  -- ---- registers

  registers_of_placed : (w : ConstrainedOperand) (o : OperandIface) (a : ℕ) (alt : AltIface) → IsPlaced w o a alt → alt.regs.0 < 128
  unfolding alternative_of
  registers_of_placed w o a alt p = subst (λ (x : AltIface). x.regs.0 < 128) (sym p.is) (registers_of-below p.alternative)

  registers_of_flag : (o : OperandIface) (alt : AltIface) → IsFlag o alt → alt.regs.0 < 128
  registers_of_flag o alt f = subst (λ (x : AltIface). x.regs.0 < 128) (sym f.is) (omega arith)

  -- ---- outputs that ties name

  made_there : (k : ℕ) (w : ConstrainedOperand) → slice_get ws k ≡ Some w → slice_get made.operands k ≡ Some (operand_of (alternative_count ws) (sizes_of ws) w)
  unfolding made_of
  made_there k w at = slice_get-map (operand_of (alternative_count ws) (sizes_of ws)) ws k ∙ ap (option_map (operand_of (alternative_count ws) (sizes_of ws))) at

  untied_output : (m a : ℕ) → m < n → a < alternative_count ws → IsUntiedOutput made m a
  untied_output m a below inside =
      let within : m < length ws = let all = g.outputs in omega (arith, below, all) in
      let w = slice_get_there ws m within in
      let o = operand_of (alternative_count ws) (sizes_of ws) w.0 in
      let at : slice_get made.operands m ≡ Some o = made_there m w.0 w.1 in
      let counted = count_of_alternatives m o at in
      let alt = slice_get_there o.alts a (omega (arith, inside, counted)) in
      let c : ComesFrom m o = record { from = w.0; there = w.1; is = refl } in
      let output : w.0.output ≡ true = (g.read m w.0 w.1).output ∙ lt-ltb m n below in
      record {
        operand = o;
        alternative = alt.0;
        is_there = record { is_operand = at; is_alternative = alt.1 };
        output = is_output_of m o c output;
        untied = none_unless alt.0.tied (λ x e. not_false w.0.output (tied_input m o a x alt.0 c alt.1 e).input output);
      }

  is_tie : (k a m : ℕ) (o : OperandIface) (alt : AltIface) → HasAlternative made k a o alt → alt.tied ≡ Some m → IsTie made k a m o alt
  is_tie k a m o alt h e =
      let c = comes_from k o h.is_operand in
      let t = tied_input k o a m alt c h.is_alternative e in
      let behind : n ≤ k = ltb-false k n (sym (g.read k c.from c.there).output ∙ t.input) in
      let inside : a < length o.alts = slice_get_within o.alts a alt h.is_alternative in
      let counted = count_of_alternatives k o h.is_operand in
      record {
        before = let below = t.below in omega (arith, behind, below);
        to = untied_output m a t.below (omega (arith, inside, counted));
        input_alone = is_input_of k o c t.input;
        not_early = false_unless_true alt.early (λ f. not_false c.from.output t.input (early_marked k o a alt c h.is_alternative f));
      }

  few_operands : length made.operands ≤ 30
  unfolding made_of
  few_operands = let counted = length-map ws (operand_of (alternative_count ws) (sizes_of ws)) in let few = g.few in omega (arith, counted, few)

  pub is_interface : IsInterface made
  is_interface = record {
    few = few_operands;
    counts = λ k j o q at_k at_j. count_of_alternatives k o at_k ∙ sym (count_of_alternatives j q at_j);
    ties = is_tie;
    early = λ k a o alt h e. let c = comes_from k o h.is_operand in is_output_of k o c (early_marked k o a alt c h.is_alternative e);
    numbers = λ k a o alt range h e. elim (case_here k a o alt (comes_from k o h.is_operand) h.is_alternative) [
      | inr f ↦ number_of_flag o alt range f e
      | inl p ↦ number_of_placed (comes_from k o h.is_operand).from o a alt range p e
    ];
    registers = λ k a o alt h. elim (case_here k a o alt (comes_from k o h.is_operand) h.is_alternative) [
      | inr f ↦ registers_of_flag o alt f
      | inl p ↦ registers_of_placed (comes_from k o h.is_operand).from o a alt p
    ];
  }
