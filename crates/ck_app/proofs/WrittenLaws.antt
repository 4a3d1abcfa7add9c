-- What operands that are written alone, and inputs that are tied to them, are in the interface of their statement.
use Rattle.std.proofs.Common.{◌≡◌, ◌⊎◌, inl, inr, ℕ, zero, suc, ◌+◌, ◌==◌, ◌≤◌, ◌<◌, ◌||◌, ◌&&◌, nat_lt, not, List, [], ◌∷◌, ◌++◌, length, Bool, true, false, cond, Option, None, Some, is_some, slice_get, get_or, if◌then◌else◌, refl, sym, ap, subst, ◌∙◌, zero-add, arith}
use Rattle.std.specs.List.{list_any, count_by, enumerate_from}
use Rattle.std.proofs.lemmas.Bool.{and_parts, or_left, both_ways, false_from_ne_true, ltb-false, eqb-true}
use Rattle.std.proofs.lemmas.List.Folds.{list_any_at}
use Rattle.std.proofs.lemmas.List.FromFn.{length-enumerate_from, get_or-enumerate_from}
use Rattle.std.proofs.lemmas.List.Sums.{sum_by-cons}
use Rattle.std.proofs.lemmas.Option.{slice_get_within, get_or_from_slice_get}
use Rattle.asm_core.specs.Lists.{count_from, optional_at, IsMember}
use Rattle.asm_core.specs.Shape.{letter_kinds}
use Rattle.asm_core.specs.Constraint.{alternatives_unless_flag, flag_of, constrained_output, constrained_input, constrained_operand, constrained_from}
use Rattle.asm_core.specs.Size.{is_letter_for, alternative_at, ties_to, alternative_allows, is_tied_input, is_output_alone, has_tied_input, lets_write_alone, may_be_written_alone, is_wide_output, is_broken_pair, is_broken_word, is_ambiguous, is_out_of_range, is_mismatched, is_sized_outside, is_operand_outside, sizes_of}
use Rattle.asm_core.specs.Malformed.{is_tie, has_other, has_second_sign, says_nothing, has_two_ties, is_constraint_outside, alternative_count}
use Rattle.asm_core.specs.Interface.{tie_of, alternative_of, flag_alternative, size_or_zero, known_in, flag_operand, placed_operand, operand_of}
use Rattle.asm_core.specs.declared.cond.Cond.{Cond}
use Rattle.asm_core.specs.declared.shape.Kind.{Kind}
use Rattle.asm_core.specs.declared.shape.Shape.{Shape}
use Rattle.asm_core.specs.declared.operand.Operand.{Operand}
use Rattle.asm_core.specs.declared.statement.Part.{Part}
use Rattle.asm_core.specs.declared.interface.AltIface.{AltIface}
use Rattle.asm_core.specs.declared.interface.OperandIface.{OperandIface}
use Rattle.asm_core.specs.declared.constraint.Symbol.{Symbol}
use Rattle.asm_core.specs.declared.constraint.Symbol.TheVariants as symbols
use Rattle.asm_core.specs.declared.constraint.ConstrainedOperand.{ConstrainedOperand}
use Rattle.asm_constraints.proofs.ListLemmas.{any-false, slice_get-replicate, slice_get_mapped, false_left, false_right}
use Rattle.asm_constraints.proofs.ReadLemmas.{IsRead}
use Rattle.blk_deps.specs.Operands.{in_memory}

-- ---- lists

module _ {A : Type 0} where
  any_agree : (p q : A → Bool) → ((x : A) → p x ≡ q x) → (xs : List A) → list_any p xs ≡ list_any q xs
  any_agree p q same [] = refl
  any_agree p q same (x ∷ xs) = rw (same x, any_agree p q same xs) refl

  any_enumerated : (p : ℕ × A → Bool) (n : ℕ) (xs : List A) (a : ℕ) (x : A) → slice_get xs a ≡ Some x
      → p (n + a, x) ≡ true → list_any p (enumerate_from n xs) ≡ true
  any_enumerated p n xs a x at h =
      let inside = slice_get_within xs a x at in
      let long = length-enumerate_from n xs in
      let below : a < length (enumerate_from n xs) = omega (arith, inside, long) in
      let same : (n + a, get_or xs a x) ≡ (n + a, x) = ap (λ y. (n + a, y)) (get_or_from_slice_get xs a x x at) in
      list_any_at p (enumerate_from n xs) a (n + a, x) below
      (ap p (get_or-enumerate_from n xs a (n + a, x) inside ∙ same) ∙ h)

  pub counted_at : (xs : List A) (m k : ℕ) → k < length xs → slice_get (count_from m xs) k ≡ Some (m + k)
  counted_at [] m k lt = absurd (omega arith)
  counted_at (x ∷ xs) m zero lt = ap Some (omega arith)
  counted_at (x ∷ xs) m (suc k) lt = counted_at xs (m + 1) k (omega arith) ∙ ap Some (omega arith)

-- ---- ties

-- without a tie there is none to an operand
no_tie : (k : ℕ) (ss : List Symbol) → count_by is_tie ss ≤ 0 → list_any (ties_to k) ss ≡ false
no_tie k [] le = refl
no_tie k (symbols.Letter letter ∷ ss) le = let c = sum_by-cons (λ x. cond (is_tie x) 1 0) (symbols.Letter letter) ss in
    no_tie k ss (omega (arith, c, le))
no_tie k (symbols.Early ∷ ss) le = let c = sum_by-cons (λ x. cond (is_tie x) 1 0) symbols.Early ss in
    no_tie k ss (omega (arith, c, le))
no_tie k (symbols.Tie output ∷ ss) le = let c = sum_by-cons (λ x. cond (is_tie x) 1 0) (symbols.Tie output) ss in
    absurd (omega (arith, c, le))
no_tie k (symbols.Sign ∷ ss) le = let c = sum_by-cons (λ x. cond (is_tie x) 1 0) symbols.Sign ss in
    no_tie k ss (omega (arith, c, le))
no_tie k (symbols.Other ∷ ss) le = let c = sum_by-cons (λ x. cond (is_tie x) 1 0) symbols.Other ss in
    no_tie k ss (omega (arith, c, le))

-- a lone tie that names an operand is the one that is looked at
tie_is : (k : ℕ) (ss : List Symbol) → count_by is_tie ss ≤ 1 → list_any (ties_to k) ss ≡ true → tie_of ss ≡ Some k
unfolding tie_of
tie_is k [] le h = cc
tie_is k (symbols.Letter letter ∷ ss) le h =
    let c = sum_by-cons (λ x. cond (is_tie x) 1 0) (symbols.Letter letter) ss in tie_is k ss (omega (arith, c, le)) h
tie_is k (symbols.Early ∷ ss) le h = let c = sum_by-cons (λ x. cond (is_tie x) 1 0) symbols.Early ss in
    tie_is k ss (omega (arith, c, le)) h
tie_is k (symbols.Tie None ∷ ss) le h = let c = sum_by-cons (λ x. cond (is_tie x) 1 0) (symbols.Tie None) ss in
    tie_is k ss (omega (arith, c, le)) h
tie_is k (symbols.Tie (Some m) ∷ ss) le h = by (m == k) refl h
  where
    by : (b : Bool) → (m == k) ≡ b → (b || list_any (ties_to k) ss) ≡ true → Some m ≡ Some k
    by true e h = ap Some (eqb-true m k e)
    by false e h =
        let c = sum_by-cons (λ x. cond (is_tie x) 1 0) (symbols.Tie (Some m)) ss in
        absurd (both_ways (list_any (ties_to k) ss) (no_tie k ss (omega (arith, c, le))) h)
tie_is k (symbols.Sign ∷ ss) le h = let c = sum_by-cons (λ x. cond (is_tie x) 1 0) symbols.Sign ss in
    tie_is k ss (omega (arith, c, le)) h
tie_is k (symbols.Other ∷ ss) le h = let c = sum_by-cons (λ x. cond (is_tie x) 1 0) symbols.Other ss in
    tie_is k ss (omega (arith, c, le)) h

-- ---- letters

-- a letter allows memory to outputs as to inputs
memory_letter : (output : Bool) (s : Symbol) → is_letter_for output Kind.Memory s ≡ is_letter_for true Kind.Memory s
memory_letter true s = refl
memory_letter false (symbols.Letter letter) = refl
memory_letter false symbols.Early = refl
memory_letter false (symbols.Tie number) = refl
memory_letter false symbols.Sign = refl
memory_letter false symbols.Other = refl

abbrev kinds_if : Bool → Kind → List Kind
kinds_if b kind = if b then kind ∷ [] else []

among_kinds : (a b c : Bool)
    → IsMember Kind.Memory (kinds_if a Kind.Register ++ kinds_if b Kind.Memory ++ kinds_if c Kind.Number) → b ≡ true
among_kinds a true c m = refl
among_kinds true false true m = elim m [ inl e ↦ cc | inr r ↦ elim r [ inl e ↦ cc | inr z ↦ absurd z ] ]
among_kinds true false false m = elim m [ inl e ↦ cc | inr z ↦ absurd z ]
among_kinds false false true m = elim m [ inl e ↦ cc | inr z ↦ absurd z ]
among_kinds false false false m = absurd m

pub memory_among : (alt : AltIface) → IsMember Kind.Memory (letter_kinds alt) → alt.mem ≡ true
memory_among alt m = among_kinds (alt.pair || not (alt.regs.0 == 0)) alt.mem (is_some alt.numbers) m

pub memory_kind : (s : Shape) (k : ℕ) (kind : Kind) → slice_get s.kinds k ≡ Some kind → in_memory s k ≡ true
    → kind ≡ Kind.Memory
memory_kind s k Kind.Register e h = let wrong : false ≡ true = rw e at h in cc
memory_kind s k Kind.Memory e h = refl
memory_kind s k Kind.Number e h = let wrong : false ≡ true = rw e at h in cc

-- ---- flag outputs

-- they have no alternatives of their own
flag_output : (flag : Option Cond) (alternatives : List (List Symbol)) → is_some flag ≡ true
    → alternatives_unless_flag flag alternatives ≡ []
flag_output None alternatives e = cc
flag_output (Some condition) alternatives e = refl

pub flag_alone : (outputs : List (Option (List ℕ))) (types : List (Option Operand)) (first : ℕ) (parts : List Part)
    (k : ℕ) (w : ConstrainedOperand) → slice_get (constrained_from outputs types first parts) k ≡ Some w
    → is_some w.flag ≡ true → w.alternatives ≡ []
unfolding constrained_from constrained_operand
flag_alone outputs types first [] k w at e = cc
flag_alone outputs types first (p ∷ ps) (suc k) w at e = flag_alone outputs types (first + 1) ps k w at e
flag_alone outputs types first (p ∷ ps) zero w at e =
    let same : constrained_operand outputs first p (optional_at types first) ≡ w = cc in
    subst (λ (x : ConstrainedOperand). is_some x.flag ≡ true → x.alternatives ≡ []) same
    (by (nat_lt first (length outputs))) e
  where
    by : (b : Bool) → (let x = if b then constrained_output outputs first p
        (optional_at types first) else constrained_input outputs first p (optional_at types first) in
        is_some x.flag ≡ true → x.alternatives ≡ [])
    by true f = flag_output (flag_of p.constraint.bytes) _ f
    by false f = cc

-- ---- sizes

-- what an operand keeps of a statement with n outputs that lies in the tables
pub record IsTold (n : ℕ) (ws : List ConstrainedOperand) (k : ℕ) (w : ConstrainedOperand) : Type 0 where
  pub read : IsRead n k w
  pub flag : is_some w.flag ≡ true → w.alternatives ≡ []
  pub size : is_operand_outside ws (sizes_of ws) w ≡ false
  pub constraint : is_constraint_outside ws w ≡ false

not_wide : (ws : List ConstrainedOperand) (w : ConstrainedOperand) (size : ℕ) → is_wide_output ws w size ≡ false
    → is_output_alone w.role ≡ true → may_be_written_alone ws w ≡ true → size ≤ 64
unfolding is_wide_output
not_wide ws w size narrow alone written =
    ltb-false 64 size (false_from_ne_true (nat_lt 64 size)
    (λ wide. both_ways (nat_lt 64 size && (is_output_alone w.role && may_be_written_alone ws w)) narrow
    (rw (wide, alone, written) refl)))

small_sized : (ws : List ConstrainedOperand) (sizes : List (Option ℕ)) (w : ConstrainedOperand) (size : Option ℕ)
    → is_sized_outside ws sizes w size ≡ false → is_output_alone w.role ≡ true
    → may_be_written_alone ws w ≡ true → size_or_zero size ≤ 64
small_sized ws sizes w None inside alone written = cc
small_sized ws sizes w (Some size) inside alone written =
    let behind_pair = false_right (is_broken_pair w size) _ inside in
    let behind_word = false_right (is_broken_word w size) _ behind_pair in
    let behind_ambiguous = false_right (is_ambiguous ws w) _ behind_word in
    let behind_range = false_right (is_out_of_range size) _ behind_ambiguous in
    not_wide ws w size (false_left (is_wide_output ws w size)
    (is_mismatched ws sizes w size) behind_range) alone written

pub small_operand : (ws : List ConstrainedOperand) (w : ConstrainedOperand)
    → is_operand_outside ws (sizes_of ws) w ≡ false → is_output_alone w.role ≡ true → may_be_written_alone ws w ≡ true
    → size_or_zero (optional_at (sizes_of ws) w.number) ≤ 64
unfolding is_operand_outside
small_operand ws w inside alone written = small_sized ws (sizes_of ws) w
    (optional_at (sizes_of ws) w.number) inside alone written

one_tie : (ws : List ConstrainedOperand) (w : ConstrainedOperand) (a : ℕ) (alternative : List Symbol)
    → is_constraint_outside ws w ≡ false → slice_get w.alternatives a ≡ Some alternative
    → count_by is_tie alternative ≤ 1
unfolding is_constraint_outside
one_tie ws w a alternative inside at =
    let behind_other = false_right (has_other w) _ inside in
    let behind_sign = false_right (has_second_sign w) _ behind_other in
    let behind_nothing = false_right (list_any says_nothing w.alternatives) _ behind_sign in
    ltb-false 1 (count_by is_tie alternative)
    (any-false has_two_ties w.alternatives a alternative
    (false_left (list_any has_two_ties w.alternatives) _ behind_nothing) at)

module _ (n : ℕ) (ws : List ConstrainedOperand) where
  abbrev pub operand : ConstrainedOperand → OperandIface
  operand w = operand_of (alternative_count ws) (sizes_of ws) w

  role_by : (b : Bool) (count size : ℕ) (w : ConstrainedOperand)
      → (if b then flag_operand count size w else placed_operand size w).role ≡ w.role
  role_by true count size w = refl
  role_by false count size w = refl

  pub role_is : (w : ConstrainedOperand) → (operand w).role ≡ w.role
  unfolding operand_of
  role_is w = role_by (is_some w.flag) (alternative_count ws) (size_or_zero (optional_at (sizes_of ws) w.number)) w

  size_by : (b : Bool) (count size : ℕ) (w : ConstrainedOperand)
      → (if b then flag_operand count size w else placed_operand size w).size ≡ size
  size_by true count size w = refl
  size_by false count size w = refl

  pub size_is : (w : ConstrainedOperand) → (operand w).size ≡ size_or_zero (optional_at (sizes_of ws) w.number)
  unfolding operand_of
  size_is w = size_by (is_some w.flag) (alternative_count ws) (size_or_zero (optional_at (sizes_of ws) w.number)) w

  -- ---- alternatives

  -- the symbols that an alternative is made of
  pub record HasSymbols (w : ConstrainedOperand) (a : ℕ) (alt : AltIface) : Type 0 where
    pub size : ℕ
    pub symbols : List Symbol
    pub there : slice_get w.alternatives a ≡ Some symbols
    pub is : alt ≡ alternative_of w.output size (known_in w.typed) symbols

  symbols_by : (b : Bool) (count size : ℕ) (w : ConstrainedOperand) (a : ℕ) (alt : AltIface)
      → slice_get (if b then flag_operand count size w else placed_operand size w).alts a ≡ Some alt
      → (alt ≡ flag_alternative) × (b ≡ true) ⊎ HasSymbols w a alt
  symbols_by true count size w a alt at = inl (slice_get-replicate count a flag_alternative alt at, refl)
  symbols_by false count size w a alt at =
      let of = slice_get_mapped (alternative_of w.output size (known_in w.typed)) w.alternatives a alt at in
      inr (record { size = size; symbols = of.0; there = of.1; is = of.2 })

  symbols_of : (w : ConstrainedOperand) (a : ℕ) (alt : AltIface) → slice_get (operand w).alts a ≡ Some alt
      → ((alt ≡ flag_alternative) × (is_some w.flag ≡ true)) ⊎ HasSymbols w a alt
  unfolding operand_of
  symbols_of w a alt at = symbols_by (is_some w.flag) (alternative_count ws)
      (size_or_zero (optional_at (sizes_of ws) w.number)) w a alt at

  memory_of : (w : ConstrainedOperand) (a : ℕ) (alt : AltIface) (h : HasSymbols w a alt) → alt.mem ≡ true
      → list_any (is_letter_for true Kind.Memory) h.symbols ≡ true
  unfolding alternative_of
  memory_of w a alt h e =
      sym (any_agree (is_letter_for w.output Kind.Memory) (is_letter_for true Kind.Memory)
      (memory_letter w.output) h.symbols) ∙ (sym (ap (λ (x : AltIface). x.mem) h.is) ∙ e)

  tie_by : (w : ConstrainedOperand) (a : ℕ) (alt : AltIface) (h : HasSymbols w a alt) → alt.tied ≡ tie_of h.symbols
  unfolding alternative_of
  tie_by w a alt h = ap (λ (x : AltIface). x.tied) h.is

  allowed_alone : (a : ℕ) (symbols : List Symbol) → list_any (is_letter_for true Kind.Memory) symbols ≡ true
      → alternative_allows ws true Kind.Memory a symbols ≡ true
  unfolding alternative_allows
  allowed_alone a symbols e = or_left (list_any (is_letter_for true Kind.Memory) symbols) _ e

  written_with : (w : ConstrainedOperand) (a : ℕ) (alt : AltIface) → HasSymbols w a alt → alt.mem ≡ true
      → has_tied_input ws w.number a ≡ false → may_be_written_alone ws w ≡ true
  unfolding may_be_written_alone
  written_with w a alt h e none =
      any_enumerated (λ (x : ℕ × List Symbol). lets_write_alone ws w.number x.0 x.1) 0 w.alternatives a
      h.symbols h.there
      (subst (λ m. lets_write_alone ws w.number m h.symbols ≡ true) (sym (zero-add a))
      (rw (allowed_alone a h.symbols (memory_of w a alt h e), none) refl))

  -- memory is written alone where no input is tied to it
  pub written_alone : (w : ConstrainedOperand) (a : ℕ) (alt : AltIface) → slice_get (operand w).alts a ≡ Some alt
      → alt.mem ≡ true → has_tied_input ws w.number a ≡ false → may_be_written_alone ws w ≡ true
  written_alone w a alt at e none = elim (symbols_of w a alt at) [
    | inl f ↦ absurd (both_ways alt.mem (ap (λ (x : AltIface). x.mem) f.0) e)
    | inr h ↦ written_with w a alt h e none
  ]

  no_alternative : (a k : ℕ) (alternatives : List (List Symbol)) → alternatives ≡ [] → (v : ConstrainedOperand)
      → v.alternatives ≡ alternatives → list_any (ties_to k) (alternative_at v a) ≡ false
  no_alternative a k alternatives none v is = rw (is, none) refl

  -- the tie of a tied input
  pub tied_to : (j k a : ℕ) (v : ConstrainedOperand) (alt : AltIface) → IsTold n ws j v
      → slice_get (operand v).alts a ≡ Some alt → is_tied_input k a v ≡ true → alt.tied ≡ Some k
  tied_to j k a v alt told at e = elim (symbols_of v a alt at) [
    | inl f ↦ absurd (both_ways (list_any (ties_to k) (alternative_at v a))
        (no_alternative a k v.alternatives (told.flag f.1) v refl) ((and_parts (not v.output) _ e).1))
    | inr h ↦
        let ties : list_any (ties_to k) (alternative_at v a) ≡ true = (and_parts (not v.output) _ e).1 in
        let named : list_any (ties_to k) h.symbols ≡ true = rw h.there at ties in
        tie_by v a alt h ∙ tie_is k h.symbols (one_tie ws v a h.symbols told.constraint h.there) named
  ]
