-- Where no hole of a body is without a name, some placement by letters names each operand of it.
use Rattle.std.proofs.Common.{◌≡◌, ℕ, zero, suc, ◌/◌, ◌%◌, ◌==◌, ◌&&◌, ◌<◌, ◌≤◌, ◌^◌, not, pos, List, [], ◌∷◌, ◌++◌, map, Bool, true, false, cond, Option, None, Some, Result, Ok, Err, refl, ap, sym, subst, ◌∙◌, slice_get, eq-eqb, arith}
use Rattle.std.proofs.lemmas.Bool.{eqb-true}
use Rattle.std.proofs.lemmas.Bool.Decides.{nat_tests}
use Rattle.std.proofs.lemmas.Option.{slice_get_within}
use Rattle.std.proofs.lemmas.List.FromFn.{get_or-map-range_with_len}
use Rattle.std.specs.List.{range_with_len}
use Rattle.std.specs.Option.{option_and_then}
use Rattle.asm_core.specs.Reg.{IsIn}
use Rattle.asm_core.specs.Placement.{spot_of, HasOperand, tie_root}
use Rattle.asm_core.specs.WellFormed.{IsInterface}
use Rattle.asm_core.specs.Expansion.{name_of, register_text, printed, operand_text, with_origin, hole_text, piece_text, expansion_with}
use Rattle.asm_core.specs.Reading.Facts.{allows_byte_names, fixed_register, facts_from, alternative_at, facts_with, facts_of, slice_of, is_byte_slice, register_leaf, number_leaf, memory_leaf, leaf_by, leaf_of, atom_of}
use Rattle.asm_core.specs.Reading.UnderShape.{LettersFit, IsLettered, body_text, HasNames}
use Rattle.asm_core.proofs.ReadingLaws.HolesNamed.{is_nameless, is_named, are_named}
use Rattle.asm_core.proofs.ReadingLaws.OperandsBack.{root_is, root_untied}
use Rattle.asm_core.specs.declared.reg.Reg.{Reg}
use Rattle.asm_core.specs.declared.reg.Reg.TheVariants.{Eax, Ebx, Ecx, Edx}
use Rattle.asm_core.specs.declared.reg.RegSet.{RegSet}
use Rattle.asm_core.specs.declared.reg.Slice.{Slice}
use Rattle.asm_core.specs.declared.reg.Slice.TheVariants.{Low8, High8, Low16, All}
use Rattle.asm_core.specs.declared.piece.Modifier.{Modifier}
use Rattle.asm_core.specs.declared.piece.Piece.{Piece}
use Rattle.asm_core.specs.declared.placement.Spot.{Spot}
use Rattle.asm_core.specs.declared.placement.Placement.{Placement}
use Rattle.asm_core.specs.declared.shape.Kind.{Kind}
use Rattle.asm_core.specs.declared.shape.Shape.{Shape}
use Rattle.asm_core.specs.declared.interface.AltIface.{AltIface}
use Rattle.asm_core.specs.declared.interface.OperandIface.{OperandIface}
use Rattle.asm_core.specs.declared.interface.Interface.{Interface}
use Rattle.asm_core.specs.declared.reading.OperandFacts.{OperandFacts}
use Rattle.asm_core.specs.declared.reading.Sign.{Sign}

-- something is there
abbrev IsThere : {A : Type 0} → Option A → Type 0
IsThere {A} o = (a : A) × (o ≡ Some a)

both_true : (a b : Bool) → (a && b) ≡ true → b ≡ true
both_true true b h = h
both_true false b h = cc

first_true : (a b : Bool) → (a && b) ≡ true → a ≡ true
first_true true b h = refl
first_true false b h = cc

-- ---- a register with names for its bytes

-- the first of eax, ebx, ecx and edx that is in the set, edx where no other is
abbrev byte_register : RegSet → Reg
byte_register s = cond (s.0 % 2 == 1) Eax (cond (s.0 / 2 % 2 == 1) Ebx (cond (s.0 / 4 % 2 == 1) Ecx Edx))

-- where its letters allow a register that has names for its bytes, the operand is moved there
abbrev byte_spot : AltIface → Spot → Spot
byte_spot alt spot = cond (alt.regs.0 % 16 == 0) (cond alt.pair Spot.Pair spot) (Spot.Register (byte_register alt.regs))

odd_or : (n : ℕ) → (n % 2 == 1) ≡ false → n % 2 ≡ 0
odd_or n h = grind (arith, nat_tests)

bit_left : (n : ℕ) → n % 2 ≡ 0 → n / 2 % 2 ≡ 0 → n / 4 % 2 ≡ 0 → (n % 16 ≡ 0 → ⊥) → n / 2 ^ 3 % 2 ≡ 1
bit_left n a b c some = by (n / 8 % 2) refl (omega arith)
  where
    by : (m : ℕ) → n / 8 % 2 ≡ m → m < 2 → n / 2 ^ 3 % 2 ≡ 1
    by zero e h = absurd (some (omega arith))
    by (suc zero) e h = omega arith
    by (suc (suc m)) e h = absurd (omega arith)

byte_in : (s : RegSet) → (s.0 % 16 == 0) ≡ false → IsIn s (byte_register s)
byte_in s some = by (s.0 % 2 == 1) (s.0 / 2 % 2 == 1) (s.0 / 4 % 2 == 1) refl refl refl
  where
    by : (a b c : Bool) → (s.0 % 2 == 1) ≡ a → (s.0 / 2 % 2 == 1) ≡ b → (s.0 / 4 % 2 == 1) ≡ c → IsIn s (cond a Eax (cond b Ebx (cond c Ecx Edx)))
    by true b c ea eb ec = let one = eqb-true (s.0 % 2) 1 ea in omega arith
    by false true c ea eb ec = let one = eqb-true (s.0 / 2 % 2) 1 eb in omega arith
    by false false true ea eb ec = let one = eqb-true (s.0 / 4 % 2) 1 ec in omega arith
    by false false false ea eb ec =
        let x = odd_or s.0 ea in
        let y = odd_or (s.0 / 2) eb in
        let z = odd_or (s.0 / 4) ec in
        let n : s.0 % 16 ≡ 0 → ⊥ = λ e. (let no : true ≡ false = sym (eq-eqb (s.0 % 16) 0 e) ∙ some in cc) in
        bit_left s.0 x y z n

-- a byte name is there
byte_named : (s : RegSet) (slice : Slice) → IsThere (name_of (byte_register s) slice)
byte_named s slice = by (s.0 % 2 == 1) (s.0 / 2 % 2 == 1) (s.0 / 4 % 2 == 1) slice
  where
    by : (a b c : Bool) (slice : Slice) → IsThere (name_of (cond a Eax (cond b Ebx (cond c Ecx Edx))) slice)
    by true b c All = (_, refl)
    by true b c Low16 = (_, refl)
    by true b c Low8 = (_, refl)
    by true b c High8 = (_, refl)
    by false true c All = (_, refl)
    by false true c Low16 = (_, refl)
    by false true c Low8 = (_, refl)
    by false true c High8 = (_, refl)
    by false false true All = (_, refl)
    by false false true Low16 = (_, refl)
    by false false true Low8 = (_, refl)
    by false false true High8 = (_, refl)
    by false false false All = (_, refl)
    by false false false Low16 = (_, refl)
    by false false false Low8 = (_, refl)
    by false false false High8 = (_, refl)

eax_named : (slice : Slice) → IsThere (name_of Eax slice)
eax_named All = (_, refl)
eax_named Low16 = (_, refl)
eax_named Low8 = (_, refl)
eax_named High8 = (_, refl)

-- all registers have names for their words
word_named : (r : Reg) (slice : Slice) → is_byte_slice slice ≡ false → IsThere (name_of r slice)
word_named r All h = (_, refl)
word_named r Low16 h = (_, refl)
word_named r Low8 h = cc
word_named r High8 h = cc

-- ---- one operand, moved

-- where an operand is moved
abbrev moved : Option AltIface → Option Kind → Spot → Spot
moved (Some alt) (Some Kind.Register) spot = byte_spot alt spot
moved alt kind spot = spot

moved_fits : (o : OperandIface) (alt : AltIface) (kind : Kind) (spot : Spot) → LettersFit o alt kind spot → LettersFit o alt kind (moved (Some alt) (Some kind) spot)
moved_fits o alt Kind.Memory spot fits = fits
moved_fits o alt Kind.Number spot fits = fits
moved_fits o alt Kind.Register spot fits = by (alt.regs.0 % 16 == 0) alt.pair refl refl
  where
    by : (none pair : Bool) → (alt.regs.0 % 16 == 0) ≡ none → alt.pair ≡ pair → LettersFit o alt Kind.Register (cond none (cond pair Spot.Pair spot) (Spot.Register (byte_register alt.regs)))
    by true true e f = rw f refl
    by true false e f = fits
    by false pair e f = byte_in alt.regs e

text_there : (r : Reg) (slice : Slice) → IsThere (name_of r slice) → IsThere (register_text r (Some slice))
text_there r slice name = (37 ∷ name.0, rw name.1 refl)

-- a register of letters that allow none with names for its bytes prints its words alone
wide_prints : (o : OperandIface) (alt : AltIface) (size : ℕ) (m : Modifier) (slice : Slice) (spot : Spot) → slice_of size m ≡ Some slice → is_byte_slice slice ≡ false → LettersFit o alt Kind.Register spot
    → IsThere (printed size m spot)
wide_prints o alt size m slice (Spot.Register r) e wide fits = rw e (text_there r slice (word_named r slice wide))
wide_prints o alt size m slice Spot.Pair e wide fits = rw e (text_there Eax slice (word_named Eax slice wide))
wide_prints o alt size m slice (Spot.Memory f) e wide fits = absurd fits
wide_prints o alt size m slice (Spot.Number n) e wide fits = absurd fits

register_prints : (o : OperandIface) (alt : AltIface) (size : ℕ) (m : Modifier) (spot : Spot) (fact : OperandFacts) (slice : Option Slice) → slice_of size m ≡ slice → fact.has_byte_names ≡ allows_byte_names alt
    → LettersFit o alt Kind.Register spot → is_nameless (register_leaf fact slice) ≡ false → IsThere (printed size m (byte_spot alt spot))
register_prints o alt size m spot fact None e has fits named = cc
register_prints o alt size m spot fact (Some slice) e has fits named = by (alt.regs.0 % 16 == 0) alt.pair refl refl
  where
    wide : (b c : Bool) → (alt.regs.0 % 16 == 0) ≡ true → alt.pair ≡ false → is_byte_slice slice ≡ b → fact.has_byte_names ≡ c → is_byte_slice slice ≡ false
    wide false c none pair eb ec = eb
    wide true c none pair eb ec =
        let lacks : fact.has_byte_names ≡ false = rw (has, none, pair) refl in
        let no : true ≡ false = rw (eb, lacks) at named in
        cc

    by : (none pair : Bool) → (alt.regs.0 % 16 == 0) ≡ none → alt.pair ≡ pair → IsThere (printed size m (cond none (cond pair Spot.Pair spot) (Spot.Register (byte_register alt.regs))))
    by false pair en ep = rw e (text_there (byte_register alt.regs) slice (byte_named alt.regs slice))
    by true true en ep = rw e (text_there Eax slice (eax_named slice))
    by true false en ep = wide_prints o alt size m slice spot e (wide (is_byte_slice slice) fact.has_byte_names en ep refl refl) fits

number_prints : (o : OperandIface) (alt : AltIface) (size : ℕ) (m : Modifier) (spot : Spot) (fact : OperandFacts) → LettersFit o alt Kind.Number spot → is_nameless (number_leaf fact m) ≡ false → IsThere (printed size m spot)
number_prints o alt size Modifier.H (Spot.Number n) fact fits named = cc
number_prints o alt size Modifier.C (Spot.Number n) fact fits named = (_, refl)
number_prints o alt size Modifier.Plain (Spot.Number n) fact fits named = (_, refl)
number_prints o alt size Modifier.B (Spot.Number n) fact fits named = (_, refl)
number_prints o alt size Modifier.W (Spot.Number n) fact fits named = (_, refl)
number_prints o alt size Modifier.K (Spot.Number n) fact fits named = (_, refl)
number_prints o alt size m (Spot.Register r) fact fits named = absurd fits
number_prints o alt size m Spot.Pair fact fits named = absurd fits
number_prints o alt size m (Spot.Memory f) fact fits named = absurd fits

memory_prints : (o : OperandIface) (alt : AltIface) (size : ℕ) (m : Modifier) (spot : Spot) (fact : OperandFacts) → LettersFit o alt Kind.Memory spot → is_nameless (memory_leaf fact m) ≡ false → IsThere (printed size m spot)
memory_prints o alt size Modifier.H (Spot.Memory f) fact fits named = cc
memory_prints o alt size Modifier.C (Spot.Memory f) fact fits named = cc
memory_prints o alt size Modifier.Plain (Spot.Memory f) fact fits named = (_, refl)
memory_prints o alt size Modifier.B (Spot.Memory f) fact fits named = (_, refl)
memory_prints o alt size Modifier.W (Spot.Memory f) fact fits named = (_, refl)
memory_prints o alt size Modifier.K (Spot.Memory f) fact fits named = (_, refl)
memory_prints o alt size m (Spot.Register r) fact fits named = absurd fits
memory_prints o alt size m Spot.Pair fact fits named = absurd fits
memory_prints o alt size m (Spot.Number n) fact fits named = absurd fits

-- where the leaf has a name, the moved operand prints
moved_prints : (o : OperandIface) (alt : AltIface) (kind : Kind) (m : Modifier) (spot : Spot) (fact : OperandFacts) → fact.kind ≡ kind → fact.has_byte_names ≡ allows_byte_names alt → LettersFit o alt kind spot
    → is_nameless (leaf_of (Some fact) m) ≡ false → IsThere (printed fact.size m (moved (Some alt) (Some kind) spot))
moved_prints o alt Kind.Register m spot fact e has fits named =
    register_prints o alt fact.size m spot fact (slice_of fact.size m) refl has fits (subst (λ k. is_nameless (leaf_by k fact m) ≡ false) e named)
moved_prints o alt Kind.Number m spot fact e has fits named = number_prints o alt fact.size m spot fact fits (subst (λ k. is_nameless (leaf_by k fact m) ≡ false) e named)
moved_prints o alt Kind.Memory m spot fact e has fits named = memory_prints o alt fact.size m spot fact fits (subst (λ k. is_nameless (leaf_by k fact m) ≡ false) e named)

-- ---- all operands, moved

not_true : (b : Bool) → not b ≡ true → b ≡ false
not_true true h = cc
not_true false h = refl

hole_given : (k : ℕ) (o : Option (List ℕ)) → IsThere o → (text : List Sign) × (elim (hole_text false o) as (λ _. Result (List Sign) ℕ) [ None ↦ Err k | Some t ↦ Ok (with_origin (suc k) t) ] ≡ Ok text)
hole_given k None h = let no : None ≡ Some h.0 = h.1 in cc
hole_given k (Some t) h = (_, refl)

module _ (i : Interface) (s : Shape) (is : IsInterface i) where
  abbrev root : ℕ → ℕ
  root k = tie_root i s k

  outside_root : (k : ℕ) → slice_get i.operands k ≡ None → root k ≡ k
  outside_root k e = rw e refl

  -- an operand's root is its own, and not behind it
  record IsRooted (k : ℕ) : Type 0 where
    same : root (root k) ≡ root k
    before : root k ≤ k

  itself : (k : ℕ) → root k ≡ k → IsRooted k
  itself k e = record { same = ap (tie_root i s) e; before = omega (arith, e) }

  rooted_tie : (k : ℕ) (o : OperandIface) (alt : AltIface) → slice_get i.operands k ≡ Some o → slice_get o.alts s.alternative ≡ Some alt → (tied : Option ℕ) → alt.tied ≡ tied → IsRooted k
  rooted_tie k o alt there f None e = itself k (root_is i s k o (Some alt) there f ∙ rw e refl)
  rooted_tie k o alt there f (Some output) e =
      let own : root k ≡ output = root_is i s k o (Some alt) there f ∙ rw e refl in
      let tie = is.ties k s.alternative output o alt (record { is_operand = there; is_alternative = f }) e in
      let to = tie.to in
      let stays : root output ≡ output = root_is i s output to.operand (Some to.alternative) to.is_there.is_operand to.is_there.is_alternative ∙ rw to.untied refl in
      let before = tie.before in
      record { same = ap (tie_root i s) own ∙ stays ∙ sym own; before = omega (arith, own, before) }

  rooted_at : (k : ℕ) (o : OperandIface) → slice_get i.operands k ≡ Some o → (found : Option AltIface) → slice_get o.alts s.alternative ≡ found → IsRooted k
  rooted_at k o there None f = itself k (root_is i s k o None there f)
  rooted_at k o there (Some alt) f = rooted_tie k o alt there f alt.tied refl

  module _ (q : Placement) (lettered : IsLettered i s q) where
    abbrev spot_at : ℕ → Spot
    spot_at m = moved (alternative_at (slice_get i.operands m) s.alternative) (slice_get s.kinds m) (spot_of q m)

    -- each operand where its root is moved
    abbrev moved_placement : Placement
    moved_placement = record { spots = map (λ k. spot_at (root k)) (range_with_len 0 30); count = q.count }

    moved_at : (k : ℕ) → k < 30 → spot_of moved_placement k ≡ spot_at (root k)
    moved_at k below = get_or-map-range_with_len (λ k. spot_at (root k)) 0 30 k k (Spot.Number (pos 0)) below (omega arith)

    there_below : (k : ℕ) (o : OperandIface) → slice_get i.operands k ≡ Some o → k < 30
    there_below k o there = let low = slice_get_within i.operands k o there in omega (arith, is.few, low)

    moved_ties : (k : ℕ) → spot_of moved_placement k ≡ spot_of moved_placement (root k)
    moved_ties k = by (slice_get i.operands k) refl
      where
        by : (o : Option OperandIface) → slice_get i.operands k ≡ o → spot_of moved_placement k ≡ spot_of moved_placement (root k)
        by None e = ap (spot_of moved_placement) (sym (outside_root k e))
        by (Some o) e =
            let r = rooted_at k o e (slice_get o.alts s.alternative) refl in
            let low = there_below k o e in
            moved_at k low ∙ ap spot_at (sym r.same) ∙ sym (moved_at (root k) (omega (arith, r.before, low)))

    moved_letters : (k : ℕ) (o : OperandIface) (alt : AltIface) (kind : Kind) → HasOperand i s k o alt kind → alt.tied ≡ None → LettersFit o alt kind (spot_of moved_placement k)
    moved_letters k o alt kind has untied =
        let own : root k ≡ k = root_is i s k o (Some alt) has.is_operand has.is_alternative ∙ rw untied refl in
        let there : spot_at k ≡ moved (Some alt) (Some kind) (spot_of q k) = rw (has.is_operand, has.is_alternative, has.is_kind) refl in
        let spot = moved_at k (there_below k o has.is_operand) ∙ ap spot_at own ∙ there in
        subst (LettersFit o alt kind) (sym spot) (moved_fits o alt kind (spot_of q k) (lettered.fits k o alt kind has untied))

    moved_lettered : IsLettered i s moved_placement
    moved_lettered = record { count = lettered.count; fits = moved_letters; ties = moved_ties }

    root_prints : (k : ℕ) (m : Modifier) (o : OperandIface) → slice_get i.operands k ≡ Some o → (ro : Option OperandIface) (ra : Option AltIface) (kind : Option Kind)
        → slice_get i.operands (root k) ≡ ro → alternative_at ro s.alternative ≡ ra → slice_get s.kinds (root k) ≡ kind
        → is_nameless (leaf_of (facts_from o.size (root k) ro ra kind) m) ≡ false → IsThere (printed o.size m (moved ra kind (spot_of q (root k))))
    root_prints k m o there None ra kind eo ea ek named = cc
    root_prints k m o there (Some ro) None kind eo ea ek named = cc
    root_prints k m o there (Some ro) (Some alt) None eo ea ek named = cc
    root_prints k m o there (Some ro) (Some alt) (Some kind) eo ea ek named =
        moved_prints ro alt kind m (spot_of q (root k)) (record { kind = kind; size = o.size; known = ro.known; fixed = fixed_register alt; has_byte_names = allows_byte_names alt; root = root k }) refl refl
        (lettered.fits (root k) ro alt kind (record { is_operand = eo; is_alternative = ea; is_kind = ek }) (root_untied i s is k o there ro alt eo ea)) named

    operand_named : (k : ℕ) (m : Modifier) (o : Option OperandIface) → slice_get i.operands k ≡ o → is_nameless (leaf_of (facts_with i s (root k) o) m) ≡ false
        → IsThere (option_and_then (λ (o : OperandIface). printed o.size m (spot_of moved_placement k)) o)
    operand_named k m None e named = cc
    operand_named k m (Some o) e named =
        let prints = root_prints k m o e (slice_get i.operands (root k)) (alternative_at (slice_get i.operands (root k)) s.alternative) (slice_get s.kinds (root k)) refl refl refl named in
        subst (λ spot. IsThere (printed o.size m spot)) (sym (moved_at k (there_below k o e))) prints

    hole_named : (k : ℕ) (m : Modifier) → is_nameless (leaf_of (facts_of i s k) m) ≡ false → IsThere (operand_text i moved_placement k m)
    unfolding facts_of
    hole_named k m named = operand_named k m (slice_get i.operands k) refl named

    piece_there : (x : Piece) → is_named (atom_of (facts_of i s) x) ≡ true → (text : List Sign) × (piece_text i moved_placement 0 false x ≡ Ok text)
    piece_there (Piece.Byte b at) named = (_, refl)
    piece_there (Piece.Unique at) named = (_, refl)
    piece_there (Piece.Hole k m at) named = hole_given k (operand_text i moved_placement k m) (hole_named k m (not_true (is_nameless (leaf_of (facts_of i s k) m)) named))

    text_of : (body : List Piece) → are_named (map (atom_of (facts_of i s)) body) ≡ true → (text : List Sign) × (body_text i moved_placement 0 body ≡ Ok text)
    unfolding expansion_with
    text_of [] named = ([], refl)
    text_of (x ∷ xs) named =
        let first = piece_there x (first_true (is_named (atom_of (facts_of i s) x)) _ named) in
        let rest = text_of xs (both_true (is_named (atom_of (facts_of i s) x)) _ named) in
        (first.0 ++ rest.0, rw (first.1, rest.1) refl)

    -- a placement that names each operand of the body
    pub names_there : (body : List Piece) → are_named (map (atom_of (facts_of i s)) body) ≡ true → HasNames i s body
    names_there body named = let t = text_of body named in record { placement = moved_placement; is_lettered = moved_lettered; text = t.0; is_text = t.1 }
