-- What an operand's text is read as, is what its hole stands for under the placement.
use Rattle.std.proofs.Common.{◌≡◌, ℕ, zero, suc, ◌/◌, ◌%◌, ◌==◌, ◌&&◌, ◌||◌, ◌<◌, ◌^◌, not, is_some, ℤ, List, ◌∷◌, drop, Bool, true, false, cond, IsTrue, Option, None, Some, refl, ap, sym, subst, ◌∙◌, slice_get, arith}
use Rattle.std.proofs.lemmas.Bool.{eqb-true, ne_eqb}
use Rattle.std.proofs.lemmas.Int.{ints}
use Rattle.std.proofs.lemmas.Option.{slice_get_within}
use Rattle.std.specs.Fmt.{signed_decimal}
use Rattle.std.specs.Option.{option_map, option_and_then}
use Rattle.asm_core.specs.Reg.{IsIn, reg_number}
use Rattle.asm_core.specs.Placement.{spot_of, HasOperand, tie_root}
use Rattle.asm_core.specs.Placement as placement
use Rattle.asm_core.specs.WellFormed.{HasNumber, IsInterface}
use Rattle.asm_core.specs.Reading.Written.{register_named}
use Rattle.asm_core.specs.Reading.Facts.{only_register, fixed_register, allows_byte_names, facts_from, alternative_at, facts_with, facts_of, slice_of, is_byte_slice, place_of, is_fixed_cl, register_leaf, disp_of, number_leaf, memory_leaf, leaf_by, leaf_of}
use Rattle.asm_core.specs.Reading.Text.{read_register, read_number, form_read, read_by, leaf_read}
use Rattle.asm_core.specs.Reading.UnderShape.{LettersFit, IsLettered}
use Rattle.asm_core.specs.Reading.Placed.{placed_place, placed_disp, spot_place, spot_disp, IsWordNumber}
use Rattle.asm_core.specs.Expansion.{name_of, register_text, number_text, form_text, memory_text, printed, operand_text}
use Rattle.asm_core.proofs.ReadingLaws.OperandsPlaced.{placed_leaf}
use Rattle.asm_core.proofs.ReadingLaws.ReadBack.{register_back, number_back, form_back, signed_first}
use Rattle.asm_core.specs.declared.reg.Reg.{Reg}
use Rattle.asm_core.specs.declared.reg.Reg.TheVariants.{Eax, Ebx, Ecx, Edx, Esi, Edi, Ebp}
use Rattle.asm_core.specs.declared.reg.RegSet.{RegSet}
use Rattle.asm_core.specs.declared.reg.Slice.{Slice}
use Rattle.asm_core.specs.declared.reg.Slice.TheVariants.{Low8, High8, Low16, All}
use Rattle.asm_core.specs.declared.sym.Place.{Place}
use Rattle.asm_core.specs.declared.sym.Disp.{Disp}
use Rattle.asm_core.specs.declared.piece.Modifier.{Modifier}
use Rattle.asm_core.specs.declared.placement.Form.{Form}
use Rattle.asm_core.specs.declared.placement.Spot.{Spot}
use Rattle.asm_core.specs.declared.placement.Placement.{Placement}
use Rattle.asm_core.specs.declared.shape.Kind.{Kind}
use Rattle.asm_core.specs.declared.shape.Shape.{Shape}
use Rattle.asm_core.specs.declared.interface.AltIface.{AltIface}
use Rattle.asm_core.specs.declared.interface.OperandIface.{OperandIface}
use Rattle.asm_core.specs.declared.interface.Interface.{Interface}
use Rattle.asm_core.specs.declared.reading.OperandFacts.{OperandFacts}
use Rattle.asm_core.specs.declared.reading.Leaf.{Leaf}

-- the one register, where there is one, is that
abbrev pub IsFixed : Option Reg → Reg → Type 0
IsFixed None r = Unit {0}
IsFixed (Some q) r = q ≡ r

-- a register with a name for its byte is one of those that the letters allow
abbrev pub HasByteName : Bool → Reg → Type 0
HasByteName known r = (s : Slice) (name : List ℕ) → is_byte_slice s ≡ true → name_of r s ≡ Some name → known ≡ true

abbrev pub IsKnown : Option ℤ → ℤ → Type 0
IsKnown None n = Unit {0}
IsKnown (Some m) n = m ≡ n

-- what the facts say of where the operand is
abbrev pub FitsFacts : OperandFacts → Kind → Spot → Type 0
FitsFacts fact Kind.Register (Spot.Register r) = IsFixed fact.fixed r × HasByteName fact.has_byte_names r
FitsFacts fact Kind.Register Spot.Pair = IsFixed fact.fixed Eax × HasByteName fact.has_byte_names Eax
FitsFacts fact Kind.Number (Spot.Number n) = IsWordNumber n × IsKnown fact.known n
FitsFacts fact Kind.Memory (Spot.Memory form) = placement.IsForm form
FitsFacts fact kind spot = ⊥

module _ (p : Placement) (fact : OperandFacts) where
  fixed_place : (fixed : Option Reg) (r : Reg) → IsFixed fixed r → spot_place fact.root (spot_of p fact.root) ≡ Place.Reg r
      → placed_place p (elim fixed [ None ↦ Place.Operand fact.root | Some q ↦ Place.Reg q ]) ≡ Place.Reg r
  fixed_place None r is spot = spot
  fixed_place (Some q) r is spot = ap Place.Reg is

  named_leaf : (b known : Bool) (leaf : Leaf) → (b ≡ true → known ≡ true) → cond (b && not known) Leaf.Nameless leaf ≡ leaf
  named_leaf false known leaf h = refl
  named_leaf true known leaf h = rw (h refl) refl

  register_leaf_back : (r : Reg) (s : Option Slice) (text : List ℕ) → IsFixed fact.fixed r → HasByteName fact.has_byte_names r → spot_place fact.root (spot_of p fact.root) ≡ Place.Reg r
      → register_text r s ≡ Some text → read_register fact (register_named (drop 1 text)) ≡ placed_leaf p (register_leaf fact s)
  register_leaf_back r None text is names spot e = cc
  register_leaf_back r (Some s) text is names spot e = by_name (name_of r s) refl e
    where
      by_name : (name : Option (List ℕ)) → name_of r s ≡ name → option_map (λ (n : List ℕ). 37 ∷ n) name ≡ Some text → read_register fact (register_named (drop 1 text)) ≡ placed_leaf p (register_leaf fact (Some s))
      by_name None same e = cc
      by_name (Some name) same e =
          let whole : text ≡ 37 ∷ name = cc in
          rw (whole, register_back r s name same, named_leaf (is_byte_slice s) fact.has_byte_names (Leaf.Register (place_of fact) s (is_fixed_cl fact.fixed s)) (λ byte. names s name byte same))
          (ap (λ place. Leaf.Register place s (is_fixed_cl fact.fixed s)) (sym (fixed_place fact.fixed r is spot)))

  known_disp : (known : Option ℤ) (n : ℤ) → IsKnown known n → spot_of p fact.root ≡ Spot.Number n
      → placed_disp p (elim known [ None ↦ Disp.Hole fact.root | Some m ↦ Disp.Number m ]) ≡ Disp.Number n
  known_disp None n is spot = ap (spot_disp fact.root) spot
  known_disp (Some m) n is spot = ap Disp.Number is

  immediate_back : (n : ℤ) (text : List ℕ) → IsWordNumber n → IsKnown fact.known n → spot_of p fact.root ≡ Spot.Number n → text ≡ 36 ∷ signed_decimal n
      → read_number fact text ≡ placed_leaf p (Leaf.Immediate (disp_of fact))
  immediate_back n text word is spot e = rw (e, number_back n word, known_disp fact.known n is spot) refl

  bare_back : (n : ℤ) (text : List ℕ) → IsWordNumber n → IsKnown fact.known n → spot_of p fact.root ≡ Spot.Number n → text ≡ signed_decimal n
      → read_number fact text ≡ placed_leaf p (Leaf.Bare (disp_of fact) fact.known)
  bare_back n text word is spot e = rw (e, signed_first n word, number_back n word, known_disp fact.known n is spot) refl

  number_leaf_back : (m : Modifier) (n : ℤ) (text : List ℕ) → IsWordNumber n → IsKnown fact.known n → spot_of p fact.root ≡ Spot.Number n → number_text n m ≡ Some text
      → read_number fact text ≡ placed_leaf p (number_leaf fact m)
  number_leaf_back Modifier.H n text word is spot e = cc
  number_leaf_back Modifier.C n text word is spot e = bare_back n text word is spot (cc)
  number_leaf_back Modifier.Plain n text word is spot e = immediate_back n text word is spot (cc)
  number_leaf_back Modifier.B n text word is spot e = immediate_back n text word is spot (cc)
  number_leaf_back Modifier.W n text word is spot e = immediate_back n text word is spot (cc)
  number_leaf_back Modifier.K n text word is spot e = immediate_back n text word is spot (cc)

  address_leaf : (f : Form) (text : List ℕ) → placement.IsForm f → spot_of p fact.root ≡ Spot.Memory f → text ≡ form_text f
      → Leaf.Memory fact.root (Some (form_read text)) ≡ placed_leaf p (Leaf.Memory fact.root None)
  address_leaf f text is spot e = rw (e, form_back f is, spot) refl

  memory_leaf_back : (m : Modifier) (f : Form) (text : List ℕ) → placement.IsForm f → spot_of p fact.root ≡ Spot.Memory f → memory_text f m ≡ Some text
      → Leaf.Memory fact.root (Some (form_read text)) ≡ placed_leaf p (memory_leaf fact m)
  memory_leaf_back Modifier.H f text is spot e = cc
  memory_leaf_back Modifier.C f text is spot e = cc
  memory_leaf_back Modifier.Plain f text is spot e = address_leaf f text is spot (cc)
  memory_leaf_back Modifier.B f text is spot e = address_leaf f text is spot (cc)
  memory_leaf_back Modifier.W f text is spot e = address_leaf f text is spot (cc)
  memory_leaf_back Modifier.K f text is spot e = address_leaf f text is spot (cc)

  pub leaf_back : (kind : Kind) (m : Modifier) (spot : Spot) (text : List ℕ) → spot_of p fact.root ≡ spot → FitsFacts fact kind spot → printed fact.size m spot ≡ Some text
      → read_by kind fact text ≡ placed_leaf p (leaf_by kind fact m)
  leaf_back Kind.Register m (Spot.Register r) text spot fits e = register_leaf_back r (slice_of fact.size m) text fits.0 fits.1 (ap (spot_place fact.root) spot) e
  leaf_back Kind.Register m Spot.Pair text spot fits e = register_leaf_back Eax (slice_of fact.size m) text fits.0 fits.1 (ap (spot_place fact.root) spot) e
  leaf_back Kind.Register m (Spot.Memory f) text spot fits e = absurd fits
  leaf_back Kind.Register m (Spot.Number n) text spot fits e = absurd fits
  leaf_back Kind.Number m (Spot.Number n) text spot fits e = number_leaf_back m n text fits.0 fits.1 spot e
  leaf_back Kind.Number m (Spot.Register r) text spot fits e = absurd fits
  leaf_back Kind.Number m Spot.Pair text spot fits e = absurd fits
  leaf_back Kind.Number m (Spot.Memory f) text spot fits e = absurd fits
  leaf_back Kind.Memory m (Spot.Memory f) text spot fits e = memory_leaf_back m f text fits spot e
  leaf_back Kind.Memory m (Spot.Register r) text spot fits e = absurd fits
  leaf_back Kind.Memory m Spot.Pair text spot fits e = absurd fits
  leaf_back Kind.Memory m (Spot.Number n) text spot fits e = absurd fits

-- a set of one register
only_case : (v : ℕ) (q : Reg) (n : ℕ) (r : Reg) (rest : Option Reg) → (n ≡ v → q ≡ r) → IsFixed rest r → IsFixed (cond (n == v) (Some q) rest) r
only_case v q n r rest here there = by (n == v) refl
  where
    by : (b : Bool) → (n == v) ≡ b → IsFixed (cond b (Some q) rest) r
    by true e = here (eqb-true n v e)
    by false e = there

bit_at : (v n : ℕ) (r : Reg) → n / 2 ^ reg_number r % 2 ≡ 1 → n ≡ v → v / 2 ^ reg_number r % 2 ≡ 1
bit_at v n r is e = subst (λ m. m / 2 ^ reg_number r % 2 ≡ 1) e is

only_eax : (r : Reg) → 1 / 2 ^ reg_number r % 2 ≡ 1 → Eax ≡ r
only_eax Eax h = refl
only_eax Ebx h = cc
only_eax Ecx h = cc
only_eax Edx h = cc
only_eax Esi h = cc
only_eax Edi h = cc
only_eax Ebp h = cc

only_ebx : (r : Reg) → 2 / 2 ^ reg_number r % 2 ≡ 1 → Ebx ≡ r
only_ebx Eax h = cc
only_ebx Ebx h = refl
only_ebx Ecx h = cc
only_ebx Edx h = cc
only_ebx Esi h = cc
only_ebx Edi h = cc
only_ebx Ebp h = cc

only_ecx : (r : Reg) → 4 / 2 ^ reg_number r % 2 ≡ 1 → Ecx ≡ r
only_ecx Eax h = cc
only_ecx Ebx h = cc
only_ecx Ecx h = refl
only_ecx Edx h = cc
only_ecx Esi h = cc
only_ecx Edi h = cc
only_ecx Ebp h = cc

only_edx : (r : Reg) → 8 / 2 ^ reg_number r % 2 ≡ 1 → Edx ≡ r
only_edx Eax h = cc
only_edx Ebx h = cc
only_edx Ecx h = cc
only_edx Edx h = refl
only_edx Esi h = cc
only_edx Edi h = cc
only_edx Ebp h = cc

only_esi : (r : Reg) → 16 / 2 ^ reg_number r % 2 ≡ 1 → Esi ≡ r
only_esi Eax h = cc
only_esi Ebx h = cc
only_esi Ecx h = cc
only_esi Edx h = cc
only_esi Esi h = refl
only_esi Edi h = cc
only_esi Ebp h = cc

only_edi : (r : Reg) → 32 / 2 ^ reg_number r % 2 ≡ 1 → Edi ≡ r
only_edi Eax h = cc
only_edi Ebx h = cc
only_edi Ecx h = cc
only_edi Edx h = cc
only_edi Esi h = cc
only_edi Edi h = refl
only_edi Ebp h = cc

only_ebp : (r : Reg) → 64 / 2 ^ reg_number r % 2 ≡ 1 → Ebp ≡ r
only_ebp Eax h = cc
only_ebp Ebx h = cc
only_ebp Ecx h = cc
only_ebp Edx h = cc
only_ebp Esi h = cc
only_ebp Edi h = cc
only_ebp Ebp h = refl

only_is : (s : RegSet) (r : Reg) → IsIn s r → IsFixed (only_register s) r
only_is s r is =
    only_case 1 Eax s.0 r _ (λ e. only_eax r (bit_at 1 s.0 r is e)) (only_case 2 Ebx s.0 r _ (λ e. only_ebx r (bit_at 2 s.0 r is e)) (only_case 4 Ecx s.0 r _ (λ e. only_ecx r (bit_at 4 s.0 r is e)) (only_case 8 Edx s.0 r _ (λ e. only_edx r (bit_at 8 s.0 r is e)) (only_case 16 Esi s.0 r _ (λ e. only_esi r (bit_at 16 s.0 r is e)) (only_case 32 Edi s.0 r _ (λ e. only_edi r (bit_at 32 s.0 r is e)) (only_case 64 Ebp s.0 r _ (λ e. only_ebp r (bit_at 64 s.0 r is e)) tt))))))

empty_holds_none : (r : Reg) → 0 / 2 ^ reg_number r % 2 ≡ 1 → ⊥
empty_holds_none Eax h = cc
empty_holds_none Ebx h = cc
empty_holds_none Ecx h = cc
empty_holds_none Edx h = cc
empty_holds_none Esi h = cc
empty_holds_none Edi h = cc
empty_holds_none Ebp h = cc

-- a register of the letters is the fixed one, where there is one
fixed_is : (alt : AltIface) (r : Reg) → IsIn alt.regs r → IsFixed (fixed_register alt) r
fixed_is alt r is = by alt.pair
  where
    none : (b : Bool) → (alt.regs.0 == 0) ≡ b → IsFixed (cond b (Some Eax) None) r
    none true e = absurd (empty_holds_none r (bit_at 0 alt.regs.0 r is (eqb-true alt.regs.0 0 e)))
    none false e = tt

    by : (pair : Bool) → IsFixed (cond pair (cond (alt.regs.0 == 0) (Some Eax) None) (only_register alt.regs)) r
    by true = none (alt.regs.0 == 0) refl
    by false = only_is alt.regs r is

fixed_pair : (alt : AltIface) → IsTrue alt.pair → IsFixed (fixed_register alt) Eax
fixed_pair alt is = by (alt.regs.0 == 0) alt.pair is
  where
    by : (none pair : Bool) → IsTrue pair → IsFixed (cond pair (cond none (Some Eax) None) (only_register alt.regs)) Eax
    by true true h = refl
    by false true h = tt
    by none false h = absurd (cc)

-- the low four bits are not all 0
names_of_bit : (n r : ℕ) → r < 4 → n / 2 ^ r % 2 ≡ 1 → n % 16 ≡ 0 → ⊥
names_of_bit n zero h is e = omega arith
names_of_bit n (suc zero) h is e = omega arith
names_of_bit n (suc (suc zero)) h is e = omega arith
names_of_bit n (suc (suc (suc zero))) h is e = omega arith
names_of_bit n (suc (suc (suc (suc r)))) h is e = omega arith

byte_register : (r : Reg) (s : Slice) (name : List ℕ) → is_byte_slice s ≡ true → name_of r s ≡ Some name → reg_number r < 4
byte_register Eax s name byte e = omega arith
byte_register Ebx s name byte e = omega arith
byte_register Ecx s name byte e = omega arith
byte_register Edx s name byte e = omega arith
byte_register Esi Low8 name byte e = cc
byte_register Esi High8 name byte e = cc
byte_register Esi Low16 name byte e = cc
byte_register Esi All name byte e = cc
byte_register Edi Low8 name byte e = cc
byte_register Edi High8 name byte e = cc
byte_register Edi Low16 name byte e = cc
byte_register Edi All name byte e = cc
byte_register Ebp Low8 name byte e = cc
byte_register Ebp High8 name byte e = cc
byte_register Ebp Low16 name byte e = cc
byte_register Ebp All name byte e = cc

or_right : (a : Bool) → (a || true) ≡ true
or_right true = refl
or_right false = refl

byte_names_is : (alt : AltIface) (r : Reg) → IsIn alt.regs r → HasByteName (allows_byte_names alt) r
byte_names_is alt r is s name byte e =
    let low = byte_register r s name byte e in
    rw (ne_eqb (alt.regs.0 % 16) 0 (names_of_bit alt.regs.0 (reg_number r) low is)) (or_right alt.pair)

byte_names_pair : (alt : AltIface) → IsTrue alt.pair → HasByteName (allows_byte_names alt) Eax
byte_names_pair alt is s name byte e = rw is refl

-- the ranges of an alternative have only numbers of words
abbrev HasNumbers : OperandIface → AltIface → Type 0
HasNumbers o alt = (range : ℤ × ℤ) → alt.numbers ≡ Some range → HasNumber o alt range

-- a number that may stand there is one of a word
number_word : (o : OperandIface) (alt : AltIface) (n : ℤ) (range : Option (ℤ × ℤ)) → alt.numbers ≡ range → HasNumbers o alt → placement.IsNumber alt.numbers o.known n → IsWordNumber n
number_word o alt n None e has is = let there : IsTrue false = subst (λ (r : Option (ℤ × ℤ)). IsTrue (is_some r)) e is.some in absurd (cc)
number_word o alt n (Some range) e has is =
    let from = (has range e).low in
    let upto = (has range e).high in
    let within = is.within range e in
    record { low = omega (arith, ints, from, within.0); high = omega (arith, ints, upto, within.1) }

-- what an untied operand's letters allow is what its facts say
fits_facts : (o : OperandIface) (alt : AltIface) (kind : Kind) (spot : Spot) (size root : ℕ) → HasNumbers o alt → LettersFit o alt kind spot
    → FitsFacts (record { kind = kind; size = size; known = o.known; fixed = fixed_register alt; has_byte_names = allows_byte_names alt; root = root }) kind spot
fits_facts o alt Kind.Register (Spot.Register r) size root has fits = (fixed_is alt r fits, byte_names_is alt r fits)
fits_facts o alt Kind.Register Spot.Pair size root has fits = (fixed_pair alt fits, byte_names_pair alt fits)
fits_facts o alt Kind.Register (Spot.Memory f) size root has fits = absurd fits
fits_facts o alt Kind.Register (Spot.Number n) size root has fits = absurd fits
fits_facts o alt Kind.Memory (Spot.Memory f) size root has fits = fits
fits_facts o alt Kind.Memory (Spot.Register r) size root has fits = absurd fits
fits_facts o alt Kind.Memory Spot.Pair size root has fits = absurd fits
fits_facts o alt Kind.Memory (Spot.Number n) size root has fits = absurd fits
fits_facts o alt Kind.Number (Spot.Number n) size root has fits = (number_word o alt n alt.numbers refl has fits, known_is o.known fits.is_known)
  where
    known_is : (known : Option ℤ) → ((x : ℤ) → known ≡ Some x → n ≡ x) → IsKnown known n
    known_is None h = tt
    known_is (Some m) h = sym (h m refl)
fits_facts o alt Kind.Number (Spot.Register r) size root has fits = absurd fits
fits_facts o alt Kind.Number Spot.Pair size root has fits = absurd fits
fits_facts o alt Kind.Number (Spot.Memory f) size root has fits = absurd fits

module _ (i : Interface) (s : Shape) where
  pub root_is : (k : ℕ) (o : OperandIface) (found : Option AltIface) → slice_get i.operands k ≡ Some o → slice_get o.alts s.alternative ≡ found
      → tie_root i s k ≡ elim found [ None ↦ k | Some alt ↦ elim alt.tied [ None ↦ k | Some output ↦ output ] ]
  root_is k o None e f = rw (e, f) refl
  root_is k o (Some alt) e f = rw (e, f) refl

  -- the output that an operand is tied to is tied to none
  module _ (is : IsInterface i) (k : ℕ) (o : OperandIface) (there : slice_get i.operands k ≡ Some o) (ro : OperandIface) (ra : AltIface)
      (root : slice_get i.operands (tie_root i s k) ≡ Some ro) (alternative : slice_get ro.alts s.alternative ≡ Some ra) where
    own_untied : tie_root i s k ≡ k → (found : Option AltIface) → slice_get o.alts s.alternative ≡ found → ((alt : AltIface) → found ≡ Some alt → alt.tied ≡ None) → ra.tied ≡ None
    own_untied e found f h =
        let same : slice_get i.operands k ≡ Some ro = rw e at root in
        let one : o ≡ ro = cc in
        let alt : found ≡ Some ra = cc in
        h ra alt

    by_tie : (alt : AltIface) → slice_get o.alts s.alternative ≡ Some alt → (tied : Option ℕ) → alt.tied ≡ tied → ra.tied ≡ None
    by_tie alt f None e =
        let own : tie_root i s k ≡ k = root_is k o (Some alt) there f ∙ rw e refl in
        own_untied own (Some alt) f (λ other same. let one : alt ≡ other = cc in subst (λ (a : AltIface). a.tied ≡ None) one e)
    by_tie alt f (Some output) e =
        let own : tie_root i s k ≡ output = root_is k o (Some alt) there f ∙ rw e refl in
        let tie = is.ties k s.alternative output o alt (record { is_operand = there; is_alternative = f }) e in
        let same : slice_get i.operands output ≡ Some ro = rw own at root in
        let operand : tie.to.operand ≡ ro = let at = tie.to.is_there.is_operand in cc in
        let found : slice_get ro.alts s.alternative ≡ Some tie.to.alternative = subst (λ (q : OperandIface). slice_get q.alts s.alternative ≡ Some tie.to.alternative) operand tie.to.is_there.is_alternative in
        let one : tie.to.alternative ≡ ra = cc in
        subst (λ (a : AltIface). a.tied ≡ None) one tie.to.untied

    by_alternative : (found : Option AltIface) → slice_get o.alts s.alternative ≡ found → ra.tied ≡ None
    by_alternative None f = own_untied (root_is k o None there f) None f (λ alt e. cc)
    by_alternative (Some alt) f = by_tie alt f alt.tied refl

    pub root_untied : ra.tied ≡ None
    root_untied = by_alternative (slice_get o.alts s.alternative) refl

  -- the facts of an operand hold where it may be
  pub record Hold (p : Placement) (k : ℕ) (o : OperandIface) (fact : OperandFacts) : Type 0 where
    pub size : fact.size ≡ o.size
    pub spot : spot_of p k ≡ spot_of p fact.root
    pub fits : FitsFacts fact fact.kind (spot_of p fact.root)

  module _ (is : IsInterface i) (p : Placement) (lettered : IsLettered i s p) (k : ℕ) (o : OperandIface) (there : slice_get i.operands k ≡ Some o) where
    hold_from : (ro : Option OperandIface) (ra : Option AltIface) (kind : Option Kind) (fact : OperandFacts)
        → slice_get i.operands (tie_root i s k) ≡ ro → alternative_at ro s.alternative ≡ ra → slice_get s.kinds (tie_root i s k) ≡ kind
        → facts_from o.size (tie_root i s k) ro ra kind ≡ Some fact → Hold p k o fact
    hold_from None ra kind fact eo ea ek e = cc
    hold_from (Some ro) None kind fact eo ea ek e = cc
    hold_from (Some ro) (Some alt) None fact eo ea ek e = cc
    hold_from (Some ro) (Some alt) (Some kind) fact eo ea ek e =
        let root = tie_root i s k in
        let same : (record { kind = kind; size = o.size; known = ro.known; fixed = fixed_register alt; has_byte_names = allows_byte_names alt; root = root }) ≡ fact = cc in
        let has : HasNumbers ro alt = λ range e. is.numbers root s.alternative ro alt range (record { is_operand = eo; is_alternative = ea }) e in
        let fits : LettersFit ro alt kind (spot_of p root) = lettered.fits root ro alt kind (record { is_operand = eo; is_alternative = ea; is_kind = ek }) (root_untied is k o there ro alt eo ea) in
        subst (λ f. Hold p k o f) same (record { size = refl; spot = lettered.ties k; fits = fits_facts ro alt kind (spot_of p root) o.size root has fits })

    pub facts_hold : (fact : OperandFacts) → facts_of i s k ≡ Some fact → Hold p k o fact
    unfolding facts_of
    facts_hold fact e =
        hold_from (slice_get i.operands (tie_root i s k)) (alternative_at (slice_get i.operands (tie_root i s k)) s.alternative) (slice_get s.kinds (tie_root i s k)) fact refl refl refl
        (subst (λ q. facts_with i s (tie_root i s k) q ≡ Some fact) there e)

  module _ (is : IsInterface i) (p : Placement) (lettered : IsLettered i s p) (k : ℕ) (m : Modifier) (text : List ℕ) where
    hole_with : (o : OperandIface) → slice_get i.operands k ≡ Some o → printed o.size m (spot_of p k) ≡ Some text → (fact : Option OperandFacts) → facts_of i s k ≡ fact → leaf_read fact text ≡ placed_leaf p (leaf_of fact m)
    hole_with o there e None f = refl
    hole_with o there e (Some fact) f =
        let hold = facts_hold is p lettered k o there fact f in
        let printed_there : printed fact.size m (spot_of p fact.root) ≡ Some text = rw (hold.size, ← hold.spot) e in
        leaf_back p fact fact.kind m (spot_of p fact.root) text refl hold.fits printed_there

    by_operand : (o : Option OperandIface) → slice_get i.operands k ≡ o → option_and_then (λ (q : OperandIface). printed q.size m (spot_of p k)) o ≡ Some text
        → leaf_read (facts_of i s k) text ≡ placed_leaf p (leaf_of (facts_of i s k) m)
    by_operand None there e = cc
    by_operand (Some o) there e = hole_with o there e (facts_of i s k) refl

    -- an operand's text says what its hole stands for
    pub hole_back : operand_text i p k m ≡ Some text → leaf_read (facts_of i s k) text ≡ placed_leaf p (leaf_of (facts_of i s k) m)
    hole_back e = by_operand (slice_get i.operands k) refl e

    there_below : (o : Option OperandIface) → slice_get i.operands k ≡ o → option_and_then (λ (q : OperandIface). printed q.size m (spot_of p k)) o ≡ Some text → k < 30
    there_below None there e = cc
    there_below (Some o) there e = let low = slice_get_within i.operands k o there in omega (arith, is.few, low)

    pub operand_below : operand_text i p k m ≡ Some text → k < 30
    operand_below e = there_below (slice_get i.operands k) refl e
