-- Where a placement puts an operand with a name for each hole of it, the hole's text is there.
use Rattle.std.proofs.Common.{◌≡◌, ℕ, ◌%◌, ◌==◌, ◌||◌, ◌&&◌, not, ◌∷◌, Bool, true, false, cond, Option, None, Some, refl, ap, sym, subst, ◌∙◌, slice_get}
use Rattle.std.proofs.lemmas.Bool.{eqb-true}
use Rattle.asm_core.specs.Placement.{spot_of, tie_root}
use Rattle.asm_core.specs.WellFormed.{IsInterface}
use Rattle.asm_core.specs.Expansion.{name_of, register_text, printed, operand_text}
use Rattle.asm_core.specs.Reading.Facts.{only_register, fixed_register, allows_byte_names, facts_from, alternative_at, facts_with, facts_of, slice_of, is_byte_slice, place_of, is_fixed_cl, register_leaf, number_leaf, memory_leaf, leaf_by, leaf_of}
use Rattle.asm_core.specs.Reading.UnderShape.{IsLettered}
use Rattle.asm_core.proofs.ReadingLaws.HolesRead.{MayBeLost}
use Rattle.asm_core.proofs.ReadingLaws.OperandsBack.{IsFixed, FitsFacts, facts_hold}
use Rattle.asm_core.specs.declared.reg.Reg.{Reg}
use Rattle.asm_core.specs.declared.reg.Reg.TheVariants.{Eax, Ebx, Ecx, Edx, Esi, Edi, Ebp}
use Rattle.asm_core.specs.declared.reg.Slice.{Slice}
use Rattle.asm_core.specs.declared.reg.Slice.TheVariants.{Low8, High8, Low16, All}
use Rattle.asm_core.specs.declared.sym.Place.{Place}
use Rattle.asm_core.specs.declared.piece.Modifier.{Modifier}
use Rattle.asm_core.specs.declared.placement.Spot.{Spot}
use Rattle.asm_core.specs.declared.placement.Placement.{Placement}
use Rattle.asm_core.specs.declared.shape.Kind.{Kind}
use Rattle.asm_core.specs.declared.shape.Shape.{Shape}
use Rattle.asm_core.specs.declared.interface.AltIface.{AltIface}
use Rattle.asm_core.specs.declared.interface.OperandIface.{OperandIface}
use Rattle.asm_core.specs.declared.interface.Interface.{Interface}
use Rattle.asm_core.specs.declared.reading.OperandFacts.{OperandFacts}
use Rattle.asm_core.specs.declared.reading.Leaf.{Leaf}

-- something is there
abbrev pub IsThere : {A : Type 0} → Option A → Type 0
IsThere {A} o = (a : A) × (o ≡ Some a)

-- no name for its bytes
abbrev pub lacks_bytes : Reg → Bool
lacks_bytes Eax = false
lacks_bytes Ebx = false
lacks_bytes Ecx = false
lacks_bytes Edx = false
lacks_bytes Esi = true
lacks_bytes Edi = true
lacks_bytes Ebp = true

abbrev pub spot_lacks_bytes : Spot → Bool
spot_lacks_bytes (Spot.Register r) = lacks_bytes r
spot_lacks_bytes Spot.Pair = false
spot_lacks_bytes (Spot.Memory form) = false
spot_lacks_bytes (Spot.Number n) = false

-- the part of an operand's register has no name under the placement
abbrev pub is_part_lost : Placement → Place → Slice → Bool
is_part_lost p (Place.Reg r) slice = false
is_part_lost p (Place.Operand k) slice = is_byte_slice slice && spot_lacks_bytes (spot_of p k)

-- what a hole stands for has no name under the placement
abbrev pub is_leaf_lost : Placement → Leaf → Bool
is_leaf_lost p Leaf.Nothing = false
is_leaf_lost p (Leaf.Register place slice count) = is_part_lost p place slice
is_leaf_lost p (Leaf.Immediate d) = false
is_leaf_lost p (Leaf.Bare d known) = false
is_leaf_lost p (Leaf.Memory k form) = false
is_leaf_lost p Leaf.Nameless = true

word_part : (p : Placement) (place : Place) → is_part_lost p place All ≡ false
word_part p (Place.Reg r) = refl
word_part p (Place.Operand k) = refl

pub may_be_lost : (p : Placement) → MayBeLost (is_leaf_lost p)
may_be_lost p = record {
  nothing = refl;
  whole = λ place count. word_part p place;
  immediate = λ d. refl;
  bare = λ d known. refl;
  memory = λ k form. refl;
}

-- a part of a register has a name
named_part : (r : Reg) (slice : Slice) (b c : Bool) → is_byte_slice slice ≡ b → lacks_bytes r ≡ c → (b && c) ≡ false
    → IsThere (name_of r slice)
named_part r All b c eb ec h = (_, refl)
named_part r Low16 b c eb ec h = (_, refl)
named_part Eax Low8 b c eb ec h = (_, refl)
named_part Ebx Low8 b c eb ec h = (_, refl)
named_part Ecx Low8 b c eb ec h = (_, refl)
named_part Edx Low8 b c eb ec h = (_, refl)
named_part Eax High8 b c eb ec h = (_, refl)
named_part Ebx High8 b c eb ec h = (_, refl)
named_part Ecx High8 b c eb ec h = (_, refl)
named_part Edx High8 b c eb ec h = (_, refl)
named_part Esi Low8 b c eb ec h = let no : true ≡ false = rw (← eb, ← ec) at h in cc
named_part Edi Low8 b c eb ec h = let no : true ≡ false = rw (← eb, ← ec) at h in cc
named_part Ebp Low8 b c eb ec h = let no : true ≡ false = rw (← eb, ← ec) at h in cc
named_part Esi High8 b c eb ec h = let no : true ≡ false = rw (← eb, ← ec) at h in cc
named_part Edi High8 b c eb ec h = let no : true ≡ false = rw (← eb, ← ec) at h in cc
named_part Ebp High8 b c eb ec h = let no : true ≡ false = rw (← eb, ← ec) at h in cc

text_there : (r : Reg) (slice : Slice) → IsThere (name_of r slice) → IsThere (register_text r (Some slice))
text_there r slice name = (37 ∷ name.0, rw name.1 refl)

-- ---- an operand with one register

-- the one register of a set has names for its bytes where one of eax, ebx, ecx and edx is in it
only_named : (n : ℕ) (q : Reg) → only_register (record { 0 = n }) ≡ Some q → not (n % 16 == 0) ≡ true
    → lacks_bytes q ≡ false
only_named n q e some = by (n == 1) (n == 2) (n == 4) (n == 8) (n == 16) (n == 32) (n == 64) refl refl refl e
  where
    high : (m : ℕ) → (m % 16 == 0) ≡ true → (n == m) ≡ true → ⊥
    high m zero_low same =
        let e = eqb-true n m same in let no : not true ≡ true = rw (e, zero_low) at some in absurd (cc)

    by : (a b c d e f g : Bool) → (n == 16) ≡ e → (n == 32) ≡ f → (n == 64) ≡ g
        → cond a (Some Eax)
        (cond b (Some Ebx)
        (cond c (Some Ecx) (cond d (Some Edx) (cond e (Some Esi) (cond f (Some Edi) (cond g (Some Ebp) None))))))
        ≡ Some q
        → lacks_bytes q ≡ false
    by true b c d e f g h16 h32 h64 h = let same : Eax ≡ q = cc in rw (← same) refl
    by false true c d e f g h16 h32 h64 h = let same : Ebx ≡ q = cc in rw (← same) refl
    by false false true d e f g h16 h32 h64 h = let same : Ecx ≡ q = cc in rw (← same) refl
    by false false false true e f g h16 h32 h64 h = let same : Edx ≡ q = cc in rw (← same) refl
    by false false false false true f g h16 h32 h64 h = absurd (high 16 refl h16)
    by false false false false false true g h16 h32 h64 h = absurd (high 32 refl h32)
    by false false false false false false true h16 h32 h64 h = absurd (high 64 refl h64)
    by false false false false false false false h16 h32 h64 h = cc

fixed_named : (alt : AltIface) (q : Reg) → fixed_register alt ≡ Some q → allows_byte_names alt ≡ true
    → lacks_bytes q ≡ false
fixed_named alt q e some = by alt.pair e some
  where
    pair : (b : Bool) → cond b (Some Eax) None ≡ Some q → lacks_bytes q ≡ false
    pair true h = let same : Eax ≡ q = cc in rw (← same) refl
    pair false h = cc

    by : (b : Bool) → cond b (cond (alt.regs.0 == 0) (Some Eax) None) (only_register alt.regs) ≡ Some q
        → (b || not (alt.regs.0 % 16 == 0)) ≡ true → lacks_bytes q ≡ false
    by true h some = pair (alt.regs.0 == 0) h
    by false h some = only_named alt.regs.0 q h some

-- whose one register has names for its bytes where some register of the operand has
abbrev IsFixedNamed : OperandFacts → Type 0
IsFixedNamed fact = (q : Reg) → fact.fixed ≡ Some q → fact.has_byte_names ≡ true → lacks_bytes q ≡ false

from_named : (size root : ℕ) (ro : Option OperandIface) (ra : Option AltIface) (kind : Option Kind)
    (fact : OperandFacts) → facts_from size root ro ra kind ≡ Some fact → IsFixedNamed fact
from_named size root None ra kind fact e = cc
from_named size root (Some ro) None kind fact e = cc
from_named size root (Some ro) (Some alt) None fact e = cc
from_named size root (Some ro) (Some alt) (Some kind) fact e =
    let same :
    (record {
      kind = kind;
      size = size;
      known = ro.known;
      fixed = fixed_register alt;
      has_byte_names =
          allows_byte_names alt;
      root = root;
    }) ≡ fact = cc in
    subst IsFixedNamed same (λ q. fixed_named alt q)

-- ---- a register

-- which part it is, whether it is one of a byte, and whether some register of the operand has a name for it
module _ (p : Placement) (fact : OperandFacts) (named : IsFixedNamed fact) (r : Reg) (is : IsFixed fact.fixed r)
    (spot : spot_lacks_bytes (spot_of p fact.root) ≡ lacks_bytes r) where
  fixed_part : (slice : Slice) (fixed : Option Reg) → fact.fixed ≡ fixed → IsFixed fixed r → fact.has_byte_names ≡ true
      → is_part_lost p (elim fixed [ None ↦ Place.Operand fact.root | Some q ↦ Place.Reg q ]) slice ≡ false
      → (is_byte_slice slice && lacks_bytes r) ≡ false
  fixed_part slice None e one has lost = rw spot at lost
  fixed_part slice (Some q) e one has lost =
      let none = named q e has in
      let same : lacks_bytes r ≡ false = ap lacks_bytes (sym one) ∙ none in
      rw same (never (is_byte_slice slice))
    where
      never : (b : Bool) → (b && false) ≡ false
      never true = refl
      never false = refl

  part_kept : (slice : Slice) (byte has : Bool) → is_byte_slice slice ≡ byte → fact.has_byte_names ≡ has
      → is_leaf_lost p
      (cond (byte && not has) Leaf.Nameless (Leaf.Register (place_of fact) slice (is_fixed_cl fact.fixed slice)))
      ≡ false → (is_byte_slice slice && lacks_bytes r) ≡ false
  part_kept slice false has eb eh lost = rw eb refl
  part_kept slice true false eb eh lost = cc
  part_kept slice true true eb eh lost = fixed_part slice fact.fixed refl is eh lost

  register_there : (slice : Option Slice) → is_leaf_lost p (register_leaf fact slice) ≡ false
      → IsThere (register_text r slice)
  register_there None lost = cc
  register_there (Some slice) lost =
      text_there r slice
      (named_part r slice (is_byte_slice slice) (lacks_bytes r) refl refl
      (part_kept slice (is_byte_slice slice) fact.has_byte_names refl refl lost))

-- ---- an operand

module _ (p : Placement) (fact : OperandFacts) (named : IsFixedNamed fact) where
  number_there : (m : Modifier) (spot : Spot) → FitsFacts fact Kind.Number spot
      → is_leaf_lost p (number_leaf fact m) ≡ false → IsThere (printed fact.size m spot)
  number_there Modifier.H (Spot.Number n) fits lost = cc
  number_there Modifier.C (Spot.Number n) fits lost = (_, refl)
  number_there Modifier.Plain (Spot.Number n) fits lost = (_, refl)
  number_there Modifier.B (Spot.Number n) fits lost = (_, refl)
  number_there Modifier.W (Spot.Number n) fits lost = (_, refl)
  number_there Modifier.K (Spot.Number n) fits lost = (_, refl)
  number_there m (Spot.Register r) fits lost = absurd fits
  number_there m Spot.Pair fits lost = absurd fits
  number_there m (Spot.Memory f) fits lost = absurd fits

  memory_there : (m : Modifier) (spot : Spot) → FitsFacts fact Kind.Memory spot
      → is_leaf_lost p (memory_leaf fact m) ≡ false → IsThere (printed fact.size m spot)
  memory_there Modifier.H (Spot.Memory f) fits lost = cc
  memory_there Modifier.C (Spot.Memory f) fits lost = cc
  memory_there Modifier.Plain (Spot.Memory f) fits lost = (_, refl)
  memory_there Modifier.B (Spot.Memory f) fits lost = (_, refl)
  memory_there Modifier.W (Spot.Memory f) fits lost = (_, refl)
  memory_there Modifier.K (Spot.Memory f) fits lost = (_, refl)
  memory_there m (Spot.Register r) fits lost = absurd fits
  memory_there m Spot.Pair fits lost = absurd fits
  memory_there m (Spot.Number n) fits lost = absurd fits

  by_kind : (kind : Kind) (m : Modifier) (spot : Spot) → spot_of p fact.root ≡ spot → FitsFacts fact kind spot
      → is_leaf_lost p (leaf_by kind fact m) ≡ false → IsThere (printed fact.size m spot)
  by_kind Kind.Register m (Spot.Register r) e fits lost =
      register_there p fact named r fits.0 (ap spot_lacks_bytes e) (slice_of fact.size m) lost
  by_kind Kind.Register m Spot.Pair e fits lost =
      register_there p fact named Eax fits.0 (ap spot_lacks_bytes e) (slice_of fact.size m) lost
  by_kind Kind.Register m (Spot.Memory f) e fits lost = absurd fits
  by_kind Kind.Register m (Spot.Number n) e fits lost = absurd fits
  by_kind Kind.Number m spot e fits lost = number_there m spot fits lost
  by_kind Kind.Memory m spot e fits lost = memory_there m spot fits lost

module _ (i : Interface) (s : Shape) (is : IsInterface i) (p : Placement) (lettered : IsLettered i s p) where
  facts_named : (k : ℕ) (o : Option OperandIface) (fact : OperandFacts) → slice_get i.operands k ≡ o
      → facts_of i s k ≡ Some fact → IsFixedNamed fact
  unfolding facts_of
  facts_named k None fact there e = let no : None ≡ Some fact = rw there at e in cc
  facts_named k (Some o) fact there e =
      let root = tie_root i s k in
      let from : facts_with i s root (Some o) ≡ Some fact = subst (λ q. facts_with i s root q ≡ Some fact) there e in
      from_named o.size root (slice_get i.operands root) (alternative_at (slice_get i.operands root) s.alternative)
      (slice_get s.kinds root) fact from

  by_fact : (k : ℕ) (m : Modifier) (o : OperandIface) → slice_get i.operands k ≡ Some o → (fact : Option OperandFacts)
      → facts_of i s k ≡ fact → is_leaf_lost p (leaf_of fact m) ≡ false
      → IsThere (printed o.size m (spot_of p k))
  by_fact k m o there None f lost = cc
  by_fact k m o there (Some fact) f lost =
      let hold = facts_hold i s is p lettered k o there fact f in
      let t = by_kind p fact (facts_named k (Some o) fact there f) fact.kind m (spot_of p fact.root) refl hold.fits
      lost in
      subst (λ size. IsThere (printed size m (spot_of p k))) hold.size
      (subst (λ spot. IsThere (printed fact.size m spot)) (sym hold.spot) t)

  no_facts : (k : ℕ) (m : Modifier) → slice_get i.operands k ≡ None
      → is_leaf_lost p (leaf_of (facts_of i s k) m) ≡ false → IsThere (operand_text i p k m)
  unfolding facts_of
  no_facts k m there lost = let no : true ≡ false = rw there at lost in cc

  -- a hole that isn't lost has its text
  pub hole_there : (k : ℕ) (m : Modifier) → is_leaf_lost p (leaf_of (facts_of i s k) m) ≡ false
      → IsThere (operand_text i p k m)
  hole_there k m lost = by (slice_get i.operands k) refl
    where
      by : (o : Option OperandIface) → slice_get i.operands k ≡ o → IsThere (operand_text i p k m)
      by None e = no_facts k m e lost
      by (Some o) e = let t = by_fact k m o e (facts_of i s k) refl lost in (t.0, rw e t.1)
