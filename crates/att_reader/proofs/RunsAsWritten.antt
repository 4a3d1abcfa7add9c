-- What an operand prints under a placement by letters is read as the same bytes of a template would be.
use Rattle.std.proofs.Common.{◌≡◌, ℕ, suc, ℤ, List, [], ◌∷◌, Option, None, Some, refl, subst, slice_get, arith}
use Rattle.std.proofs.lemmas.Bool.{ne_eqb}
use Rattle.std.specs.Fmt.{signed_decimal}
use Rattle.std.specs.Option.{option_map, option_and_then}
use Rattle.asm_core.specs.Placement.{spot_of, IsForm}
use Rattle.asm_core.specs.WellFormed.{IsInterface}
use Rattle.asm_core.specs.Expansion.{name_of, register_text, number_text, form_text, memory_text, printed, operand_text}
use Rattle.asm_core.specs.Reading.Facts.{facts_of, slice_of}
use Rattle.asm_core.specs.Reading.Line.{Defined, goal_of}
use Rattle.asm_core.specs.Reading.Text.{Run, atom_of_run, read_by, leaf_read}
use Rattle.asm_core.specs.Reading.Placed.{IsWordNumber}
use Rattle.asm_core.specs.Reading.UnderShape.{IsLettered}
use Rattle.asm_core.proofs.ReadingLaws.AsWritten.{said, given, written, register_as_written, immediate_as_written, bare_as_written, number_no_label}
use Rattle.asm_core.proofs.ReadingLaws.OperandsBack.{FitsFacts, facts_hold, operand_below}
use Rattle.att_reader.proofs.AddressAsWritten.{memory_as_written, memory_no_label}
use Rattle.asm_core.specs.declared.reg.Reg.{Reg}
use Rattle.asm_core.specs.declared.reg.Slice.{Slice}
use Rattle.asm_core.specs.declared.piece.Modifier.{Modifier}
use Rattle.asm_core.specs.declared.placement.Base.{Base}
use Rattle.asm_core.specs.declared.placement.Form.{Form}
use Rattle.asm_core.specs.declared.placement.Spot.{Spot}
use Rattle.asm_core.specs.declared.placement.Placement.{Placement}
use Rattle.asm_core.specs.declared.shape.Kind.{Kind}
use Rattle.asm_core.specs.declared.shape.Shape.{Shape}
use Rattle.asm_core.specs.declared.interface.OperandIface.{OperandIface}
use Rattle.asm_core.specs.declared.interface.Interface.{Interface}
use Rattle.asm_core.specs.declared.reading.OperandFacts.{OperandFacts}

-- an address whose base isn't `%esp`: as a base that is read where an operand prints it alone
abbrev pub IsWritable : Spot → Type 0
IsWritable (Spot.Memory form) = form.base ≡ Some Base.Esp → ⊥
IsWritable (Spot.Register r) = Unit {0}
IsWritable Spot.Pair = Unit {0}
IsWritable (Spot.Number n) = Unit {0}

module _ (labels : List Defined) (inst count k : ℕ) (fact : OperandFacts) where
  -- read by its kind, and as it is written
  abbrev IsSame : Kind → List ℕ → Type 0
  IsSame kind text = said (goal_of labels inst) count (given k (read_by kind fact text)) ≡ said (goal_of labels inst) count (written text)

  register_same : (r : Reg) (slice : Option Slice) (text : List ℕ) → register_text r slice ≡ Some text → IsSame Kind.Register text
  register_same r None text e = cc
  register_same r (Some slice) text e = by (name_of r slice) refl e
    where
      by : (name : Option (List ℕ)) → name_of r slice ≡ name → option_map (λ (n : List ℕ). 37 ∷ n) name ≡ Some text → IsSame Kind.Register text
      by None f e = cc
      by (Some name) f e = let same : 37 ∷ name ≡ text = cc in subst (IsSame Kind.Register) same (register_as_written (goal_of labels inst) count k fact r slice name f)

  immediate_same : (n : ℤ) (text : List ℕ) → IsWordNumber n → 36 ∷ signed_decimal n ≡ text → IsSame Kind.Number text
  immediate_same n text word same = subst (IsSame Kind.Number) same (immediate_as_written (goal_of labels inst) count k fact n word)

  number_same : (n : ℤ) (m : Modifier) (text : List ℕ) → IsWordNumber n → number_text n m ≡ Some text → IsSame Kind.Number text
  number_same n Modifier.H text word e = cc
  number_same n Modifier.C text word e =
      let same : signed_decimal n ≡ text = cc in
      subst (IsSame Kind.Number) same (bare_as_written (goal_of labels inst) count k fact n word (number_no_label labels inst n word))
  number_same n Modifier.Plain text word e = immediate_same n text word (cc)
  number_same n Modifier.B text word e = immediate_same n text word (cc)
  number_same n Modifier.W text word e = immediate_same n text word (cc)
  number_same n Modifier.K text word e = immediate_same n text word (cc)

  address_same : (f : Form) (text : List ℕ) → IsForm f → (f.base ≡ Some Base.Esp → ⊥) → form_text f ≡ text → IsSame Kind.Memory text
  address_same f text is other same = subst (IsSame Kind.Memory) same (memory_as_written (goal_of labels inst) count k fact.root f is other (memory_no_label labels inst f is))

  memory_same : (f : Form) (m : Modifier) (text : List ℕ) → IsForm f → (f.base ≡ Some Base.Esp → ⊥) → memory_text f m ≡ Some text → IsSame Kind.Memory text
  memory_same f Modifier.H text is other e = cc
  memory_same f Modifier.C text is other e = cc
  memory_same f Modifier.Plain text is other e = address_same f text is other (cc)
  memory_same f Modifier.B text is other e = address_same f text is other (cc)
  memory_same f Modifier.W text is other e = address_same f text is other (cc)
  memory_same f Modifier.K text is other e = address_same f text is other (cc)

  spot_same : (kind : Kind) (m : Modifier) (spot : Spot) (text : List ℕ) → FitsFacts fact kind spot → IsWritable spot → printed fact.size m spot ≡ Some text → IsSame kind text
  spot_same Kind.Register m (Spot.Register r) text fits other e = register_same r (slice_of fact.size m) text e
  spot_same Kind.Register m Spot.Pair text fits other e = register_same Reg.Eax (slice_of fact.size m) text e
  spot_same Kind.Register m (Spot.Memory f) text fits other e = absurd fits
  spot_same Kind.Register m (Spot.Number n) text fits other e = absurd fits
  spot_same Kind.Number m (Spot.Number n) text fits other e = number_same n m text fits.0 e
  spot_same Kind.Number m (Spot.Register r) text fits other e = absurd fits
  spot_same Kind.Number m Spot.Pair text fits other e = absurd fits
  spot_same Kind.Number m (Spot.Memory f) text fits other e = absurd fits
  spot_same Kind.Memory m (Spot.Memory f) text fits other e = memory_same f m text fits other e
  spot_same Kind.Memory m (Spot.Register r) text fits other e = absurd fits
  spot_same Kind.Memory m Spot.Pair text fits other e = absurd fits
  spot_same Kind.Memory m (Spot.Number n) text fits other e = absurd fits

module _ (i : Interface) (s : Shape) (is : IsInterface i) (p : Placement) (lettered : IsLettered i s p) (labels : List Defined) (inst count : ℕ) where
  same_there : (k : ℕ) (m : Modifier) (text : List ℕ) (fact : OperandFacts) (o : Option OperandIface) → slice_get i.operands k ≡ o → facts_of i s k ≡ Some fact → IsWritable (spot_of p k)
      → option_and_then (λ (q : OperandIface). printed q.size m (spot_of p k)) o ≡ Some text
      → said (goal_of labels inst) count (given k (leaf_read (Some fact) text)) ≡ said (goal_of labels inst) count (written text)
  same_there k m text fact None there f other e = cc
  same_there k m text fact (Some o) there f other e =
      let hold = facts_hold i s is p lettered k o there fact f in
      let printed_there : printed fact.size m (spot_of p fact.root) ≡ Some text = rw (hold.size, ← hold.spot) e in
      spot_same labels inst count k fact fact.kind m (spot_of p fact.root) text hold.fits (subst IsWritable hold.spot other) printed_there

  -- A run that an operand gave is read as the same bytes of a template would be: all that the operand tells beside its bytes is
  -- whether `%cl` may be a count, and the number of a memory operand.
  pub run_as_written : (k : ℕ) (m : Modifier) (text : List ℕ) (fact : OperandFacts) → operand_text i p k m ≡ Some text → facts_of i s k ≡ Some fact → IsWritable (spot_of p k)
      → said (goal_of labels inst) count (atom_of_run (facts_of i s) (Run.Given (suc k) text) ∷ []) ≡ said (goal_of labels inst) count (written text)
  run_as_written k m text fact e f other =
      let low = operand_below i s is p lettered k m text e in
      rw (ne_eqb k 254 (λ same. absurd (omega (arith, same, low))), f) (same_there k m text fact (slice_get i.operands k) refl f other e)
