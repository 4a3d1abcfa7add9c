-- An instruction that is read has no hole without a name.
use Rattle.std.proofs.Common.{◌≡◌, ℕ, ◌==◌, ◌||◌, not, List, [], ◌∷◌, Bool, true, false, Option, None, Some, IsTrue, is_some, refl}
use Rattle.std.specs.List.{list_all}
use Rattle.asm_core.specs.Reading.Operands.{atom_code}
use Rattle.asm_core.specs.Reading.Line.{line_of, line_read}
use Rattle.asm_core.proofs.ReadingLaws.HolesRead.{MayBeLost, is_held_in, line_read_held}
use Rattle.asm_core.proofs.ReadingLaws.WrittenCodes.{NameLabels}
use Rattle.asm_core.specs.declared.names.Prefix.{Prefix}
use Rattle.asm_core.specs.declared.names.NameRow.{NameRow}
use Rattle.asm_core.specs.declared.reading.Leaf.{Leaf}
use Rattle.asm_core.specs.declared.reading.Atom.{Atom}
use Rattle.asm_core.specs.declared.reading.Line.{Line}
use Rattle.asm_core.specs.declared.reading.LineOperand.{LineOperand}

abbrev pub is_nameless : Leaf → Bool
is_nameless Leaf.Nothing = false
is_nameless (Leaf.Register place slice count) = false
is_nameless (Leaf.Immediate d) = false
is_nameless (Leaf.Bare d known) = false
is_nameless (Leaf.Memory k form) = false
is_nameless Leaf.Nameless = true

-- an element that is no hole, or has a name
abbrev pub is_named : Atom → Bool
is_named x = not (atom_code x == 0) || not (is_nameless x.leaf)

abbrev pub are_named : List Atom → Bool
are_named xs = list_all is_named xs

nameless_alone : MayBeLost is_nameless
nameless_alone = record {
  nothing = refl;
  whole = λ place count. refl;
  immediate = λ d. refl;
  bare = λ d known. refl;
  memory = λ k form. refl;
}

operand_named : (o : LineOperand) → is_held_in is_nameless o ≡ true
operand_named (LineOperand.Register place slice count) = refl
operand_named (LineOperand.Immediate d) = refl
operand_named (LineOperand.Memory k form) = refl
operand_named (LineOperand.Address d base index) = refl
operand_named (LineOperand.Label goal) = refl

operands_named : (os : List LineOperand) → list_all (is_held_in is_nameless) os ≡ true
operands_named [] = refl
operands_named (o ∷ os) = rw (operand_named o, operands_named os) refl

line_there : (o : Option Line) → IsTrue (is_some o) → (l : Line) × (o ≡ Some l)
line_there None h = absurd (cc)
line_there (Some l) h = (l, refl)

pub line_read_named : (goal : List ℕ → Option (Option ℕ)) (labels : NameLabels goal) (rows : List NameRow)
    (before : List Prefix) (place : ℕ) (xs : List Atom)
    → IsTrue (is_some (line_read (line_of rows goal before place xs))) → are_named xs ≡ true
line_read_named goal labels rows before place xs h =
    let l = line_there (line_read (line_of rows goal before place xs)) h in
    line_read_held is_nameless nameless_alone goal labels rows before place xs l.0 l.1 (operands_named l.0.operands)
