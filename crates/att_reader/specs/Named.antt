-- What the parts of an instruction's text name.
use Rattle.std.specs.Prelude.{ℕ, ◌^◌, List, [], ◌∷◌, take, Option, None, Some}
use Rattle.std.specs.List.{prefix_len}
use Rattle.asm_core.specs.Pieces.{NamesOneOf}
use Rattle.asm_core.specs.Reg.{reg_number}
use Rattle.asm_core.specs.Reading.Cut.{Raw, is_word}
use Rattle.asm_core.specs.Reading.Written.{register_named}
use Rattle.asm_core.specs.declared.piece.Piece.{Piece}
use Rattle.asm_core.specs.declared.reg.Reg.{Reg}
use Rattle.asm_core.specs.declared.reg.Slice.{Slice}
use Rattle.asm_core.specs.declared.reading.Atom.{Atom}

abbrev pub register_bit : Option (Reg × Slice) → ℕ
register_bit None = 0
register_bit (Some r) = 2 ^ reg_number r.0

-- the bit of the register whose name is the word at the beginning; 0 where it is no register's
unfoldable pub named_bit : List ℕ → ℕ
named_bit cs = register_bit (register_named (take (prefix_len is_word cs) cs))

-- the bit of the operand that the piece is a hole of; 0 where it is none
abbrev pub hole_bit : Piece → ℕ
hole_bit (Piece.Byte b at) = 0
hole_bit (Piece.Hole k m at) = 2 ^ k
hole_bit (Piece.Unique at) = 0

-- each hole is that of one of so many operands
abbrev pub HolesBelow : ℕ → List Atom → Type 0
HolesBelow n [] = Unit {0}
HolesBelow n (x ∷ xs) = NamesOneOf n x.piece × HolesBelow n xs

-- the same of the bodies of instructions
abbrev pub BodiesBelow : ℕ → List (Raw Atom) → Type 0
BodiesBelow n [] = Unit {0}
BodiesBelow n (Raw.Named name ∷ raws) = BodiesBelow n raws
BodiesBelow n (Raw.Dead from ∷ raws) = BodiesBelow n raws
BodiesBelow n (Raw.Live before from body ∷ raws) = HolesBelow n body × BodiesBelow n raws
