-- Places and cells are numbered. Places: the seven registers, then operand k as place 7 + k, be it its register or its address. Cells:
-- the bytes 0 to 3 of each place, the six flags, the bytes of 16 pushed words, and hands, which hold values between the reads and the
-- writes of an instruction. This project's own.
use Rattle.std.specs.Prelude.{ℕ, ◌+◌, ◌-◌, ◌*◌, ◌/◌, ◌%◌, nat_lt, nat_le, Bool, List, [], ◌∷◌, map, if◌then◌else◌, slice_index_or}
use Rattle.asm_core.specs.Reg.{reg_number}
use Rattle.asm_core.specs.Flag.{flag_number}
use Rattle.asm_core.specs.declared.reg.Reg.{Reg}
use Rattle.asm_core.specs.declared.reg.Reg.TheVariants.{Eax, Ebx, Ecx, Edx, Esi, Edi, Ebp}
use Rattle.asm_core.specs.declared.reg.Slice.{Slice}
use Rattle.asm_core.specs.declared.flag.Flag.{Flag}
use Rattle.asm_core.specs.declared.sym.Place.{Place}

abbrev pub place_number : Place → ℕ
place_number (Place.Reg r) = reg_number r
place_number (Place.Operand k) = 7 + k

-- the register of that number
abbrev pub reg_at : ℕ → Reg
reg_at n = slice_index_or (Eax ∷ Ebx ∷ Ecx ∷ Edx ∷ Esi ∷ Edi ∷ Ebp ∷ []) n Eax

-- the place of that number
abbrev pub place_at : ℕ → Place
place_at p = if nat_lt p 7 then Place.Reg (reg_at p) else Place.Operand (p - 7)

-- byte b of a place
abbrev pub byte_cell : ℕ → ℕ → ℕ
byte_cell p b = 4 * p + b

-- CF, PF, AF, ZF, SF and OF; the direction flag is no cell
abbrev pub flag_cell : Flag → ℕ
flag_cell f = 148 + flag_number f

-- byte b of pushed word n
abbrev pub word_cell : ℕ → ℕ → ℕ
word_cell n b = 154 + 4 * n + b

abbrev pub hand_cell : ℕ → ℕ
hand_cell h = 218 + h

-- the cell is a byte of a place; of which, and which byte
abbrev pub is_byte : ℕ → Bool
is_byte c = nat_lt c 148

abbrev pub place_of : ℕ → ℕ
place_of c = c / 4

abbrev pub byte_of : ℕ → ℕ
byte_of c = c % 4

abbrev pub is_hand : ℕ → Bool
is_hand c = nat_le 218 c

-- the four bytes of a place, those of a pushed word, and those of a place that a name has
abbrev pub place_cells : ℕ → List ℕ
place_cells p = map (byte_cell p) (0 ∷ 1 ∷ 2 ∷ 3 ∷ [])

abbrev pub word_cells : ℕ → List ℕ
word_cells n = map (word_cell n) (0 ∷ 1 ∷ 2 ∷ 3 ∷ [])

abbrev pub slice_first : Slice → ℕ
slice_first Slice.High8 = 1
slice_first slice = 0

abbrev pub slice_cells : ℕ → Slice → List ℕ
slice_cells p Slice.Low8 = byte_cell p 0 ∷ []
slice_cells p Slice.High8 = byte_cell p 1 ∷ []
slice_cells p Slice.Low16 = byte_cell p 0 ∷ byte_cell p 1 ∷ []
slice_cells p Slice.All = place_cells p
