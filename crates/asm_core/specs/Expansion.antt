-- The text of a template under a placement: how each operand is printed (GCC manual, "x86 Operand Modifiers").
use Rattle.std.specs.Prelude.{ℕ, zero, suc, ℤ, pos, Bool, true, false, List, [], ◌∷◌, ◌++◌, map, codes, decimal, Option, None, Some, Result, Ok, Err, slice_get}
use Rattle.std.specs.Option.{option_map, option_and_then}
use Rattle.std.specs.Fmt.{signed_decimal}
use Rattle.asm_core.specs.Reg.{reg_name}
use Rattle.asm_core.specs.Placement.{spot_of}
use Rattle.asm_core.specs.Comments.{comments_of}
use Rattle.asm_core.specs.Pieces.{piece_code}
use Rattle.asm_core.specs.Reading.Facts.{slice_of}
use Rattle.asm_core.specs.declared.reading.Sign.{Sign}
use Rattle.asm_core.specs.declared.reg.Reg.{Reg}
use Rattle.asm_core.specs.declared.reg.Reg.TheVariants.{Eax, Ebx, Ecx, Edx, Esi, Edi, Ebp}
use Rattle.asm_core.specs.declared.reg.Slice.{Slice}
use Rattle.asm_core.specs.declared.reg.Slice.TheVariants.{Low8, High8, Low16, All}
use Rattle.asm_core.specs.declared.piece.Modifier.{Modifier}
use Rattle.asm_core.specs.declared.piece.Piece.{Piece}
use Rattle.asm_core.specs.declared.placement.Base.{Base}
use Rattle.asm_core.specs.declared.placement.Form.{Form}
use Rattle.asm_core.specs.declared.placement.Spot.{Spot}
use Rattle.asm_core.specs.declared.placement.Placement.{Placement}
use Rattle.asm_core.specs.declared.interface.OperandIface.{OperandIface}
use Rattle.asm_core.specs.declared.interface.Interface.{Interface}

-- the letter that the names of a register's bytes begin with
abbrev byte_letter : Reg → Option ℕ
byte_letter Eax = Some 97
byte_letter Ebx = Some 98
byte_letter Ecx = Some 99
byte_letter Edx = Some 100
byte_letter Esi = None
byte_letter Edi = None
byte_letter Ebp = None

abbrev byte_name : ℕ → Option ℕ → Option (List ℕ)
byte_name last None = None
byte_name last (Some letter) = Some (letter ∷ last ∷ [])

-- the name of a part of a register, without `%`
abbrev pub name_of : Reg → Slice → Option (List ℕ)
name_of r All = Some (reg_name r)
name_of r Low16 = Some (short (reg_name r))
  where
    short : List ℕ → List ℕ
    short [] = []
    short (c ∷ cs) = cs
name_of r Low8 = byte_name 108 (byte_letter r)
name_of r High8 = byte_name 104 (byte_letter r)

-- a register: `%` and the name of its part
abbrev pub register_text : Reg → Option Slice → Option (List ℕ)
register_text r None = None
register_text r (Some s) = option_map (λ (name : List ℕ). 37 ∷ name) (name_of r s)

-- a number: signed decimal behind `$`, with `c` alone
abbrev pub number_text : ℤ → Modifier → Option (List ℕ)
number_text n Modifier.H = None
number_text n Modifier.C = Some (signed_decimal n)
number_text n Modifier.Plain = Some (36 ∷ signed_decimal n)
number_text n Modifier.B = Some (36 ∷ signed_decimal n)
number_text n Modifier.W = Some (36 ∷ signed_decimal n)
number_text n Modifier.K = Some (36 ∷ signed_decimal n)

abbrev pub base_text : Base → List ℕ
base_text Base.Esp = codes "%esp"
base_text (Base.Reg r) = 37 ∷ reg_name r

abbrev pub index_text : Reg × ℕ → List ℕ
index_text x = 44 ∷ (37 ∷ (reg_name x.0 ++ (44 ∷ decimal x.1)))

-- `base`, `base,index,scale` or `,index,scale`
abbrev pub registers_text : Option Base → Option (Reg × ℕ) → List ℕ
registers_text None None = []
registers_text (Some b) None = base_text b
registers_text (Some b) (Some x) = base_text b ++ index_text x
registers_text None (Some x) = index_text x

abbrev pub disp_text : ℤ → List ℕ
disp_text (pos zero) = []
disp_text n = signed_decimal n

-- an address with registers: they stand in parentheses behind the displacement
abbrev pub address_text : ℤ → List ℕ → List ℕ
address_text disp registers = disp_text disp ++ 40 ∷ (registers ++ 41 ∷ [])

-- the displacement is left out where it is 0 and a register stands there
abbrev pub form_text : Form → List ℕ
form_text form = elim form.base [
  | Some b ↦ address_text form.disp (registers_text (Some b) form.index)
  | None ↦ elim form.index [ Some x ↦ address_text form.disp (registers_text None (Some x)) | None ↦ signed_decimal form.disp ]
]

-- an address is printed alike with `b`, `w` and `k`
abbrev pub memory_text : Form → Modifier → Option (List ℕ)
memory_text form Modifier.H = None
memory_text form Modifier.C = None
memory_text form Modifier.Plain = Some (form_text form)
memory_text form Modifier.B = Some (form_text form)
memory_text form Modifier.W = Some (form_text form)
memory_text form Modifier.K = Some (form_text form)

-- How an operand of that size is printed; none where it has no such name. The pair prints as eax.
abbrev pub printed : ℕ → Modifier → Spot → Option (List ℕ)
printed size m (Spot.Register r) = register_text r (slice_of size m)
printed size m Spot.Pair = register_text Eax (slice_of size m)
printed size m (Spot.Number n) = number_text n m
printed size m (Spot.Memory form) = memory_text form m

-- operand k under the placement
abbrev pub operand_text : Interface → Placement → ℕ → Modifier → Option (List ℕ)
operand_text i p k m = option_and_then (λ (o : OperandIface). printed o.size m (spot_of p k)) (slice_get i.operands k)

abbrev pub with_origin : ℕ → List ℕ → List Sign
with_origin origin text = map (λ b. record { byte = b; origin = origin }) text

-- In a comment an operand without such a name prints `?` (this project's own rule).
abbrev pub hole_text : Bool → Option (List ℕ) → Option (List ℕ)
hole_text inside (Some text) = Some text
hole_text true None = Some (63 ∷ [])
hole_text false None = None

-- what a piece gives, or the operand that has no name; `inside` tells whether it stands in a comment
abbrev pub piece_text : Interface → Placement → ℕ → Bool → Piece → Result (List Sign) ℕ
piece_text i p unique inside (Piece.Byte b at) = Ok (with_origin 0 (b ∷ []))
piece_text i p unique inside (Piece.Unique at) = Ok (with_origin 255 (decimal unique))
piece_text i p unique inside (Piece.Hole k m at) = elim (hole_text inside (operand_text i p k m)) [ None ↦ Err k | Some text ↦ Ok (with_origin (suc k) text) ]

abbrev pub onto_text : Result (List Sign) ℕ → Result (List Sign) ℕ → Result (List Sign) ℕ
onto_text (Err k) rest = Err k
onto_text (Ok text) (Err k) = Err k
onto_text (Ok text) (Ok rest) = Ok (text ++ rest)

-- the text of pieces, each with whether it stands in a comment
unfoldable pub expansion_with : Interface → Placement → ℕ → List Piece → List Bool → Result (List Sign) ℕ
expansion_with i p unique [] marks = Ok []
expansion_with i p unique (x ∷ xs) [] = Ok []
expansion_with i p unique (x ∷ xs) (inside ∷ marks) = onto_text (piece_text i p unique inside x) (expansion_with i p unique xs marks)

-- The template's text under a placement, `unique` being the number that `%=` gives, or the first operand outside comments
-- that has no name there.
abbrev pub expansion_of : Interface → Placement → ℕ → List Piece → Result (List Sign) ℕ
expansion_of i p unique ps = expansion_with i p unique ps (comments_of (map piece_code ps))
