-- The operands of an instruction in AT&T syntax (GNU as, "i386-Memory" and "i386-Syntax"). An element is a byte or a hole;
-- a hole is a whole operand, a whole number, or a whole register.
use Rattle.std.specs.Prelude.{ℕ, zero, suc, ◌+◌, ◌==◌, ◌||◌, ◌&&◌, nat_lt, not, ℤ, pos, Bool, true, false, List, [], ◌∷◌, length, map, take, drop, slice_index, Option, None, Some, if◌then◌else◌}
use Rattle.std.specs.Option.{option_map}
use Rattle.std.specs.List.{prefix_len}
use Rattle.asm_core.specs.Pieces.{piece_code}
use Rattle.asm_core.specs.Reading.Cut.{is_blank, begun}
use Rattle.asm_core.specs.Reading.Written.{register_named, number_of}
use Rattle.asm_core.specs.declared.reg.Reg.{Reg}
use Rattle.asm_core.specs.declared.reg.Slice.{Slice}
use Rattle.asm_core.specs.declared.sym.Place.{Place}
use Rattle.asm_core.specs.declared.sym.Disp.{Disp}
use Rattle.asm_core.specs.declared.reading.Leaf.{Leaf}
use Rattle.asm_core.specs.declared.reading.Leaf.TheVariants as leaves
use Rattle.asm_core.specs.declared.reading.Atom.{Atom}
use Rattle.asm_core.specs.declared.reading.LineOperand.{LineOperand}
use Rattle.asm_core.specs.declared.reading.LineOperand.TheVariants as operands

abbrev pub atom_code : Atom → ℕ
atom_code a = piece_code a.piece

-- how many codes stand before the blanks at the end
abbrev pub content_len : List ℕ → ℕ
content_len [] = 0
content_len (c ∷ cs) = if (content_len cs == 0) && is_blank c then 0 else 1 + content_len cs

-- without the blanks at the end
unfoldable pub ended : List Atom → List Atom
ended xs = take (content_len (map atom_code xs)) xs

unfoldable pub trimmed : List Atom → List Atom
trimmed xs = ended (begun atom_code xs)

-- what a text that is one hole stands for
abbrev pub hole_of : List Atom → Leaf
hole_of [] = leaves.Nothing
hole_of (x ∷ []) = x.leaf
hole_of (x ∷ y ∷ xs) = leaves.Nothing

-- `%cl` as it is written may be the count of a shift
abbrev pub is_cl : Reg × Slice → Bool
is_cl (Reg.Ecx, Slice.Low8) = true
is_cl r = false

abbrev pub number_disp : Option ℤ → Option Disp
number_disp n = option_map Disp.Number n

abbrev pub disp_or : Leaf → Option ℤ → Option Disp
disp_or (leaves.Bare d known) n = Some d
disp_or leaf n = number_disp n

-- a number, or a hole that stands for one
unfoldable pub disp_in : List Atom → Option Disp
disp_in xs = disp_or (hole_of xs) (number_of (map atom_code xs))

abbrev pub whole_register : Option (Reg × Slice) → Option Place
whole_register (Some (r, Slice.All)) = Some (Place.Reg r)
whole_register r = None

-- `%` and the name of a 32-bit register
abbrev pub register_place : List ℕ → Option Place
register_place text = if slice_index text 0 == 37 then whole_register (register_named (drop 1 text)) else None

abbrev pub place_or : Leaf → Option Place → Option Place
place_or (leaves.Register place Slice.All count) other = Some place
place_or leaf other = other

-- a 32-bit register, or a hole that stands for one
unfoldable pub place_in : List Atom → Option Place
place_in xs = place_or (hole_of xs) (register_place (map atom_code xs))

-- 1, 2, 4 or 8
abbrev pub scale_of : Option ℤ → Option ℕ
scale_of (Some (pos n)) = if (n == 1) || ((n == 2) || ((n == 4) || (n == 8))) then Some n else None
scale_of n = None

abbrev pub scale_or : Leaf → Option ℤ → Option ℕ
scale_or (leaves.Bare d known) n = scale_of known
scale_or leaf n = scale_of n

-- the scale of an index; a hole counts by its known value
unfoldable pub scale_in : List Atom → Option ℕ
scale_in xs = scale_or (hole_of xs) (number_of (map atom_code xs))

-- how many codes stand before the next one that is c
abbrev pub before : ℕ → List ℕ → ℕ
before c cs = prefix_len (λ x. not (x == c)) cs

abbrev pub address : Option Disp → Option (Option Place) → Option (Option (Place × ℕ)) → Option LineOperand
address (Some d) (Some base) (Some index) = Some (operands.Address d base index)
address d base index = None

abbrev pub indexed : Option Place → Option ℕ → Option (Option (Place × ℕ))
indexed (Some place) (Some scale) = Some (Some (place, scale))
indexed place scale = None

-- the base, which may be missing before an index
unfoldable pub base_in : List Atom → Option (Option Place)
base_in xs = if length xs == 0 then Some None else option_map Some (place_in xs)

-- `index` or `index,scale`, the first comma standing behind n elements
unfoldable pub index_in : List Atom → ℕ → Option (Option (Place × ℕ))
index_in xs n =
    if nat_lt n (length xs) then indexed (place_in (trimmed (take n xs))) (scale_in (trimmed (drop (n + 1) xs)))
    else indexed (place_in (trimmed xs)) (Some 1)

-- what stands between the parentheses, the first comma standing behind n elements
unfoldable pub between : Option Disp → List Atom → ℕ → Option LineOperand
between d xs n =
    if nat_lt n (length xs) then
    (let rest = drop (n + 1) xs in address d (base_in (trimmed (take n xs))) (index_in rest (before 44 (map atom_code rest))))
    else address d (option_map Some (place_in (trimmed xs))) (Some None)

-- what stands behind `(`, with `)` as the last element
unfoldable pub enclosed : Option Disp → List Atom → ℕ → Option LineOperand
enclosed d xs zero = None
enclosed d xs (suc n) =
    if slice_index (map atom_code xs) n == 41 then (let inner = take n xs in between d inner (before 44 (map atom_code inner))) else None

-- the displacement before `(`, which may be missing
unfoldable pub front_disp : List Atom → Option Disp
front_disp xs = if length xs == 0 then Some (Disp.Number (pos 0)) else disp_in xs

-- an address, `(` standing behind n elements
unfoldable pub address_at : List Atom → ℕ → Option LineOperand
address_at xs n =
    if nat_lt n (length xs) then (let rest = drop (n + 1) xs in enclosed (front_disp (ended (take n xs))) rest (length rest))
    else address (disp_in xs) (Some None) (Some None)

unfoldable pub address_of : List Atom → Option LineOperand
address_of xs = address_at xs (before 40 (map atom_code xs))

abbrev pub register_operand : Option (Reg × Slice) → Option LineOperand
register_operand None = None
register_operand (Some r) = Some (operands.Register (Place.Reg r.0) r.1 (is_cl r))

abbrev pub label_or : Option (Option ℕ) → Option LineOperand → Option LineOperand
label_or None other = other
label_or (Some goal) other = Some (operands.Label goal)

-- `$` and a number, `%` and a register, a label, or an address; `goal` tells the goal of a label
unfoldable pub written_operand : (List ℕ → Option (Option ℕ)) → List Atom → Option LineOperand
written_operand goal xs =
    let text = map atom_code xs in
    if slice_index text 0 == 36 then option_map operands.Immediate (disp_in (drop 1 xs))
    else if slice_index text 0 == 37 then register_operand (register_named (drop 1 text))
    else label_or (goal text) (address_of xs)

-- what a hole is as a whole operand
abbrev pub hole_operand : Leaf → Option LineOperand → Option LineOperand
hole_operand leaves.Nothing other = other
hole_operand (leaves.Register place slice count) other = Some (operands.Register place slice count)
hole_operand (leaves.Immediate d) other = Some (operands.Immediate d)
hole_operand (leaves.Bare d known) other = Some (operands.Address d None None)
hole_operand (leaves.Memory k form) other = Some (operands.Memory k form)
hole_operand leaves.Nameless other = None

unfoldable pub operand_of : (List ℕ → Option (Option ℕ)) → List Atom → Option LineOperand
operand_of goal xs = hole_operand (hole_of xs) (written_operand goal xs)

-- how many codes stand before the first comma outside parentheses
abbrev pub comma_outside : Bool → List ℕ → ℕ
comma_outside inside [] = 0
comma_outside inside (c ∷ cs) =
    if (c == 44) && not inside then 0
    else 1 + comma_outside (if c == 40 then true else (if c == 41 then false else inside)) cs

-- the operands, the first of which has n elements; no instruction has more than `left`
unfoldable pub operands_in : (List ℕ → Option (Option ℕ)) → ℕ → List Atom → ℕ → List (Option LineOperand)
operands_in goal zero xs n = None ∷ []
operands_in goal (suc left) xs n =
    operand_of goal (trimmed (take n xs))
    ∷ (if nat_lt n (length xs) then (let rest = drop (n + 1) xs in operands_in goal left rest (comma_outside false (map atom_code rest))) else [])

-- the operands as they are written, from first to last: at most three, none where nothing but blanks stands there
unfoldable pub operands_of : (List ℕ → Option (Option ℕ)) → List Atom → List (Option LineOperand)
operands_of goal xs = if length xs == 0 then [] else operands_in goal 3 xs (comma_outside false (map atom_code xs))

-- each of them, where all are there
abbrev pub all_some : {A : Type 0} → List (Option A) → Option (List A)
all_some [] = Some []
all_some (None ∷ xs) = None
all_some (Some x ∷ xs) = option_map (λ (ys : List _). x ∷ ys) (all_some xs)
