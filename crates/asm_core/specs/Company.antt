-- Companies: which operands are at one place under a shape, as far as their letters say it, whatever the placement. This project's
-- own.
use Rattle.std.specs.Prelude.{ℕ, ◌==◌, ◌&&◌, Bool, true, false, List, map, Option, None, Some, slice_get, if◌then◌else◌}
use Rattle.std.specs.Cmp.Lexicographic.{pointwise}
use Rattle.asm_core.specs.Lists.{count_from}
use Rattle.asm_core.specs.Placement.{tie_root}
use Rattle.asm_core.specs.Rows.{same_place}
use Rattle.asm_core.specs.Reading.Facts.{fixed_register, alternative_at}
use Rattle.asm_core.specs.declared.reg.Reg.{Reg}
use Rattle.asm_core.specs.declared.sym.Place.{Place}
use Rattle.asm_core.specs.declared.shape.Kind.{Kind}
use Rattle.asm_core.specs.declared.shape.Shape.{Shape}
use Rattle.asm_core.specs.declared.interface.AltIface.{AltIface}
use Rattle.asm_core.specs.declared.interface.Interface.{Interface}
use Rattle.asm_core.specs.declared.company.Places.{Places}
use Rattle.asm_core.specs.declared.company.Held.{Held}

-- ---- where operands are

-- its letters allow the pair and no other register
abbrev pub is_pair_alone : AltIface → Bool
is_pair_alone alt = alt.pair && (alt.regs.0 == 0)

-- the one register that the letters allow, else wherever the operand is put
abbrev pub fixed_place : ℕ → Option Reg → Place
fixed_place root None = Place.Operand root
fixed_place root (Some r) = Place.Reg r

abbrev pub register_places : ℕ → AltIface → Places
register_places root alt = if is_pair_alone alt then Places.Pair else Places.One (fixed_place root (fixed_register alt))

abbrev pub kind_places : ℕ → AltIface → Kind → Places
kind_places root alt Kind.Register = register_places root alt
kind_places root alt Kind.Memory = Places.One (Place.Operand root)
kind_places root alt Kind.Number = Places.One (Place.Operand root)

abbrev pub places_by : ℕ → Option AltIface → Option Kind → Places
places_by root (Some alt) (Some kind) = kind_places root alt kind
places_by root None kind = Places.One (Place.Operand root)
places_by root (Some alt) None = Places.One (Place.Operand root)

-- Where operand k is under a shape: where the output is that it is tied to.
unfoldable pub places_of : Interface → Shape → ℕ → Places
places_of i s k = let root = tie_root i s k in places_by root (alternative_at (slice_get i.operands root) s.alternative) (slice_get s.kinds root)

-- where each operand is
abbrev pub all_places : Interface → Shape → List Places
all_places i s = map (places_of i s) (count_from 0 i.operands)

-- ---- companies

-- the half of a value in edx:eax that a register holds
abbrev pub half_in : Reg → Held
half_in Reg.Eax = Held.Low
half_in Reg.Edx = Held.High
half_in r = Held.Nothing

-- what of an operand in edx:eax is at the place
abbrev pub pair_at : Place → Held
pair_at (Place.Reg r) = half_in r
pair_at (Place.Operand k) = Held.Nothing

-- what of an operand that is there is at the place
abbrev pub held_at : Place → Places → Held
held_at p (Places.One q) = if same_place p q then Held.All else Held.Nothing
held_at p Places.Pair = pair_at p

-- The company of a place: what of each operand is there.
abbrev pub company_of : Place → List Places → List Held
company_of p xs = map (held_at p) xs

abbrev pub held_number : Held → ℕ
held_number Held.Nothing = 0
held_number Held.All = 1
held_number Held.Low = 2
held_number Held.High = 3

abbrev pub same_held : Held → Held → Bool
same_held h k = held_number h == held_number k

-- Place p has the company under one shape that q has under another; operands are at xs and at ys.
unfoldable pub same_company : Place → List Places → Place → List Places → Bool
same_company p xs q ys = pointwise same_held (company_of p xs) (company_of q ys)

abbrev pub same_in_register : Reg → List Places → List Places → Bool
same_in_register r xs ys = same_company (Place.Reg r) xs (Place.Reg r) ys

-- an operand in edx:eax has two companies
abbrev pub same_companies : List Places → List Places → Places → Places → Bool
same_companies xs ys (Places.One p) (Places.One q) = same_company p xs q ys
same_companies xs ys Places.Pair Places.Pair = same_in_register Reg.Eax xs ys && same_in_register Reg.Edx xs ys
same_companies xs ys (Places.One p) Places.Pair = false
same_companies xs ys Places.Pair (Places.One q) = false

abbrev pub same_if_there : List Places → List Places → Option Places → Option Places → Bool
same_if_there xs ys (Some x) (Some y) = same_companies xs ys x y
same_if_there xs ys None y = true
same_if_there xs ys (Some x) None = true

-- The register has one company under both shapes.
abbrev pub same_register_company : Interface → Shape → Shape → Reg → Bool
same_register_company i s t r = same_in_register r (all_places i s) (all_places i t)

-- The operand has one company under both shapes.
abbrev pub same_operand_company : Interface → Shape → Shape → ℕ → Bool
same_operand_company i s t k =
    let xs = all_places i s in
    let ys = all_places i t in
    same_if_there xs ys (slice_get xs k) (slice_get ys k)
