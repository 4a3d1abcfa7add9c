-- What stands in the parentheses of an address.
use Rattle.std.proofs.Common.{◌≡◌, ◌<◌, ◌-◌, ℕ, suc, List, map, length, take, Option, slice_index, get_or, refl, arith}
use Rattle.asm_core.specs.Reading.Operands.{atom_code, before, between, enclosed}
use Rattle.asm_core.specs.declared.reading.Atom.{Atom}
use Rattle.asm_core.specs.declared.sym.Disp.{Disp}

closed_by : (d : Option Disp) (xs : List Atom) (n k : ℕ) → n ≡ suc k → slice_index (map atom_code xs) k ≡ 41
    → enclosed d xs n ≡ between d (take k xs) (before 44 (map atom_code (take k xs)))
unfolding enclosed
closed_by d xs n k e closes = rw (e, closes) refl

pub closed : (d : Option Disp) (xs : List Atom) (cs : List ℕ) → cs ≡ map atom_code xs → 0 < length xs
    → get_or cs (length xs - 1) 0 ≡ 41
    → enclosed d xs (length xs)
    ≡ between d (take (length xs - 1) xs) (before 44 (map atom_code (take (length xs - 1) xs)))
closed d xs cs same some closes = closed_by d xs (length xs) (length xs - 1) (omega arith) (rw same at closes)
