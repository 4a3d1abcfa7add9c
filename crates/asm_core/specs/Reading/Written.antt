-- Registers and numbers as they are written (Intel SDM volume 1, "General-Purpose Registers"; GNU as, "Integers").
use Rattle.std.specs.Prelude.{ℕ, zero, suc, ◌-◌, ◌==◌, ◌^◌, ◌&&◌, nat_le, nat_lt, ℤ, pos, negsuc, Bool, List, [], ◌∷◌, length, drop, slice_index, Option, None, Some, codes, if◌then◌else◌}
use Rattle.std.specs.List.{list_all}
use Rattle.std.specs.Char.{digit_value}
use Rattle.std.specs.Str.Parse.{digits_value}
use Rattle.asm_core.specs.Cond.{entry_named}
use Rattle.asm_core.specs.declared.reg.Reg.{Reg}
use Rattle.asm_core.specs.declared.reg.Reg.TheVariants.{Eax, Ebx, Ecx, Edx, Esi, Edi, Ebp}
use Rattle.asm_core.specs.declared.reg.Slice.{Slice}
use Rattle.asm_core.specs.declared.reg.Slice.TheVariants.{Low8, High8, Low16, All}

abbrev pub register_names : List (List ℕ × (Reg × Slice))
register_names =
    (codes "eax", (Eax, All)) ∷ (codes "ebx", (Ebx, All)) ∷ (codes "ecx", (Ecx, All)) ∷ (codes "edx", (Edx, All))
    ∷ (codes "esi", (Esi, All)) ∷ (codes "edi", (Edi, All)) ∷ (codes "ebp", (Ebp, All))
    ∷ (codes "ax", (Eax, Low16)) ∷ (codes "bx", (Ebx, Low16)) ∷ (codes "cx", (Ecx, Low16)) ∷ (codes "dx", (Edx, Low16))
    ∷ (codes "si", (Esi, Low16)) ∷ (codes "di", (Edi, Low16)) ∷ (codes "bp", (Ebp, Low16))
    ∷ (codes "al", (Eax, Low8)) ∷ (codes "bl", (Ebx, Low8)) ∷ (codes "cl", (Ecx, Low8)) ∷ (codes "dl", (Edx, Low8))
    ∷ (codes "ah", (Eax, High8)) ∷ (codes "bh", (Ebx, High8)) ∷ (codes "ch", (Ecx, High8)) ∷ (codes "dh", (Edx, High8)) ∷ []

-- the register, or the part of one, of that name (without `%`)
abbrev pub register_named : List ℕ → Option (Reg × Slice)
register_named text = entry_named text register_names

-- one digit or more of the radix
abbrev pub is_numeral : ℕ → List ℕ → Bool
is_numeral radix ds = nat_lt 0 (length ds) && list_all (λ d. nat_lt (digit_value d) radix) ds

abbrev pub numeral_value : ℕ → List ℕ → Option ℕ
numeral_value radix ds = if is_numeral radix ds then Some (digits_value radix ds) else None

-- hexadecimal behind `0x`, binary behind `0b`, octal behind another `0`, else decimal
unfoldable pub magnitude_of : List ℕ → Option ℕ
magnitude_of text =
    if (slice_index text 0 == 48) && nat_lt 1 (length text) then
    (if slice_index text 1 == 120 then numeral_value 16 (drop 2 text)
    else if slice_index text 1 == 98 then numeral_value 2 (drop 2 text)
    else numeral_value 8 (drop 1 text))
    else numeral_value 10 text

abbrev pub negative : ℕ → ℤ
negative zero = pos 0
negative (suc n) = negsuc n

abbrev pub not_above : Option ℕ → ℕ → Option ℕ
not_above None limit = None
not_above (Some n) limit = if nat_le n limit then Some n else None

abbrev pub as_positive : Option ℕ → Option ℤ
as_positive None = None
as_positive (Some n) = Some (pos n)

abbrev pub as_negative : Option ℕ → Option ℤ
as_negative None = None
as_negative (Some n) = Some (negative n)

-- a number from -2^31 to 2^32 - 1, with or without a `-`
unfoldable pub number_of : List ℕ → Option ℤ
number_of text =
    if slice_index text 0 == 45 then as_negative (not_above (magnitude_of (drop 1 text)) (2 ^ 31))
    else as_positive (not_above (magnitude_of text) (2 ^ 32 - 1))
