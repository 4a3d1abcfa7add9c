-- The flags in their order, and sets of them as truth values.
use Rattle.std.specs.Prelude.{ℕ, ◌+◌, ◌*◌, ◌/◌, ◌%◌, ◌^◌, ◌==◌, List, codes, Bool, if◌then◌else◌}
use Rattle.asm_core.specs.declared.flag.Flag.{Flag}
use Rattle.asm_core.specs.declared.flag.Flag.TheVariants.{Cf, Pf, Af, Zf, Sf, Of, Df}
use Rattle.asm_core.specs.declared.flag.FlagSet.{FlagSet}

-- the place of a flag in their order
abbrev pub flag_number : Flag → ℕ
flag_number Cf = 0
flag_number Pf = 1
flag_number Af = 2
flag_number Zf = 3
flag_number Sf = 4
flag_number Of = 5
flag_number Df = 6

abbrev pub flag_name : Flag → List ℕ
flag_name Cf = codes "CF"
flag_name Pf = codes "PF"
flag_name Af = codes "AF"
flag_name Zf = codes "ZF"
flag_name Sf = codes "SF"
flag_name Of = codes "OF"
flag_name Df = codes "DF"

-- whether the flag is 1
abbrev pub flag_in : Flag → FlagSet → Bool
flag_in f s = s.0 / 2 ^ flag_number f % 2 == 1

-- the flags, each 1 where it is true
pub record Truths : Type 0 where
  pub cf : Bool
  pub pf : Bool
  pub af : Bool
  pub zf : Bool
  pub sf : Bool
  pub of : Bool
  pub df : Bool

-- the weight of a bit that is 1 where b is true
abbrev pub bit_if : Bool → ℕ → ℕ
bit_if b weight = if b then weight else 0

-- the set of the flags that are true
unfoldable pub flag_set : Truths → FlagSet
flag_set t = record { 0 = bit_if t.cf 1 + bit_if t.pf 2 + bit_if t.af 4 + bit_if t.zf 8 + bit_if t.sf 16 + bit_if t.of 32 + bit_if t.df 64 }

-- the set with a flag as the lowest bit of v
abbrev pub with_flag : Flag → ℕ → FlagSet → FlagSet
with_flag f v s = record { 0 = s.0 / (2 * 2 ^ flag_number f) * (2 * 2 ^ flag_number f) + v % 2 * 2 ^ flag_number f + s.0 % 2 ^ flag_number f }
