-- Shifts, rotations and bits.
use Rattle.std.proofs.Common.{◌≡◌, List, [], ◌∷◌, refl}
use Rattle.asm_core.specs.Entries.{origins}
use Rattle.asm_core.proofs.Examples.Rows.Told.{line, told, of, in_register, zeroth, first, memory, number, bytes, flag, load, store, undefined, four_undefined}
use Rattle.asm_core.specs.declared.reg.Reg.TheVariants.{Ecx}
use Rattle.asm_core.specs.declared.reg.Slice.TheVariants.{Low8, Low16, All}
use Rattle.asm_core.specs.declared.flag.Flag.TheVariants.{Cf, Pf, Af, Zf, Sf, Of}
use Rattle.asm_core.specs.declared.inst.Op.{Op}
use Rattle.asm_core.specs.declared.inst.Width.TheVariants.{B, W, L}
use Rattle.asm_core.specs.declared.sym.Arg.{Arg}
use Rattle.asm_core.specs.declared.row.Source.{Source}

abbrev cl : Arg
cl = in_register Ecx Low8

-- shll $3,%1: OF is undefined, as the count isn't 1
abbrev by_three : List Source
by_three = of (number 3) ∷ of (first All) ∷ []

shl_by_three : told (line Op.Shl L (number 3 ∷ first All ∷ [])) ≡ record {
  reads = of (number 3) ∷ of (first All) ∷ Source.Undefined ∷ [];
  writes =
      bytes (first All) 0 4 by_three ∷ flag Cf by_three ∷ flag Pf by_three ∷ flag Af undefined ∷ flag Zf by_three
      ∷ flag Sf by_three
      ∷ flag Of undefined ∷ [];
  uses = [];
  accesses = [];
}
unfolding origins
shl_by_three = refl

-- shlb $9,%1: CF is undefined, as the count isn't below the width
abbrev by_nine : List Source
by_nine = of (number 9) ∷ of (first Low8) ∷ []

shl_byte_by_nine : told (line Op.Shl B (number 9 ∷ first Low8 ∷ [])) ≡ record {
  reads = of (number 9) ∷ of (first Low8) ∷ Source.Undefined ∷ [];
  writes =
      bytes (first Low8) 0 1 by_nine ∷ flag Cf undefined ∷ flag Pf by_nine ∷ flag Af undefined ∷ flag Zf by_nine
      ∷ flag Sf by_nine
      ∷ flag Of undefined ∷ [];
  uses = [];
  accesses = [];
}
unfolding origins
shl_byte_by_nine = refl

-- shrl %1 in memory, by 1: OF is the old top bit
abbrev old : List Source
old = of memory ∷ []

shr_once : told (line Op.Shr L (memory ∷ [])) ≡ record {
  reads = of memory ∷ Source.Undefined ∷ [];
  writes =
      bytes memory 0 4 old ∷ flag Cf old ∷ flag Pf old ∷ flag Af undefined ∷ flag Zf old ∷ flag Sf old
      ∷ flag Of old ∷ [];
  uses = [];
  accesses = load memory 4 ∷ store memory 4 ∷ [];
}
unfolding origins
shr_once = refl

-- sarl $1,%1: OF is 0
abbrev by_one : List Source
by_one = of (number 1) ∷ of (first All) ∷ []

sar_by_one : told (line Op.Sar L (number 1 ∷ first All ∷ [])) ≡ record {
  reads = of (number 1) ∷ of (first All) ∷ Source.Undefined ∷ [];
  writes =
      bytes (first All) 0 4 by_one ∷ flag Cf by_one ∷ flag Pf by_one ∷ flag Af undefined ∷ flag Zf by_one
      ∷ flag Sf by_one ∷ flag Of [] ∷ [];
  uses = [];
  accesses = [];
}
unfolding origins
sar_by_one = refl

-- shlw %cl,%1: each flag names itself too, and CF may be undefined
shl_word : told (line Op.Shl W (cl ∷ first Low16 ∷ [])) ≡ record {
  reads =
      of cl ∷ of (first Low16) ∷ Source.Flag Cf ∷ Source.Flag Pf ∷ Source.Flag Af ∷ Source.Flag Zf ∷ Source.Flag Sf
      ∷ Source.Flag Of
      ∷ Source.Undefined ∷ [];
  writes =
      bytes (first Low16) 0 2 (of cl ∷ of (first Low16) ∷ [])
      ∷ flag Cf (of cl ∷ of (first Low16) ∷ Source.Flag Cf ∷ Source.Undefined ∷ [])
      ∷ flag Pf (of cl ∷ of (first Low16) ∷ Source.Flag Pf ∷ [])
      ∷ flag Af (of cl ∷ Source.Flag Af ∷ Source.Undefined ∷ [])
      ∷ flag Zf (of cl ∷ of (first Low16) ∷ Source.Flag Zf ∷ [])
      ∷ flag Sf (of cl ∷ of (first Low16) ∷ Source.Flag Sf ∷ [])
      ∷ flag Of (of cl ∷ of (first Low16) ∷ Source.Flag Of ∷ Source.Undefined ∷ [])
      ∷ [];
  uses = [];
  accesses = [];
}
unfolding origins
shl_word = refl

-- shrl %cl,%1 in memory: CF is never undefined in 32 bits
shr_memory : told (line Op.Shr L (cl ∷ memory ∷ [])) ≡ record {
  reads =
      of cl ∷ of memory ∷ Source.Flag Cf ∷ Source.Flag Pf ∷ Source.Flag Af ∷ Source.Flag Zf ∷ Source.Flag Sf
      ∷ Source.Flag Of
      ∷ Source.Undefined ∷ [];
  writes =
      bytes memory 0 4 (of cl ∷ of memory ∷ [])
      ∷ flag Cf (of cl ∷ of memory ∷ Source.Flag Cf ∷ [])
      ∷ flag Pf (of cl ∷ of memory ∷ Source.Flag Pf ∷ [])
      ∷ flag Af (of cl ∷ Source.Flag Af ∷ Source.Undefined ∷ [])
      ∷ flag Zf (of cl ∷ of memory ∷ Source.Flag Zf ∷ [])
      ∷ flag Sf (of cl ∷ of memory ∷ Source.Flag Sf ∷ [])
      ∷ flag Of (of cl ∷ of memory ∷ Source.Flag Of ∷ Source.Undefined ∷ [])
      ∷ [];
  uses = [];
  accesses = load memory 4 ∷ store memory 4 ∷ [];
}
unfolding origins
shr_memory = refl

-- sarb %cl,%1: CF is never undefined, nor does OF name the destination
sar_byte : told (line Op.Sar B (cl ∷ first Low8 ∷ [])) ≡ record {
  reads =
      of cl ∷ of (first Low8) ∷ Source.Flag Cf ∷ Source.Flag Pf ∷ Source.Flag Af ∷ Source.Flag Zf ∷ Source.Flag Sf
      ∷ Source.Flag Of
      ∷ Source.Undefined ∷ [];
  writes =
      bytes (first Low8) 0 1 (of cl ∷ of (first Low8) ∷ [])
      ∷ flag Cf (of cl ∷ of (first Low8) ∷ Source.Flag Cf ∷ [])
      ∷ flag Pf (of cl ∷ of (first Low8) ∷ Source.Flag Pf ∷ [])
      ∷ flag Af (of cl ∷ Source.Flag Af ∷ Source.Undefined ∷ [])
      ∷ flag Zf (of cl ∷ of (first Low8) ∷ Source.Flag Zf ∷ [])
      ∷ flag Sf (of cl ∷ of (first Low8) ∷ Source.Flag Sf ∷ [])
      ∷ flag Of (of cl ∷ Source.Flag Of ∷ Source.Undefined ∷ [])
      ∷ [];
  uses = [];
  accesses = [];
}
unfolding origins
sar_byte = refl

-- rolb %cl,%1: CF and OF alone
rol_byte : told (line Op.Rol B (cl ∷ first Low8 ∷ [])) ≡ record {
  reads = of cl ∷ of (first Low8) ∷ Source.Flag Cf ∷ Source.Flag Of ∷ Source.Undefined ∷ [];
  writes =
      bytes (first Low8) 0 1 (of cl ∷ of (first Low8) ∷ [])
      ∷ flag Cf (of cl ∷ of (first Low8) ∷ Source.Flag Cf ∷ Source.Undefined ∷ [])
      ∷ flag Of (of cl ∷ of (first Low8) ∷ Source.Flag Of ∷ Source.Undefined ∷ [])
      ∷ [];
  uses = [];
  accesses = [];
}
unfolding origins
rol_byte = refl

-- rorw $16,%1: the count is a multiple of the width
abbrev by_sixteen : List Source
by_sixteen = of (number 16) ∷ of (first Low16) ∷ []

ror_around : told (line Op.Ror W (number 16 ∷ first Low16 ∷ [])) ≡ record {
  reads = of (number 16) ∷ of (first Low16) ∷ Source.Undefined ∷ [];
  writes = bytes (first Low16) 0 2 by_sixteen ∷ flag Cf undefined ∷ flag Of undefined ∷ [];
  uses = [];
  accesses = [];
}
unfolding origins
ror_around = refl

-- shldl $1,%0,%1 in memory
abbrev shifted_in : List Source
shifted_in = of (number 1) ∷ of (zeroth All) ∷ of memory ∷ []

abbrev shifted_out : List Source
shifted_out = of (number 1) ∷ of memory ∷ []

shld : told (line Op.Shld L (number 1 ∷ zeroth All ∷ memory ∷ [])) ≡ record {
  reads = of (number 1) ∷ of (zeroth All) ∷ of memory ∷ Source.Undefined ∷ [];
  writes =
      bytes memory 0 4 shifted_in ∷ flag Cf shifted_out ∷ flag Pf shifted_in ∷ flag Af undefined
      ∷ flag Zf shifted_in ∷ flag Sf shifted_in
      ∷ flag Of shifted_in ∷ [];
  uses = [];
  accesses = load memory 4 ∷ store memory 4 ∷ [];
}
unfolding origins
shld = refl

-- shrdl $32,%0,%1 in memory: a load and a store
shrd_by_none : told (line Op.Shrd L (number 32 ∷ zeroth All ∷ memory ∷ [])) ≡ record {
  reads = [];
  writes = [];
  uses = [];
  accesses = load memory 4 ∷ store memory 4 ∷ [];
}
unfolding origins
shrd_by_none = refl

-- bsfl %1,%0 where operand 1 is in memory
bsf : told (line Op.Bsf L (memory ∷ zeroth All ∷ [])) ≡ record {
  reads = of memory ∷ Source.Undefined ∷ [];
  writes =
      bytes (zeroth All) 0 4 (of memory ∷ Source.Undefined ∷ [])
      ∷ flag Cf undefined ∷ flag Pf undefined ∷ flag Af undefined ∷ flag Zf (of memory ∷ []) ∷ flag Sf undefined
      ∷ flag Of undefined ∷ [];
  uses = [];
  accesses = load memory 4 ∷ [];
}
unfolding origins
bsf = refl

-- btsl $5,%1 in memory
abbrev fifth : List Source
fifth = of (number 5) ∷ of memory ∷ []

bts : told (line Op.Bts L (number 5 ∷ memory ∷ [])) ≡ record {
  reads = of (number 5) ∷ of memory ∷ Source.Undefined ∷ [];
  writes = bytes memory 0 4 fifth ∷ flag Cf fifth ∷ four_undefined (flag Of undefined ∷ []);
  uses = [];
  accesses = load memory 4 ∷ store memory 4 ∷ [];
}
unfolding origins
bts = refl

-- btw %w0,%w1: nothing but flags
abbrev tested : List Source
tested = of (zeroth Low16) ∷ of (first Low16) ∷ []

bt : told (line Op.Bt W (zeroth Low16 ∷ first Low16 ∷ [])) ≡ record {
  reads = of (zeroth Low16) ∷ of (first Low16) ∷ Source.Undefined ∷ [];
  writes = flag Cf tested ∷ four_undefined (flag Of undefined ∷ []);
  uses = [];
  accesses = [];
}
unfolding origins
bt = refl
