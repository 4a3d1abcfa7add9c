-- Exchanges, and what the processor tells.
use Rattle.std.proofs.Common.{◌≡◌, List, [], ◌∷◌, refl}
use Rattle.asm_core.specs.Entries.{origins}
use Rattle.asm_core.proofs.Examples.Rows.Told.{line, told, of, in_register, zeroth, memory, bytes, flag, copy, load, store, six_flags}
use Rattle.asm_core.specs.declared.reg.Reg.TheVariants.{Eax, Ebx, Ecx, Edx}
use Rattle.asm_core.specs.declared.reg.Slice.TheVariants.{Low8, All}
use Rattle.asm_core.specs.declared.flag.Flag.TheVariants.{Zf}
use Rattle.asm_core.specs.declared.inst.Op.{Op}
use Rattle.asm_core.specs.declared.inst.Width.TheVariants.{B, L, Q}
use Rattle.asm_core.specs.declared.sym.Arg.{Arg}
use Rattle.asm_core.specs.declared.row.Source.{Source}

abbrev eax : Arg
eax = in_register Eax All

abbrev ebx : Arg
ebx = in_register Ebx All

abbrev ecx : Arg
ecx = in_register Ecx All

abbrev edx : Arg
edx = in_register Edx All

-- xaddl %0,%1 where operand 1 is in memory
abbrev summed : List Source
summed = of (zeroth All) ∷ of memory ∷ []

xadd : told (line Op.Xadd L (zeroth All ∷ memory ∷ [])) ≡ record {
  reads = summed;
  writes = copy (zeroth All) 0 4 (of memory) 0 ∷ bytes memory 0 4 summed ∷ six_flags summed [];
  uses = [];
  accesses = load memory 4 ∷ store memory 4 ∷ [];
}
unfolding origins
xadd = refl

-- cmpxchgb %b0,%1 where operand 1 is in memory
abbrev al : Arg
al = in_register Eax Low8

abbrev compared : List Source
compared = of memory ∷ of al ∷ []

cmpxchg : told (line Op.Cmpxchg B (zeroth Low8 ∷ memory ∷ [])) ≡ record {
  reads = of (zeroth Low8) ∷ of memory ∷ of al ∷ [];
  writes =
      six_flags compared (bytes al 0 1 compared ∷ bytes memory 0 1 (of (zeroth Low8) ∷ of memory ∷ of al ∷ []) ∷ []);
  uses = [];
  accesses = load memory 1 ∷ store memory 1 ∷ [];
}
unfolding origins
cmpxchg = refl

-- cmpxchg8b %1: the memory is one entry of 8 bytes
abbrev matched : List Source
matched = of memory ∷ of eax ∷ of edx ∷ []

cmpxchg8b : told (line Op.Cmpxchg8b Q (memory ∷ [])) ≡ record {
  reads = of memory ∷ of eax ∷ of ebx ∷ of ecx ∷ of edx ∷ [];
  writes =
      bytes memory 0 8 (of memory ∷ of eax ∷ of ebx ∷ of ecx ∷ of edx ∷ []) ∷ bytes edx 0 4 matched
      ∷ bytes eax 0 4 matched
      ∷ flag Zf matched ∷ [];
  uses = [];
  accesses = load memory 8 ∷ store memory 8 ∷ [];
}
unfolding origins
cmpxchg8b = refl

-- cpuid
abbrev told_by : List Source
told_by = of eax ∷ of ecx ∷ Source.Outside ∷ []

cpuid : told (line Op.Cpuid L []) ≡ record {
  reads = told_by;
  writes = bytes eax 0 4 told_by ∷ bytes ebx 0 4 told_by ∷ bytes ecx 0 4 told_by ∷ bytes edx 0 4 told_by ∷ [];
  uses = [];
  accesses = [];
}
unfolding origins
cpuid = refl

-- rdtsc
rdtsc : told (line Op.Rdtsc L []) ≡ record {
  reads = Source.Outside ∷ [];
  writes = bytes eax 0 4 (Source.Outside ∷ []) ∷ bytes edx 0 4 (Source.Outside ∷ []) ∷ [];
  uses = [];
  accesses = [];
}
unfolding origins
rdtsc = refl
