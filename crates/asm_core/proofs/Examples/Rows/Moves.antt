-- Moves and jumps.
use Rattle.std.proofs.Common.{◌≡◌, [], ◌∷◌, refl}
use Rattle.asm_core.specs.Entries.{origins}
use Rattle.asm_core.proofs.Examples.Rows.Told.{line, told, of, in_register, zeroth, first, memory, bytes, copy, load, store}
use Rattle.asm_core.specs.declared.cond.Cond.{Cond}
use Rattle.asm_core.specs.declared.reg.Reg.TheVariants.{Eax, Ecx, Edx}
use Rattle.asm_core.specs.declared.reg.Slice.TheVariants.{Low8, Low16, All}
use Rattle.asm_core.specs.declared.flag.Flag.TheVariants.{Cf, Zf, Sf, Of}
use Rattle.asm_core.specs.declared.inst.Op.{Op}
use Rattle.asm_core.specs.declared.inst.Width.TheVariants.{B, W, L}
use Rattle.asm_core.specs.declared.sym.Arg.{Arg}
use Rattle.asm_core.specs.declared.row.Source.{Source}
use Rattle.asm_core.specs.declared.row.Written.{Written}
use Rattle.asm_core.specs.declared.row.By.{By}

-- movzbl %1,%k0 where operand 1 is in memory: one byte is loaded, and the upper three name nothing
movzbl : told (line Op.Movzbl L (memory ∷ zeroth All ∷ [])) ≡ record {
  reads = of memory ∷ [];
  writes = copy (zeroth All) 0 1 (of memory) 0 ∷ bytes (zeroth All) 1 3 [] ∷ [];
  uses = [];
  accesses = load memory 1 ∷ [];
}
unfolding origins
movzbl = refl

-- movsbw %b0,%w1: the upper byte is its sign
movsbw : told (line Op.Movsbw W (zeroth Low8 ∷ first Low16 ∷ [])) ≡ record {
  reads = of (zeroth Low8) ∷ [];
  writes = copy (first Low16) 0 1 (of (zeroth Low8)) 0 ∷ bytes (first Low16) 1 1 (of (zeroth Low8) ∷ []) ∷ [];
  uses = [];
  accesses = [];
}
unfolding origins
movsbw = refl

-- cwtl: bytes 2 and 3 of eax are the sign of ax
cwtl : told (line Op.Cwtl L []) ≡ record {
  reads = of (in_register Eax Low16) ∷ [];
  writes = bytes (in_register Eax All) 2 2 (of (in_register Eax Low16) ∷ []) ∷ [];
  uses = [];
  accesses = [];
}
unfolding origins
cwtl = refl

-- cltd
cltd : told (line Op.Cltd L []) ≡ record {
  reads = of (in_register Eax All) ∷ [];
  writes = bytes (in_register Edx All) 0 4 (of (in_register Eax All) ∷ []) ∷ [];
  uses = [];
  accesses = [];
}
unfolding origins
cltd = refl

-- leal %1,%0: the address is named, and nothing is loaded
lea : told (line Op.Lea L (memory ∷ zeroth All ∷ [])) ≡ record {
  reads = Source.Address memory ∷ [];
  writes = bytes (zeroth All) 0 4 (Source.Address memory ∷ []) ∷ [];
  uses = [];
  accesses = [];
}
unfolding origins
lea = refl

-- xchgl %0,%1 where operand 1 is in memory
xchg : told (line Op.Xchg L (zeroth All ∷ memory ∷ [])) ≡ record {
  reads = of (zeroth All) ∷ of memory ∷ [];
  writes = copy (zeroth All) 0 4 (of memory) 0 ∷ copy memory 0 4 (of (zeroth All)) 0 ∷ [];
  uses = [];
  accesses = load memory 4 ∷ store memory 4 ∷ [];
}
unfolding origins
xchg = refl

-- bswap %0
bswap : told (line Op.Bswap L (zeroth All ∷ [])) ≡ record {
  reads = of (zeroth All) ∷ [];
  writes =
      copy (zeroth All) 0 1 (of (zeroth All)) 3 ∷ copy (zeroth All) 1 1 (of (zeroth All)) 2
      ∷ copy (zeroth All) 2 1 (of (zeroth All)) 1 ∷ copy (zeroth All) 3 1 (of (zeroth All)) 0 ∷ [];
  uses = [];
  accesses = [];
}
unfolding origins
bswap = refl

-- pushl %1 where operand 1 is in memory
push : told (line Op.Push L (memory ∷ [])) ≡ record {
  reads = of memory ∷ [];
  writes = (record { to = Written.Push; first = 0; count = 4; by = By.Copy (of memory) 0 }, []) ∷ [];
  uses = [];
  accesses = load memory 4 ∷ [];
}
unfolding origins
push = refl

-- popl %0
pop : told (line Op.Pop L (zeroth All ∷ [])) ≡ record {
  reads = Source.Top ∷ [];
  writes =
      copy (zeroth All) 0 4 Source.Top 0 ∷ (record { to = Written.Pop; first = 0; count = 0; by = By.Named }, [])
      ∷ [];
  uses = [];
  accesses = [];
}
unfolding origins
pop = refl

-- cmovlel %1,%0 where operand 1 is in memory, which is loaded in any case
cmov : told (line (Op.Cmov Cond.Le) L (memory ∷ zeroth All ∷ [])) ≡ record {
  reads = of memory ∷ of (zeroth All) ∷ Source.Flag Zf ∷ Source.Flag Sf ∷ Source.Flag Of ∷ [];
  writes =
      bytes (zeroth All) 0 4 (of memory ∷ of (zeroth All) ∷ Source.Flag Zf ∷ Source.Flag Sf ∷ Source.Flag Of ∷ [])
      ∷ [];
  uses = [];
  accesses = load memory 4 ∷ [];
}
unfolding origins
cmov = refl

-- setb %b0: CF alone
set : told (line (Op.Set Cond.B) B (zeroth Low8 ∷ [])) ≡ record {
  reads = Source.Flag Cf ∷ [];
  writes = bytes (zeroth Low8) 0 1 (Source.Flag Cf ∷ []) ∷ [];
  uses = [];
  accesses = [];
}
unfolding origins
set = refl

-- ja: CF and ZF are used
jump : told (line (Op.J Cond.A) L (Arg.Label 0 ∷ [])) ≡ record {
  reads = Source.Flag Cf ∷ Source.Flag Zf ∷ [];
  writes = [];
  uses = Source.Flag Cf ∷ Source.Flag Zf ∷ [];
  accesses = [];
}
unfolding origins
jump = refl

-- jge: SF and OF are used
signed_jump : told (line (Op.J Cond.Ge) L (Arg.Label 0 ∷ [])) ≡ record {
  reads = Source.Flag Sf ∷ Source.Flag Of ∷ [];
  writes = [];
  uses = Source.Flag Sf ∷ Source.Flag Of ∷ [];
  accesses = [];
}
unfolding origins
signed_jump = refl

-- jmp: nothing is used
jump_always : told (line Op.Jmp L (Arg.Label 0 ∷ [])) ≡ record { reads = []; writes = []; uses = []; accesses = [] }
unfolding origins
jump_always = refl

-- loop: ecx is used and counted down
loop : told (line Op.Loop L (Arg.Label 0 ∷ [])) ≡ record {
  reads = of (in_register Ecx All) ∷ [];
  writes = bytes (in_register Ecx All) 0 4 (of (in_register Ecx All) ∷ []) ∷ [];
  uses = of (in_register Ecx All) ∷ [];
  accesses = [];
}
unfolding origins
loop = refl
