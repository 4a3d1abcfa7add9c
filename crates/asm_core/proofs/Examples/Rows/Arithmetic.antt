-- Arithmetic and logic.
use Rattle.std.proofs.Common.{◌≡◌, List, [], ◌∷◌, refl}
use Rattle.asm_core.specs.Entries.{origins}
use Rattle.asm_core.proofs.Examples.Rows.Told.{line, told, of, in_register, zeroth, memory, number, bytes, flag, load, store, undefined, six_flags, four_undefined}
use Rattle.asm_core.specs.declared.reg.Reg.TheVariants.{Eax, Edx}
use Rattle.asm_core.specs.declared.reg.Slice.TheVariants.{Low8, High8, Low16, All}
use Rattle.asm_core.specs.declared.flag.Flag.TheVariants.{Cf, Pf, Af, Zf, Sf, Of}
use Rattle.asm_core.specs.declared.inst.Op.{Op}
use Rattle.asm_core.specs.declared.inst.Width.TheVariants.{B, W, L}
use Rattle.asm_core.specs.declared.row.Source.{Source}

-- adcb %b0,%1 where operand 1 is in memory
abbrev adc_names : List Source
adc_names = of (zeroth Low8) ∷ of memory ∷ Source.Flag Cf ∷ []

adc : told (line Op.Adc B (zeroth Low8 ∷ memory ∷ [])) ≡ record {
  reads = adc_names;
  writes = bytes memory 0 1 adc_names ∷ six_flags adc_names [];
  uses = [];
  accesses = load memory 1 ∷ store memory 1 ∷ [];
}
unfolding origins
adc = refl

-- cmpl $5,%1 in memory
abbrev cmp_names : List Source
cmp_names = of (number 5) ∷ of memory ∷ []

cmp : told (line Op.Cmp L (number 5 ∷ memory ∷ [])) ≡ record {
  reads = cmp_names;
  writes = six_flags cmp_names [];
  uses = [];
  accesses = load memory 4 ∷ [];
}
unfolding origins
cmp = refl

-- testl %0,%0 names it
abbrev itself : List Source
itself = of (zeroth All) ∷ []

test : told (line Op.Test L (zeroth All ∷ zeroth All ∷ [])) ≡ record {
  reads = of (zeroth All) ∷ of (zeroth All) ∷ Source.Undefined ∷ [];
  writes =
      flag Cf [] ∷ flag Pf (of (zeroth All) ∷ of (zeroth All) ∷ []) ∷ flag Af undefined ∷ flag Zf (of (zeroth All)
      ∷ of (zeroth All) ∷ [])
      ∷ flag Sf (of (zeroth All) ∷ of (zeroth All) ∷ []) ∷ flag Of [] ∷ [];
  uses = [];
  accesses = [];
}
unfolding origins
test = refl

-- incl %0: all flags but CF
inc : told (line Op.Inc L (zeroth All ∷ [])) ≡ record {
  reads = itself;
  writes =
      bytes (zeroth All) 0 4 itself ∷ flag Pf itself ∷ flag Af itself ∷ flag Zf itself ∷ flag Sf itself
      ∷ flag Of itself ∷ [];
  uses = [];
  accesses = [];
}
unfolding origins
inc = refl

-- negl %0
neg : told (line Op.Neg L (zeroth All ∷ [])) ≡ record {
  reads = itself;
  writes = bytes (zeroth All) 0 4 itself ∷ six_flags itself [];
  uses = [];
  accesses = [];
}
unfolding origins
neg = refl

-- xorl %0,%0 names nothing, but that AF is undefined
xor_itself : told (line Op.Xor L (zeroth All ∷ zeroth All ∷ [])) ≡ record {
  reads = undefined;
  writes =
      bytes (zeroth All) 0 4 [] ∷ flag Cf [] ∷ flag Pf [] ∷ flag Af undefined ∷ flag Zf [] ∷ flag Sf []
      ∷ flag Of [] ∷ [];
  uses = [];
  accesses = [];
}
unfolding origins
xor_itself = refl

-- xorb %b0,%h0: two parts of one register
xor_parts : told (line Op.Xor B (zeroth Low8 ∷ zeroth High8 ∷ [])) ≡ record {
  reads = of (zeroth Low8) ∷ of (zeroth High8) ∷ Source.Undefined ∷ [];
  writes =
      bytes (zeroth High8) 0 1 (of (zeroth Low8) ∷ of (zeroth High8) ∷ []) ∷ flag Cf []
      ∷ flag Pf (of (zeroth Low8) ∷ of (zeroth High8) ∷ []) ∷ flag Af undefined
      ∷ flag Zf (of (zeroth Low8) ∷ of (zeroth High8) ∷ []) ∷ flag Sf (of (zeroth Low8) ∷ of (zeroth High8) ∷ [])
      ∷ flag Of [] ∷ [];
  uses = [];
  accesses = [];
}
unfolding origins
xor_parts = refl

-- subl %0,%0 names nothing
sub_itself : told (line Op.Sub L (zeroth All ∷ zeroth All ∷ [])) ≡ record {
  reads = [];
  writes = bytes (zeroth All) 0 4 [] ∷ six_flags [] [];
  uses = [];
  accesses = [];
}
unfolding origins lib.Count.ones
sub_itself = refl

-- sbbl %0,%0 names CF alone
abbrev borrow : List Source
borrow = Source.Flag Cf ∷ []

sbb_itself : told (line Op.Sbb L (zeroth All ∷ zeroth All ∷ [])) ≡ record {
  reads = borrow;
  writes = bytes (zeroth All) 0 4 borrow ∷ six_flags borrow [];
  uses = [];
  accesses = [];
}
unfolding origins
sbb_itself = refl

-- mulw %w0: dx:ax
abbrev factors : List Source
factors = of (zeroth Low16) ∷ of (in_register Eax Low16) ∷ []

mul : told (line Op.Mul W (zeroth Low16 ∷ [])) ≡ record {
  reads = of (zeroth Low16) ∷ of (in_register Eax Low16) ∷ Source.Undefined ∷ [];
  writes =
      bytes (in_register Eax Low16) 0 2 factors ∷ bytes (in_register Edx Low16) 0 2 factors
      ∷ flag Cf factors ∷ four_undefined (flag Of factors ∷ []);
  uses = [];
  accesses = [];
}
unfolding origins
mul = refl

-- imull %1,%0 where operand 1 is in memory
abbrev both : List Source
both = of memory ∷ of (zeroth All) ∷ []

imul : told (line Op.Imul L (memory ∷ zeroth All ∷ [])) ≡ record {
  reads = of memory ∷ of (zeroth All) ∷ Source.Undefined ∷ [];
  writes = bytes (zeroth All) 0 4 both ∷ flag Cf both ∷ four_undefined (flag Of both ∷ []);
  uses = [];
  accesses = load memory 4 ∷ [];
}
unfolding origins
imul = refl

-- imull $5,%1,%0
abbrev scaled : List Source
scaled = of (number 5) ∷ of memory ∷ []

imul_by_number : told (line Op.Imul L (number 5 ∷ memory ∷ zeroth All ∷ [])) ≡ record {
  reads = of (number 5) ∷ of memory ∷ Source.Undefined ∷ [];
  writes = bytes (zeroth All) 0 4 scaled ∷ flag Cf scaled ∷ four_undefined (flag Of scaled ∷ []);
  uses = [];
  accesses = load memory 4 ∷ [];
}
unfolding origins
imul_by_number = refl

-- divl %1 where operand 1 is in memory: it may fail by the dividend and the divisor
abbrev divided : List Source
divided = of memory ∷ of (in_register Eax All) ∷ of (in_register Edx All) ∷ []

div : told (line Op.Div L (memory ∷ [])) ≡ record {
  reads = of memory ∷ of (in_register Eax All) ∷ of (in_register Edx All) ∷ Source.Undefined ∷ [];
  writes = bytes (in_register Eax All) 0 4 divided ∷ bytes (in_register Edx All) 0 4 divided ∷ six_flags undefined [];
  uses = divided;
  accesses = load memory 4 ∷ [];
}
unfolding origins
div = refl

-- idivb %b0: ah:al, the quotient to al and the remainder to ah
abbrev divided_bytes : List Source
divided_bytes = of (zeroth Low8) ∷ of (in_register Eax Low8) ∷ of (in_register Eax High8) ∷ []

idiv_bytes : told (line Op.Idiv B (zeroth Low8 ∷ [])) ≡ record {
  reads = of (zeroth Low8) ∷ of (in_register Eax Low8) ∷ of (in_register Eax High8) ∷ Source.Undefined ∷ [];
  writes =
      bytes (in_register Eax Low8) 0 1 divided_bytes ∷ bytes (in_register Eax High8) 0 1 divided_bytes
      ∷ six_flags undefined [];
  uses = divided_bytes;
  accesses = [];
}
unfolding origins
idiv_bytes = refl

-- cmc names CF, stc nothing
cmc : told (line Op.Cmc L []) ≡ record { reads = borrow; writes = flag Cf borrow ∷ []; uses = []; accesses = [] }
unfolding origins
cmc = refl

stc : told (line Op.Stc L []) ≡ record { reads = []; writes = flag Cf [] ∷ []; uses = []; accesses = [] }
unfolding origins
stc = refl
