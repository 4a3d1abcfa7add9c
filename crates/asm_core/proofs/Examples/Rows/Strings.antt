-- String instructions.
use Rattle.std.proofs.Common.{◌≡◌, List, [], ◌∷◌, false, true, refl}
use Rattle.asm_core.specs.Entries.{origins}
use Rattle.asm_core.proofs.Examples.Rows.Told.{line, repeated, told, of, in_register, element, bytes, flag, load, store, six_flags}
use Rattle.asm_core.specs.declared.reg.Reg.TheVariants.{Eax, Ecx, Esi, Edi}
use Rattle.asm_core.specs.declared.reg.Slice.TheVariants.{Low8, Low16, All}
use Rattle.asm_core.specs.declared.flag.Flag.TheVariants.{Cf, Pf, Af, Zf, Sf, Of, Df}
use Rattle.asm_core.specs.declared.inst.Op.{Op}
use Rattle.asm_core.specs.declared.inst.Width.TheVariants.{B, W, L}
use Rattle.asm_core.specs.declared.inst.Repeat.{Repeat}
use Rattle.asm_core.specs.declared.sym.Arg.{Arg}
use Rattle.asm_core.specs.declared.row.Source.{Source}
use Rattle.asm_core.specs.declared.row.Written.{Written}
use Rattle.asm_core.specs.declared.row.By.{By}

abbrev ecx : Arg
ecx = in_register Ecx All

abbrev esi : Arg
esi = in_register Esi All

abbrev edi : Arg
edi = in_register Edi All

abbrev up_or_down : Source
up_or_down = Source.Flag Df

-- lodsw: what is loaded is named, and no copy
lods : told (line Op.Lods W []) ≡ record {
  reads = of (element Esi) ∷ of esi ∷ up_or_down ∷ [];
  writes = bytes (in_register Eax Low16) 0 2 (of (element Esi) ∷ []) ∷ bytes esi 0 4 (of esi ∷ up_or_down ∷ []) ∷ [];
  uses = [];
  accesses = load (element Esi) 2 ∷ [];
}
unfolding origins
lods = refl

-- cmpsb: the flags of the element at esi less that at edi
abbrev elements : List Source
elements = of (element Esi) ∷ of (element Edi) ∷ []

cmps : told (line Op.Cmps B []) ≡ record {
  reads = of (element Esi) ∷ of (element Edi) ∷ of esi ∷ of edi ∷ up_or_down ∷ [];
  writes =
      six_flags elements (bytes esi 0 4 (of esi ∷ up_or_down ∷ []) ∷ bytes edi 0 4 (of edi ∷ up_or_down ∷ []) ∷ []);
  uses = [];
  accesses = load (element Esi) 1 ∷ load (element Edi) 1 ∷ [];
}
unfolding origins
cmps = refl

-- rep movsl: each thing written names itself and ecx, and ecx is last
rep_movs : told (repeated Repeat.Rep (line Op.Movs L [])) ≡ record {
  reads = of (element Esi) ∷ of (element Edi) ∷ of ecx ∷ of esi ∷ of edi ∷ up_or_down ∷ [];
  writes =
      bytes (element Edi) 0 4 (of (element Esi) ∷ of (element Edi) ∷ of ecx ∷ [])
      ∷ bytes esi 0 4 (of ecx ∷ of esi ∷ up_or_down ∷ [])
      ∷ bytes edi 0 4 (of ecx ∷ of edi ∷ up_or_down ∷ [])
      ∷ bytes ecx 0 4 (of ecx ∷ [])
      ∷ [];
  uses = of ecx ∷ [];
  accesses = load (element Esi) 4 ∷ store (element Edi) 4 ∷ [];
}
unfolding origins
rep_movs = refl

-- repne scasb: each thing written names the compared values too
abbrev compared : Source → List Source
compared f = of (element Edi) ∷ of (in_register Eax Low8) ∷ of ecx ∷ f ∷ []

repne_scas : told (repeated Repeat.Repne (line Op.Scas B [])) ≡ record {
  reads =
      of (element Edi) ∷ of (in_register Eax Low8) ∷ of ecx ∷ of edi ∷ Source.Flag Cf ∷ Source.Flag Pf
      ∷ Source.Flag Af ∷ Source.Flag Zf
      ∷ Source.Flag Sf ∷ Source.Flag Of ∷ up_or_down ∷ [];
  writes =
      flag Cf (compared (Source.Flag Cf)) ∷ flag Pf (compared (Source.Flag Pf)) ∷ flag Af (compared (Source.Flag Af))
      ∷ flag Zf (compared (Source.Flag Zf)) ∷ flag Sf (compared (Source.Flag Sf)) ∷ flag Of (compared (Source.Flag Of))
      ∷ bytes edi 0 4 (of (element Edi) ∷ of (in_register Eax Low8) ∷ of ecx ∷ of edi ∷ up_or_down ∷ [])
      ∷ bytes ecx 0 4 (of (element Edi) ∷ of (in_register Eax Low8) ∷ of ecx ∷ [])
      ∷ [];
  uses = of (element Edi) ∷ of (in_register Eax Low8) ∷ of ecx ∷ [];
  accesses = load (element Edi) 1 ∷ [];
}
unfolding origins
repne_scas = refl

-- std
std : told (line Op.Std L []) ≡ record {
  reads = [];
  writes = (record { to = Written.Flag Df; first = 0; count = 1; by = By.Set true }, []) ∷ [];
  uses = [];
  accesses = [];
}
unfolding origins
std = refl

-- cld
cld : told (line Op.Cld L []) ≡ record {
  reads = [];
  writes = (record { to = Written.Flag Df; first = 0; count = 1; by = By.Set false }, []) ∷ [];
  uses = [];
  accesses = [];
}
unfolding origins
cld = refl
