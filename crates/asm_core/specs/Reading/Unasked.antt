-- The registers that an instruction uses without naming them (Intel SDM volume 2).
use Rattle.std.specs.Prelude.{ℕ, ◌==◌, List, [], ◌∷◌, ◌++◌, length, if◌then◌else◌}
use Rattle.asm_core.specs.Reading.Chosen.{same_width}
use Rattle.asm_core.specs.Reading.Line.{set_of}
use Rattle.asm_core.specs.declared.reg.Reg.{Reg}
use Rattle.asm_core.specs.declared.reg.Reg.TheVariants.{Eax, Ebx, Ecx, Edx, Esi, Edi}
use Rattle.asm_core.specs.declared.reg.RegSet.{RegSet}
use Rattle.asm_core.specs.declared.inst.Op.{Op}
use Rattle.asm_core.specs.declared.inst.Width.{Width}
use Rattle.asm_core.specs.declared.inst.Repeat.{Repeat}
use Rattle.asm_core.specs.declared.sym.Sym.{Sym}

-- the accumulator: ax for bytes, else edx and eax
abbrev pub accumulator : Width → List Reg
accumulator w = if same_width w Width.B then Eax ∷ [] else Eax ∷ Edx ∷ []

-- by the operation, its size and the count of its operands
abbrev pub op_registers : Op → Width → ℕ → List Reg
op_registers Op.Mul w n = accumulator w
op_registers Op.Imul w n = if n == 1 then accumulator w else []
op_registers Op.Div w n = accumulator w
op_registers Op.Idiv w n = accumulator w
op_registers Op.Cltd w n = Eax ∷ Edx ∷ []
op_registers Op.Cwtl w n = Eax ∷ []
op_registers Op.Jecxz w n = Ecx ∷ []
op_registers Op.Loop w n = Ecx ∷ []
op_registers Op.Movs w n = Esi ∷ Edi ∷ []
op_registers Op.Cmps w n = Esi ∷ Edi ∷ []
op_registers Op.Stos w n = Eax ∷ Edi ∷ []
op_registers Op.Scas w n = Eax ∷ Edi ∷ []
op_registers Op.Lods w n = Eax ∷ Esi ∷ []
op_registers Op.Cmpxchg w n = Eax ∷ []
op_registers Op.Cmpxchg8b w n = Eax ∷ Ebx ∷ Ecx ∷ Edx ∷ []
op_registers Op.Cpuid w n = Eax ∷ Ebx ∷ Ecx ∷ Edx ∷ []
op_registers Op.Rdtsc w n = Eax ∷ Edx ∷ []
op_registers op w n = []

-- a repeated instruction counts in ecx
abbrev pub count_registers : Repeat → List Reg
count_registers Repeat.No = []
count_registers Repeat.Rep = Ecx ∷ []
count_registers Repeat.Repe = Ecx ∷ []
count_registers Repeat.Repne = Ecx ∷ []

-- all of them
abbrev pub unasked_of : Sym → RegSet
unasked_of s = record { 0 = set_of (count_registers s.repeat ++ op_registers s.op s.width (length s.args)) }
