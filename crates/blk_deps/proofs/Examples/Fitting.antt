-- Which layout single instructions fit: operand 0 is in eax, and no word of the stack has cells but where it is said.
use Rattle.std.proofs.Common.{◌≡◌, ℕ, Bool, true, false, [], ◌∷◌, refl}
use Rattle.asm_core.specs.Entries.{origins}
use Rattle.asm_core.specs.declared.inst.Op.{Op}
use Rattle.asm_core.specs.declared.inst.Width.{Width}
use Rattle.asm_core.specs.declared.sym.Arg.{Arg}
use Rattle.asm_core.specs.declared.sym.Sym.{Sym}
use Rattle.blk_deps.specs.Line.{line_reads, line_puts}
use Rattle.blk_deps.specs.Fitting.{fits, plain_layout, stack_layout}
use Rattle.blk_deps.specs.declared.layout.Layout.{Layout}
use Rattle.blk_deps.specs.declared.step.Name.{Name}
use Rattle.blk_deps.specs.declared.step.Read.{Read}
use Rattle.blk_deps.specs.declared.step.Put.{Put}
use Rattle.blk_deps.proofs.Examples.Line.{interface, shape, line, eax, edx}

abbrev fits_line : Layout → ℕ → Sym → Bool
fits_line l depth x = fits l (line_reads interface shape depth x) (line_puts interface shape depth x)

-- movl %eax,%edx moves no pushed word
movl_fits : fits_line (plain_layout interface) 0 (line Op.Mov Width.L (eax ∷ edx ∷ [])) ≡ true
unfolding origins
movl_fits = refl

-- movl %eax,%1 stores to the second of two operands
store_fits : fits_line (plain_layout interface) 0 (line Op.Mov Width.L (eax ∷ Arg.Memory 1 ∷ [])) ≡ true
unfolding origins
store_fits = refl

-- pushl %eax does, as popl %edx; of 16 words there are cells for the last one that is pushed
push_misses : fits_line (plain_layout interface) 0 (line Op.Push Width.L (eax ∷ [])) ≡ false
unfolding origins
push_misses = refl

push_fits : fits_line (stack_layout interface) 15 (line Op.Push Width.L (eax ∷ [])) ≡ true
unfolding origins
push_fits = refl

push_overruns : fits_line (stack_layout interface) 16 (line Op.Push Width.L (eax ∷ [])) ≡ false
unfolding origins
push_overruns = refl

pop_misses : fits_line (plain_layout interface) 1 (line Op.Pop Width.L (edx ∷ [])) ≡ false
unfolding origins
pop_misses = refl

pop_fits : fits_line (stack_layout interface) 16 (line Op.Pop Width.L (edx ∷ [])) ≡ true
unfolding origins
pop_fits = refl

-- the third of two operands isn't there, and what isn't read can't be put down
no_operand : fits (plain_layout interface) [] (Put.Store 2 0 4 ∷ []) ≡ false
no_operand = refl

no_place : fits (plain_layout interface) (Read.Copy 36 ∷ []) [] ≡ false
no_place = refl

no_hand : fits (plain_layout interface) (Read.Copy 0 ∷ []) (Put.Place 4 1 ∷ []) ≡ false
no_hand = refl

no_load : fits (plain_layout interface) (Read.Compute (Name.Load 2 4 ∷ []) ∷ []) [] ≡ false
no_load = refl
