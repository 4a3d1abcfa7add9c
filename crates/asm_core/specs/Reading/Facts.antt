-- What the reading of lines knows of an operand under a shape, and what a hole stands for.
use Rattle.std.specs.Prelude.{ℕ, ◌%◌, ◌==◌, ◌||◌, ◌&&◌, not, Bool, true, false, Option, None, Some, slice_get, if◌then◌else◌}
use Rattle.std.specs.Option.{option_and_then}
use Rattle.asm_core.specs.Placement.{tie_root}
use Rattle.asm_core.specs.declared.reg.Reg.{Reg}
use Rattle.asm_core.specs.declared.reg.Reg.TheVariants.{Eax, Ebx, Ecx, Edx, Esi, Edi, Ebp}
use Rattle.asm_core.specs.declared.reg.RegSet.{RegSet}
use Rattle.asm_core.specs.declared.reg.Slice.{Slice}
use Rattle.asm_core.specs.declared.reg.Slice.TheVariants.{Low8, High8, Low16, All}
use Rattle.asm_core.specs.declared.sym.Place.{Place}
use Rattle.asm_core.specs.declared.sym.Disp.{Disp}
use Rattle.asm_core.specs.declared.piece.Modifier.{Modifier}
use Rattle.asm_core.specs.declared.piece.Piece.{Piece}
use Rattle.asm_core.specs.declared.shape.Kind.{Kind}
use Rattle.asm_core.specs.declared.shape.Shape.{Shape}
use Rattle.asm_core.specs.declared.interface.AltIface.{AltIface}
use Rattle.asm_core.specs.declared.interface.OperandIface.{OperandIface}
use Rattle.asm_core.specs.declared.interface.Interface.{Interface}
use Rattle.asm_core.specs.declared.reading.OperandFacts.{OperandFacts}
use Rattle.asm_core.specs.declared.reading.Leaf.{Leaf}
use Rattle.asm_core.specs.declared.reading.Leaf.TheVariants as leaves
use Rattle.asm_core.specs.declared.reading.Atom.{Atom}

-- the register of a set of one
abbrev pub only_register : RegSet → Option Reg
only_register s =
    if s.0 == 1 then Some Eax else if s.0 == 2 then Some Ebx else if s.0 == 4 then Some Ecx else if s.0 == 8 then Some Edx
    else if s.0 == 16 then Some Esi else if s.0 == 32 then Some Edi else if s.0 == 64 then Some Ebp else None

-- the one register that letters allow, and eax for the pair
abbrev pub fixed_register : AltIface → Option Reg
fixed_register alt = if alt.pair then (if alt.regs.0 == 0 then Some Eax else None) else only_register alt.regs

-- one of eax, ebx, ecx and edx may be it
abbrev pub allows_byte_names : AltIface → Bool
allows_byte_names alt = alt.pair || not (alt.regs.0 % 16 == 0)

abbrev pub facts_from : ℕ → ℕ → Option OperandIface → Option AltIface → Option Kind → Option OperandFacts
facts_from size root (Some o) (Some alt) (Some kind) = Some (record {
  kind = kind;
  size = size;
  known = o.known;
  fixed = fixed_register alt;
  has_byte_names = allows_byte_names alt;
  root = root;
})
facts_from size root o alt kind = None

-- what the alternative allows an operand
abbrev pub alternative_at : Option OperandIface → ℕ → Option AltIface
alternative_at o a = option_and_then (λ (o : OperandIface). slice_get o.alts a) o

-- the facts of an operand whose root is that
abbrev pub facts_with : Interface → Shape → ℕ → Option OperandIface → Option OperandFacts
facts_with i s root None = None
facts_with i s root (Some o) = let output = slice_get i.operands root in facts_from o.size root output (alternative_at output s.alternative) (slice_get s.kinds root)

-- Operand k under a shape: a tied operand has its own size, and all else of its output.
unfoldable pub facts_of : Interface → Shape → ℕ → Option OperandFacts
facts_of i s k = facts_with i s (tie_root i s k) (slice_get i.operands k)

-- `al`, `ax` or `eax` by the size
abbrev pub size_slice : ℕ → Slice
size_slice size = if size == 1 then Low8 else if size == 2 then Low16 else All

-- the part of a register that a modifier names; none with `c`
abbrev pub slice_of : ℕ → Modifier → Option Slice
slice_of size Modifier.Plain = Some (size_slice size)
slice_of size Modifier.B = Some Low8
slice_of size Modifier.W = Some Low16
slice_of size Modifier.K = Some All
slice_of size Modifier.H = Some High8
slice_of size Modifier.C = None

-- not each register has a name for it
abbrev pub is_byte_slice : Slice → Bool
is_byte_slice Low8 = true
is_byte_slice High8 = true
is_byte_slice Low16 = false
is_byte_slice All = false

abbrev pub place_of : OperandFacts → Place
place_of fact = elim fact.fixed [ None ↦ Place.Operand fact.root | Some r ↦ Place.Reg r ]

-- it is `%cl` wherever the operand is put
abbrev pub is_fixed_cl : Option Reg → Slice → Bool
is_fixed_cl (Some Ecx) Low8 = true
is_fixed_cl r s = false

abbrev pub register_leaf : OperandFacts → Option Slice → Leaf
register_leaf fact None = leaves.Nameless
register_leaf fact (Some s) = if is_byte_slice s && not fact.has_byte_names then leaves.Nameless else leaves.Register (place_of fact) s (is_fixed_cl fact.fixed s)

-- a number that is known stands for itself
abbrev pub disp_of : OperandFacts → Disp
disp_of fact = elim fact.known [ None ↦ Disp.Hole fact.root | Some n ↦ Disp.Number n ]

abbrev pub number_leaf : OperandFacts → Modifier → Leaf
number_leaf fact Modifier.H = leaves.Nameless
number_leaf fact Modifier.C = leaves.Bare (disp_of fact) fact.known
number_leaf fact Modifier.Plain = leaves.Immediate (disp_of fact)
number_leaf fact Modifier.B = leaves.Immediate (disp_of fact)
number_leaf fact Modifier.W = leaves.Immediate (disp_of fact)
number_leaf fact Modifier.K = leaves.Immediate (disp_of fact)

abbrev pub memory_leaf : OperandFacts → Modifier → Leaf
memory_leaf fact Modifier.H = leaves.Nameless
memory_leaf fact Modifier.C = leaves.Nameless
memory_leaf fact Modifier.Plain = leaves.Memory fact.root None
memory_leaf fact Modifier.B = leaves.Memory fact.root None
memory_leaf fact Modifier.W = leaves.Memory fact.root None
memory_leaf fact Modifier.K = leaves.Memory fact.root None

abbrev pub leaf_by : Kind → OperandFacts → Modifier → Leaf
leaf_by Kind.Register fact m = register_leaf fact (slice_of fact.size m)
leaf_by Kind.Number fact m = number_leaf fact m
leaf_by Kind.Memory fact m = memory_leaf fact m

abbrev pub leaf_of : Option OperandFacts → Modifier → Leaf
leaf_of None m = leaves.Nameless
leaf_of (Some fact) m = leaf_by fact.kind fact m

abbrev pub piece_leaf : (ℕ → Option OperandFacts) → Piece → Leaf
piece_leaf facts (Piece.Byte b at) = leaves.Nothing
piece_leaf facts (Piece.Hole k m at) = leaf_of (facts k) m
piece_leaf facts (Piece.Unique at) = leaves.Nothing

-- a piece with what it stands for
abbrev pub atom_of : (ℕ → Option OperandFacts) → Piece → Atom
atom_of facts p = record { piece = p; leaf = piece_leaf facts p }
