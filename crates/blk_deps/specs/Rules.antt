-- The rules that speak of what happens on a path: what of a block's facts breaks them. This project's own.
use Rattle.std.specs.Prelude.{ℕ, ◌+◌, ◌==◌, ◌&&◌, ◌||◌, nat_lt, not, Bool, true, false, List, [], ◌∷◌, ◌++◌, map, filter, Option, None, Some, slice_get, if◌then◌else◌}
use Rattle.std.specs.List.{range_with_len, list_any, flat_map}
use Rattle.std.specs.Int.{bit_at}
use Rattle.asm_core.specs.Reg.{reg_number}
use Rattle.asm_core.specs.Flag.{flag_number}
use Rattle.asm_core.specs.declared.reg.Reg.{Reg}
use Rattle.asm_core.specs.declared.reg.Slice.{Slice}
use Rattle.asm_core.specs.declared.flag.Flag.{Flag}
use Rattle.asm_core.specs.declared.flag.Flag.TheVariants.{Cf, Pf, Af, Zf, Sf, Of, Df}
use Rattle.asm_core.specs.declared.cond.Cond.{Cond}
use Rattle.asm_core.specs.declared.cond.Cond.TheVariants as conds
use Rattle.asm_core.specs.declared.sym.Place.{Place}
use Rattle.asm_core.specs.declared.sym.Arg.{Arg}
use Rattle.asm_core.specs.declared.sym.Sym.{Sym}
use Rattle.asm_core.specs.declared.row.Source.{Source}
use Rattle.asm_core.specs.declared.row.Access.{Access}
use Rattle.asm_core.specs.declared.shape.Shape.{Shape}
use Rattle.asm_core.specs.declared.interface.OperandIface.{OperandIface}
use Rattle.asm_core.specs.declared.interface.Interface.{Interface}
use Rattle.asm_core.specs.declared.finding.Rule.{Rule}
use Rattle.asm_core.specs.declared.finding.Cell.{Cell}
use Rattle.asm_core.specs.Entries.{reads_of}
use Rattle.asm_core.specs.Rows.{entry_row}
use Rattle.blk_deps.specs.Cells.{flag_cell, hand_cell, place_cells, place_of}
use Rattle.blk_deps.specs.Facts.{Facts, has_as_read, after_reads}
use Rattle.blk_deps.specs.Operands.{numbers_in, is_output_at, size_at, is_lone, is_input_place, name_of, covers, is_output_byte, is_byte_above, is_changing, has_address}
use Rattle.blk_deps.specs.Line.{accesses_in, line_reads, used_hands}
use Rattle.blk_deps.specs.declared.violation.Violation.{Violation}
use Rattle.blk_deps.specs.declared.fact.Provenance.TheVariants.{EntryOf, Old, Undefined, Outside}
use Rattle.blk_deps.specs.declared.fact.Property.{Property}
use Rattle.blk_deps.specs.declared.fact.Property.TheVariants.{NotEntryOf, ComesFrom, Pair}
use Rattle.blk_deps.specs.declared.fact.Fact.TheVariants.{Here, Has, Overwrites, Unwritten, DirectionSet}

abbrev pub registers : List Reg
registers = Reg.Eax ∷ Reg.Ebx ∷ Reg.Ecx ∷ Reg.Edx ∷ Reg.Esi ∷ Reg.Edi ∷ Reg.Ebp ∷ []

abbrev pub flags : List Flag
flags = Cf ∷ Pf ∷ Af ∷ Zf ∷ Sf ∷ Of ∷ []

-- every byte of every place
abbrev pub all_bytes : List ℕ
all_bytes = range_with_len 0 148

abbrev pub all_places : List ℕ
all_places = range_with_len 0 37

-- two names are the same
abbrev pub cell_rank : Cell → ℕ × ℕ
cell_rank (Cell.Reg r) = (0, reg_number r)
cell_rank (Cell.Flag f) = (1, flag_number f)
cell_rank (Cell.Operand k) = (2, k)
cell_rank Cell.Memory = (3, 0)
cell_rank Cell.Cc = (4, 0)
cell_rank Cell.Nothing = (5, 0)

abbrev pub same_cell : Cell → Cell → Bool
same_cell x y = (cell_rank x).0 == (cell_rank y).0 && (cell_rank x).1 == (cell_rank y).1

-- ---- what the values that are used have

abbrev pub Used : Type 0
Used = Property → Bool

-- at an instruction
abbrev pub used_at_line : Interface → Shape → ℕ → Sym → Facts → Used
used_at_line i s depth line facts property =
    list_any (λ hand. after_reads (line_reads i s depth line) facts (Has (hand_cell hand) property)) (used_hands line)

-- the flags that a condition names (Intel SDM volume 1, appendix B)
abbrev pub condition_flags : Cond → List Flag
condition_flags conds.O = Of ∷ []
condition_flags conds.No = Of ∷ []
condition_flags conds.B = Cf ∷ []
condition_flags conds.Ae = Cf ∷ []
condition_flags conds.E = Zf ∷ []
condition_flags conds.Ne = Zf ∷ []
condition_flags conds.Be = Cf ∷ Zf ∷ []
condition_flags conds.A = Cf ∷ Zf ∷ []
condition_flags conds.S = Sf ∷ []
condition_flags conds.Ns = Sf ∷ []
condition_flags conds.P = Pf ∷ []
condition_flags conds.Np = Pf ∷ []
condition_flags conds.L = Sf ∷ Of ∷ []
condition_flags conds.Ge = Sf ∷ Of ∷ []
condition_flags conds.Le = Zf ∷ Sf ∷ Of ∷ []
condition_flags conds.G = Zf ∷ Sf ∷ Of ∷ []

abbrev pub flags_of_output : OperandIface → List Flag
flags_of_output o = elim o.flag [ None ↦ [] | Some cond ↦ condition_flags cond ]

-- what is used at the end: the bytes of outputs in registers, and the flags of flag outputs
abbrev pub result_cells : Interface → Shape → List ℕ
result_cells i s =
    filter (λ c. list_any (λ j. covers i s c j && is_output_at i j) (numbers_in i)) all_bytes
    ++ map flag_cell (flat_map flags_of_output i.operands)

-- the registers that have to be as at the entry: those that are no operand's place and aren't clobbered, and the places of inputs alone
abbrev pub is_undeclared : Interface → Shape → ℕ → Bool
is_undeclared i s p = is_lone i s p && not (bit_at i.clobbers.0 p == 1)

abbrev pub is_kept : Interface → Shape → ℕ → Bool
is_kept i s p = is_undeclared i s p || is_input_place i s p

abbrev pub kept_cells : Interface → Shape → List ℕ
kept_cells i s = flat_map place_cells (filter (is_kept i s) all_places)

-- Of what has to be as at the entry only pairs count, and of these those that the value has, not what reading it would add.
abbrev pub kept_pair : Facts → List ℕ → Property → Bool
kept_pair facts cells (Pair d u) = list_any (λ c. facts (Has c (Pair d u))) cells
kept_pair facts cells property = false

abbrev pub used_at_end : Interface → Shape → Facts → Used
used_at_end i s facts property = list_any (λ c. has_as_read facts c property) (result_cells i s) || kept_pair facts (kept_cells i s) property

-- ---- rules on what is used

abbrev pub uses_entry_of : Used → List ℕ → Bool
uses_entry_of used cells = list_any (λ c. used (ComesFrom (EntryOf c))) cells

-- a register or flag that isn't declared
abbrev pub breaks_r1 : Interface → Shape → Cell → Used → Bool
breaks_r1 i s (Cell.Reg r) used = is_lone i s (reg_number r) && uses_entry_of used (place_cells (reg_number r))
breaks_r1 i s (Cell.Flag f) used = nat_lt (flag_number f) 6 && used (ComesFrom (EntryOf (flag_cell f)))
breaks_r1 i s cell used = false

-- the bytes of that class whose place has the name
abbrev pub cells_named : Interface → Shape → (Interface → Shape → ℕ → Bool) → Cell → List ℕ
cells_named i s class cell = filter (λ c. class i s c && same_cell (name_of i s (place_of c)) cell) all_bytes

-- the old value of an output
abbrev pub breaks_r2 : Interface → Shape → Cell → Used → Bool
breaks_r2 i s (Cell.Operand k) used = uses_entry_of used (cells_named i s is_output_byte (Cell.Operand k)) || used (ComesFrom (Old k))
breaks_r2 i s cell used = false

-- undefined bits, or bytes of a register above an operand
abbrev pub breaks_r3 : Interface → Shape → Cell → Used → Bool
breaks_r3 i s (Cell.Operand k) used = uses_entry_of used (cells_named i s is_byte_above (Cell.Operand k))
breaks_r3 i s Cell.Nothing used = used (ComesFrom Undefined)
breaks_r3 i s cell used = false

abbrev pub places_named : Interface → Shape → Cell → List ℕ
places_named i s cell = filter (λ p. same_cell (name_of i s p) cell) all_places

-- what was read from the second place after the first one was written
abbrev pub breaks_u3 : Interface → Shape → Cell → Cell → Used → Bool
breaks_u3 i s cell other used = list_any (λ d. list_any (λ u. used (Pair d u)) (places_named i s other)) (places_named i s cell)

abbrev pub breaks_by_use : Interface → Shape → Rule → Cell → Cell → Used → Bool
breaks_by_use i s Rule.R1 cell other used = breaks_r1 i s cell used
breaks_by_use i s Rule.R2 cell other used = breaks_r2 i s cell used
breaks_by_use i s Rule.R3 cell other used = breaks_r3 i s cell used
breaks_by_use i s Rule.U3 cell other used = breaks_u3 i s cell other used
breaks_by_use i s rule cell other used = false

-- ---- rules on accesses

-- the access is by an address that is written, or that a string instruction has
abbrev pub is_written_address : Arg → Bool
is_written_address (Arg.Address disp base index) = true
is_written_address arg = false

-- it is one of operand k
abbrev pub is_of_operand : ℕ → Arg → Bool
is_of_operand k (Arg.Memory j) = j == k
is_of_operand k arg = false

-- it goes past the end of operand k
abbrev pub is_past : Interface → ℕ → Access → Bool
is_past i k a = is_of_operand k a.to && nat_lt (size_at i k) a.bytes

-- a store to an input alone
abbrev pub breaks_w2_by_store : Interface → Sym → Cell → Bool
breaks_w2_by_store i line (Cell.Operand k) = not (is_output_at i k) && list_any (λ (a : Access). a.store && is_of_operand k a.to) (accesses_in line)
breaks_w2_by_store i line cell = false

-- undeclared memory is reached
abbrev pub breaks_m1 : Interface → List Shape → Sym → Bool
breaks_m1 i live line =
    not i.memory
    && list_any (λ (a : Access). is_written_address a.to || list_any (λ k. is_past i k a && not (is_changing live k)) (numbers_in i)) (accesses_in line)

-- an operand that is changing is passed at its end
abbrev pub breaks_m2 : Interface → List Shape → Sym → Cell → Bool
breaks_m2 i live line (Cell.Operand k) = is_changing live k && list_any (is_past i k) (accesses_in line)
breaks_m2 i live line cell = false

abbrev pub is_address_of : ℕ → Source → Bool
is_address_of k (Source.Address (Arg.Memory j)) = j == k
is_address_of k source = false

-- the address of operand k is used
abbrev pub uses_address : Sym → ℕ → Bool
uses_address line k = list_any (λ (a : Access). is_of_operand k a.to) (accesses_in line) || list_any (is_address_of k) (reads_of (entry_row line) line)

-- a memory operand is used while words are pushed
abbrev pub breaks_u4 : ℕ → Sym → Cell → Bool
breaks_u4 depth line (Cell.Operand k) = not (depth == 0) && uses_address line k
breaks_u4 depth line cell = false

abbrev pub breaks_by_access : Interface → List Shape → ℕ → Sym → Rule → Cell → Bool
breaks_by_access i live depth line Rule.W2 cell = breaks_w2_by_store i line cell
breaks_by_access i live depth line Rule.M1 cell = breaks_m1 i live line
breaks_by_access i live depth line Rule.M2 cell = breaks_m2 i live line cell
breaks_by_access i live depth line Rule.U4 cell = breaks_u4 depth line cell
breaks_by_access i live depth line rule cell = false

-- An instruction, before which so many words are pushed, breaks the rule on a path that shows these facts before it.
abbrev pub breaks_at_line : Interface → List Shape → Shape → ℕ → Sym → Violation → Facts → Bool
breaks_at_line i live s depth line x facts =
    (breaks_by_access i live depth line x.rule x.cell && facts Here) || breaks_by_use i s x.rule x.cell x.other (used_at_line i s depth line facts)

-- ---- rules on the end

abbrev pub is_changed : Facts → List ℕ → Bool
is_changed facts cells = list_any (λ c. facts (Has c (NotEntryOf c))) cells

-- a register isn't as at the entry
abbrev pub breaks_w1 : Interface → Shape → Cell → Facts → Bool
breaks_w1 i s (Cell.Reg r) facts = is_undeclared i s (reg_number r) && is_changed facts (place_cells (reg_number r))
breaks_w1 i s cell facts = false

-- an input's place isn't
abbrev pub breaks_w2 : Interface → Shape → Cell → Facts → Bool
breaks_w2 i s cell facts = is_changed facts (flat_map place_cells (filter (λ p. is_input_place i s p && same_cell (name_of i s p) cell) all_places))

-- the flags aren't
abbrev pub breaks_w3 : Interface → Cell → Facts → Bool
breaks_w3 i Cell.Cc facts = not i.cc && is_changed facts (map flag_cell flags)
breaks_w3 i cell facts = false

abbrev pub breaks_w4 : Cell → Facts → Bool
breaks_w4 (Cell.Flag Flag.Df) facts = facts DirectionSet
breaks_w4 cell facts = false

-- a byte of memory that isn't seen isn't written
abbrev pub is_left_unwritten : Interface → Cell → Facts → Bool
is_left_unwritten i (Cell.Operand k) facts = list_any (λ b. facts (Unwritten k b)) (range_with_len 0 (size_at i k))
is_left_unwritten i cell facts = false

abbrev pub breaks_by_end : Interface → Shape → Rule → Cell → Facts → Bool
breaks_by_end i s Rule.W1 cell facts = breaks_w1 i s cell facts
breaks_by_end i s Rule.W2 cell facts = breaks_w2 i s cell facts
breaks_by_end i s Rule.W3 cell facts = breaks_w3 i cell facts
breaks_by_end i s Rule.W4 cell facts = breaks_w4 cell facts
breaks_by_end i s Rule.R2 cell facts = is_left_unwritten i cell facts
breaks_by_end i s rule cell facts = false

-- The end breaks the rule on a path that shows these facts there.
abbrev pub breaks_at_end : Interface → Shape → Violation → Facts → Bool
breaks_at_end i s x facts = breaks_by_end i s x.rule x.cell facts || breaks_by_use i s x.rule x.cell x.other (used_at_end i s facts)

-- ---- names of single bytes

abbrev pub is_byte_name : Slice → Bool
is_byte_name Slice.Low8 = true
is_byte_name Slice.High8 = true
is_byte_name slice = false

abbrev pub asks_byte_of : ℕ → Arg → Bool
asks_byte_of k (Arg.Register (Place.Operand j) slice) = j == k && is_byte_name slice
asks_byte_of k arg = false

-- A byte of operand k is named, which may be in esi, edi or ebp, where single bytes have no name.
abbrev pub breaks_u2 : (ℕ → ℕ → Bool) → Sym → Cell → Bool
breaks_u2 shares line (Cell.Operand k) = list_any (asks_byte_of k) line.args && (shares (7 + k) 4 || (shares (7 + k) 5 || shares (7 + k) 6))
breaks_u2 shares line cell = false
