-- What an instruction does to values: its reads, each into a hand, then its writes, in its row's order. Made of what the row reads, writes and names; nothing here
-- names an instruction. This project's own.
use Rattle.std.specs.Prelude.{ℕ, ◌+◌, ◌-◌, ◌==◌, ◌&&◌, nat_lt, not, Bool, true, false, List, [], ◌∷◌, ◌++◌, map, Option, None, Some, if◌then◌else◌}
use Rattle.std.specs.List.{range_with_len, flat_map}
use Rattle.asm_core.specs.Entries.{writes_of, named_of, uses_of, accesses_of}
use Rattle.asm_core.specs.Rows.{entry_row}
use Rattle.asm_core.specs.declared.flag.Flag.{Flag}
use Rattle.asm_core.specs.declared.sym.Place.{Place}
use Rattle.asm_core.specs.declared.sym.Arg.{Arg}
use Rattle.asm_core.specs.declared.sym.Sym.{Sym}
use Rattle.asm_core.specs.declared.row.Source.{Source}
use Rattle.asm_core.specs.declared.row.Written.{Written}
use Rattle.asm_core.specs.declared.row.By.{By}
use Rattle.asm_core.specs.declared.row.Write.{Write}
use Rattle.asm_core.specs.declared.row.Access.{Access}
use Rattle.asm_core.specs.declared.shape.Shape.{Shape}
use Rattle.asm_core.specs.declared.interface.Interface.{Interface}
use Rattle.blk_deps.specs.Cells.{place_number, byte_cell, flag_cell, word_cell, word_cells, place_cells, slice_first, slice_cells}
use Rattle.blk_deps.specs.Operands.{is_place}
use Rattle.blk_deps.specs.declared.step.Name.{Name}
use Rattle.blk_deps.specs.declared.step.Read.{Read}
use Rattle.blk_deps.specs.declared.step.Put.{Put}

-- what an instruction reads, writes, names and accesses
abbrev pub writes_in : Sym → List Write
writes_in line = writes_of (entry_row line) line

abbrev pub names_in : Sym → ℕ → List Source
names_in line = named_of (entry_row line) line

abbrev pub uses_in : Sym → List Source
uses_in line = uses_of (entry_row line) line

abbrev pub accesses_in : Sym → List Access
accesses_in line = accesses_of (entry_row line) line

-- ---- what a value is computed of

abbrev pub is_memory_of : ℕ → Arg → Bool
is_memory_of k (Arg.Memory j) = j == k
is_memory_of k arg = false

-- how many bytes of memory operand k the line loads
abbrev pub loaded : ℕ → List Access → ℕ
loaded k [] = 0
loaded k (a ∷ rest) = if is_memory_of k a.to && not a.store then a.bytes else loaded k rest

-- the cells of a place, if it is one of the shape
abbrev pub cells_there : Interface → Shape → ℕ → List ℕ → List ℕ
cells_there i s p cells = if is_place i s p then cells else []

abbrev pub cells_of_place : Interface → Shape → Option Place → List ℕ
cells_of_place i s None = []
cells_of_place i s (Some place) = cells_there i s (place_number place) (place_cells (place_number place))

abbrev pub index_place : Option (Place × ℕ) → Option Place
index_place None = None
index_place (Some x) = Some x.0

-- the cells of which an address is made
abbrev pub address_cells : Interface → Shape → Arg → List ℕ
address_cells i s (Arg.Memory k) = cells_there i s (7 + k) (place_cells (7 + k))
address_cells i s (Arg.Address disp base index) = cells_of_place i s base ++ cells_of_place i s (index_place index)
address_cells i s arg = []

-- what is loaded of memory operand k, if that is one of the shape
abbrev pub load_names : Interface → Shape → Sym → ℕ → List Name
load_names i s line k = if is_place i s (7 + k) then Name.Load k (loaded k (accesses_in line)) ∷ [] else []

-- the value of an operand
abbrev pub arg_names : Interface → Shape → Sym → Arg → List Name
arg_names i s line (Arg.Register place slice) = map Name.Cell (cells_there i s (place_number place) (slice_cells (place_number place) slice))
arg_names i s line (Arg.Memory k) = load_names i s line k
arg_names i s line arg = []

abbrev pub flag_names : Flag → List Name
flag_names Flag.Df = []
flag_names f = Name.Cell (flag_cell f) ∷ []

-- what a source is, with so many words pushed
abbrev pub source_names : Interface → Shape → ℕ → Sym → Source → List Name
source_names i s depth line (Source.Arg arg) = arg_names i s line arg
source_names i s depth line (Source.Address arg) = map Name.Cell (address_cells i s arg)
source_names i s depth line (Source.Flag f) = flag_names f
source_names i s depth line Source.Top = map Name.Cell (word_cells (depth - 1))
source_names i s depth line Source.Undefined = Name.Undefined ∷ []
source_names i s depth line Source.Outside = Name.Outside ∷ []

abbrev pub all_names : Interface → Shape → ℕ → Sym → List Source → List Name
all_names i s depth line sources = flat_map (source_names i s depth line) sources

-- ---- the reads

-- byte n of a place, if it is one of the shape: it has four
abbrev pub byte_there : Interface → Shape → ℕ → ℕ → List ℕ
byte_there i s p n = if nat_lt n 4 && is_place i s p then byte_cell p n ∷ [] else []

-- byte n of a pushed word, which has four
abbrev pub word_byte : ℕ → ℕ → List ℕ
word_byte word n = if nat_lt n 4 then word_cell word n ∷ [] else []

-- the cell of byte n of a source that a copy may be of: a register or a pushed word
abbrev pub copied_cell : Interface → Shape → ℕ → Source → ℕ → List ℕ
copied_cell i s depth (Source.Arg (Arg.Register place slice)) n = byte_there i s (place_number place) (slice_first slice + n)
copied_cell i s depth Source.Top n = word_byte (depth - 1) n
copied_cell i s depth source n = []

-- a copy of a cell, else a value that is computed of the whole source
abbrev pub copy_of : Interface → Shape → ℕ → Sym → Source → List ℕ → Read
copy_of i s depth line source (cell ∷ cells) = Read.Copy cell
copy_of i s depth line source [] = Read.Compute (source_names i s depth line source)

-- byte n of what is written, which is the k-th write of the line; a value that is set is computed of nothing
abbrev pub read_for : Interface → Shape → ℕ → Sym → ℕ → By → ℕ → Read
read_for i s depth line k (By.Copy source first) n = copy_of i s depth line source (copied_cell i s depth source (first + n))
read_for i s depth line k By.Named n = Read.Compute (all_names i s depth line (names_in line k))
read_for i s depth line k (By.Set on) n = Read.Compute []

-- those of the writes from the k-th on, byte by byte
abbrev pub reads_from : Interface → Shape → ℕ → Sym → ℕ → List Write → List Read
reads_from i s depth line k [] = []
reads_from i s depth line k (w ∷ ws) = map (read_for i s depth line k w.by) (range_with_len 0 w.count) ++ reads_from i s depth line (k + 1) ws

abbrev pub access_cells : Interface → Shape → List Access → List ℕ
access_cells i s accesses = flat_map (λ (a : Access). address_cells i s a.to) accesses

-- What the line reads: the bytes of its writes, then what it uses by itself, then the addresses of its accesses.
abbrev pub line_reads : Interface → Shape → ℕ → Sym → List Read
line_reads i s depth line =
    reads_from i s depth line 0 (writes_in line)
    ++ Read.Compute (all_names i s depth line (uses_in line))
    ∷ Read.Compute (map Name.Cell (access_cells i s (accesses_in line))) ∷ []

-- ---- the writes

abbrev pub put_byte : Interface → Shape → Place → ℕ → ℕ → List Put
put_byte i s place n hand = if nat_lt n 4 && is_place i s (place_number place) then Put.Place (byte_cell (place_number place) n) hand ∷ [] else []

abbrev pub put_word : ℕ → ℕ → ℕ → List Put
put_word word n hand = if nat_lt n 4 then Put.Plain (word_cell word n) hand ∷ [] else []

abbrev pub set_direction : By → List Put
set_direction (By.Set on) = Put.Direction on ∷ []
set_direction by = []

abbrev pub put_flag : Flag → ℕ → By → List Put
put_flag Flag.Df hand by = set_direction by
put_flag f hand by = Put.Plain (flag_cell f) hand ∷ []

-- a store to memory operand k, if that is one of the shape
abbrev pub put_store : Interface → Shape → ℕ → Write → List Put
put_store i s k w = if is_place i s (7 + k) then Put.Store k w.first w.count ∷ [] else []

-- a write whose bytes are in the hands from that one on
abbrev pub puts_to : Interface → Shape → ℕ → ℕ → Write → Written → List Put
puts_to i s depth hand w (Written.Arg (Arg.Register place slice)) = flat_map (λ n. put_byte i s place (slice_first slice + w.first + n) (hand + n)) (range_with_len 0 w.count)
puts_to i s depth hand w (Written.Arg (Arg.Memory k)) = put_store i s k w
puts_to i s depth hand w (Written.Arg arg) = []
puts_to i s depth hand w (Written.Flag f) = put_flag f hand w.by
puts_to i s depth hand w Written.Push = flat_map (λ n. put_word depth n (hand + n)) (range_with_len 0 w.count)
puts_to i s depth hand w Written.Pop = []

abbrev pub puts_from : Interface → Shape → ℕ → ℕ → List Write → List Put
puts_from i s depth hand [] = []
puts_from i s depth hand (w ∷ ws) = puts_to i s depth hand w w.to ++ puts_from i s depth (hand + w.count) ws

-- what the line writes, where so many words are pushed before it
abbrev pub line_puts : Interface → Shape → ℕ → Sym → List Put
line_puts i s depth line = puts_from i s depth 0 (writes_in line)

-- ---- the hands that count as uses

abbrev pub is_memory : Written → Bool
is_memory (Written.Arg (Arg.Memory k)) = true
is_memory (Written.Arg (Arg.Address disp base index)) = true
is_memory to = false

abbrev pub stored_from : ℕ → List Write → List ℕ
stored_from hand [] = []
stored_from hand (w ∷ ws) = (if is_memory w.to then range_with_len hand w.count else []) ++ stored_from (hand + w.count) ws

abbrev pub hand_count : List Write → ℕ
hand_count [] = 0
hand_count (w ∷ ws) = w.count + hand_count ws

-- the bytes that are stored outside the pushed words, what the line uses by itself, and its addresses
abbrev pub used_hands : Sym → List ℕ
used_hands line = stored_from 0 (writes_in line) ++ hand_count (writes_in line) ∷ (hand_count (writes_in line) + 1) ∷ []
