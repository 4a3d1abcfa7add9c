-- What an instruction reads fits a layout of its interface with cells of 16 pushed words.
use Rattle.std.proofs.Common.{◌≡◌, ℕ, ◌+◌, ◌-◌, ◌<◌, ◌≤◌, ◌&&◌, nat_lt, IsTrue, All, List, [], ◌∷◌, map, length, Option, None, Some, refl, ap, ap₂, ◌∙◌, arith}
use Rattle.std.specs.List.{range_with_len}
use Rattle.std.proofs.lemmas.Bool.Decides.{nat_tests}
use Rattle.std.proofs.lemmas.List.{length-append}
use Rattle.std.proofs.lemmas.List.FromFn.{length-map-range_with_len}
use Rattle.std.proofs.lemmas.List.Elements.{All-nil, All-cons, All-head, All-append, All-map}
use Rattle.asm_core.specs.declared.flag.Flag.{Flag}
use Rattle.asm_core.specs.declared.sym.Place.{Place}
use Rattle.asm_core.specs.declared.sym.Arg.{Arg}
use Rattle.asm_core.specs.declared.sym.Sym.{Sym}
use Rattle.asm_core.specs.declared.row.Source.{Source}
use Rattle.asm_core.specs.declared.row.By.{By}
use Rattle.asm_core.specs.declared.row.Write.{Write}
use Rattle.asm_core.specs.declared.row.Access.{Access}
use Rattle.asm_core.specs.declared.shape.Shape.{Shape}
use Rattle.asm_core.specs.declared.interface.Interface.{Interface}
use Rattle.blk_deps.specs.Cells.{place_number, place_cells, slice_cells, slice_first, byte_cell, word_cell, word_cells}
use Rattle.blk_deps.specs.Operands.{is_place}
use Rattle.blk_deps.specs.Layout.{IsLayout}
use Rattle.blk_deps.specs.Fits.{has_slot, fits_name, FitsRead, FitReads}
use Rattle.blk_deps.specs.Line.{writes_in, names_in, uses_in, accesses_in, loaded, cells_there, cells_of_place, index_place, address_cells, arg_names, flag_names, source_names, all_names, byte_there, word_byte, copied_cell, copy_of, read_for, reads_from, access_cells, line_reads, hand_count}
use Rattle.blk_deps.specs.declared.layout.Layout.{Layout}
use Rattle.blk_deps.specs.declared.step.Name.{Name}
use Rattle.blk_deps.specs.declared.step.Read.{Read}
use Rattle.blk_deps.proofs.FitLists.{both_true, all_of_each, all_of_one, all_where, one_where, all_flat}
use Rattle.blk_deps.proofs.FitSlots.{HaveSlots, place_within, operand_within, byte_slot, flag_slot, word_slot, place_slots, word_slots, slice_slots}

pub is_below : (n m : ℕ) → IsTrue (nat_lt n m) → n < m
is_below n m h = grind (arith, nat_tests, h)

-- the layout is of the interface and has cells of 16 pushed words
pub record IsStackLayout (i : Interface) (l : Layout) : Type 0 where
  pub layout : IsLayout l
  pub operands : l.operands ≡ length i.operands
  pub words : l.words ≡ 16

module _ (i : Interface) (s : Shape) (l : Layout) (is : IsStackLayout i l) (depth : ℕ) (few : depth ≤ 16) (line : Sym) where
  abbrev AllFit : List Name → Type 0
  AllFit names = All (λ name. IsTrue (fits_name l name)) names

  cells_fit : (cells : List ℕ) → HaveSlots l cells → AllFit (map Name.Cell cells)
  cells_fit cells h = All-map (λ name. IsTrue (fits_name l name)) Name.Cell cells h

  there_have : (p : ℕ) (cells : List ℕ) → (IsTrue (is_place i s p) → HaveSlots l cells) → HaveSlots l (cells_there i s p cells)
  there_have p cells h = all_where (λ c. IsTrue (has_slot l c)) (is_place i s p) cells h

  place_has : (p : ℕ) → HaveSlots l (cells_there i s p (place_cells p))
  place_has p = there_have p (place_cells p) (λ there. place_slots l p is.layout (place_within i s l p is.operands there))

  some_place_has : (place : Option Place) → HaveSlots l (cells_of_place i s place)
  some_place_has None = All-nil (λ c. IsTrue (has_slot l c))
  some_place_has (Some place) = place_has (place_number place)

  address_has : (arg : Arg) → HaveSlots l (address_cells i s arg)
  address_has (Arg.Memory k) = place_has (7 + k)
  address_has (Arg.Address disp base index) =
      All-append (λ c. IsTrue (has_slot l c)) (cells_of_place i s base) (cells_of_place i s (index_place index)) (some_place_has base) (some_place_has (index_place index))
  address_has (Arg.Register place slice) = All-nil (λ c. IsTrue (has_slot l c))
  address_has (Arg.Number n) = All-nil (λ c. IsTrue (has_slot l c))
  address_has (Arg.Hole h) = All-nil (λ c. IsTrue (has_slot l c))
  address_has (Arg.Label h) = All-nil (λ c. IsTrue (has_slot l c))

  arg_fits : (arg : Arg) → AllFit (arg_names i s line arg)
  arg_fits (Arg.Register place slice) =
      let p = place_number place in
      cells_fit (cells_there i s p (slice_cells p slice)) (there_have p (slice_cells p slice) (λ there. slice_slots l p slice is.layout (place_within i s l p is.operands there)))
  arg_fits (Arg.Memory k) =
      one_where (λ name. IsTrue (fits_name l name)) (is_place i s (7 + k)) (Name.Load k (loaded k (accesses_in line))) (λ there. operand_within i s l k is.operands there)
  arg_fits (Arg.Address disp base index) = All-nil (λ name. IsTrue (fits_name l name))
  arg_fits (Arg.Number n) = All-nil (λ name. IsTrue (fits_name l name))
  arg_fits (Arg.Hole h) = All-nil (λ name. IsTrue (fits_name l name))
  arg_fits (Arg.Label h) = All-nil (λ name. IsTrue (fits_name l name))

  one_flag_fits : (n : ℕ) → n < 6 → AllFit (Name.Cell (148 + n) ∷ [])
  one_flag_fits n small = all_of_one (λ name. IsTrue (fits_name l name)) (Name.Cell (148 + n)) (flag_slot l n small)

  flag_fits : (f : Flag) → AllFit (flag_names f)
  flag_fits Flag.Cf = one_flag_fits 0 (omega arith)
  flag_fits Flag.Pf = one_flag_fits 1 (omega arith)
  flag_fits Flag.Af = one_flag_fits 2 (omega arith)
  flag_fits Flag.Zf = one_flag_fits 3 (omega arith)
  flag_fits Flag.Sf = one_flag_fits 4 (omega arith)
  flag_fits Flag.Of = one_flag_fits 5 (omega arith)
  flag_fits Flag.Df = All-nil (λ name. IsTrue (fits_name l name))

  source_fits : (source : Source) → AllFit (source_names i s depth line source)
  source_fits (Source.Arg arg) = arg_fits arg
  source_fits (Source.Address arg) = cells_fit (address_cells i s arg) (address_has arg)
  source_fits (Source.Flag f) = flag_fits f
  source_fits Source.Top = cells_fit (word_cells (depth - 1)) (word_slots l (depth - 1) is.words (omega (arith, few)))
  source_fits Source.Undefined = all_of_one (λ name. IsTrue (fits_name l name)) Name.Undefined refl
  source_fits Source.Outside = all_of_one (λ name. IsTrue (fits_name l name)) Name.Outside refl

  sources_fit : (sources : List Source) → AllFit (all_names i s depth line sources)
  sources_fit sources = all_flat (λ name. IsTrue (fits_name l name)) (source_names i s depth line) sources source_fits

  byte_has : (p n : ℕ) → HaveSlots l (byte_there i s p n)
  byte_has p n =
      one_where (λ c. IsTrue (has_slot l c)) (nat_lt n 4 && is_place i s p) (byte_cell p n)
      (λ h. let parts = both_true (nat_lt n 4) (is_place i s p) h in byte_slot l p n is.layout (place_within i s l p is.operands parts.1) (is_below n 4 parts.0))

  word_byte_has : (n : ℕ) → HaveSlots l (word_byte (depth - 1) n)
  word_byte_has n =
      one_where (λ c. IsTrue (has_slot l c)) (nat_lt n 4) (word_cell (depth - 1) n) (λ h. word_slot l (depth - 1) n is.words (omega (arith, few)) (is_below n 4 h))

  copied_has : (source : Source) (n : ℕ) → HaveSlots l (copied_cell i s depth source n)
  copied_has (Source.Arg (Arg.Register place slice)) n = byte_has (place_number place) (slice_first slice + n)
  copied_has (Source.Arg (Arg.Memory k)) n = All-nil (λ c. IsTrue (has_slot l c))
  copied_has (Source.Arg (Arg.Address disp base index)) n = All-nil (λ c. IsTrue (has_slot l c))
  copied_has (Source.Arg (Arg.Number m)) n = All-nil (λ c. IsTrue (has_slot l c))
  copied_has (Source.Arg (Arg.Hole h)) n = All-nil (λ c. IsTrue (has_slot l c))
  copied_has (Source.Arg (Arg.Label h)) n = All-nil (λ c. IsTrue (has_slot l c))
  copied_has (Source.Address arg) n = All-nil (λ c. IsTrue (has_slot l c))
  copied_has (Source.Flag f) n = All-nil (λ c. IsTrue (has_slot l c))
  copied_has Source.Top n = word_byte_has n
  copied_has Source.Undefined n = All-nil (λ c. IsTrue (has_slot l c))
  copied_has Source.Outside n = All-nil (λ c. IsTrue (has_slot l c))

  copy_fits : (source : Source) (cells : List ℕ) → HaveSlots l cells → FitsRead l (copy_of i s depth line source cells)
  copy_fits source [] h = source_fits source
  copy_fits source (cell ∷ cells) h = All-head (λ c. IsTrue (has_slot l c)) cell cells h

  read_fits : (k : ℕ) (by : By) (n : ℕ) → FitsRead l (read_for i s depth line k by n)
  read_fits k (By.Copy source first) n = copy_fits source (copied_cell i s depth source (first + n)) (copied_has source (first + n))
  read_fits k By.Named n = sources_fit (names_in line k)
  read_fits k (By.Set on) n = All-nil (λ name. IsTrue (fits_name l name))

  reads_from_fit : (k : ℕ) (ws : List Write) → FitReads l (reads_from i s depth line k ws)
  reads_from_fit k [] = All-nil (FitsRead l)
  reads_from_fit k (w ∷ ws) =
      All-append (FitsRead l) (map (read_for i s depth line k w.by) (range_with_len 0 w.count)) (reads_from i s depth line (k + 1) ws)
      (All-map (FitsRead l) (read_for i s depth line k w.by) (range_with_len 0 w.count) (all_of_each _ (range_with_len 0 w.count) (read_fits k w.by)))
      (reads_from_fit (k + 1) ws)

  addresses_have : (accesses : List Access) → HaveSlots l (access_cells i s accesses)
  addresses_have accesses = all_flat (λ c. IsTrue (has_slot l c)) (λ (a : Access). address_cells i s a.to) accesses (λ a. address_has a.to)

  pub reads_fit : FitReads l (line_reads i s depth line)
  reads_fit =
      let uses = Read.Compute (all_names i s depth line (uses_in line)) in
      let addresses = Read.Compute (map Name.Cell (access_cells i s (accesses_in line))) in
      All-append (FitsRead l) (reads_from i s depth line 0 (writes_in line)) (uses ∷ addresses ∷ [])
      (reads_from_fit 0 (writes_in line))
      (All-cons (FitsRead l) uses (addresses ∷ []) (sources_fit (uses_in line))
      (all_of_one (FitsRead l) addresses (cells_fit (access_cells i s (accesses_in line)) (addresses_have (accesses_in line)))))

-- ---- how many hands there are

reads_from_count : (i : Interface) (s : Shape) (depth : ℕ) (line : Sym) (k : ℕ) (ws : List Write) → length (reads_from i s depth line k ws) ≡ hand_count ws
reads_from_count i s depth line k [] = refl
reads_from_count i s depth line k (w ∷ ws) =
    length-append (map (read_for i s depth line k w.by) (range_with_len 0 w.count)) (reads_from i s depth line (k + 1) ws)
    ∙ ap₂ (λ a b. a + b) (length-map-range_with_len (read_for i s depth line k w.by) 0 w.count) (reads_from_count i s depth line (k + 1) ws)

pub reads_count : (i : Interface) (s : Shape) (depth : ℕ) (line : Sym) → length (line_reads i s depth line) ≡ hand_count (writes_in line) + 2
reads_count i s depth line =
    length-append (reads_from i s depth line 0 (writes_in line)) (Read.Compute (all_names i s depth line (uses_in line)) ∷ Read.Compute (map Name.Cell (access_cells i s (accesses_in line))) ∷ [])
    ∙ ap (λ n. n + 2) (reads_from_count i s depth line 0 (writes_in line))
