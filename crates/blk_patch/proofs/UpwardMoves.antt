-- An instruction reads and writes the same under both interfaces, since only the places of the shape count.
use Rattle.std.proofs.Common.{◌≡◌, ℕ, ◌+◌, ◌&&◌, nat_lt, List, [], ◌∷◌, ◌++◌, map, Option, None, Some, refl, ap, ◌∙◌, if◌then◌else◌}
use Rattle.std.specs.List.{range_with_len, flat_map}
use Rattle.std.proofs.Math.Path.{fun_ext}
use Rattle.asm_core.specs.declared.sym.Place.{Place}
use Rattle.asm_core.specs.declared.sym.Arg.{Arg}
use Rattle.asm_core.specs.declared.sym.Sym.{Sym}
use Rattle.asm_core.specs.declared.row.Source.{Source}
use Rattle.asm_core.specs.declared.row.Written.{Written}
use Rattle.asm_core.specs.declared.row.By.{By}
use Rattle.asm_core.specs.declared.row.Write.{Write}
use Rattle.asm_core.specs.declared.row.Access.{Access}
use Rattle.asm_core.specs.declared.shape.Shape.{Shape}
use Rattle.asm_core.specs.declared.interface.Interface.{Interface}
use Rattle.blk_deps.specs.Cells.{place_number, byte_cell, place_cells, slice_first, slice_cells}
use Rattle.blk_deps.specs.Operands.{is_place}
use Rattle.blk_deps.specs.Line.{writes_in, names_in, uses_in, accesses_in, loaded, cells_there, cells_of_place, index_place, address_cells, load_names, arg_names, source_names, all_names, byte_there, copied_cell, copy_of, read_for, reads_from, access_cells, line_reads, put_byte, put_store, puts_to, puts_from, line_puts}
use Rattle.blk_deps.specs.declared.step.Name.{Name}
use Rattle.blk_deps.specs.declared.step.Read.{Read}
use Rattle.blk_deps.specs.declared.step.Put.{Put}

pub joined : {A : Type 0} (xs ys zs ws : List A) → xs ≡ zs → ys ≡ ws → xs ++ ys ≡ zs ++ ws
joined xs ys zs ws first second = rw (first, second) refl

module _ (old new : Interface) (s : Shape) (same : (p : ℕ) → is_place new s p ≡ is_place old s p) where
  -- ---- what is read

  cells_same : (p : ℕ) (cells : List ℕ) → cells_there new s p cells ≡ cells_there old s p cells
  cells_same p cells = ap (λ b. if b then cells else []) (same p)

  of_place_same : (place : Option Place) → cells_of_place new s place ≡ cells_of_place old s place
  of_place_same None = refl
  of_place_same (Some place) = cells_same (place_number place) (place_cells (place_number place))

  address_cells_same : (arg : Arg) → address_cells new s arg ≡ address_cells old s arg
  address_cells_same (Arg.Memory k) = cells_same (7 + k) (place_cells (7 + k))
  address_cells_same (Arg.Address disp base index) =
      joined (cells_of_place new s base) (cells_of_place new s (index_place index)) (cells_of_place old s base)
      (cells_of_place old s (index_place index)) (of_place_same base) (of_place_same (index_place index))
  address_cells_same arg = refl

  load_same : (line : Sym) (k : ℕ) → load_names new s line k ≡ load_names old s line k
  load_same line k = ap (λ b. if b then Name.Load k (loaded k (accesses_in line)) ∷ [] else []) (same (7 + k))

  arg_names_same : (line : Sym) (arg : Arg) → arg_names new s line arg ≡ arg_names old s line arg
  arg_names_same line (Arg.Register place slice) =
      ap (map Name.Cell) (cells_same (place_number place) (slice_cells (place_number place) slice))
  arg_names_same line (Arg.Memory k) = load_same line k
  arg_names_same line arg = refl

  source_same : (depth : ℕ) (line : Sym) (source : Source)
      → source_names new s depth line source ≡ source_names old s depth line source
  source_same depth line (Source.Arg arg) = arg_names_same line arg
  source_same depth line (Source.Address arg) = ap (map Name.Cell) (address_cells_same arg)
  source_same depth line source = refl

  all_names_same : (depth : ℕ) (line : Sym) (sources : List Source)
      → all_names new s depth line sources ≡ all_names old s depth line sources
  all_names_same depth line sources = ap (λ names. flat_map names sources) (fun_ext (source_same depth line))

  byte_there_same : (p n : ℕ) → byte_there new s p n ≡ byte_there old s p n
  byte_there_same p n = ap (λ b. if nat_lt n 4 && b then byte_cell p n ∷ [] else []) (same p)

  copied_same : (depth : ℕ) (source : Source) (n : ℕ)
      → copied_cell new s depth source n ≡ copied_cell old s depth source n
  copied_same depth (Source.Arg (Arg.Register place slice)) n =
      byte_there_same (place_number place) (slice_first slice + n)
  copied_same depth source n = refl

  copy_same : (depth : ℕ) (line : Sym) (source : Source) (cells : List ℕ)
      → copy_of new s depth line source cells ≡ copy_of old s depth line source cells
  copy_same depth line source (cell ∷ cells) = refl
  copy_same depth line source [] = ap Read.Compute (source_same depth line source)

  read_same : (depth : ℕ) (line : Sym) (k : ℕ) (by : By) (n : ℕ)
      → read_for new s depth line k by n ≡ read_for old s depth line k by n
  read_same depth line k (By.Copy source first) n =
      ap (copy_of new s depth line source) (copied_same depth source (first + n))
      ∙ copy_same depth line source (copied_cell old s depth source (first + n))
  read_same depth line k By.Named n = ap Read.Compute (all_names_same depth line (names_in line k))
  read_same depth line k (By.Set on) n = refl

  reads_from_same : (depth : ℕ) (line : Sym) (k : ℕ) (ws : List Write)
      → reads_from new s depth line k ws ≡ reads_from old s depth line k ws
  reads_from_same depth line k [] = refl
  reads_from_same depth line k (w ∷ ws) =
      joined (map (read_for new s depth line k w.by) (range_with_len 0 w.count))
      (reads_from new s depth line (k + 1) ws)
      (map (read_for old s depth line k w.by) (range_with_len 0 w.count)) (reads_from old s depth line (k + 1) ws)
      (ap (λ reads. map reads (range_with_len 0 w.count)) (fun_ext (read_same depth line k w.by)))
      (reads_from_same depth line (k + 1) ws)

  access_cells_same : (accesses : List Access) → access_cells new s accesses ≡ access_cells old s accesses
  access_cells_same accesses =
      ap (λ cells. flat_map cells accesses) (fun_ext (λ (a : Access). address_cells_same a.to))

  pub reads_same : (depth : ℕ) (line : Sym) → line_reads new s depth line ≡ line_reads old s depth line
  reads_same depth line =
      parts (reads_from new s depth line 0 (writes_in line)) (all_names new s depth line (uses_in line))
      (access_cells new s (accesses_in line))
      (reads_from old s depth line 0 (writes_in line)) (all_names old s depth line (uses_in line))
      (access_cells old s (accesses_in line))
      (reads_from_same depth line 0 (writes_in line)) (all_names_same depth line (uses_in line))
      (access_cells_same (accesses_in line))
    where
      parts : (a : List Read) (b : List Name) (c : List ℕ) (d : List Read) (e : List Name) (f : List ℕ)
          → a ≡ d → b ≡ e → c ≡ f
          → a ++ Read.Compute b ∷ Read.Compute (map Name.Cell c) ∷ []
          ≡ d ++ Read.Compute e ∷ Read.Compute (map Name.Cell f) ∷ []
      parts a b c d e f first second third = rw (first, second, third) refl

  -- ---- what is written

  put_byte_same : (place : Place) (n hand : ℕ) → put_byte new s place n hand ≡ put_byte old s place n hand
  put_byte_same place n hand =
      ap (λ b. if nat_lt n 4 && b then Put.Place (byte_cell (place_number place) n) hand ∷ [] else [])
      (same (place_number place))

  put_store_same : (k : ℕ) (w : Write) → put_store new s k w ≡ put_store old s k w
  put_store_same k w = ap (λ b. if b then Put.Store k w.first w.count ∷ [] else []) (same (7 + k))

  puts_to_same : (depth hand : ℕ) (w : Write) (to : Written)
      → puts_to new s depth hand w to ≡ puts_to old s depth hand w to
  puts_to_same depth hand w (Written.Arg (Arg.Register place slice)) =
      ap (λ puts. flat_map puts (range_with_len 0 w.count))
      (fun_ext (λ n. put_byte_same place (slice_first slice + w.first + n) (hand + n)))
  puts_to_same depth hand w (Written.Arg (Arg.Memory k)) = put_store_same k w
  puts_to_same depth hand w to = refl

  puts_from_same : (depth hand : ℕ) (ws : List Write)
      → puts_from new s depth hand ws ≡ puts_from old s depth hand ws
  puts_from_same depth hand [] = refl
  puts_from_same depth hand (w ∷ ws) =
      joined (puts_to new s depth hand w w.to) (puts_from new s depth (hand + w.count) ws)
      (puts_to old s depth hand w w.to) (puts_from old s depth (hand + w.count) ws)
      (puts_to_same depth hand w w.to) (puts_from_same depth (hand + w.count) ws)

  pub puts_same : (depth : ℕ) (line : Sym) → line_puts new s depth line ≡ line_puts old s depth line
  puts_same depth line = puts_from_same depth 0 (writes_in line)
