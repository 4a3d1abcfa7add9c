-- A line that is read has at each placement what its steps ask for.
use Rattle.std.proofs.Common.{◌≡◌, ℕ, zero, suc, true, List, [], ◌∷◌, Some, slice_get, subst}
use Rattle.std.specs.List.{list_all}
use Rattle.std.proofs.lemmas.Bool.{and_parts}
use Rattle.asm_core.specs.RowLaws.{IsPlaced, FitsTargets, FitsCopies}
use Rattle.asm_core.specs.Rows.{line_row}
use Rattle.asm_core.specs.declared.sym.Arg.{Arg}
use Rattle.asm_core.specs.declared.sym.Sym.{Sym}
use Rattle.asm_core.specs.declared.shape.Shape.{Shape}
use Rattle.asm_core.specs.declared.interface.Interface.{Interface}
use Rattle.asm_core.specs.declared.placement.Placement.{Placement}
use Rattle.asm_core.proofs.ReadingLaws.PlacesThere.{is_arg_own, IsFit}
use Rattle.x86_table.specs.TableLaws.{IsPlain}
use Rattle.x86_table.proofs.EntryLaws.{obeys_table}
use Rattle.x86_table.proofs.LinesFit.{IsOfTable, fits_table}
use Rattle.blk_frame.specs.Lines.{NamesPlaces, IsOfShape}
use Rattle.blk_frame.specs.Stores.{StoresWhole}
use Rattle.blk_frame.proofs.DirectionKept.{SetsOnce}
use Rattle.blk_frame.proofs.JumpsOnce.{JumpsOnce, jumps_once}
use Rattle.blk_frame.proofs.OwnPlaces.{names_places}
use Rattle.blk_frame.proofs.PartsRead.{read_stores_whole}
use Rattle.blk_frame.proofs.SetsOnce.{sets_once}

-- what is known of a line that is read under a shape, where a placement puts it
pub record LineFits (i : Interface) (s : Shape) (p : Placement) (line : Sym) : Type 0 where
  pub placed : IsPlaced p line
  pub of_shape : IsOfShape i s line
  pub plain : IsPlain line
  pub targets : FitsTargets p line (line_row line)
  pub copies : FitsCopies p line (line_row line)
  pub jumps_once : JumpsOnce line
  pub sets_once : SetsOnce line
  pub whole : StoresWhole line

module _ (i : Interface) (s : Shape) where
  names_at : (args : List Arg) → list_all (is_arg_own i s) args ≡ true → (k : ℕ) (arg : Arg)
      → slice_get args k ≡ Some arg → NamesPlaces i s arg
  names_at [] own k arg at = cc
  names_at (first ∷ args) own zero arg at =
      let same : first ≡ arg = cc in
      subst (NamesPlaces i s) same (names_places i s first (and_parts (is_arg_own i s first) _ own).0)
  names_at (first ∷ args) own (suc k) arg at = names_at args (and_parts (is_arg_own i s first) _ own).1 k arg at

  pub line_fits : (p : Placement) (line : Sym) → IsFit i s p line → IsOfTable line → LineFits i s p line
  line_fits p line fit of_table =
      let table = fits_table line of_table in
      let fits = obeys_table.fits line (line_row line) table.operands p in
      record {
        placed = fit.placed;
        of_shape = record { each = names_at line.args fit.own };
        plain = table.plain;
        targets = fits.0;
        copies = fits.1;
        jumps_once = jumps_once line of_table;
        sets_once = sets_once line of_table;
        whole = read_stores_whole line of_table;
      }
