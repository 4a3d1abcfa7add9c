-- The bytes that a line's operands have as they are written, they have at each placement.
use Rattle.std.proofs.Common.{◌≡◌, ℕ, List, [], ◌∷◌, slice_get, Option, None, Some}
use Rattle.asm_core.specs.MicroOps.{first_of}
use Rattle.asm_core.specs.Reading.Placed.{placed_place, placed_disp, placed_base, placed_index, spot_form, operand_at}
use Rattle.asm_core.specs.Reading.Text.{register_arg, number_arg, memory_arg, address_arg}
use Rattle.asm_core.specs.Placement.{spot_of}
use Rattle.asm_core.specs.RowLaws.{HasBytes, FitsOperand, FitsSite, FitsTarget, FitsTargets, FitsInput, FitsCopies}
use Rattle.x86_table.specs.TableLaws.{HasArg, HasSite, HasTarget, HasInput, HasOperands}
use Rattle.asm_core.specs.declared.inst.Width.{Width}
use Rattle.asm_core.specs.declared.micro_op.Bytes.{Bytes}
use Rattle.asm_core.specs.declared.micro_op.Function.{Function}
use Rattle.asm_core.specs.declared.micro_op.Input.{Input}
use Rattle.asm_core.specs.declared.micro_op.MicroOp.{MicroOp}
use Rattle.asm_core.specs.declared.micro_op.Site.{Site}
use Rattle.asm_core.specs.declared.micro_op.Target.{Target}
use Rattle.asm_core.specs.declared.placement.Form.{Form}
use Rattle.asm_core.specs.declared.placement.Placement.{Placement}
use Rattle.asm_core.specs.declared.reg.Slice.{Slice}
use Rattle.asm_core.specs.declared.sym.Arg.{Arg}
use Rattle.asm_core.specs.declared.sym.Disp.{Disp}
use Rattle.asm_core.specs.declared.sym.Place.{Place}
use Rattle.asm_core.specs.declared.sym.Sym.{Sym}

register_fits : (w : Width) (bytes : Bytes) (place : Place) (slice : Slice) → HasBytes w slice bytes → FitsOperand w bytes (register_arg place slice)
register_fits w bytes (Place.Reg r) slice has = has
register_fits w bytes (Place.Operand k) slice has = tt

number_fits : (w : Width) (bytes : Bytes) (d : Disp) → first_of bytes ≡ 0 → FitsOperand w bytes (number_arg d)
number_fits w bytes (Disp.Number n) has = has
number_fits w bytes (Disp.Hole k) has = tt

memory_fits : (w : Width) (bytes : Bytes) (k : ℕ) (form : Option Form) → FitsOperand w bytes (memory_arg k form)
memory_fits w bytes k None = tt
memory_fits w bytes k (Some form) = tt

address_fits : (w : Width) (bytes : Bytes) (d : Disp) (base : Option Place) (index : Option (Place × ℕ)) → FitsOperand w bytes (address_arg d base index)
address_fits w bytes (Disp.Number n) base index = tt
address_fits w bytes (Disp.Hole k) base index = tt

module _ (p : Placement) where
  arg_fits : (w : Width) (bytes : Bytes) (x : Option Arg) → HasArg w bytes x → FitsOperand w bytes (operand_at p x)
  arg_fits w bytes None has = tt
  arg_fits w bytes (Some (Arg.Register place slice)) has = register_fits w bytes (placed_place p place) slice has
  arg_fits w bytes (Some (Arg.Number n)) has = has
  arg_fits w bytes (Some (Arg.Hole k)) has = number_fits w bytes (placed_disp p (Disp.Hole k)) has
  arg_fits w bytes (Some (Arg.Memory k)) has = memory_fits w bytes k (spot_form (spot_of p k))
  arg_fits w bytes (Some (Arg.Address d base index)) has = address_fits w bytes (placed_disp p d) (placed_base p base) (placed_index p index)
  arg_fits w bytes (Some (Arg.Label n)) has = tt

  module _ (s : Sym) where
    site_fits : (site : Site) → HasSite s site → FitsSite p s site
    site_fits (Site.Argument k bytes) has = arg_fits s.width bytes (slice_get s.args k) has
    site_fits site has = tt

    target_fits : (t : Target) → HasTarget s t → FitsTarget p s t
    target_fits (Target.Site site) has = site_fits site has
    target_fits t has = tt

    input_fits : (f : Function) (x : Input) (count : ℕ) → HasInput s f x count → FitsInput p s f x count
    input_fits Function.Copy (Input.Read site) count has = (site_fits site has.0, has.1)
    input_fits Function.Copy Input.Top count has = has
    input_fits Function.Set (Input.Number n) count has = has
    input_fits f x count has = tt

    pub row_fits : (row : List MicroOp) → HasOperands s row → FitsTargets p s row × FitsCopies p s row
    row_fits [] has = (tt, tt)
    row_fits (op ∷ ops) has = let rest = row_fits ops has.1.1 in ((target_fits op.target has.0, rest.0), (input_fits op.function op.x _ has.1.0, rest.1))
