-- A line of the table of names that sets the direction flag isn't repeated.
use Rattle.std.proofs.Common.{◌≡◌, ◌||◌, not, Bool, true, false, refl, sym, subst}
use Rattle.std.specs.List.{list_all}
use Rattle.asm_core.specs.Lists.{IsMember}
use Rattle.asm_core.specs.Reading.Names.{names}
use Rattle.asm_core.specs.declared.inst.Op.{Op}
use Rattle.asm_core.specs.declared.inst.Repeat.{Repeat}
use Rattle.asm_core.specs.declared.names.NameRow.{NameRow}
use Rattle.asm_core.specs.declared.reading.Line.{Line}
use Rattle.asm_core.specs.declared.sym.Sym.{Sym}
use Rattle.x86_table.proofs.NamesCheck.{operations_of, repeats_of}
use Rattle.x86_table.proofs.NamesFit.{all_at, implied, IsOfRow}
use Rattle.x86_table.proofs.LinesFit.{IsOfTable}
use Rattle.blk_frame.proofs.DirectionKept.{SetsOnce}
use Rattle.blk_frame.proofs.LoneRows.{sets_direction}

abbrev is_once : Repeat → Bool
is_once Repeat.No = true
is_once _ = false

abbrev op_sets_once : NameRow → Op → Bool
op_sets_once r op = not (sets_direction op) || list_all is_once (repeats_of r)

abbrev row_sets_once : NameRow → Bool
row_sets_once r = list_all (op_sets_once r) (operations_of r.operation)

-- the whole table
names_set_once : list_all row_sets_once names ≡ true
names_set_once = refl

once_from : (repeat : Repeat) → is_once repeat ≡ true → repeat ≡ Repeat.No
once_from Repeat.No is = refl
once_from Repeat.Rep is = cc
once_from Repeat.Repe is = cc
once_from Repeat.Repne is = cc

pub row_set_once : (l : Line) → IsOfRow l → sets_direction l.op ≡ true → l.repeat ≡ Repeat.No
row_set_once l is sets =
    let row = is.choice.row in
    let each = all_at row_sets_once row names names_set_once is.chosen.there in
    let member = subst (λ op. IsMember op (operations_of row.operation)) (sym is.op) is.chosen.operation in
    let of_op = all_at (op_sets_once row) l.op (operations_of row.operation) each member in
    let none = implied (sets_direction l.op) (list_all is_once (repeats_of row)) of_op sets in
    once_from l.repeat (all_at is_once l.repeat (repeats_of row) none is.repeat)

pub sets_once : (line : Sym) → IsOfTable line → SetsOnce line
sets_once line is = subst SetsOnce is.of_line (row_set_once is.line is.of_row)
