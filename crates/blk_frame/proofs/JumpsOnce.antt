-- A line of the table of names that goes to its goal alone isn't repeated.
use Rattle.std.proofs.Common.{◌≡◌, ◌||◌, not, Bool, true, false, refl, sym, subst}
use Rattle.std.specs.List.{list_all}
use Rattle.asm_core.specs.Lists.{IsMember}
use Rattle.asm_core.specs.Reading.Names.{names}
use Rattle.asm_core.specs.declared.inst.Op.{Op}
use Rattle.asm_core.specs.declared.inst.Repeat.{Repeat}
use Rattle.asm_core.specs.declared.names.NameRow.{NameRow}
use Rattle.asm_core.specs.declared.reading.Line.{Line}
use Rattle.asm_core.specs.declared.sym.Sym.{Sym}
use Rattle.blk_flow.specs.Graph.{always_jumps}
use Rattle.x86_table.proofs.NamesCheck.{operations_of, repeats_of}
use Rattle.x86_table.proofs.NamesFit.{all_at, implied, IsOfRow}
use Rattle.x86_table.proofs.LinesFit.{IsOfTable}

-- a line that goes to its goal alone isn't repeated
abbrev pub JumpsOnce : Sym → Type 0
JumpsOnce line = always_jumps line.op ≡ true → line.repeat ≡ Repeat.No

abbrev is_no_repeat : Repeat → Bool
is_no_repeat Repeat.No = true
is_no_repeat _ = false

abbrev op_jumps_once : NameRow → Op → Bool
op_jumps_once r op = not (always_jumps op) || list_all is_no_repeat (repeats_of r)

abbrev row_jumps_once : NameRow → Bool
row_jumps_once r = list_all (op_jumps_once r) (operations_of r.operation)

-- the whole table
names_jump_once : list_all row_jumps_once names ≡ true
names_jump_once = refl

no_repeat : (repeat : Repeat) → is_no_repeat repeat ≡ true → repeat ≡ Repeat.No
no_repeat Repeat.No is = refl
no_repeat Repeat.Rep is = cc
no_repeat Repeat.Repe is = cc
no_repeat Repeat.Repne is = cc

pub row_once : (l : Line) → IsOfRow l → always_jumps l.op ≡ true → l.repeat ≡ Repeat.No
row_once l is jumps =
    let row = is.choice.row in
    let each = all_at row_jumps_once row names names_jump_once is.chosen.there in
    let member = subst (λ op. IsMember op (operations_of row.operation)) (sym is.op) is.chosen.operation in
    let of_op = all_at (op_jumps_once row) l.op (operations_of row.operation) each member in
    let none = implied (always_jumps l.op) (list_all is_no_repeat (repeats_of row)) of_op jumps in
    no_repeat l.repeat (all_at is_no_repeat l.repeat (repeats_of row) none is.repeat)

pub jumps_once : (line : Sym) → IsOfTable line → JumpsOnce line
jumps_once line is = subst JumpsOnce is.of_line (row_once is.line is.of_row)
