-- The row of a line, one of the table or one made for it.
use Rattle.std.specs.Prelude.{List}
use Rattle.asm_core.specs.declared.micro_op.MicroOp.{MicroOp}
use Rattle.x86_rows.specs.declared.line_row.LineRow.{LineRow}

abbrev pub ops_of : LineRow → List MicroOp
ops_of (LineRow.Table row) = row.now
ops_of (LineRow.Made row) = row.items
