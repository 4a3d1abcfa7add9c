-- The table of names as code keeps it.
use Rattle.std.specs.Prelude.{ℕ, List, [], ◌∷◌, map, Option}
use Rattle.asm_core.specs.Reading.Line.{line_of}
use Rattle.asm_core.specs.declared.names.NameRow.{NameRow}
use Rattle.asm_core.specs.declared.names.Prefix.{Prefix}
use Rattle.asm_core.specs.declared.reading.Atom.{Atom}
use Rattle.asm_core.specs.declared.reading.Reading.{Reading}
use Rattle.att_reader.specs.declared.table.NameEntry.{NameEntry}

-- the row of the definitions
abbrev pub row_of : NameEntry → NameRow
row_of e = record {
  name = e.name;
  operation = e.operation;
  suffixes = e.suffixes;
  width = e.width;
  slots = e.slots.0 ∷ e.slots.1 ∷ e.slots.2 ∷ [];
  lock = e.lock;
  rep = e.rep;
  compares = e.compares;
  left_out = e.left_out;
}

-- an instruction's reading by those rows
abbrev pub line_by : List NameEntry → (List ℕ → Option (Option ℕ)) → List Prefix → ℕ → List Atom → Reading
line_by es goal before place xs = line_of (map row_of es) goal before place xs
