-- The table that code reads is the definition's.
use Rattle.std.proofs.Common.{◌≡◌, map, refl}
use Rattle.asm_core.specs.Reading.Names.{names}
use Rattle.att_reader.specs.Table.{row_of}
use Rattle.att_reader.specs.declared.table.TheConstants.{NAMES}

pub names-same : map row_of NAMES ≡ names
names-same = refl
