-- Which values of a row are looked at.
use Rattle.std.specs.Prelude.{Bool}
use Rattle.asm_core.specs.Entries.{is_control, is_of_use}
use Rattle.asm_core.specs.declared.micro_op.Target.{Target}
use Rattle.x86_rows.specs.declared.entries.Purpose.{Purpose}

abbrev pub targets_of : Purpose → Target → Bool
targets_of Purpose.Control = is_control
targets_of Purpose.Use = is_of_use
