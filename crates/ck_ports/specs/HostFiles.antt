-- What the files of the host tell: the mode and the counts.
use Rattle.std.specs.Prelude.{ℕ, None, [], false}
use Rattle.ck_ports.specs.declared.files.Mode.{Mode}
use Rattle.ck_ports.specs.declared.files.Mode.TheVariants as mode
use Rattle.ck_ports.specs.declared.host_files.OpenFile.{OpenFile}
use Rattle.ck_ports.specs.declared.host_files.OpenFile.TheVariants as open_file
use Rattle.ck_ports.specs.Outside.{Outside}

abbrev pub mode_of : {T : Type 0} → OpenFile T → Mode
mode_of open_file.Closed = mode.Closed
mode_of (open_file.Reading file) = mode.Reading
mode_of (open_file.Writing file) = mode.Writing

-- in this mode, with so many faults of reading and of writing calls
abbrev pub host_outside : Mode → ℕ → ℕ → Outside
host_outside mode reading writing = record {
  mode = mode;
  reading = record { count = reading; name = [] };
  writing = record { count = writing; name = [] };
  tells = false;
  file = λ name. None;
  open_name = [];
  place = 0;
}
