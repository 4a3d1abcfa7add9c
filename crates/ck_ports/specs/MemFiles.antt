-- What the files in memory tell.
use Rattle.std.specs.Prelude.{true, string_bytes}
use Rattle.ck_ports.specs.declared.calls.Calls.{Calls}
use Rattle.ck_ports.specs.declared.mem_files.MemFiles.{MemFiles}
use Rattle.ck_ports.specs.FaultCount.{faults_with}
use Rattle.ck_ports.specs.FileMap.{bytes_in}
use Rattle.ck_ports.specs.Outside.{Outside}

abbrev pub outside_of : MemFiles → Outside
outside_of files = record {
  mode = files.mode;
  reading = faults_with files.reading (string_bytes files.open_name);
  writing = faults_with files.writing (string_bytes files.open_name);
  tells = true;
  file = bytes_in files.files;
  open_name = string_bytes files.open_name;
  place = files.place;
}

abbrev pub calls_of : MemFiles → Calls
calls_of files = files.calls
