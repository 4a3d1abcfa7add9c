-- A count of faults in memory, which names the place of its last rise by the open name where that is the one.
use Rattle.std.specs.Prelude.{ℕ, List, string_bytes}
use Rattle.std.specs.Option.{option_map_or}
use Rattle.ck_ports.specs.Faults.{Faults}
use Rattle.ck_ports.specs.Saturating.{one_more}
use Rattle.ck_ports.specs.declared.fault_count.FaultCount.{FaultCount}

-- the count, with this name open
abbrev pub faults_with : FaultCount → List ℕ → Faults
faults_with faults open_name = record { count = faults.count; name = option_map_or string_bytes faults.name open_name }

-- the count after one more fault, at this name
abbrev pub raised : Faults → List ℕ → Faults
raised faults name = record { count = one_more faults.count; name = name }
