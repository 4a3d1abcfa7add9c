-- What a sink of the host tells: the count of faults.
use Rattle.std.specs.Prelude.{ℕ, [], false}
use Rattle.ck_ports.specs.Written.{Written}

abbrev pub host_written : ℕ → Written
host_written faults = record { faults = faults; tells = false; bytes = [] }
