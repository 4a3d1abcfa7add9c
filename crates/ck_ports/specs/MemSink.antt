-- What a sink in memory tells.
use Rattle.std.specs.Prelude.{true}
use Rattle.ck_ports.specs.declared.calls.Calls.{Calls}
use Rattle.ck_ports.specs.declared.mem_sink.MemSink.{MemSink}
use Rattle.ck_ports.specs.Written.{Written}

abbrev pub written_of : MemSink → Written
written_of sink = record { faults = sink.faults; tells = true; bytes = sink.bytes.items }

abbrev pub calls_of : MemSink → Calls
calls_of sink = sink.calls
