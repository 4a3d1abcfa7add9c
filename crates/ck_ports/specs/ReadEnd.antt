-- Why a file was not read, where a call of a port ended the reading.
use Rattle.ck_ports.specs.declared.port_end.PortEnd.{PortEnd}
use Rattle.ck_ports.specs.declared.port_end.PortEnd.TheVariants as port
use Rattle.ck_ports.specs.declared.read_end.ReadEnd.{ReadEnd}
use Rattle.ck_ports.specs.declared.read_end.ReadEnd.TheVariants as read

abbrev pub read_end_of : PortEnd → ReadEnd
read_end_of port.Failed = read.Failed
read_end_of port.Memory = read.Memory
