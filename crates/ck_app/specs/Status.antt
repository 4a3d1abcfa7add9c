-- How a run ends, and the exit status of the process.
use Rattle.std.specs.Prelude.{ℕ}
use Rattle.ck_app.specs.declared.status.Status.{Status}
use Rattle.ck_app.specs.declared.status.Status.TheVariants.{Done, Rejected, Usage, Undecided, ReadFault, WriteFault, BadText, TooLarge, Memory}

abbrev pub code_of : Status → ℕ
code_of Done = 0
code_of Rejected = 1
code_of Usage = 2
code_of Undecided = 3
code_of ReadFault = 4
code_of WriteFault = 5
code_of BadText = 6
code_of TooLarge = 7
code_of Memory = 8
