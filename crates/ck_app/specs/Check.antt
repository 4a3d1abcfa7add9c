-- What code takes from the words.
use Rattle.std.specs.Prelude.{map}
use Rattle.std.specs.String.{string_bytes}
use Rattle.ck_app.specs.Words.{Command}
use Rattle.ck_app.specs.declared.words.Check.{Check}

abbrev pub command_in : Check → Command
command_in check = Command.Check check.strict (map string_bytes check.files.now)
