-- What an answer says of the definition's value, memory aside.
use Rattle.std.specs.Prelude.{◌≡◌, Option, Some, None, Result, Ok, Err}
use Rattle.c_values.specs.declared.type_end.TypeEnd.{TypeEnd}
use Rattle.c_values.specs.declared.type_end.TypeEnd.TheVariants.{NoType, Memory}

abbrev pub Gives : {X : Type 0} → Result X TypeEnd → Option X → Type 0
Gives (Ok x) wanted = wanted ≡ Some x
Gives (Err NoType) wanted = wanted ≡ None
Gives (Err Memory) wanted = Unit {0}
