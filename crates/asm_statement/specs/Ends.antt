-- What an answer says of the definition's value, memory aside.
use Rattle.std.specs.Prelude.{◌≡◌, Option, Some, None, Result, Ok, Err}
use Rattle.asm_statement.specs.declared.form_end.FormEnd.{FormEnd}
use Rattle.asm_statement.specs.declared.form_end.FormEnd.TheVariants as forms

abbrev pub GivesForm : {X : Type 0} → Result X FormEnd → Option X → Type 0
GivesForm (Ok x) form = form ≡ Some x
GivesForm (Err forms.OtherForm) form = form ≡ None
GivesForm (Err forms.Memory) form = Unit {0}
