-- A text after edits.
use Rattle.std.specs.Prelude.{ℕ, List, [], ◌∷◌, ◌++◌, ◌≤◌, drop, slice_range}
use Rattle.asm_core.specs.declared.edit.Edit.{Edit}

-- The spans are in order, apart, and stand between the two offsets.
abbrev pub AreApart : ℕ → List Edit → ℕ → Type 0
AreApart from [] end = from ≤ end
AreApart from (e ∷ es) end = (from ≤ e.span.from) × (e.span.from ≤ e.span.to) × AreApart e.span.to es end

-- The text from the offset on, where the bytes of each span have given way to its text, and all others stay.
unfoldable pub spliced_from : List ℕ → ℕ → List Edit → List ℕ
spliced_from text from [] = drop from text
spliced_from text from (e ∷ es) = slice_range text from e.span.from ++ e.text ++ spliced_from text e.span.to es
