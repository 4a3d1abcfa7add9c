-- What the expression of an asm operand is (C11 6.5; GCC manual, "Extended Asm").
use Rattle.std.specs.Prelude.{ℕ, Bool, ◌+◌, ◌-◌, ◌==◌, nat_lt, if◌then◌else◌, Option, Some, None, List}
use Rattle.std.specs.List.{prefix_len}
use Rattle.asm_core.specs.declared.span.Span.{Span}
use Rattle.c_tokens.specs.declared.token.Token.{Token}
use Rattle.c_types.specs.Extents.{own_size}
use Rattle.c_words.specs.File.{File}
use Rattle.c_words.specs.Words.{start_at, end_at}
use Rattle.c_scopes.specs.Seen.{Declared}
use Rattle.c_values.specs.Readings.{is_pointer, known, value_size}
use Rattle.c_reader.specs.declared.grammar.Level.TheVariants.{Comma}
use Rattle.c_reader.specs.declared.grammar.Typed.{Typed}
use Rattle.c_reader.specs.Nesting.{inner}
use Rattle.asm_core.specs.declared.operand.Operand.{Operand}

abbrev pub begins_before : ℕ → Token → Bool
begins_before offset t = nat_lt t.span.from offset

-- the index of the first token that doesn't begin before the offset
abbrev pub token_from : List Token → ℕ → ℕ
token_from ts offset = prefix_len (begins_before offset) ts

-- sizes are those at the offset of the expression's first token
unfoldable pub operand_at : Declared → ℕ → Typed → Operand
operand_at seen place x = record {
  own = own_size seen.tags place x.value.ctype;
  value = value_size x.value;
  pointer = is_pointer x.value;
  known = known x.value;
}

-- the expression ends where the span does
abbrev pub ending_at : File → Declared → ℕ → ℕ → Option Typed → Option Operand
ending_at f seen i to None = None
ending_at f seen i to (Some x) = if end_at f (x.end - 1) == to then Some (operand_at seen (start_at f i) x) else None

-- 64 levels of nesting may be read in the operand, which is one itself
abbrev pub operand_from : File → Declared → ℕ → ℕ → Option Operand
operand_from f seen i to = ending_at f seen i to ((inner f seen 65).expression Comma i)

-- The expression whose tokens stand in the span: its sizes, whether it is a pointer, and its number if it is a constant. None where it has no type.
unfoldable pub operand_of : File → Declared → Span → Option Operand
operand_of f seen span = operand_from f seen (token_from f.tokens span.from) span.to
