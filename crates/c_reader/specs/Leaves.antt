-- Names, constants and string literals in an expression (C11 6.5.1).
use Rattle.std.specs.Prelude.{ℕ, Bool, true, false, ◌+◌, ◌==◌, ◌&&◌, if◌then◌else◌, List, length, Option, Some, None, slice_get, slice_range, ℤ}
use Rattle.std.specs.Option.{option_and_then, option_map}
use Rattle.c_types.specs.declared.ctype.CType.{CType, Int}
use Rattle.c_tokens.specs.declared.token.Token.{Token}
use Rattle.c_words.specs.File.{File}
use Rattle.c_words.specs.Words.{word_at, bytes_at, start_at}
use Rattle.c_words.specs.declared.word.Word.{Word}
use Rattle.c_words.specs.declared.word.Word.TheVariants as words
use Rattle.c_scopes.specs.Seen.{Declared, declaration_of}
use Rattle.c_scopes.specs.declared.declaration.Declaration.{Declaration}
use Rattle.c_scopes.specs.declared.declaration.Entity.{Entity}
use Rattle.c_scopes.specs.declared.declaration.Entity.TheVariants as entities
use Rattle.c_scopes.specs.declared.declaration.NameKind.TheVariants as kinds
use Rattle.c_scopes.specs.declared.declaration.NameSpace.TheVariants.{Ordinary}
use Rattle.c_values.specs.declared.value.Value.{Value}
use Rattle.c_values.specs.declared.value.Constant.TheVariants.{Known}
use Rattle.c_values.specs.Operands.{varying}
use Rattle.c_values.specs.Literals.{integer_constant, character_constant, string_literal}
use Rattle.c_literals.specs.declared.integer.IntegerConstant.{IntegerConstant}
use Rattle.c_literals.specs.Integers.{integer_constant as integer_of}
use Rattle.c_literals.specs.Literals.{character_constant as character_of, total_length, capped_length}
use Rattle.c_reader.specs.declared.next.Next.{Next}
use Rattle.c_reader.specs.declared.next.Next.TheVariants.{Done, More}
use Rattle.c_reader.specs.Repeat.{repeated}

-- ---- names

abbrev pub enumerator : Option ℤ → Option Value
enumerator None = None
enumerator (Some n) = Some (record { ctype = Int 4 true; constant = Known n })

-- a variable or function has its type; an enumeration constant is an int; a typedef name is no expression
abbrev pub valued : Entity → Option CType → Option Value
valued (entities.Name kinds.Other) t = option_and_then varying t
valued (entities.Name (kinds.Constant n)) t = enumerator n
valued (entities.Name kinds.Typedef) t = None
valued entities.Tag t = None

abbrev pub named_value : File → Declared → ℕ → Option Value
named_value f seen i = option_and_then (λ (d : Declaration). valued d.entity d.ctype) (declaration_of seen Ordinary (bytes_at f i) (start_at f i))

-- ---- constants

abbrev pub number_value : List ℕ → Option Value
number_value bytes = option_map (λ (n : IntegerConstant). integer_constant n.size n.signed n.value) (integer_of bytes)

-- an integer constant 0
abbrev pub is_zero : List ℕ → Bool
is_zero bytes = elim (integer_of bytes) [ None ↦ false | Some n ↦ n.value == 0 ]

abbrev is_number : Word → Bool
is_number words.Number = true
is_number _ = false

abbrev pub is_zero_at : File → ℕ → Bool
is_zero_at f i = is_number (word_at f i) && is_zero (bytes_at f i)

abbrev pub character_value : File → ℕ → Option Value
character_value f i = option_and_then (λ (t : Token). option_map character_constant (character_of f.text t)) (slice_get f.tokens i)

-- ---- string literals, adjacent ones as one (6.4.5)

abbrev pub is_text : Word → Bool
is_text words.Text = true
is_text _ = false

abbrev pub text_step : File → ℕ → Unit {0} → Next (Unit {0}) ℕ
text_step f i u = if is_text (word_at f i) then More tt (i + 1) else Done i

abbrev pub text_stop : ℕ → Unit {0} → ℕ
text_stop i u = i

-- the index behind the adjacent literals
abbrev pub texts_end : File → ℕ → ℕ
texts_end f i = repeated (text_step f) text_stop (length f.tokens) i tt

-- with a 0 behind the last byte
abbrev pub text_value : File → ℕ → Option Value
text_value f i =
    option_and_then (λ n. string_literal (n + 1)) (capped_length (total_length f.text (slice_range f.tokens i (texts_end f i))))
