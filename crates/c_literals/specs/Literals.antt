-- What literals stand for (C11 6.4.4.4, 6.4.5).
use Rattle.std.specs.Prelude.{◌≡◌, ℕ, List, [], ◌∷◌, ◌+◌, ◌==◌, nat_lt, if◌then◌else◌, Option, Some, None, Result, Ok, Err, length, slice_index}
use Rattle.c_tokens.specs.declared.token.Token.{Token}
use Rattle.c_literals.specs.declared.literal_end.LiteralEnd.{LiteralEnd}
use Rattle.c_literals.specs.declared.literal_end.LiteralEnd.TheVariants as ends
use Rattle.c_literals.specs.declared.plain.Plain.{Plain}
use Rattle.c_literals.specs.declared.plain.Plain.TheVariants.{Every}
use Rattle.c_literals.specs.declared.raw.Raw.{Raw}
use Rattle.c_literals.specs.Digits.{fitting}
use Rattle.c_literals.specs.Raws.{bytes_of, raws_in}
use Rattle.c_literals.specs.Escapes.{read_at}

abbrev pub with_raw : Raw → Result (List Raw) ℕ → Result (List Raw) ℕ
with_raw r (Ok rs) = Ok (r ∷ rs)
with_raw r (Err o) = Err o

-- What a literal of these bytes stands for, or the offset of the first form that is in no table; those before the index
-- `until` are read.
unfoldable pub read_from : Plain → List ℕ → ℕ → ℕ → List Raw → Result (List Raw) ℕ
read_from plain bs until i [] = Ok []
read_from plain bs until i (r ∷ rs) =
    if nat_lt i until then read_from plain bs until (i + 1) rs
    else elim (read_at plain bs i) [
      | None ↦ Err r.at
      | Some x ↦ with_raw (record { byte = x.byte; at = r.at }) (read_from plain bs x.end (i + 1) rs)
    ]

abbrev pub read_all : Plain → List Raw → Result (List Raw) ℕ
read_all plain raws = read_from plain (bytes_of raws) 0 0 raws

-- a literal that begins with the quote, and not with a prefix, by its token in the text
abbrev pub unprefixed : ℕ → List ℕ → Token → Result (List Raw) ℕ
unprefixed quote text t = if slice_index text t.span.from == quote then read_all Every (raws_in text t) else Err t.span.from

-- the byte, if there is exactly one
abbrev pub only_byte : List Raw → Option ℕ
only_byte [] = None
only_byte (r ∷ []) = Some r.byte
only_byte (r ∷ s ∷ rs) = None

abbrev pub character_read : Result (List Raw) ℕ → Option ℕ
character_read (Ok rs) = only_byte rs
character_read (Err o) = None

-- what a character constant stands for
abbrev pub character_constant : List ℕ → Token → Option ℕ
character_constant text t = character_read (unprefixed 39 text t)

abbrev pub length_read : Result (List Raw) ℕ → Option ℕ
length_read (Ok rs) = Some (length rs)
length_read (Err o) = None

-- how many bytes a string literal stands for, the final 0 left out
abbrev pub string_length : List ℕ → Token → Option ℕ
string_length text t = length_read (unprefixed 34 text t)

-- the sum, if both are there
abbrev pub added : Option ℕ → Option ℕ → Option ℕ
added None n = None
added (Some m) None = None
added (Some m) (Some n) = Some (m + n)

-- how many bytes adjacent string literals stand for together (C11 5.1.1.2, phase 6)
unfoldable pub total_length : List ℕ → List Token → Option ℕ
total_length text [] = Some 0
total_length text (t ∷ ts) = added (string_length text t) (total_length text ts)

-- the length, if it has no more than 32 bits
abbrev pub capped_length : Option ℕ → Option ℕ
capped_length None = None
capped_length (Some n) = fitting 32 n

-- What an answer says of the definition's value, memory aside.
abbrev pub GivesBytes : {X : Type 0} → (X → List Raw) → Result X LiteralEnd → Result (List Raw) ℕ → Type 0
GivesBytes view (Ok x) read = read ≡ Ok (view x)
GivesBytes view (Err (ends.Bad o)) read = read ≡ Err o
GivesBytes view (Err ends.Memory) read = Unit {0}
