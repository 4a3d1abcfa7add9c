-- The bytes of string literals and names, each with its offset in the file.
use Rattle.std.specs.Prelude.{ℕ, List, [], ◌∷◌, ◌++◌, ◌-◌, map, slice_range}
use Rattle.c_tokens.specs.declared.token.Token.{Token}
use Rattle.c_literals.specs.declared.raw.Raw.{Raw}
use Rattle.c_literals.specs.Raws.{raws_between, raws_in}
use Rattle.asm_core.specs.declared.span.Span.{Span}
use Rattle.asm_core.specs.declared.statement.Quoted.{Quoted}
use Rattle.asm_statement.specs.Source.{span_of}

-- what stands between the quotes of adjacent literals, one after the other
unfoldable pub raws_of : List ℕ → List Token → List Raw
raws_of text [] = []
raws_of text (t ∷ ts) = raws_in text t ++ raws_of text ts

abbrev pub quoted : List Raw → Span → Quoted
quoted raws span = record { bytes = map (λ (r : Raw). r.byte) raws; at = map (λ (r : Raw). r.at) raws; span = span }

-- Literals whose bytes are taken as they stand: the tokens from the index `first` up to `end`.
abbrev pub quoted_at : List ℕ → List Token → ℕ → ℕ → Quoted
quoted_at text ts first end = quoted (raws_of text (slice_range ts first end)) (span_of ts first (end - 1))

-- a name, with its bytes
abbrev pub name_at : List ℕ → List Token → ℕ → Quoted
name_at text ts i = quoted (raws_between text (span_of ts i i).from (span_of ts i i).to) (span_of ts i i)
