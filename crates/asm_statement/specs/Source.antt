-- Tokens by their index. Past the last there is none.
use Rattle.std.specs.Prelude.{ℕ, List, Some, None, slice_get, slice_index, slice_range}
use Rattle.c_tokens.specs.declared.token.Token.{Token}
use Rattle.c_tokens.specs.declared.token.TokenKind.TheVariants as kinds
use Rattle.asm_core.specs.declared.span.Span.{Span}
use Rattle.asm_statement.specs.declared.class.Class.{Class}
use Rattle.asm_statement.specs.declared.class.Class.TheVariants.{Missing, Other}
use Rattle.asm_statement.specs.Classes.{name_class, mark_class, literal_class}

abbrev pub class_of : List ℕ → Token → Class
class_of text t = elim t.kind [
  | kinds.Name ↦ name_class (slice_range text t.span.from t.span.to)
  | kinds.Text ↦ literal_class (slice_index text t.span.from)
  | kinds.Punct ↦ mark_class (slice_index text t.span.from)
  | kinds.Number ↦ Other
  | kinds.Char ↦ Other
]

abbrev pub class_at : List ℕ → List Token → ℕ → Class
class_at text ts i = elim (slice_get ts i) [ None ↦ Missing | Some t ↦ class_of text t ]

-- where the token begins and ends
abbrev pub start_at : List Token → ℕ → ℕ
start_at ts i = elim (slice_get ts i) [ None ↦ 0 | Some t ↦ t.span.from ]

abbrev pub end_at : List Token → ℕ → ℕ
end_at ts i = elim (slice_get ts i) [ None ↦ 0 | Some t ↦ t.span.to ]

-- from the first token's first byte to past the last token
abbrev pub span_of : List Token → ℕ → ℕ → Span
span_of ts first last = record { from = start_at ts first; to = end_at ts last }
