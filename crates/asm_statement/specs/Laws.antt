-- What is true of the statements of a text, beside how they are read.
use Rattle.std.specs.Prelude.{◌≡◌, ℕ, zero, suc, ◌+◌, ◌<◌, ◌≤◌, ◌⊎◌, Bool, true, false, List, [], ◌∷◌, ◌++◌, map, length, All, Option, Some, None, slice_get}
use Rattle.c_tokens.specs.declared.token.Token.{Token}
use Rattle.c_tokens.specs.Closers.{closer_at}
use Rattle.asm_core.specs.declared.span.Span.{Span}
use Rattle.asm_core.specs.declared.statement.Quoted.{Quoted}
use Rattle.asm_core.specs.declared.statement.Part.{Part}
use Rattle.asm_core.specs.declared.statement.Parts.{Parts}
use Rattle.asm_core.specs.declared.statement.Body.{Body}
use Rattle.asm_core.specs.declared.statement.Statement.{Statement}
use Rattle.asm_statement.specs.declared.class.Class.{Class}
use Rattle.asm_statement.specs.declared.class.Class.TheVariants.{Missing, Keyword, Lead, Extension, Attribute, OpenParen, OpenBracket, OpenBrace, CloseBrace, Semicolon, Colon}
use Rattle.asm_statement.specs.Classes.{is_open_paren}
use Rattle.asm_statement.specs.Source.{class_at, start_at}
use Rattle.asm_statement.specs.Beginnings.{is_head, is_attribute}
use Rattle.asm_statement.specs.Foreign.{begins_digraph}

-- ---- where a statement may begin

-- of the token before that of the index
abbrev pub class_before : List ℕ → List Token → ℕ → Class
class_before text ts zero = Missing
class_before text ts (suc i) = class_at text ts i

-- `;` `{` `}` `:` `else` `do`
abbrev pub leads : Class → Bool
leads Semicolon = true
leads OpenBrace = true
leads CloseBrace = true
leads Colon = true
leads Lead = true
leads _ = false

-- `__extension__` and the words of attributes
abbrev pub is_passed : Class → Bool
is_passed Extension = true
is_passed Attribute = true
is_passed _ = false

-- a bracket, or a parenthesis directly behind an attribute's word, by the class of the token before it and its own
abbrev pub holds_attributes : Class → Class → Bool
holds_attributes before OpenBracket = true
holds_attributes before OpenParen = is_attribute before
holds_attributes before _ = false

abbrev pub is_digraph_at : List ℕ → List Token → ℕ → Bool
is_digraph_at text ts i = elim (slice_get ts i) [ None ↦ false | Some t ↦ begins_digraph text t ]

-- A statement may begin with the token of the index.
pub data MayBegin (text : List ℕ) (ts : List Token) : ℕ → Type 0 where
  at_start : MayBegin text ts 0
  behind_lead : (i : ℕ) → leads (class_at text ts i) ≡ true → MayBegin text ts (i + 1)
  -- the parenthesis that closes that of `if`, `while`, `for` or `switch`
  behind_head : (o c : ℕ) → is_open_paren (class_at text ts o) ≡ true → is_head (class_before text ts o) ≡ true
      → closer_at text ts o ≡ Some c → MayBegin text ts (c + 1)
  -- attributes and `__extension__` that stand where a statement may begin
  behind_word : (i : ℕ) → MayBegin text ts i → is_passed (class_at text ts i) ≡ true → MayBegin text ts (i + 1)
  behind_attributes : (o c : ℕ) → MayBegin text ts o
      → holds_attributes (class_before text ts o) (class_at text ts o) ≡ true
      → closer_at text ts o ≡ Some c → MayBegin text ts (c + 1)
  behind_digraph : (i : ℕ) → is_digraph_at text ts i ≡ true → MayBegin text ts (i + 2)

-- ---- which statements there are

-- some statement begins at the offset
abbrev pub AnyBegins : ℕ → List Statement → Type 0
AnyBegins offset [] = ⊥
AnyBegins offset (s ∷ ss) = (s.span.from ≡ offset) ⊎ AnyBegins offset ss

-- the statement begins with a keyword where one may begin
pub record BeginsWell (text : List ℕ) (ts : List Token) (s : Statement) : Type 0 where
  pub at : ℕ
  pub offset : s.span.from ≡ start_at ts at
  pub keyword : class_at text ts at ≡ Keyword
  pub allowed : MayBegin text ts at

-- A keyword begins one of the statements, or stands where none may begin; and each begins with such a keyword.
pub record AreAll (text : List ℕ) (ts : List Token) (ss : List Statement) : Type 0 where
  pub found : (i : ℕ) → class_at text ts i ≡ Keyword
      → AnyBegins (start_at ts i) ss ⊎ (MayBegin text ts i → ⊥)
  pub only : All (BeginsWell text ts) ss

-- ---- in which order they stand

-- The offsets go strictly upwards, from the one on and before the other.
abbrev pub IsRising : ℕ → List ℕ → ℕ → Type 0
IsRising from [] to = from ≤ to
IsRising from (o ∷ os) to = (from ≤ o) × IsRising (o + 1) os to

-- where the statements begin
abbrev pub offsets_of : List Statement → List ℕ
offsets_of ss = map (λ (s : Statement). s.span.from) ss

-- the later of two statements stands behind the earlier, or inside it
abbrev pub IsApartOrInside : Span → Span → Type 0
IsApartOrInside earlier later = (earlier.to ≤ later.from) ⊎ (later.to ≤ earlier.to)

-- each two of them, in the order in which they begin
abbrev pub AreNested : List Statement → Type 0
AreNested [] = Unit {0}
AreNested (s ∷ ss) = All (λ (later : Statement). IsApartOrInside s.span later.span) ss × AreNested ss

-- The span stands between the two offsets, and in it those of the bytes, upwards.
pub record IsPlaced (from : ℕ) (q : Quoted) (to : ℕ) : Type 0 where
  pub many : length q.at ≡ length q.bytes
  pub behind : from ≤ q.span.from
  pub rising : IsRising q.span.from q.at q.span.to
  pub before : q.span.to ≤ to

abbrev pub IsNamePlaced : ℕ → Option Quoted → ℕ → Type 0
IsNamePlaced from None to = from ≤ to
IsNamePlaced from (Some q) to = IsPlaced from q to

-- name, constraint and expression, in this order
pub record IsPartPlaced (from : ℕ) (p : Part) : Type 0 where
  pub name : IsNamePlaced from p.name p.constraint.span.from
  pub constraint : IsPlaced from p.constraint p.expr.from
  pub expr : p.expr.from < p.expr.to

abbrev pub ArePartsPlaced : ℕ → List Part → ℕ → Type 0
ArePartsPlaced from [] to = from ≤ to
ArePartsPlaced from (p ∷ ps) to = IsPartPlaced from p × ArePartsPlaced p.expr.to ps to

abbrev pub AreClobbersPlaced : ℕ → List Quoted → ℕ → Type 0
AreClobbersPlaced from [] to = from ≤ to
AreClobbersPlaced from (q ∷ qs) to = IsPlaced from q q.span.to × AreClobbersPlaced q.span.to qs to

-- The template, the outputs, the inputs and the clobbers stand in this order and apart between the two offsets, and
-- where the lists end behind them all.
pub record AreApartParts (from : ℕ) (parts : Parts) (to : ℕ) : Type 0 where
  pub template : IsPlaced from parts.template parts.template.span.to
  -- where the operands end
  pub between : ℕ
  pub operands : ArePartsPlaced parts.template.span.to (parts.outputs ++ parts.inputs) between
  pub clobbers : AreClobbersPlaced between parts.clobbers parts.last
  pub last : parts.last < to

abbrev pub IsApart : ℕ → Span → Body → Type 0
IsApart from span (Body.Parts parts) = (from ≤ span.from) × AreApartParts span.from parts span.to
IsApart from span (Body.Outside mark) = Unit {0}

abbrev pub behind_body : ℕ → Span → Body → ℕ
behind_body from span (Body.Parts parts) = span.to
behind_body from span (Body.Outside mark) = from

-- The statements that have parts stand in order and apart between the two offsets, each with its parts inside it.
abbrev pub StandApart : ℕ → List Statement → ℕ → Type 0
StandApart from [] to = from ≤ to
StandApart from (s ∷ ss) to = IsApart from s.span s.body × StandApart (behind_body from s.span s.body) ss to

-- ---- where a statement may be edited

-- the offsets of the bytes of the operands' constraints
abbrev pub constraint_offsets : List Part → List ℕ
constraint_offsets [] = []
constraint_offsets (p ∷ ps) = p.constraint.at ++ constraint_offsets ps

-- these, and where the lists end
abbrev pub body_offsets : Body → List ℕ
body_offsets (Body.Parts parts) = constraint_offsets (parts.outputs ++ parts.inputs) ++ parts.last ∷ []
body_offsets (Body.Outside mark) = []

abbrev pub edit_offsets : List Statement → List ℕ
edit_offsets [] = []
edit_offsets (s ∷ ss) = body_offsets s.body ++ edit_offsets ss
