-- Brackets among the tokens.
use Rattle.std.specs.Prelude.{ℕ, Bool, List, [], ◌∷◌, ◌++◌, ◌-◌, ◌==◌, ◌||◌, ◌&&◌, if◌then◌else◌, nat_lt, Option, Some, None, length, take, slice_index}
use Rattle.c_tokens.specs.declared.token.Token.{Token}
use Rattle.c_tokens.specs.declared.token.TokenKind.TheVariants.{Name, Number, Char, Text, Punct}

-- the byte of a punctuator where it begins, and 0 for another token
abbrev pub mark_of : List ℕ → Token → ℕ
mark_of text t = elim t.kind [ Punct ↦ slice_index text t.span.from | Name ↦ 0 | Number ↦ 0 | Char ↦ 0 | Text ↦ 0 ]

-- `( [ {`
abbrev pub opens : ℕ → Bool
opens b = (b == 40) || (b == 91) || (b == 123)

-- `) ] }`
abbrev pub closes : ℕ → Bool
closes b = (b == 41) || (b == 93) || (b == 125)

-- the bracket that opens what this one closes
abbrev pub partner_of : ℕ → ℕ
partner_of b = if b == 41 then 40 else if b == 93 then 91 else if b == 125 then 123 else 0

-- the bracket closes the innermost one that is open
abbrev pub closes_last : List ℕ → List ℕ → ℕ → Bool
closes_last text opened b = nat_lt 0 (length opened) && (slice_index text (slice_index opened (length opened - 1)) == partner_of b)

abbrev pub first_of : List ℕ → Option ℕ
first_of [] = None
first_of (o ∷ os) = Some o

-- The offset of the first closing bracket that doesn't match the innermost open one, else of the first that stays open.
-- `opened` are the offsets of the brackets that are open, the innermost last.
unfoldable pub unbalanced_at : List ℕ → List ℕ → List Token → Option ℕ
unbalanced_at text opened [] = first_of opened
unbalanced_at text opened (t ∷ ts) =
    if opens (mark_of text t) then unbalanced_at text (opened ++ t.span.from ∷ []) ts
    else if closes (mark_of text t) then
    (if closes_last text opened (mark_of text t)
    then unbalanced_at text (take (length opened - 1) opened) ts
    else Some t.span.from)
    else unbalanced_at text opened ts
