-- A token's class tells whether it is a bracket.
use Rattle.std.proofs.Common.{◌≡◌, ℕ, Bool, true, false, List, refl, sym, subst, ◌==◌, if◌then◌else◌, slice_range, slice_index, inl, inr}
use Rattle.std.proofs.lemmas.Bool.{cases_eq, ne_eqb}
use Rattle.c_tokens.specs.declared.token.Token.{Token}
use Rattle.c_tokens.specs.declared.token.TokenKind.TheVariants as kinds
use Rattle.c_tokens.specs.Brackets.{mark_of, opens, closes}
use Rattle.asm_statement.specs.declared.class.Class.{Class}
use Rattle.asm_statement.specs.declared.class.Class.TheVariants.{Keyword, Qualifier, Goto, Lead, Head, Extension, Attribute, Name, Literal, Prefixed, OpenParen, CloseParen, OpenBracket, CloseBracket, OpenBrace, CloseBrace, Other}
use Rattle.asm_statement.specs.Classes.{is_keyword, is_qualifier, is_goto, is_lead, is_head, is_extension, is_attribute, name_class, mark_class, literal_class}
use Rattle.asm_statement.specs.Source.{class_of}

abbrev pub opens_class : Class → Bool
opens_class OpenParen = true
opens_class OpenBracket = true
opens_class OpenBrace = true
opens_class _ = false

abbrev pub closes_class : Class → Bool
closes_class CloseParen = true
closes_class CloseBracket = true
closes_class CloseBrace = true
closes_class _ = false

either : (P : Class → Type 0) (b : Bool) (x y : Class) → P x → P y → P (if b then x else y)
either P true x y here there = here
either P false x y here there = there

-- what is true of the class of each name
name_any : (P : Class → Type 0) (name : List ℕ) → P Keyword → P Qualifier → P Goto → P Lead → P Head → P Extension
    → P Attribute → P Name → P (name_class name)
unfolding name_class
name_any P name k q g l h e a n =
    either P (is_keyword name) Keyword _ k
    (either P (is_qualifier name) Qualifier _ q
    (either P (is_goto name) Goto _ g
    (either P (is_lead name) Lead _ l
    (either P (is_head name) Head _ h
    (either P (is_extension name) Extension _ e
    (either P (is_attribute name) Attribute Name a n))))))

-- what is true of each byte, if it is of those that `mark_class` names, and of others
marks : (P : ℕ → Type 0) (b : ℕ) → P 40 → P 41 → P 91 → P 93 → P 123 → P 125 → P 59 → P 58 → P 44
    → ((b == 40) ≡ false → (b == 41) ≡ false → (b == 91) ≡ false → (b == 93) ≡ false → (b == 123) ≡ false →
    (b == 125) ≡ false
    → (b == 59) ≡ false → (b == 58) ≡ false → (b == 44) ≡ false → P b) → P b
marks P b p1 p2 p3 p4 p5 p6 p7 p8 p9 other =
    at 40 p1 (λ e1. at 41 p2 (λ e2. at 91 p3 (λ e3. at 93 p4 (λ e4. at 123 p5 (λ e5. at 125 p6 (λ e6. at 59 p7
    (λ e7. at 58 p8 (λ e8. at 44 p9 (λ e9. other e1 e2 e3 e4 e5 e6 e7 e8 e9)))))))))
  where
    at : (c : ℕ) → P c → ((b == c) ≡ false → P b) → P b
    at c there further = elim (cases_eq b c) [
      | inl same ↦ subst P (sym same) there
      | inr not_same ↦ further
          (ne_eqb b c not_same)
    ]

mark_opens : (b : ℕ) → opens b ≡ opens_class (mark_class b)
unfolding mark_class
mark_opens b = marks (λ b. opens b ≡ opens_class (mark_class b)) b refl refl refl refl refl refl refl refl refl
    (λ e1 e2 e3 e4 e5 e6 e7 e8 e9. rw (e1, e2, e3, e4, e5, e6, e7, e8, e9) refl)

mark_closes : (b : ℕ) → closes b ≡ closes_class (mark_class b)
unfolding mark_class
mark_closes b = marks (λ b. closes b ≡ closes_class (mark_class b)) b refl refl refl refl refl refl refl refl refl
    (λ e1 e2 e3 e4 e5 e6 e7 e8 e9. rw (e1, e2, e3, e4, e5, e6, e7, e8, e9) refl)

pub opens_same : (text : List ℕ) (t : Token) → opens (mark_of text t) ≡ opens_class (class_of text t)
opens_same text t = elim t.kind as (λ k. opens
    (elim k [
      | kinds.Punct ↦ slice_index text t.span.from
      | kinds.Name ↦ 0
      | kinds.Number ↦ 0
      | kinds.Char ↦ 0
      | kinds.Text ↦ 0
    ])
    ≡ opens_class (elim k [
      | kinds.Name ↦ name_class (slice_range text t.span.from t.span.to)
      | kinds.Text ↦ literal_class (slice_index text t.span.from)
      | kinds.Punct ↦ mark_class (slice_index text t.span.from)
      | kinds.Number ↦ Other
      | kinds.Char ↦ Other
    ])) [
      | kinds.Punct ↦ mark_opens (slice_index text t.span.from)
      | kinds.Name ↦ name_any (λ c. false ≡ opens_class c)
          (slice_range text t.span.from t.span.to) refl refl refl refl refl refl refl refl
      | kinds.Number ↦ refl
      | kinds.Char ↦ refl
      | kinds.Text ↦ either (λ c. false ≡ opens_class c)
          (slice_index text t.span.from == 34) Literal Prefixed refl refl
    ]

pub closes_same : (text : List ℕ) (t : Token) → closes (mark_of text t) ≡ closes_class (class_of text t)
closes_same text t = elim t.kind as (λ k. closes
    (elim k [
      | kinds.Punct ↦ slice_index text t.span.from
      | kinds.Name ↦ 0
      | kinds.Number ↦ 0
      | kinds.Char ↦ 0
      | kinds.Text ↦ 0
    ])
    ≡ closes_class (elim k [
      | kinds.Name ↦ name_class (slice_range text t.span.from t.span.to)
      | kinds.Text ↦ literal_class (slice_index text t.span.from)
      | kinds.Punct ↦ mark_class (slice_index text t.span.from)
      | kinds.Number ↦ Other
      | kinds.Char ↦ Other
    ])) [
      | kinds.Punct ↦ mark_closes (slice_index text t.span.from)
      | kinds.Name ↦ name_any (λ c. false ≡ closes_class c)
          (slice_range text t.span.from t.span.to) refl refl refl refl refl refl refl refl
      | kinds.Number ↦ refl
      | kinds.Char ↦ refl
      | kinds.Text ↦ either (λ c. false ≡ closes_class c)
          (slice_index text t.span.from == 34) Literal Prefixed refl refl
    ]
