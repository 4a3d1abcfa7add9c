-- The bytes that a template's literals stand for (C11 6.4.4.4, 6.4.5; GCC manual, "Extended Asm").
use Rattle.std.specs.Prelude.{ℕ, Bool, true, false, List, [], ◌∷◌, ◌++◌, if◌then◌else◌, Result, Ok, Err}
use Rattle.c_tokens.specs.declared.token.Token.{Token}
use Rattle.c_literals.specs.declared.plain.Plain.TheVariants.{Printable}
use Rattle.c_literals.specs.declared.raw.Raw.{Raw}
use Rattle.c_literals.specs.Raws.{raws_in}
use Rattle.c_literals.specs.Literals.{read_all}
use Rattle.asm_statement.specs.declared.class.Class.{Class}
use Rattle.asm_statement.specs.declared.class.Class.TheVariants.{Prefixed}
use Rattle.asm_statement.specs.Source.{class_of}

abbrev pub is_prefixed : Class → Bool
is_prefixed Prefixed = true
is_prefixed _ = false

abbrev pub joined : Result (List Raw) ℕ → Result (List Raw) ℕ → Result (List Raw) ℕ
joined (Err o) more = Err o
joined (Ok rs) (Err o) = Err o
joined (Ok rs) (Ok more) = Ok (rs ++ more)

-- a literal with a prefix is in no table
abbrev pub literal_of : List ℕ → Token → Result (List Raw) ℕ
literal_of text t = if is_prefixed (class_of text t) then Err t.span.from else read_all Printable (raws_in text t)

-- adjacent literals, one after the other: no escape goes on in the next one (C11 5.1.1.2, phases 5 and 6)
unfoldable pub template_of : List ℕ → List Token → Result (List Raw) ℕ
template_of text [] = Ok []
template_of text (t ∷ ts) = joined (literal_of text t) (template_of text ts)
