-- What may stand at a level of nesting.
use Rattle.std.proofs.Common.{◌≡◌, ℕ, suc, ◌-◌, ◌<◌, true, false, None, refl, ◌∙◌, ap, arith}
use Rattle.c_types.specs.declared.ctype.CType.{CType}
use Rattle.c_words.specs.File.{File}
use Rattle.c_scopes.specs.Seen.{Declared}
use Rattle.c_reader.specs.declared.grammar.Level.{Level}
use Rattle.c_reader.specs.declared.grammar.Level.TheVariants as levels
use Rattle.c_reader.specs.declared.grammar.Context.{Context}
use Rattle.c_reader.specs.declared.grammar.Shape.{Shape}
use Rattle.c_reader.specs.Grammar.{Inner, too_deep}
use Rattle.c_reader.specs.Expressions.{expression_at, comma_at, assignment_at, conditional_at, cast_at, size_operand_at}
use Rattle.c_reader.specs.Declarators.{type_name_at, declarator_at, parameters_at}
use Rattle.c_reader.specs.Nesting.{inner}

abbrev one_more : File → Declared → ℕ → Inner
one_more f seen depth = record {
  expression = expression_at f seen (inner f seen depth);
  type_name = type_name_at f seen (inner f seen depth);
  declarator = declarator_at f seen (inner f seen depth);
  parameters = parameters_at f seen (inner f seen depth);
  body = true;
}

inner-zero : (f : File) (seen : Declared) → inner f seen 0 ≡ too_deep
unfolding inner
inner-zero f seen = refl

inner-suc : (f : File) (seen : Declared) (d : ℕ) → inner f seen (suc d) ≡ one_more f seen d
unfolding inner
inner-suc f seen d = refl

inner-some : (f : File) (seen : Declared) (d : ℕ) → 0 < d → inner f seen d ≡ one_more f seen (d - 1)
inner-some f seen d lt = let e : d ≡ suc (d - 1) = omega arith in ap (inner f seen) e ∙ inner-suc f seen (d - 1)

-- ---- bodies

pub body-none : (f : File) (seen : Declared) → (inner f seen 0).body ≡ false
body-none f seen = ap (λ (n : Inner). n.body) (inner-zero f seen)

pub body-some : (f : File) (seen : Declared) (d : ℕ) → 0 < d → (inner f seen d).body ≡ true
body-some f seen d lt = ap (λ (n : Inner). n.body) (inner-some f seen d lt)

pub ruleset body_steps = (body-none, body-some)

-- ---- expressions

pub expression-none : (f : File) (seen : Declared) (d : ℕ) (level : Level) (i : ℕ) → d ≡ 0 → (inner f seen d).expression level i ≡ None
expression-none f seen d level i e = rw e (ap (λ (n : Inner). n.expression level i) (inner-zero f seen))

expression-some : (f : File) (seen : Declared) (d : ℕ) (level : Level) (i : ℕ) → 0 < d → (inner f seen d).expression level i ≡ expression_at f seen (inner f seen (d - 1)) level i
expression-some f seen d level i lt = ap (λ (n : Inner). n.expression level i) (inner-some f seen d lt)

pub comma-some : (f : File) (seen : Declared) (d i : ℕ) → 0 < d → (inner f seen d).expression levels.Comma i ≡ comma_at f seen (inner f seen (d - 1)) i
comma-some f seen d i lt = expression-some f seen d levels.Comma i lt

pub assignment-some : (f : File) (seen : Declared) (d i : ℕ) → 0 < d → (inner f seen d).expression levels.Assignment i ≡ assignment_at f seen (inner f seen (d - 1)) i
assignment-some f seen d i lt = expression-some f seen d levels.Assignment i lt

pub conditional-some : (f : File) (seen : Declared) (d i : ℕ) → 0 < d → (inner f seen d).expression levels.Conditional i ≡ conditional_at f seen (inner f seen (d - 1)) i
conditional-some f seen d i lt = expression-some f seen d levels.Conditional i lt

pub cast-some : (f : File) (seen : Declared) (d i : ℕ) → 0 < d → (inner f seen d).expression levels.Cast i ≡ cast_at f seen (inner f seen (d - 1)) i
cast-some f seen d i lt = expression-some f seen d levels.Cast i lt

pub size_operand-some : (f : File) (seen : Declared) (d i : ℕ) → 0 < d → (inner f seen d).expression levels.SizeOperand i ≡ size_operand_at f seen (inner f seen (d - 1)) i
size_operand-some f seen d i lt = expression-some f seen d levels.SizeOperand i lt

pub ruleset expression_steps = (expression-none, comma-some, assignment-some, conditional-some, cast-some, size_operand-some)

-- ---- types

pub type_name-none : (f : File) (seen : Declared) (d i : ℕ) → d ≡ 0 → (inner f seen d).type_name i ≡ None
type_name-none f seen d i e = rw e (ap (λ (n : Inner). n.type_name i) (inner-zero f seen))

pub type_name-some : (f : File) (seen : Declared) (d i : ℕ) → 0 < d → (inner f seen d).type_name i ≡ type_name_at f seen (inner f seen (d - 1)) i
type_name-some f seen d i lt = ap (λ (n : Inner). n.type_name i) (inner-some f seen d lt)

pub ruleset type_name_steps = (type_name-none, type_name-some)

pub declarator-none : (f : File) (seen : Declared) (d : ℕ) (context : Context) (shape : Shape) (base : CType) (i : ℕ) → d ≡ 0 → (inner f seen d).declarator context shape base i ≡ None
declarator-none f seen d context shape base i e = rw e (ap (λ (n : Inner). n.declarator context shape base i) (inner-zero f seen))

pub declarator-some : (f : File) (seen : Declared) (d : ℕ) (context : Context) (shape : Shape) (base : CType) (i : ℕ) → 0 < d
    → (inner f seen d).declarator context shape base i ≡ declarator_at f seen (inner f seen (d - 1)) context shape base i
declarator-some f seen d context shape base i lt = ap (λ (n : Inner). n.declarator context shape base i) (inner-some f seen d lt)

pub ruleset declarator_steps = (declarator-none, declarator-some)

pub parameters-none : (f : File) (seen : Declared) (d : ℕ) (context : Context) (i : ℕ) → d ≡ 0 → (inner f seen d).parameters context i ≡ None
parameters-none f seen d context i e = rw e (ap (λ (n : Inner). n.parameters context i) (inner-zero f seen))

pub parameters-some : (f : File) (seen : Declared) (d : ℕ) (context : Context) (i : ℕ) → 0 < d → (inner f seen d).parameters context i ≡ parameters_at f seen (inner f seen (d - 1)) context i
parameters-some f seen d context i lt = ap (λ (n : Inner). n.parameters context i) (inner-some f seen d lt)

pub ruleset parameters_steps = (parameters-none, parameters-some)
