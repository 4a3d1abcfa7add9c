-- What is read of expressions, type names and declarators, and what stands one level of nesting deeper.
use Rattle.std.specs.Prelude.{ℕ, Bool, false, Option, None}
use Rattle.c_types.specs.declared.ctype.CType.{CType}
use Rattle.c_reader.specs.declared.grammar.Level.{Level}
use Rattle.c_reader.specs.declared.grammar.Context.{Context}
use Rattle.c_reader.specs.declared.grammar.Shape.{Shape}
use Rattle.c_reader.specs.declared.grammar.Typed.{Typed}
use Rattle.c_reader.specs.declared.grammar.TypeName.{TypeName}
use Rattle.c_reader.specs.declared.grammar.Declarator.{Declarator}
use Rattle.c_reader.specs.declared.grammar.Parameters.{Parameters}

-- What is read inside a bracket or behind a prefix operator, by the index at which it begins. Where the nesting is too deep nothing is.
pub record Inner : Type 0 where
  pub expression : Level → ℕ → Option Typed
  pub type_name : ℕ → Option TypeName
  pub declarator : Context → Shape → CType → ℕ → Option Declarator
  pub parameters : Context → ℕ → Option Parameters
  -- whether a body may stand there
  pub body : Bool

abbrev pub too_deep : Inner
too_deep = record {
  expression = λ level i. None;
  type_name = λ i. None;
  declarator = λ context shape base i. None;
  parameters = λ context i. None;
  body = false;
}
