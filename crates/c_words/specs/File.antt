-- A text and its tokens.
use Rattle.std.specs.Prelude.{ℕ, List}
use Rattle.c_tokens.specs.declared.token.Token.{Token}

pub record File : Type 0 where
  pub text : List ℕ
  pub tokens : List Token

abbrev pub file_of : List ℕ → List Token → File
file_of text tokens = record { text = text; tokens = tokens }
