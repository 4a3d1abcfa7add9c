-- Nesting: brackets, prefix operators, casts, `sizeof`, the parts of `?:` behind its condition and the right side of an assignment
-- stand one level deeper each; chains of operators, postfixes and commas don't (this project's own).
use Rattle.std.specs.Prelude.{ℕ, zero, suc, true}
use Rattle.c_words.specs.File.{File}
use Rattle.c_scopes.specs.Seen.{Declared}
use Rattle.c_reader.specs.Grammar.{Inner, too_deep}
use Rattle.c_reader.specs.Declarators.{type_name_at, declarator_at, parameters_at}
use Rattle.c_reader.specs.Expressions.{expression_at}

-- what is read where so many levels of nesting may still come
unfoldable pub inner : File → Declared → ℕ → Inner
inner f seen zero = too_deep
inner f seen (suc depth) = record {
  expression = expression_at f seen (inner f seen depth);
  type_name = type_name_at f seen (inner f seen depth);
  declarator = declarator_at f seen (inner f seen depth);
  parameters = parameters_at f seen (inner f seen depth);
  body = true;
}
