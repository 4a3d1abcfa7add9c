use Rattle.std.proofs.Common.{◌≡◌, drop}
use Rattle.c_decls.specs.Declarations.{parameters_hidden}
use Rattle.c_decls.proofs.parameters.hide_listed.Given as goal

-- what is left hides what the whole does
abbrev pub invariant-loop-parameter : goal.invariant-loop-parameter
invariant-loop-parameter l = parameters_hidden l.source l.paren (drop l.parameter-index l.parameters) l.scopes ≡ parameters_hidden l.source l.paren l.parameters l.fn.scopes
