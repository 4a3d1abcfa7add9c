use Rattle.std.proofs.Common.{◌≡◌, drop}
use Rattle.c_decls.specs.Declarations.{parameters_listed}
use Rattle.c_decls.proofs.parameters.declare_listed.Given as goal

-- what is left declares what the whole does
abbrev pub invariant-loop-parameter : goal.invariant-loop-parameter
invariant-loop-parameter l = parameters_listed l.source l.brace (drop l.parameter-index l.parameters) l.scopes ≡ parameters_listed l.source l.brace l.parameters l.fn.scopes
