-- The values and facts of a row, one micro-operation further.
use Rattle.std.proofs.Common.{◌≡◌, ℕ, ◌+◌, ◌<◌, List, [], ◌∷◌, ◌++◌, length, drop, get_or, Option, ap}
use Rattle.std.proofs.lemmas.List.{drop_more}
use Rattle.asm_core.specs.MicroOps.{op_value, values_from}
use Rattle.asm_core.specs.Entries.{op_fact, facts_from}
use Rattle.asm_core.specs.declared.micro_op.Fact.{Fact}
use Rattle.asm_core.specs.declared.inst.Width.{Width}
use Rattle.asm_core.specs.declared.micro_op.Bytes.{Bytes}
use Rattle.asm_core.specs.declared.micro_op.Site.{Site}
use Rattle.asm_core.specs.declared.micro_op.Input.{Input}
use Rattle.asm_core.specs.declared.micro_op.Target.{Target}
use Rattle.asm_core.specs.declared.micro_op.Function.{Function}
use Rattle.asm_core.specs.declared.micro_op.MicroOp.{MicroOp}

-- what code reads past a row's end
abbrev blank_input : Input
blank_input = Input.Read (Site.Argument 0 Bytes.Whole)

abbrev pub blank : MicroOp
blank = record { target = Target.Temporary; function = Function.Copy; x = blank_input; y = blank_input; z = blank_input }

pub values-more : (w : Width) (env : Input → ℕ) (row : List MicroOp) (i : ℕ) (vs : List ℕ) (d : MicroOp) → i < length row
    → values_from w env (drop i row) vs ≡ values_from w env (drop (i + 1) row) (vs ++ op_value w env vs (get_or row i d) ∷ [])
values-more w env row i vs d within = ap (λ ops. values_from w env ops vs) (drop_more row i d within)

pub facts-more : (w : Width) (known : Input → Option ℕ) (row : List MicroOp) (i : ℕ) (fs : List Fact) (d : MicroOp) → i < length row
    → facts_from w known (drop i row) fs ≡ facts_from w known (drop (i + 1) row) (fs ++ op_fact w known fs (get_or row i d) ∷ [])
facts-more w known row i fs d within = ap (λ ops. facts_from w known ops fs) (drop_more row i d within)
