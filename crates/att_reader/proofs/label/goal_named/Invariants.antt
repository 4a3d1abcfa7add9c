use Rattle.std.proofs.Common.{◌≡◌, map, drop}
use Rattle.asm_core.specs.Reading.Cut.{same_name}
use Rattle.asm_core.specs.Reading.Line.{Defined, goal_in}
use Rattle.att_reader.specs.Text.{defined}
use Rattle.att_reader.proofs.label.goal_named.Given as goal

-- what is left has the goal of the whole
abbrev pub invariant-loop-label : goal.invariant-loop-label
invariant-loop-label l = goal_in (map defined (drop l.label-index l.labels)) (λ (d : Defined). same_name d.0 l.name) ≡ goal_in (map defined l.labels) (λ (d : Defined). same_name d.0 l.name)
