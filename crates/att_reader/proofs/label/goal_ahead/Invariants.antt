use Rattle.std.proofs.Common.{◌≡◌, ◌&&◌, nat_lt, map, drop}
use Rattle.asm_core.specs.Reading.Line.{Defined, defines_number, goal_in}
use Rattle.att_reader.specs.Text.{defined}
use Rattle.att_reader.proofs.label.goal_ahead.Given as goal

-- what is left has the goal of the whole
abbrev pub invariant-loop-label : goal.invariant-loop-label
invariant-loop-label l = goal_in (map defined (drop l.label-index l.labels)) (λ (d : Defined). defines_number l.n d && nat_lt l.inst d.1)
    ≡ goal_in (map defined l.labels) (λ (d : Defined). defines_number l.n d && nat_lt l.inst d.1)
