use Rattle.std.proofs.Common.{◌≡◌, ◌≤◌, ◌&&◌, nat_le, map, reverse, take, length}
use Rattle.asm_core.specs.Reading.Line.{Defined, defines_number, goal_in}
use Rattle.att_reader.specs.Text.{defined}
use Rattle.att_reader.proofs.label.goal_back.Given as goal

-- what is left has the goal of the whole
abbrev pub invariant-loop-i : goal.invariant-loop-i
invariant-loop-i l = record {
  within : l.i ≤ length l.labels;
  whole : goal_in (reverse (map defined (take l.i l.labels))) (λ (d : Defined). defines_number l.n d && nat_le d.1 l.inst)
      ≡ goal_in (reverse (map defined l.labels)) (λ (d : Defined). defines_number l.n d && nat_le d.1 l.inst);
}

abbrev pub decreases-loop-i : goal.decreases-loop-i
decreases-loop-i l = l.i
