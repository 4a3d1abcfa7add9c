use Rattle.std.proofs.Common.{◌≡◌, ◌≤◌, ◌++◌, ◌-◌, drop, length}
use Rattle.asm_core.specs.TemplateForms.{forms_from, forms_of}
use Rattle.asm_template.proofs.cut.forms.Given as goal

-- what was read, and what is left, are what the whole gives
abbrev pub invariant-loop-i : goal.invariant-loop-i
invariant-loop-i l = record {
  within : l.i ≤ length l.template.bytes;
  same : l.forms.items ++ forms_from l.template l.names l.i l.braced l.i (drop l.i l.template.bytes) ≡ forms_of l.template l.names;
}

abbrev pub decreases-loop-i : goal.decreases-loop-i
decreases-loop-i l = length l.template.bytes - l.i
