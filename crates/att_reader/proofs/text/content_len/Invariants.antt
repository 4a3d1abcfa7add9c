use Rattle.std.proofs.Common.{◌≡◌, ◌≤◌, length, take}
use Rattle.asm_core.specs.Reading.Operands.{content_len}
use Rattle.att_reader.proofs.text.content_len.Given as goal

-- what stands behind is blank
abbrev pub invariant-loop-end : goal.invariant-loop-end
invariant-loop-end l = (l.end ≤ length l.codes) × (content_len (take l.end l.codes) ≡ content_len l.codes)

abbrev pub decreases-loop-end : goal.decreases-loop-end
decreases-loop-end l = l.end
