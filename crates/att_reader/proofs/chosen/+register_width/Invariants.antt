use Rattle.std.proofs.Common.{length}
use Rattle.att_reader.proofs.chosen.+register_width.Given as goal

-- proposed from what the function passes where it calls itself
abbrev pub decreases-register_width : goal.decreases-register_width
decreases-register_width l = length l.slots.now
