use Rattle.std.proofs.Common.{◌≡◌, drop}
use Rattle.asm_core.specs.MicroOps.{put_all}
use Rattle.x86_rows.proofs.stepper.put_all.Given as goal

abbrev pub invariant-loop-k : goal.invariant-loop-k
invariant-loop-k l = put_all l.destinations 0 l.values l.fn.m ≡ put_all (drop l.k l.destinations) l.k l.values l.m
