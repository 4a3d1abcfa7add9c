-- A state without memory.
use Rattle.std.proofs.Common.{[], ◌∷◌, replicate}
use Rattle.asm_core.specs.declared.machine.Machine.{Machine}

-- the registers hold 1 to 7, and esp is 4096
abbrev pub fresh : Machine
fresh = record {
  regs = 1 ∷ 2 ∷ 3 ∷ 4 ∷ 5 ∷ 6 ∷ 7 ∷ [];
  esp = 4096;
  flags = record { 0 = 0 };
  ranges = [];
  scratch = replicate 64 0;
  scratch_top = 0;
  at = 0;
}
