-- A state in which `"=r"(y):"r"(x)` may begin, with both operands in eax and no memory.
use Rattle.std.proofs.Common.{◌≡◌, inl, ℕ, zero, suc, ◌<◌, nat_lt, pos, List, replicate, All, true, slice_index_or, refl, sym, ◌∙◌, arith}
use Rattle.std.specs.List.{list_all}
use Rattle.std.proofs.lemmas.Bool.{ltb-true}
use Rattle.std.proofs.lemmas.List.Sums.{AllPass-from_list_all}
use Rattle.asm_core.specs.Lists.{IsMember}
use Rattle.asm_core.specs.Shape.{shapes_of}
use Rattle.asm_core.specs.Machine.{IsMachine}
use Rattle.asm_core.specs.Placement.{spot_of}
use Rattle.asm_core.specs.Entry.{IsEntry}
use Rattle.asm_core.proofs.Examples.Machines.{fresh}
use Rattle.asm_core.proofs.Examples.Placements.{copying, registers, in_eax}
use Rattle.asm_core.specs.declared.placement.Form.{Form}
use Rattle.asm_core.specs.declared.placement.Spot.{Spot}

its_shape : IsMember registers (shapes_of copying)
its_shape = inl refl

pub all_below : (n : ℕ) (xs : List ℕ) → list_all (λ x. nat_lt x n) xs ≡ true → All (λ x. x < n) xs
all_below n xs e = λ k d h. ltb-true _ _ (AllPass-from_list_all (λ x. nat_lt x n) xs e k d h)

pub fresh_is_machine : IsMachine fresh
fresh_is_machine = record {
  reg_count = refl;
  regs = all_below 4294967296 fresh.regs refl;
  esp = omega arith;
  flags = omega arith;
  ranges = λ k d h. absurd (omega arith);
  apart = λ j k r q at_j at_k differ. cc;
  scratch_count = refl;
  scratch = all_below 256 fresh.scratch refl;
  pushed = omega arith;
  at = omega arith;
}

numbers_alone : (n k : ℕ) → slice_index_or (replicate n (Spot.Number (pos 0))) k (Spot.Number (pos 0)) ≡ Spot.Number (pos 0)
numbers_alone zero k = refl
numbers_alone (suc n) zero = refl
numbers_alone (suc n) (suc k) = numbers_alone n k

not_in_memory : (k : ℕ) (form : Form) → spot_of in_eax k ≡ Spot.Memory form → ⊥
not_in_memory zero form e = cc
not_in_memory (suc zero) form e = cc
not_in_memory (suc (suc k)) form e = let wrong : Spot.Number (pos 0) ≡ Spot.Memory form = sym (numbers_alone 28 k) ∙ e in cc

pub may_begin : IsEntry copying registers in_eax fresh
may_begin = record {
  machine = fresh_is_machine;
  start = refl;
  nothing_pushed = refl;
  direction = refl;
  scratch_within = omega arith;
  scratch_apart = λ r a member above below. absurd member;
  objects = λ k o address j object below. absurd (not_in_memory k object.in_memory.0 object.in_memory.1);
  owned = λ r k member owner. absurd member;
}
