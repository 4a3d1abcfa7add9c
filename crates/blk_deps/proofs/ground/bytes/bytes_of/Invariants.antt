use Rattle.asm_core.specs.Company.{places_of}
use Rattle.blk_deps.specs.Operands.{numbers_in}
use Rattle.blk_deps.specs.Holding.{is_of_class, words_of}
use Rattle.blk_deps.specs.Ground.{has_cell_bit}
use Rattle.blk_deps.proofs.Gathering.{Gathers}
use Rattle.blk_deps.proofs.ground.bytes.bytes_of.Given as goal

abbrev pub invariant-loop-k : goal.invariant-loop-k
invariant-loop-k l = Gathers 148 (has_cell_bit (words_of l.bytes))
    (λ c k. is_of_class l.fn.class l.fn.interface l.fn.shape k (places_of l.fn.interface l.fn.shape k) c)
    (numbers_in l.fn.interface) l.k
