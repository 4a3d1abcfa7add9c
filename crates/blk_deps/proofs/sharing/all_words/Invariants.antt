use Rattle.std.proofs.Common.{◌≡◌, ◌+◌, length}
use Rattle.blk_deps.specs.Sharing.{TellWords}
use Rattle.blk_deps.proofs.sharing.all_words.Given as goal

abbrev pub invariant-loop-p : goal.invariant-loop-p
invariant-loop-p l =
    (length l.words ≡ l.p)
    × TellWords l.context.interface.now l.context.shape.now (7 + length l.context.interface.now.operands) l.words
