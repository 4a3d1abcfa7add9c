-- What is true of an accepted statement.
use Rattle.std.specs.Prelude.{List}
use Rattle.asm_core.specs.Frame.{KeepsFrame}
use Rattle.asm_core.specs.Shape.{shapes_of}
use Rattle.asm_core.specs.declared.interface.Interface.{Interface}
use Rattle.asm_core.specs.declared.piece.Piece.{Piece}
use Rattle.blk_check.specs.Judged.{AnyHasRoom}
use Rattle.blk_check.specs.Readable.{pieces_in}
use Rattle.blk_check.specs.declared.verdict.Verdict.{Verdict}

-- Some placement is allowed, and has room; and under each that is allowed the frame is kept.
pub record IsFramedBlock (i : Interface) (pieces : List Piece) : Type 0 where
  pub room : AnyHasRoom i (shapes_of i)
  pub keeps : KeepsFrame i pieces

-- that is so of the statement and the interface of a proof
abbrev pub IsFramedIfOk : Verdict → Type 0
IsFramedIfOk (Verdict.Ok proof) = IsFramedBlock proof.interface (pieces_in proof.statement.body)
IsFramedIfOk verdict = Unit {0}
