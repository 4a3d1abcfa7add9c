-- A statement has one patch, or one reason why there is none. This project's own.
use Rattle.std.specs.Prelude.{◌≡◌, ◌↔◌, true}
use Rattle.asm_core.specs.declared.statement.Statement.{Statement}
use Rattle.asm_core.specs.declared.interface.Interface.{Interface}
use Rattle.blk_patch.specs.Rounds.{IsPatch, TellsOk}
use Rattle.blk_patch.specs.declared.patches.PatchEnd.{PatchEnd}

-- No other answer is the statement's, and nothing is to be done exactly where it is accepted as it stands.
pub record IsOnlyPatch (s : Statement) (i : Interface) (end : PatchEnd) : Type 0 where
  pub one : (other : PatchEnd) → IsPatch s i other → other ≡ end
  pub nothing : end ≡ PatchEnd.Nothing ↔ TellsOk s i true
