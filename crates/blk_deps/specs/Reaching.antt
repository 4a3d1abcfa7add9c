-- What accesses to memory break, whatever the instruction that they are of.
use Rattle.std.specs.Prelude.{◌≡◌, ℕ, ◌<◌, ◌&&◌, ◌||◌, not, Bool, List}
use Rattle.std.specs.List.{list_any}
use Rattle.asm_core.specs.declared.row.Access.{Access}
use Rattle.asm_core.specs.declared.shape.Shape.{Shape}
use Rattle.asm_core.specs.declared.interface.Interface.{Interface}
use Rattle.blk_deps.specs.Ground.{has_bit}
use Rattle.blk_deps.specs.Operands.{numbers_in, is_changing}
use Rattle.blk_deps.specs.Line.{accesses_in}
use Rattle.blk_deps.specs.Rules.{is_written_address, is_of_operand, is_past, uses_address}
use Rattle.blk_deps.specs.declared.rules.scene.AtLine.{AtLine}

abbrev pub stores_to : ℕ → List Access → Bool
stores_to k accesses = list_any (λ (a : Access). a.store && is_of_operand k a.to) accesses

-- some operand is passed at its end that isn't changing
unfoldable pub passes_some : Interface → List Shape → Access → Bool
passes_some i live a = list_any (λ k. is_past i k a && not (is_changing live k)) (numbers_in i)

abbrev pub reaches_undeclared : Interface → List Shape → Access → Bool
reaches_undeclared i live a = is_written_address a.to || passes_some i live a

abbrev pub passes_end : Interface → ℕ → List Access → Bool
passes_end i k accesses = list_any (is_past i k) accesses

-- the accesses are the line's, and the bits tell of which operands the address is used
pub record IsAtLine (x : AtLine) : Type 0 where
  pub accesses : x.accesses.now ≡ accesses_in x.line.now
  pub addressed : (k : ℕ) → k < 32 → has_bit x.addressed k ≡ uses_address x.line.now k
