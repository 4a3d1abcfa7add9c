-- What an edit of a statement may be: two replacements of one byte, and two insertions. This project's own.
use Rattle.std.specs.Prelude.{◌≡◌, ◌⊎◌, ℕ, ◌+◌, List, [], ◌++◌, codes, take, drop, fold, All, Bool, true, false, Some, slice_get}
use Rattle.asm_core.specs.Constraint.{is_comma}
use Rattle.asm_core.specs.declared.edit.Edit.{Edit}
use Rattle.asm_core.specs.declared.statement.Quoted.{Quoted}
use Rattle.asm_core.specs.declared.statement.Part.{Part}
use Rattle.asm_core.specs.declared.statement.Parts.{Parts}
use Rattle.asm_core.specs.declared.statement.Body.{Body}
use Rattle.blk_patch.specs.Suggested.{is_inside_after}
use Rattle.blk_patch.specs.Edits.{edit_at, is_equals, is_letter_r, is_early, clobber_text}
use Rattle.blk_patch.specs.declared.item.Item.{Item}

-- a bracket is open before byte n
abbrev pub is_inside_at : List ℕ → ℕ → Bool
is_inside_at bytes n = fold is_inside_after false (take n bytes)

-- byte n of a constraint, and its offset in the file
pub record IsByte (q : Quoted) (n b at : ℕ) : Type 0 where
  pub byte : slice_get q.bytes n ≡ Some b
  pub offset : slice_get q.at n ≡ Some at

pub data IsConstraintEdit (q : Quoted) : Edit → Type 0 where
  -- `+` replaces the `=` that it begins with
  becomes_plus : (b at : ℕ) → IsByte q 0 b at → is_equals b ≡ true
      → IsConstraintEdit q (edit_at at (at + 1) (codes "+"))
  -- `q` replaces a letter `r` outside brackets
  becomes_q : (n b at : ℕ) → IsByte q n b at → is_letter_r b ≡ true → is_inside_at q.bytes n ≡ false
      → IsConstraintEdit q (edit_at at (at + 1) (codes "q"))
  -- `&` is inserted behind its first byte or a comma, where the alternative that begins there has none
  gains_mark : (n b at : ℕ) → IsByte q n b at → (n ≡ 0) ⊎ (is_comma b ≡ true)
      → is_early (drop (n + 1) q.bytes) ≡ false → IsConstraintEdit q (edit_at (at + 1) (at + 1) (codes "&"))

pub data IsPatchEdit (parts : Parts) : Edit → Type 0 where
  -- in the constraint of operand k
  in_constraint : (k : ℕ) (part : Part) (e : Edit) → slice_get (parts.outputs ++ parts.inputs) k ≡ Some part
      → IsConstraintEdit part.constraint e → IsPatchEdit parts e
  -- clobbers are inserted behind the last of what stands between the parentheses
  in_clobbers : (items : List Item) → IsPatchEdit parts (edit_at parts.last parts.last (clobber_text items parts))

-- each edit of the statement is one of these; one without parts has none
abbrev pub ArePatchEdits : Body → List Edit → Type 0
ArePatchEdits (Body.Parts parts) edits = All (IsPatchEdit parts) edits
ArePatchEdits (Body.Outside mark) edits = edits ≡ []
