-- Edits of worked statements, which compute.
use Rattle.std.proofs.Common.{◌≡◌, ℕ, List, [], ◌∷◌, codes, None, refl}
use Rattle.asm_core.specs.declared.reg.Reg.{Reg}
use Rattle.asm_core.specs.declared.span.Span.{Span}
use Rattle.asm_core.specs.declared.statement.Quoted.{Quoted}
use Rattle.asm_core.specs.declared.statement.Part.{Part}
use Rattle.asm_core.specs.declared.statement.Parts.{Parts}
use Rattle.blk_patch.specs.Edits.{edit_at, edits_from, operand_edits, listed, edits_of}
use Rattle.blk_patch.specs.Items.{has}
use Rattle.blk_patch.specs.declared.item.Item.{Item}

abbrev somewhere : Span
somewhere = record { from = 0; to = 0 }

abbrev quoted : List ℕ → List ℕ → Quoted
quoted bytes at = record { bytes = bytes; at = at; span = somewhere }

abbrev part : List ℕ → List ℕ → Part
part bytes at = record { name = None; constraint = quoted bytes at; expr = somewhere }

-- asm("" : "=r,m"(x) : "[r]r"(y)), from the offset 0 on
abbrev parts : List Quoted → Parts
parts clobbers = record {
  template = quoted [] [];
  outputs = part (codes "=r,m") (10 ∷ 11 ∷ 12 ∷ 13 ∷ []) ∷ [];
  inputs = part (codes "[r]r") (22 ∷ 23 ∷ 24 ∷ 25 ∷ []) ∷ [];
  clobbers = clobbers;
  colons = 2;
  last = 30;
  bad_template = None;
}

-- it is read, early and in a register with a byte name
of_output : edits_of (Item.Early 0 ∷ Item.Byte 0 ∷ Item.Plus 0 ∷ []) (parts [])
    ≡ edit_at 10 11 (codes "+") ∷ edit_at 11 11 (codes "&") ∷ edit_at 11 12 (codes "q") ∷ edit_at 13 13 (codes "&") ∷ []
unfolding edits_of operand_edits edits_from listed has
of_output = refl

-- the letter alone, and the first clobbers
of_input : edits_of (Item.Byte 1 ∷ Item.Memory ∷ Item.Clobber Reg.Ebx ∷ []) (parts [])
    ≡ edit_at 25 26 (codes "q") ∷ edit_at 30 30 (codes " : \"ebx\", \"memory\"") ∷ []
unfolding edits_of operand_edits edits_from listed has
of_input = refl

-- one more clobber
of_clobber : edits_of (Item.Cc ∷ []) (parts (quoted (codes "eax") [] ∷ [])) ≡ edit_at 30 30 (codes ", \"cc\"") ∷ []
unfolding edits_of operand_edits edits_from listed has
of_clobber = refl
