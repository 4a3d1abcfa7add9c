-- The edits of a statement's text that stand for items: all other bytes stay. This project's own.
use Rattle.std.specs.Prelude.{ℕ, ◌+◌, ◌==◌, ◌&&◌, ◌||◌, not, map, filter, List, [], ◌∷◌, ◌++◌, codes, Bool, true, false, if◌then◌else◌}
use Rattle.std.specs.List.{list_any, take_while}
use Rattle.asm_core.specs.Constraint.{is_comma}
use Rattle.asm_core.specs.Reg.{reg_name}
use Rattle.asm_core.specs.declared.reg.Reg.TheVariants.{Eax, Ebx, Ecx, Edx, Esi, Edi, Ebp}
use Rattle.asm_core.specs.declared.edit.Edit.{Edit}
use Rattle.asm_core.specs.declared.statement.Quoted.{Quoted}
use Rattle.asm_core.specs.declared.statement.Part.{Part}
use Rattle.asm_core.specs.declared.statement.Parts.{Parts}
use Rattle.asm_core.specs.declared.statement.Body.{Body}
use Rattle.blk_patch.specs.Items.{has}
use Rattle.blk_patch.specs.Suggested.{is_inside_after}
use Rattle.blk_patch.specs.declared.item.Item.{Item}
use Rattle.blk_patch.specs.declared.constraint.Change.{Change}
use Rattle.blk_patch.specs.declared.constraint.Position.{Position}

-- the bytes from one offset to another give way to others
abbrev pub edit_at : ℕ → ℕ → List ℕ → Edit
edit_at from to text = record { span = record { from = from; to = to }; text = text }

-- ---- constraints

-- what is to change in operand k's constraint
abbrev pub change_of : List Item → ℕ → Change
change_of items k = record {
  plus = has items (Item.Plus k);
  early = has items (Item.Early k);
  byte = has items (Item.Byte k);
}

abbrev pub is_equals : ℕ → Bool
is_equals b = b == 61

abbrev pub is_letter_r : ℕ → Bool
is_letter_r b = b == 114

abbrev pub is_not_comma : ℕ → Bool
is_not_comma b = not (is_comma b)

abbrev pub is_early_mark : ℕ → Bool
is_early_mark b = b == 38

-- the alternative that begins with these bytes is early
abbrev pub is_early : List ℕ → Bool
is_early bs = list_any is_early_mark (take_while is_not_comma bs)

-- the `=` that an output begins with gives way to `+`
abbrev pub asks_plus : Change → Position → ℕ → Bool
asks_plus change position b = (position.first && is_equals b) && change.plus

-- a letter `r`, not in brackets, gives way to `q`
abbrev pub asks_byte : Change → Position → ℕ → Bool
asks_byte change position b = (not position.inside && is_letter_r b) && change.byte

-- `&` stands behind the sign and behind each comma, where the alternative has none yet
abbrev pub asks_early : Change → Position → ℕ → List ℕ → Bool
asks_early change position b behind = ((position.first || is_comma b) && change.early) && not (is_early behind)

-- what of it is to change at a byte in that position, before the others
abbrev pub change_at : Change → Position → ℕ → List ℕ → Change
change_at change position b behind = record {
  plus = asks_plus change position b;
  early = asks_early change position b behind;
  byte = asks_byte change position b;
}

abbrev pub edit_if : Bool → Edit → List Edit
edit_if b e = if b then e ∷ [] else []

-- the edits at a byte with that offset
abbrev pub byte_edits : Change → ℕ → List Edit
byte_edits change at =
    edit_if change.plus (edit_at at (at + 1) (codes "+"))
    ++ edit_if change.byte (edit_at at (at + 1) (codes "q"))
    ++ edit_if change.early (edit_at (at + 1) (at + 1) (codes "&"))

abbrev pub position_after : Position → ℕ → Position
position_after position b = record { first = false; inside = is_inside_after position.inside b }

-- those at the bytes, each with its offset in the file
unfoldable pub edits_from : Change → Position → List ℕ → List ℕ → List Edit
edits_from change position [] ats = []
edits_from change position (b ∷ bs) [] = []
edits_from change position (b ∷ bs) (at ∷ ats) =
    byte_edits (change_at change position b bs) at ++ edits_from change (position_after position b) bs ats

abbrev pub beginning : Position
beginning = record { first = true; inside = false }

abbrev pub constraint_edits : Change → Quoted → List Edit
constraint_edits change q = edits_from change beginning q.bytes q.at

-- operands that are numbered from k upwards
unfoldable pub operand_edits : List Item → ℕ → List Part → List Edit
operand_edits items k [] = []
operand_edits items k (p ∷ ps) = constraint_edits (change_of items k) p.constraint ++ operand_edits items (k + 1) ps

-- ---- the clobber list

-- the clobbers in the order in which they are written
abbrev pub clobbers : List Item
clobbers =
    Item.Clobber Eax ∷ Item.Clobber Ebx ∷ Item.Clobber Ecx ∷ Item.Clobber Edx ∷ Item.Clobber Esi ∷ Item.Clobber Edi
    ∷ Item.Clobber Ebp ∷ Item.Memory ∷ Item.Cc ∷ []

abbrev pub clobber_name : Item → List ℕ
clobber_name (Item.Clobber r) = reg_name r
clobber_name Item.Memory = codes "memory"
clobber_name Item.Cc = codes "cc"
clobber_name x = []

-- the names of those that are among the items
abbrev pub names_among : List Item → List Item → List (List ℕ)
names_among items xs = map clobber_name (filter (has items) xs)

abbrev pub quoted : List ℕ → List ℕ
quoted name = codes "\"" ++ name ++ codes "\""

-- the names in quotes, with that before the first of them and a comma before each other one
unfoldable pub listed : List ℕ → List (List ℕ) → List ℕ
listed lead [] = []
listed lead (name ∷ names) = lead ++ quoted name ++ listed (codes ", ") names

-- what stands before the first new name, by the colons that are there and by the names behind the last of them
abbrev pub lead_of : ℕ → List Quoted → List ℕ
lead_of colons (q ∷ qs) = codes ", "
lead_of colons [] = if colons == 1 then codes " : : " else if colons == 2 then codes " : " else codes " "

-- what is written into the clobber list
abbrev pub clobber_text : List Item → Parts → List ℕ
clobber_text items parts = listed (lead_of parts.colons parts.clobbers) (names_among items clobbers)

-- an insertion of some text
abbrev pub insertion_of : ℕ → List ℕ → List Edit
insertion_of at [] = []
insertion_of at (b ∷ bs) = edit_at at at (b ∷ bs) ∷ []

abbrev pub clobber_edits : List Item → Parts → List Edit
clobber_edits items parts = insertion_of parts.last (clobber_text items parts)

-- ---- the whole

-- in order of place
unfoldable pub edits_of : List Item → Parts → List Edit
edits_of items parts = operand_edits items 0 (parts.outputs ++ parts.inputs) ++ clobber_edits items parts

abbrev pub edits_in : List Item → Body → List Edit
edits_in items (Body.Parts parts) = edits_of items parts
edits_in items (Body.Outside mark) = []
