-- The printed lines of a patch report.
use Rattle.std.specs.Prelude.{ℕ, List, [], ◌∷◌, ◌++◌, codes, decimal}
use Rattle.std.specs.List.{flat_map}
use Rattle.asm_core.specs.Finding.{finding_text}
use Rattle.asm_core.specs.Reg.{reg_name}
use Rattle.asm_core.specs.declared.finding.Finding.{Finding}
use Rattle.blk_patch.specs.declared.item.Item.{Item}
use Rattle.blk_patch.specs.declared.patches.PatchEnd.{PatchEnd}
use Rattle.c_tokens.specs.Lines.{line_col_of}
use Rattle.ck_report.specs.Report.{place_text, ok_line, mark_line}
use Rattle.ck_report.specs.declared.patch_reports.Answered.{Answered}

-- what is added, as `clobber eax` or `early %0`
abbrev pub item_name : Item → List ℕ
item_name (Item.Clobber r) = codes "clobber " ++ reg_name r
item_name Item.Memory = codes "clobber memory"
item_name Item.Cc = codes "clobber cc"
item_name (Item.Early k) = codes "early %" ++ decimal k
item_name (Item.Plus k) = codes "plus %" ++ decimal k
item_name (Item.Byte k) = codes "byte %" ++ decimal k

-- items behind another one
abbrev pub further_text : List Item → List ℕ
further_text items = flat_map (λ x. codes ", " ++ item_name x) items

-- the items in their order, as `clobber eax, early %0`
abbrev pub items_text : List Item → List ℕ
items_text [] = []
items_text (x ∷ xs) = item_name x ++ further_text xs

-- as `a.c:1:20: patched clobber eax`
abbrev pub patched_line : List ℕ → List Item → List ℕ
patched_line place items = place ++ codes "patched " ++ items_text items ++ codes "\n"

-- as `a.c:1:20: no room: early %0`
abbrev pub no_room_line : List ℕ → List Item → List ℕ
no_room_line place items = place ++ codes "no room: " ++ items_text items ++ codes "\n"

-- as `a.c:1:20: no patch: U4 at 2: %1 -`
abbrev pub no_patch_line : List ℕ → Finding → List ℕ
no_patch_line place f = place ++ codes "no patch: " ++ finding_text f ++ codes "\n"

-- the line of a statement whose keyword is at an offset
abbrev pub patch_line : List ℕ → List ℕ → ℕ → PatchEnd → List ℕ
patch_line name text offset PatchEnd.Nothing = ok_line (place_text name (line_col_of text offset))
patch_line name text offset (PatchEnd.Patched items) = patched_line (place_text name (line_col_of text offset)) items
patch_line name text offset (PatchEnd.NoPatch f) = no_patch_line (place_text name (line_col_of text offset)) f
patch_line name text offset (PatchEnd.NoRoom items) = no_room_line (place_text name (line_col_of text offset)) items
patch_line name text offset (PatchEnd.Outside mark) =
    mark_line (place_text name (line_col_of text offset)) mark.kind (line_col_of text mark.place)

-- the lines of the statements of a file
abbrev pub patch_report_of : List ℕ → List ℕ → List Answered → List ℕ
patch_report_of name text all = flat_map (λ (a : Answered). patch_line name text a.offset a.end) all
