use denote.Shadow.{shadow}
use denote.Text.{Utf8}
use Rattle.std.proofs.Common.{◌≡◌, ◌++◌, drop}
use Rattle.std.specs.String.{string_bytes}
use Rattle.blk_patch.specs.Edits.{listed, names_among}
use Rattle.blk_patch.proofs.clobber_list.listed.Given as goal

-- with those that are left
abbrev pub invariant-loop-item : goal.invariant-loop-item
invariant-loop-item l =
    shadow (Utf8 l.lead)
    × (string_bytes l.text ++ listed l.lead (names_among l.items (drop l.item-index l.clobbers))
    ≡ listed l.initial.lead (names_among l.items l.clobbers))
