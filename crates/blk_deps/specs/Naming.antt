-- Names of single bytes, where words tell which places may be in one register: bit q of word p.
use Rattle.std.specs.Prelude.{ℕ, ◌+◌, ◌&&◌, ◌||◌, Bool, false, List, slice_index}
use Rattle.std.specs.List.{list_any}
use Rattle.asm_core.specs.declared.sym.Sym.{Sym}
use Rattle.asm_core.specs.declared.finding.Cell.{Cell}
use Rattle.blk_deps.specs.Ground.{has_bit}
use Rattle.blk_deps.specs.Rules.{asks_byte_of}

-- the place may be in esi, edi or ebp
abbrev pub lacks_bytes : List ℕ → ℕ → Bool
lacks_bytes sharers p = has_bit (slice_index sharers p) 4 || (has_bit (slice_index sharers p) 5 || has_bit
    (slice_index sharers p) 6)

-- a byte of the operand is named, which may be there
abbrev pub breaks_by_name : List ℕ → Sym → Cell → Bool
breaks_by_name sharers line (Cell.Operand k) = list_any (asks_byte_of k) line.args && lacks_bytes sharers (7 + k)
breaks_by_name sharers line cell = false
