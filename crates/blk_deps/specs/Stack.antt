-- How many words are pushed along paths, and what is wrong with it. A path goes no further than an instruction that pushes where 16
-- words are pushed, or pops where none is.
use Rattle.std.specs.Prelude.{◌≡◌, ◌≢◌, ℕ, ◌+◌, ◌-◌, ◌==◌, ◌≤◌, ◌<◌, ◌&&◌, ◌||◌, nat_lt, nat_le, Bool, true, false, List, length, Option, None, Some, slice_get, slice_index, if◌then◌else◌}
use Rattle.std.specs.List.{range_with_len, list_any}
use Rattle.asm_core.specs.declared.sym.Sym.{Sym}
use Rattle.asm_core.specs.declared.row.Written.{Written}
use Rattle.asm_core.specs.declared.row.Write.{Write}
use Rattle.asm_core.specs.declared.lines.Graph.{Graph}
use Rattle.asm_core.specs.declared.finding.Rule.{Rule}
use Rattle.dataflow.specs.Paths.{IsPathTo, facts_along, OnSomePath}
use Rattle.blk_deps.specs.Line.{writes_in}
use Rattle.blk_deps.specs.Ways.{size_of, goes}
use Rattle.blk_deps.specs.declared.depth.Depth.{Depth}

abbrev pub is_push : Written → Bool
is_push Written.Push = true
is_push to = false

abbrev pub is_pop : Written → Bool
is_pop Written.Pop = true
is_pop to = false

abbrev pub pushes : Sym → Bool
pushes line = list_any (λ (w : Write). is_push w.to) (writes_in line)

abbrev pub pops : Sym → Bool
pops line = list_any (λ (w : Write). is_pop w.to) (writes_in line)

abbrev pub no_words : Depth → Bool
no_words depth = depth.0 == 0

-- the depths behind an instruction, of those before it
abbrev pub depths_behind : Bool → Bool → (Depth → Bool) → Depth → Bool
depths_behind push pop before depth =
    if push then (nat_lt 0 depth.0 && nat_le depth.0 16) && before (record { 0 = depth.0 - 1 })
    else if pop then nat_lt depth.0 16 && before (record { 0 = depth.0 + 1 })
    else before depth

abbrev pub depths_by : Option Sym → (Depth → Bool) → Depth → Bool
depths_by None before = before
depths_by (Some line) before = depths_behind (pushes line) (pops line) before

abbrev pub depths_after : Graph → ℕ → (Depth → Bool) → Depth → Bool
depths_after g n = depths_by (slice_get g.insts n)

-- some path comes to node n with so many words pushed
abbrev pub HasDepth : Graph → ℕ → ℕ → Type 0
HasDepth g n depth = OnSomePath (size_of g) (goes g) no_words (depths_after g) n (λ depths. depths (record { 0 = depth }))

-- the instruction pushes where 16 words are pushed, or pops where none is
abbrev pub overruns_by : Option Sym → (Depth → Bool) → Bool
overruns_by None depths = false
overruns_by (Some line) depths = (pushes line && depths (record { 0 = 16 })) || (pops line && depths (record { 0 = 0 }))

abbrev pub overruns : Graph → ℕ → (Depth → Bool) → Bool
overruns g n = overruns_by (slice_get g.insts n)

-- The rules on the stack, broken at node n: words are left at the end; two paths come with two depths; an instruction overruns.
pub data BreaksStack (g : Graph) : Rule → ℕ → Type 0 where
  left : (depth : ℕ) → 0 < depth → HasDepth g (size_of g) depth → BreaksStack g Rule.S1 (size_of g)
  two : (n one other : ℕ) → n ≤ size_of g → one ≢ other → HasDepth g n one → HasDepth g n other → BreaksStack g Rule.S2 n
  overrun : (n : ℕ) → n < size_of g → OnSomePath (size_of g) (goes g) no_words (depths_after g) n (overruns g n) → BreaksStack g Rule.S3 n

-- Where no such rule is broken: the one depth of each node that a path comes to, and 0 where none does.
pub record AreDepths (g : Graph) (depths : List ℕ) : Type 0 where
  pub count : length depths ≡ size_of g + 1
  pub reached : (n depth : ℕ) → HasDepth g n depth → slice_index depths n ≡ depth
  pub unreached : (n : ℕ) → ((depth : ℕ) → HasDepth g n depth → ⊥) → slice_index depths n ≡ 0
