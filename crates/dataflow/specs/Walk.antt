-- A block of three nodes as an example: marks that walk through three cells, round a loop. Node 0 leaves them, node
-- 1 moves each to the
-- next cell, and node 2 takes the last one away. From node 1 the ways go to node 2 and to the end, from node 2 to
-- node 1 and to the end.
use Rattle.std.specs.Prelude.{ℕ, zero, suc, ◌==◌, nat_lt, Bool, false, if◌then◌else◌}

abbrev pub walk_goes : ℕ → ℕ → ℕ
walk_goes zero way = 1
walk_goes (suc zero) zero = 2
walk_goes (suc zero) (suc way) = 3
walk_goes (suc (suc node)) zero = 1
walk_goes (suc (suc node)) (suc way) = 3

-- a mark begins in the first cell
abbrev pub walk_start : ℕ → Bool
walk_start cell = cell == 0

abbrev pub moved : (ℕ → Bool) → ℕ → Bool
moved marks zero = false
moved marks (suc cell) = if nat_lt cell 2 then marks cell else false

abbrev pub walk_after : ℕ → (ℕ → Bool) → ℕ → Bool
walk_after zero marks cell = marks cell
walk_after (suc zero) marks cell = moved marks cell
walk_after (suc (suc node)) marks cell = if cell == 2 then false else marks cell
