use Rattle.std.proofs.Common.{◌≡◌, ◌+◌, ◌++◌}
use Rattle.std.specs.List.{range_with_len, flat_map}
use Rattle.blk_deps.specs.Line.{put_byte}
use Rattle.blk_deps.specs.LineMoves.{interface_of, shape_of}
use Rattle.blk_deps.proofs.line.instance.Instance.push_bytes.Given as goal

abbrev pub invariant-loop-n : goal.invariant-loop-n
invariant-loop-n l =
    l.puts ≡ l.fn.puts ++ flat_map (λ n. put_byte (interface_of l.self) (shape_of l.self) l.place (l.first + n) (l.hand + n)) (range_with_len 0 l.n)
