use Rattle.std.proofs.Common.{rules, nat_le}
use Rattle.std.proofs.lemmas.List.Sorted.{IsPartitionPoint-from_clause}
use Rattle.c_tokens.proofs.line_starts.lines_begun.Goals as goal

pub returns-clause-point : goal.returns-clause-point
returns-clause-point c = λ parted. IsPartitionPoint-from_clause (λ s. nat_le s c.args.offset) _ _ c.partition_point.ensures.partitioned parted (λ a r q k. search rules)
