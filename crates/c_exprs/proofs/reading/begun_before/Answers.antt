use Rattle.std.proofs.Common.{rules}
use Rattle.std.proofs.lemmas.List.Sorted.{IsPartitionPoint-from_clause}
use Rattle.c_exprs.specs.Operands.{begins_before}
use Rattle.c_exprs.proofs.reading.begun_before.Goals as goal

pub returns-clause-point : goal.returns-clause-point
returns-clause-point c = λ parted. IsPartitionPoint-from_clause (begins_before c.args.offset) _ _ c.partition_point.ensures.partitioned parted (λ a r q k. search rules)
