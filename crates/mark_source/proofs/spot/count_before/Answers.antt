use Rattle.std.proofs.Common.{rules, suc, nat_lt, arith}
use Rattle.std.proofs.lemmas.List.Sorted.{IsPartitionedBy-leb, IsPartitionPoint-from_clause}
use Rattle.pairing_defs.specs.declared.LineMark.{LineMark}
use Rattle.mark_source.proofs.spot.count_before.Goals as goal

pub returns-clause-point : goal.returns-clause-point
returns-clause-point c =
    IsPartitionPoint-from_clause (λ (m : LineMark). nat_lt m.from c.args.col) c.args.marks.now c.partition_point.result
    c.partition_point.ensures.partitioned
    (IsPartitionedBy-leb (λ (m : LineMark). suc m.from) c.args.marks.now c.args.col
    (λ i j d h lt. let k = c.requires i j d h lt in omega (arith, k)))
    (λ x r f' k. search rules)
