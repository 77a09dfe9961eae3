use Rattle.std.proofs.Common.{rules}
use Rattle.std.proofs.lemmas.List.Sorted.{IsPartitionPoint-from_clause}
use Rattle.edit_mapper.proofs.Halves.{has_ended, parted}
use Rattle.edit_mapper.proofs.places.count_ended.Goals as goal

pub returns-clause-point : goal.returns-clause-point
returns-clause-point c =
    IsPartitionPoint-from_clause (has_ended c.args.offset) c.args.places.now c.partition_point.result
    c.partition_point.ensures.partitioned (parted c.args.offset c.args.places.now c.requires)
    (λ x r f' k. search rules)
