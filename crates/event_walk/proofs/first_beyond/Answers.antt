-- `event_walk::first_beyond` meets its contract.
use Rattle.std.proofs.Common.{rules}
use Rattle.std.proofs.lemmas.List.Sorted.{IsPartitionPoint-from_clause}
use lib.Ieee.{le}
use Rattle.event_walk.proofs.Searches.{seen_parted, first_parted}
use Rattle.event_walk.proofs.first_beyond.Goals as goal

pub returns : goal.returns
returns c =
    let a = c.args in
    let q = c.requires in
    first_parted a.offsets.now a.points c.gallop-low.result q.points_inside a.x c.gallop-low.ensures c.partition_point.result c.partition_point.ensures.bound
    (IsPartitionPoint-from_clause (λ y. le y a.x) _ _ c.partition_point.ensures.partitioned (seen_parted a.offsets.now a.points c.gallop-low.result q.points_inside a.x q.rises) (λ z r f h. search rules))
