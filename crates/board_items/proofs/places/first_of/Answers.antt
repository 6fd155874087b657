use Rattle.std.proofs.Common.{nat_lt, ltb-true, rules}
use Rattle.std.proofs.lemmas.List.Sorted.{IsPartitionPoint-from_clause, IsPartitionedBy-ltb}
use Rattle.board_items.proofs.UnitPlaces.{rising, ge_from}
use Rattle.board_items.proofs.places.first_of.Goals as goal

pub returns-clause-below : goal.returns-clause-below
returns-clause-below c =
    let parted = IsPartitionedBy-ltb (λ n. n) _ c.args.unit (rising _ c.requires) in
    let point = IsPartitionPoint-from_clause (λ own. nat_lt own c.args.unit) _ _ c.partition_point.ensures.partitioned parted (λ a r q k. search rules) in
    λ k d l h. ltb-true _ _ (point.0 k d l h)

pub returns-clause-from : goal.returns-clause-from
returns-clause-from c =
    let parted = IsPartitionedBy-ltb (λ n. n) _ c.args.unit (rising _ c.requires) in
    let point = IsPartitionPoint-from_clause (λ own. nat_lt own c.args.unit) _ _ c.partition_point.ensures.partitioned parted (λ a r q k. search rules) in
    λ k d l h. ge_from _ _ (point.1 k d l h)
