use Rattle.std.proofs.Common.{nat_le, leb-true, rules}
use Rattle.std.proofs.lemmas.List.Sorted.{IsPartitionPoint-from_clause, IsPartitionedBy-leb}
use Rattle.board_items.proofs.UnitPlaces.{rising, gt_from}
use Rattle.board_items.proofs.places.end_of.Goals as goal

pub returns-clause-to : goal.returns-clause-to
returns-clause-to c =
    let parted = IsPartitionedBy-leb (λ n. n) _ c.args.unit (rising _ c.requires) in
    let point = IsPartitionPoint-from_clause (λ own. nat_le own c.args.unit) _ _ c.partition_point.ensures.partitioned parted (λ a r q k. search rules) in
    λ k d l h. leb-true _ _ (point.0 k d l h)

pub returns-clause-above : goal.returns-clause-above
returns-clause-above c =
    let parted = IsPartitionedBy-leb (λ n. n) _ c.args.unit (rising _ c.requires) in
    let point = IsPartitionPoint-from_clause (λ own. nat_le own c.args.unit) _ _ c.partition_point.ensures.partitioned parted (λ a r q k. search rules) in
    λ k d l h. gt_from _ _ (point.1 k d l h)
