use Rattle.pair_check.specs.Rows.{deciders}
use Rattle.pair_check.specs.CheckViews.{checked_by}
use Rattle.kind_subjects.proofs.LengthRanges.{passed_is_length, passed_gap_within}
use Rattle.kind_subjects.proofs.NearLayers.{near_layer}
use Rattle.pair_check.proofs.RowsOfPair.{near_in_order}
use Rattle.pair_check.proofs.pair.near_row.Goals as goal

pub invariant_of-result : goal.invariant_of-result
invariant_of-result c =
    let d = deciders (checked_by c.args.view.now) in
    let a = c.args in
    let p = a.pair in
    let near = c.in_ok-near.near in
    let is = c.in_ok-near.ensures.0 in
    let where_first = c.in_ok-near.ensures.1 in
    record {
      ordered = near_in_order a.kind a.first a.second c.requires.measured c.requires.ordered;
      layer = near_layer d.copper a.kind near.layer p.a.now p.b.now near.picked.least where_first.tried is.too_near;
      value = passed_is_length near.picked.least near.picked.least_in_range;
      gap = passed_gap_within near.picked.least near.gap near.picked.least_in_range is.gap.from is.gap.to;
      severity = is.counts;
    }
