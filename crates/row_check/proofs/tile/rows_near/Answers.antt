use Rattle.std.proofs.Common.{[], ◌∷◌}
use Rattle.pair_check.specs.CheckViews.{checked_by}
use Rattle.row_check.specs.RowsOfTile.{most_steps}
use Rattle.row_check.proofs.BlockLists.{boxes_end}
use Rattle.row_check.proofs.TestedPairs.{touches}
use Rattle.row_check.proofs.TileWalk.{none_tested, prefix_entries, first_touched, its_entries, tested_more, steps_within, most_tested, all_counted, all_tested}
use Rattle.row_check.proofs.tile.rows_near.Goals as goal

pub entries-init : goal.entries-init
entries-init g c = record {
  tested =
      none_tested (checked_by c.args.tested.now.view.now) c.args.at.index.now c.args.at.tile c.args.changed.now c.args.near.now c.requires.sound c.requires.index c.requires.near _ _ c.args.steps.now
      c.requires.touched c.new-rows.ensures.items;
  boxes = c.requires.blocks;
}

pub partners-requires-clause-rising : goal.partners-requires-clause-rising
partners-requires-clause-rising g c = (prefix_entries (checked_by c.args.tested.now.view.now) c.args.at.index.now c.args.at.tile c.args.changed.now _ _ _ _ _ _ c.entries.invariant.tested c.in-Some.first.now c.in-Some.others.now c.in-Some.ensures.cases.0).rising

pub partners-requires-clause-blocks : goal.partners-requires-clause-blocks
partners-requires-clause-blocks g c = boxes_end _ _ (c.in-Some.first.now ∷ []) c.in-Some.others.now c.in-Some.ensures.cases.0 c.entries.invariant.boxes

pub push_rows-requires-clause-rising : goal.push_rows-requires-clause-rising
push_rows-requires-clause-rising g c =
    let with = c.partners.ensures.partners (touches c.args.changed.now) (first_touched (checked_by c.args.tested.now.view.now) c.args.at.index.now c.args.at.tile c.args.changed.now _ _ _ _ _ _ c.entries.invariant.tested c.in-Some.first.now c.in-Some.others.now c.in-Some.ensures.cases.0) in
    (its_entries (checked_by c.args.tested.now.view.now) c.args.at.index.now c.args.at.tile c.args.changed.now _ _ _ _ _ _ c.entries.invariant.tested c.in-Some.first.now c.in-Some.others.now c.in-Some.ensures.cases.0 _ with).rising

pub push_rows-requires-clause-fits : goal.push_rows-requires-clause-fits
push_rows-requires-clause-fits g c =
    let with = c.partners.ensures.partners (touches c.args.changed.now) (first_touched (checked_by c.args.tested.now.view.now) c.args.at.index.now c.args.at.tile c.args.changed.now _ _ _ _ _ _ c.entries.invariant.tested c.in-Some.first.now c.in-Some.others.now c.in-Some.ensures.cases.0) in
    (its_entries (checked_by c.args.tested.now.view.now) c.args.at.index.now c.args.at.tile c.args.changed.now _ _ _ _ _ _ c.entries.invariant.tested c.in-Some.first.now c.in-Some.others.now c.in-Some.ensures.cases.0 _ with).fit

pub push_rows-requires-clause-there : goal.push_rows-requires-clause-there
push_rows-requires-clause-there g c =
    let with = c.partners.ensures.partners (touches c.args.changed.now) (first_touched (checked_by c.args.tested.now.view.now) c.args.at.index.now c.args.at.tile c.args.changed.now _ _ _ _ _ _ c.entries.invariant.tested c.in-Some.first.now c.in-Some.others.now c.in-Some.ensures.cases.0) in
    (its_entries (checked_by c.args.tested.now.view.now) c.args.at.index.now c.args.at.tile c.args.changed.now _ _ _ _ _ _ c.entries.invariant.tested c.in-Some.first.now c.in-Some.others.now c.in-Some.ensures.cases.0 _ with).there

pub returns-in_err-push_rows-clause-steps : goal.returns-in_err-push_rows-clause-steps
returns-in_err-push_rows-clause-steps g c =
    let with = c.partners.ensures.partners (touches c.args.changed.now) (first_touched (checked_by c.args.tested.now.view.now) c.args.at.index.now c.args.at.tile c.args.changed.now _ _ _ _ _ _ c.entries.invariant.tested c.in-Some.first.now c.in-Some.others.now c.in-Some.ensures.cases.0) in
    steps_within (checked_by c.args.tested.now.view.now) c.args.at.index.now c.args.at.tile c.args.changed.now _ _ _ _ _ _ c.entries.invariant.tested c.in-Some.first.now c.in-Some.others.now c.in-Some.ensures.cases.0 _ c.push_rows.new.steps (most_steps c.args.at.index.now c.args.at.tile c.args.changed.now) with c.in_err-push_rows.ensures.most
    (most_tested (checked_by c.args.tested.now.view.now) c.args.at.index.now c.args.at.tile c.args.changed.now c.args.near.now c.requires.sound c.requires.index c.requires.near)

pub entries-preserved : goal.entries-preserved
entries-preserved g c =
    let same = first_touched (checked_by c.args.tested.now.view.now) c.args.at.index.now c.args.at.tile c.args.changed.now _ _ _ _ _ _ c.entries.invariant.tested c.in-Some.first.now c.in-Some.others.now c.in-Some.ensures.cases.0 in record {
      tested =
          tested_more (checked_by c.args.tested.now.view.now) c.args.at.index.now c.args.at.tile c.args.changed.now _ _ _ _ _ _ c.entries.invariant.tested c.in-Some.first.now c.in-Some.others.now c.in-Some.ensures.cases.0 _ _ _ _ (c.partners.ensures.partners (touches c.args.changed.now) same) (c.partners.ensures.touched (touches c.args.changed.now) same)
          c.in_ok-push_rows.ensures.rows c.in_ok-push_rows.ensures.steps;
      boxes = boxes_end _ _ (c.in-Some.first.now ∷ []) c.in-Some.others.now c.in-Some.ensures.cases.0 c.entries.invariant.boxes;
    }

pub returns-clause-rows : goal.returns-clause-rows
returns-clause-rows g c = all_tested (checked_by c.args.tested.now.view.now) c.args.at.index.now c.args.at.tile c.args.changed.now c.args.near.now c.requires.sound c.requires.index c.requires.near _ _ _ _ _ c.entries.invariant.tested c.in_default.ensures.cases

pub returns-clause-steps : goal.returns-clause-steps
returns-clause-steps g c = all_counted (checked_by c.args.tested.now.view.now) c.args.at.index.now c.args.at.tile c.args.changed.now c.args.near.now c.requires.sound c.requires.index c.requires.near _ _ _ _ _ c.entries.invariant.tested c.in_default.ensures.cases
