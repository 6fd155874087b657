use Rattle.std.proofs.Common.{arith}
use Rattle.pair_check.specs.CheckViews.{checked_by}
use Rattle.row_check.proofs.TileEnds.{at_start, its_place, own_place, its_fit, own_fit, its_order, not_there, of_ids, rest_fit, rest_blocks, one_more, one_within, all_rows, all_steps}
use Rattle.row_check.proofs.tile.push_beside.Goals as goal

pub walk-init : goal.walk-init
walk-init g c = at_start (checked_by c.args.tested.now.view.now) c.args.at.now.index.now c.args.at.now.tile c.args.first.now c.args.at.now.boxes c.args.others.now c.args.row_sink.now.rows.items c.args.steps.now c.requires.rising c.requires.fits c.requires.there c.requires.blocks c.requires.owned

pub push_pair-requires-clause-ordered : goal.push_pair-requires-clause-ordered
push_pair-requires-clause-ordered g c =
    let lt = its_order (checked_by c.args.tested.now.view.now) c.args.at.now.index.now c.args.at.now.tile c.args.first.now c.args.at.now.boxes c.args.others.now _ c.in-Some.rest.now c.in-Some.second.now _ _ _ _ c.in-Some.ensures.cases.0 c.walk.invariant in
    let one = c.requires.same in
    let other = c.in-Some-operand_at.ensures.0 in
    omega (arith, lt, one, other)

pub push_pair-requires-clause-first_fits : goal.push_pair-requires-clause-first_fits
push_pair-requires-clause-first_fits g c = own_fit (checked_by c.args.tested.now.view.now) c.args.at.now.index.now c.args.at.now.tile c.args.first.now c.args.at.now.boxes c.args.others.now _ c.in-Some.rest.now c.in-Some.second.now _ _ _ _ c.in-Some.ensures.cases.0 c.walk.invariant

pub push_pair-requires-clause-second_fits : goal.push_pair-requires-clause-second_fits
push_pair-requires-clause-second_fits g c = its_fit (checked_by c.args.tested.now.view.now) c.args.at.now.index.now c.args.at.now.tile c.args.first.now c.args.at.now.boxes c.args.others.now _ c.in-Some.rest.now c.in-Some.second.now _ _ _ _ c.in-Some.ensures.cases.0 c.walk.invariant

pub push_pair-requires-clause-first_there : goal.push_pair-requires-clause-first_there
push_pair-requires-clause-first_there g c = own_place (checked_by c.args.tested.now.view.now) c.args.at.now.index.now c.args.at.now.tile c.args.first.now c.args.at.now.boxes c.args.others.now _ c.in-Some.rest.now c.in-Some.second.now _ _ _ _ c.in-Some.ensures.cases.0 c.walk.invariant

pub push_pair-requires-clause-second_there : goal.push_pair-requires-clause-second_there
push_pair-requires-clause-second_there g c = its_place (checked_by c.args.tested.now.view.now) c.args.at.now.index.now c.args.at.now.tile c.args.first.now c.args.at.now.boxes c.args.others.now _ c.in-Some.rest.now c.in-Some.second.now _ _ _ _ c.in-Some.ensures.cases.0 c.walk.invariant

pub owned_from-left-requires-clause-fits : goal.owned_from-left-requires-clause-fits
owned_from-left-requires-clause-fits g c = rest_fit (checked_by c.args.tested.now.view.now) c.args.at.now.index.now c.args.at.now.tile c.args.first.now c.args.at.now.boxes c.args.others.now _ c.in-Some.rest.now c.in-Some.second.now _ _ _ _ c.in-Some.ensures.cases.0 c.walk.invariant

pub owned_from-left-requires-clause-blocks : goal.owned_from-left-requires-clause-blocks
owned_from-left-requires-clause-blocks g c = rest_blocks (checked_by c.args.tested.now.view.now) c.args.at.now.index.now c.args.at.now.tile c.args.first.now c.args.at.now.boxes c.args.others.now _ c.in-Some.rest.now c.in-Some.second.now _ _ _ _ c.in-Some.ensures.cases.0 c.walk.invariant

pub returns-in_err-push_pair-clause-most : goal.returns-in_err-push_pair-clause-most
returns-in_err-push_pair-clause-most g c =
    one_within (checked_by c.args.tested.now.view.now) c.args.at.now.index.now c.args.at.now.tile c.args.first.now c.args.at.now.boxes c.args.others.now _ c.in-Some.rest.now c.in-Some.second.now _ _ _ _ c.in-Some.ensures.cases.0 c.walk.invariant _ c.push_pair.ensures.step

pub walk-preserved : goal.walk-preserved
walk-preserved g c =
    one_more (checked_by c.args.tested.now.view.now) c.args.at.now.index.now c.args.at.now.tile c.args.first.now c.args.at.now.boxes c.args.others.now _ c.in-Some.rest.now c.in-Some.second.now _ _ _ _ c.in-Some.ensures.cases.0 c.walk.invariant _ _ _ (of_ids _ _ _ _ _ _ _ c.requires.same c.in-Some-operand_at.ensures.0 c.in_ok-push_pair.ensures.rows) c.push_pair.ensures.step c.owned_from-left.ensures.end
    c.owned_from-left.ensures.owned

pub returns-clause-rows : goal.returns-clause-rows
returns-clause-rows g c = all_rows (checked_by c.args.tested.now.view.now) c.args.at.now.index.now c.args.at.now.tile c.args.first.now c.args.at.now.boxes c.args.others.now _ _ _ _ _ c.in_default.ensures.cases c.walk.invariant

pub returns-clause-steps : goal.returns-clause-steps
returns-clause-steps g c = all_steps (checked_by c.args.tested.now.view.now) c.args.at.now.index.now c.args.at.now.tile c.args.first.now c.args.at.now.boxes c.args.others.now _ _ _ _ _ c.in_default.ensures.cases c.walk.invariant

pub returns-in_default-operand_at-clause-rows : goal.returns-in_default-operand_at-clause-rows
returns-in_default-operand_at-clause-rows g c = absurd (not_there _ _ c.in_default-operand_at.ensures (its_place (checked_by c.args.tested.now.view.now) c.args.at.now.index.now c.args.at.now.tile c.args.first.now c.args.at.now.boxes c.args.others.now _ c.in-Some.rest.now c.in-Some.second.now _ _ _ _ c.in-Some.ensures.cases.0 c.walk.invariant))

pub returns-in_default-operand_at-clause-steps : goal.returns-in_default-operand_at-clause-steps
returns-in_default-operand_at-clause-steps g c = absurd (not_there _ _ c.in_default-operand_at.ensures (its_place (checked_by c.args.tested.now.view.now) c.args.at.now.index.now c.args.at.now.tile c.args.first.now c.args.at.now.boxes c.args.others.now _ c.in-Some.rest.now c.in-Some.second.now _ _ _ _ c.in-Some.ensures.cases.0 c.walk.invariant))
