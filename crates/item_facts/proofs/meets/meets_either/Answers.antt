use Rattle.item_facts.proofs.Placed.{first_side, second_side}
use Rattle.item_facts.proofs.meets.meets_either.Goals as goal

pub returns-then-placed_meets_on : goal.returns-then-placed_meets_on
returns-then-placed_meets_on c = first_side c.args.item.now c.args.front.now c.args.back.now c.as_slice.result.now c.placed_meets_on.result c.as_slice.ensures c.placed_meets_on.ensures c.if-placed_meets_on.true

pub returns-else-placed_meets_on : goal.returns-else-placed_meets_on
returns-else-placed_meets_on c =
    second_side c.args.item.now c.args.front.now c.args.back.now c.as_slice.result.now c.as_slice-else-placed_meets_on.result.now c.placed_meets_on.result c.placed_meets_on-else-placed_meets_on.result
    c.as_slice.ensures c.as_slice-else-placed_meets_on.ensures c.placed_meets_on.ensures c.if-placed_meets_on.false c.placed_meets_on-else-placed_meets_on.ensures
