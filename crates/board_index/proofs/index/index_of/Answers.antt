use Rattle.board_items.specs.BoardIterators.{items_left}
use Rattle.board_index.proofs.Holding.{held_all, next_absent, held_more, held_skip}
use Rattle.board_index.proofs.index.index_of.Goals as goal

pub insert-requires-clause-absent : goal.insert-requires-clause-absent
insert-requires-clause-absent c =
    next_absent c.args.board.now _ c.loop-id.index _ c.in-Some.id c.in-Some.item.now (items_left c.next.new.self) c.in-Some.ensures.steps c.loop-id.invariant

pub loop-id-preserved-in-Continue-branch-2 : goal.loop-id-preserved-in-Continue-branch-2
loop-id-preserved-in-Continue-branch-2 c =
    held_more c.args.board.now _ c.loop-id.index _ c.in-Some.id c.in-Some.item.now (items_left c.next.new.self) c.in-Some.ensures.steps c.loop-id.invariant c.in-Some-bounds.bounds c.in-Some-bounds.ensures.least c.insert.new.self c.in_ok-insert.ensures.ok

pub loop-id-preserved : goal.loop-id-preserved
loop-id-preserved c =
    held_skip c.args.board.now _ c.loop-id.index _ c.in-Some.id c.in-Some.item.now (items_left c.next.new.self) c.in-Some.ensures.steps c.loop-id.invariant c.in_default.ensures.least

pub returns-clause-items : goal.returns-clause-items
returns-clause-items c = held_all c.args.board.now _ c.loop-id.index (items_left c.loop-id.id-iterator) c.in-None.ensures.steps.0 c.loop-id.invariant
