use Rattle.board_items.specs.BoardIterators.{items_left}
use Rattle.rule_pick.specs.Reach.{local_clearances}
use Rattle.rule_pick.specs.Raised.{IsRaisedSoFar}
use Rattle.rule_pick.proofs.reaching.raised_by_items.Given as goal

abbrev pub invariant-loop-item : goal.invariant-loop-item
invariant-loop-item l = IsRaisedSoFar l.fn.n.nm (local_clearances l.board.items) (local_clearances (items_left l.item-iterator)) l.greatest.nm
