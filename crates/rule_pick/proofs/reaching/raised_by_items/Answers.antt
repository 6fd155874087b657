use Rattle.std.proofs.Common.{ℕ, ℤ, List, Option, subst}
use Rattle.one_item.specs.declared.item.Item.{Item}
use Rattle.board_items.specs.BoardIterators.{items_left}
use Rattle.rule_pick.specs.Reach.{local_clearances, one_if}
use Rattle.rule_pick.specs.Raised.{IsRaised, IsRaisedSoFar}
use Rattle.rule_pick.proofs.Raising.{step, at_end}
use Rattle.rule_pick.proofs.reaching.raised_by_items.Goals as goal

pub loop-item-preserved : goal.loop-item-preserved
loop-item-preserved c =
    step c.args.n.nm c.loop-item.greatest.nm c.raised_if-greatest.result.nm (local_clearances c.args.board.now.items) (one_if c.in-Some.item.now.local) (local_clearances (items_left c.next.new.self))
    (subst (λ (left : List (ℕ × Item)). IsRaisedSoFar c.args.n.nm (local_clearances c.args.board.now.items) (local_clearances left) c.loop-item.greatest.nm) c.in-Some.ensures.steps c.loop-item.invariant)
    (subst (λ (nm : Option ℤ). IsRaised c.loop-item.greatest.nm (one_if nm) c.raised_if-greatest.result.nm) c.own_clearance.ensures c.raised_if-greatest.ensures)

pub returns : goal.returns
returns c =
    at_end c.args.n.nm c.loop-item.greatest.nm (local_clearances c.args.board.now.items)
    (subst (λ (left : List (ℕ × Item)). IsRaisedSoFar c.args.n.nm (local_clearances c.args.board.now.items) (local_clearances left) c.loop-item.greatest.nm) c.in-None.ensures.steps.0 c.loop-item.invariant)
