use Rattle.std.proofs.Common.{ℕ, List, subst}
use Rattle.one_item.specs.declared.item.Item.{Item}
use Rattle.board_items.specs.BoardIterators.{items_left}
use Rattle.item_facts.specs.Known.{AreLeft, HasFactsSoFar}
use Rattle.item_facts.proofs.LeftItems.{next_left}
use Rattle.item_facts.proofs.SoFar.{more_facts}
use Rattle.item_facts.proofs.all.put_all.Goals as goal

pub loop-id-preserved : goal.loop-id-preserved
loop-id-preserved c =
    let board = c.args.board.now in
    let classes = c.args.classes.now in
    let entry : ℕ × Item = (c.in-Some.id, c.in-Some.item.now) in
    let left = items_left c.next.new.self in
    let rest = subst (λ (items : List (ℕ × Item)). AreLeft board.items items) c.in-Some.ensures.steps c.loop-id.invariant.1 in
    let found = subst (λ (items : List (ℕ × Item)). HasFactsSoFar board classes items c.loop-id.all) c.in-Some.ensures.steps c.loop-id.invariant.2 in (
      c.facts_by.ensures.known,
      next_left board.items entry left rest,
      more_facts board classes entry left rest c.loop-id.all c.insert.new.self found c.in_ok-facts.facts c.in_ok-facts.ensures.facts c.in_ok-insert.ensures.put,
    )
