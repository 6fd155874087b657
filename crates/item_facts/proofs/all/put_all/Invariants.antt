use Rattle.board_items.specs.BoardIterators.{items_left}
use Rattle.item_facts.specs.Known.{AreKnown, AreLeft, HasFactsSoFar}
use Rattle.item_facts.proofs.all.put_all.Given as goal

abbrev pub invariant-loop-id : goal.invariant-loop-id
invariant-loop-id l =
    AreKnown l.classes l.board l.known × AreLeft l.board.items (items_left l.id-iterator) × HasFactsSoFar l.board l.classes (items_left l.id-iterator) l.all
