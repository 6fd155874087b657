use Rattle.board_items.specs.BoardIterators.{items_left}
use Rattle.board_index.proofs.Holding.{IsHeld}
use Rattle.board_index.proofs.index.index_of.Given as goal

abbrev pub invariant-loop-id : goal.invariant-loop-id
invariant-loop-id l = IsHeld l.board l.initial.index.reach (items_left l.id-iterator) l.index
