use Rattle.std.proofs.Common.{◌≡◌}
use Rattle.board_items.proofs.SlotLists.{passed_unit}
use Rattle.board_items.proofs.board.Board.remove.Given as goal

-- the items of the unit whose slots have passed are gone
abbrev pub invariant-loop-id : goal.invariant-loop-id
invariant-loop-id l = l.self ≡ record l.fn.self { items = passed_unit l.unit l.id l.fn.self.items }
