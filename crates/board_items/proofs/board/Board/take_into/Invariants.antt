use Rattle.std.proofs.Common.{◌≡◌, ◌+◌, ◌++◌, map, length}
use Rattle.std.specs.Vec.{vec_len, vec_capacity}
use Rattle.board_items.specs.Back.{kept_entry}
use Rattle.board_items.proofs.SlotLists.{passed_unit}
use Rattle.board_items.proofs.TakenOut.{taken_to}
use Rattle.board_items.proofs.board.Board.take_into.Given as goal

-- the items of the unit whose slots have passed are gone from the board, and stand in the list
abbrev pub invariant-loop-id : goal.invariant-loop-id
invariant-loop-id l = record {
  board : l.self ≡ record l.fn.self { items = passed_unit l.unit l.id l.fn.self.items };
  list : map kept_entry l.items.items ≡ map kept_entry l.fn.items.items ++ taken_to l.unit l.id l.fn.self.items;
  len : vec_len l.items ≡ vec_len l.fn.items + length (taken_to l.unit l.id l.fn.self.items);
  spare_capacity : vec_capacity l.items ≡ vec_capacity l.fn.items;
}
