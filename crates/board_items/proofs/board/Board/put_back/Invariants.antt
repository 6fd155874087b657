use Rattle.std.proofs.Common.{◌≡◌, ◌≤◌, ◌++◌, List, map, length}
use Rattle.std.specs.Vec.{vec_len, vec_capacity}
use Rattle.board_items.specs.declared.back.Kept.{Kept}
use Rattle.board_items.specs.Back.{kept_entry, all_placed}
use Rattle.board_items.proofs.board.Board.put_back.Given as goal

-- the last of the list are on the board again
abbrev pub invariant-items : goal.invariant-items
invariant-items l =
    (rest : List Kept) × (l.fn.items.items ≡ l.items.items ++ rest) × (l.self ≡ record l.fn.self { items = all_placed (map kept_entry rest) l.fn.self.items }) × (vec_len l.fn.items ≤ vec_capacity l.items)

abbrev pub decreases-items : goal.decreases-items
decreases-items l = length l.items.items
