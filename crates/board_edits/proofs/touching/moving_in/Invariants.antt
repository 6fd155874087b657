use Rattle.std.proofs.Common.{◌≡◌, ◌++◌, not, filter}
use Rattle.one_item.specs.ItemKinds.{is_note}
use Rattle.board_items.specs.BoardIterators.{unit_left}
use Rattle.board_edits.specs.Making.{ids_of}
use Rattle.board_edits.proofs.touching.moving_in.Given as goal

abbrev pub invariant-loop-id : goal.invariant-loop-id
invariant-loop-id l = l.ids.items ++ ids_of (filter (λ entry. not (is_note entry.1.what)) (unit_left l.id-iterator)) ≡ ids_of (filter (λ entry. not (is_note entry.1.what)) (unit_left l.items))
