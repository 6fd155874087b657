use Rattle.std.proofs.Common.{◌≡◌}
use Rattle.board_items.specs.Units.{has_body_named_otherwise}
use Rattle.board_items.specs.BoardIterators.{unit_left}
use Rattle.board_items.proofs.units.has_body_named_otherwise.Given as goal

-- none of those that have passed is one
abbrev pub invariant-loop-item : goal.invariant-loop-item
invariant-loop-item l = has_body_named_otherwise l.name (unit_left l.items) ≡ has_body_named_otherwise l.name (unit_left l.item-iterator)
