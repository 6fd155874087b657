use Rattle.std.proofs.Common.{◌≡◌}
use Rattle.board_items.specs.Units.{has_other_unit}
use Rattle.board_items.specs.BoardIterators.{named_left}
use Rattle.board_items.proofs.units.has_other_unit.Given as goal

-- none of those that have passed is one
abbrev pub invariant-loop-item : goal.invariant-loop-item
invariant-loop-item l = has_other_unit l.unit (named_left l.items) ≡ has_other_unit l.unit (named_left l.item-iterator)
