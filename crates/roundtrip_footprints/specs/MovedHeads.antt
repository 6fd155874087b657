-- The head of a footprint that is moved.
use Rattle.part_read.specs.declared.placements.Placement.{Placement}
use Rattle.pad_read.specs.declared.head.Head.{Head}
use Rattle.roundtrip_lists.specs.Translated.{Shift}
use Rattle.roundtrip_lists.specs.Moved.{moved_raw_point}

-- turned as it was
abbrev pub moved_placement : Shift → Placement → Placement
moved_placement d placement = record { quarter = placement.quarter; at = moved_raw_point d placement.at }

abbrev pub moved_head : Shift → Head → Head
moved_head d head = record head { placement = moved_placement d head.placement }
