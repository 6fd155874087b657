use Rattle.std.proofs.Common.{◌-◌}
use Rattle.box_index.proofs.Grids.{AreParted}
use Rattle.box_index.proofs.parting.part_each.Given as goal

abbrev pub invariant-tiles : goal.invariant-tiles
invariant-tiles l = AreParted l.area l.tile l.initial.tiles l.initial.lists.items l.tiles l.lists.items l.parted

abbrev pub decreases-tiles : goal.decreases-tiles
decreases-tiles l = l.end - l.tile
