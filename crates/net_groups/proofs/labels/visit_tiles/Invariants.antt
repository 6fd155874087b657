use Rattle.std.proofs.Common.{◌-◌}
use Rattle.net_groups.specs.Touching.{TouchOn}
use Rattle.net_groups.specs.Asking.{IsWalked}
use Rattle.net_groups.proofs.labels.visit_tiles.Given as goal

abbrev pub invariant-tiles : goal.invariant-tiles
invariant-tiles l = IsWalked (TouchOn l.net.board.now) l.net.ids.now l.index l.area l.own l.own.id l.label l.fn.labels l.labels l.fn.stack.items l.stack.items l.tile

abbrev pub decreases-tiles : goal.decreases-tiles
decreases-tiles l = l.end - l.tile
