use Rattle.std.proofs.Common.{take}
use Rattle.box_index.specs.Tiles.{margin}
use Rattle.net_groups.specs.Touching.{TouchOn}
use Rattle.net_groups.specs.Labels.{IsVisited}
use Rattle.net_groups.specs.Asking.{ids_asked}
use Rattle.net_groups.proofs.labels.visit_tile.Given as goal

abbrev pub invariant-loop-other : goal.invariant-loop-other
invariant-loop-other l = IsVisited (TouchOn l.net.board.now) l.net.ids.now (ids_asked l.net.ids.now (margin l.index) l.tile l.own (take l.other-index l.other-items)) l.own.id l.label l.fn.labels l.labels l.fn.stack.items l.stack.items
