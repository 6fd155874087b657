use Rattle.std.proofs.Common.{◌-◌}
use Rattle.box_index.specs.Reached.{BeginsWith}
use Rattle.box_index.proofs.Reaching.{IsWalked}
use Rattle.box_index.proofs.near.push_ids_near.Given as goal

abbrev pub invariant-tiles : goal.invariant-tiles
invariant-tiles l = record {
  walked : IsWalked l.index l.area l.bounds l.fn.ids.items l.ids.items l.tile;
  prefix : BeginsWith l.fn.ids.items l.ids.items;
}

abbrev pub decreases-tiles : goal.decreases-tiles
decreases-tiles l = l.end - l.tile
