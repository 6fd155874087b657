use Rattle.std.proofs.Common.{take}
use Rattle.box_index.specs.Reached.{BeginsWith, HasReached}
use Rattle.box_index.proofs.near.push_tile.Given as goal

abbrev pub invariant-loop-entry : goal.invariant-loop-entry
invariant-loop-entry l = record {
  reached : HasReached l.bounds (take l.entry-index l.entry-items) l.fn.ids.items l.ids.items;
  prefix : BeginsWith l.fn.ids.items l.ids.items;
}
