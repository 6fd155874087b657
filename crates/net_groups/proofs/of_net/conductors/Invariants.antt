use Rattle.std.proofs.Common.{◌≡◌, take, filter}
use Rattle.board_items.specs.Boards.{item_at, ids_of_net}
use Rattle.net_groups.specs.Labels.{is_copper}
use Rattle.net_groups.proofs.Owns.{AreItemBoxesOf}
use Rattle.net_groups.proofs.of_net.conductors.Given as goal

abbrev pub invariant-loop-id : goal.invariant-loop-id
invariant-loop-id l = record {
  kept : l.ids.items ≡ filter (λ id. is_copper (item_at l.board.items id)) (take l.id-index (ids_of_net l.net l.board.items));
  item_boxes : AreItemBoxesOf l.board l.ids.items l.item_boxes.items;
}
