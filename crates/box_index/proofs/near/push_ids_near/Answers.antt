use Rattle.std.proofs.Common.{arith}
use Rattle.box_index.proofs.Prefixes.{prefix_then}
use Rattle.box_index.proofs.Reaching.{walk_more, walk_done}
use Rattle.box_index.proofs.near.push_ids_near.Goals as goal

pub tiles-preserved : goal.tiles-preserved
tiles-preserved c = record {
  walked =
      walk_more c.args.index.now c.area-area.result c.args.bounds c.args.ids.now.items c.tiles.ids.items c.push_tile.new.ids.items c.tiles.tile c.tiles.invariant.walked c.in_ok-push_tile.ensures.reached
      c.after-tile.result c.after-tile.ensures.rises c.after-tile.ensures.none_between c.after-tile.ensures.inside;
  prefix = prefix_then c.args.ids.now.items c.tiles.ids.items c.push_tile.new.ids.items c.tiles.invariant.prefix c.push_tile.ensures.prefix;
}

pub returns-clause-reached : goal.returns-clause-reached
returns-clause-reached c =
    walk_done c.args.index.now c.area-area.result c.args.bounds c.args.ids.now.items c.tiles.ids.items c.tiles.tile c.tiles.invariant.walked c.area-area.ensures.sound c.requires c.area-area.ensures.tiles
    (λ tile past. c.end-end.ensures.none_after tile (omega arith))
