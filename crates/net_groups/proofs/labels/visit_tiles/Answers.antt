use Rattle.std.proofs.Common.{arith}
use Rattle.net_groups.specs.Touching.{TouchOn}
use Rattle.net_groups.proofs.Owns.{item_box_fits}
use Rattle.net_groups.proofs.Walks.{walk_begun, walk_more, walk_done}
use Rattle.net_groups.proofs.labels.visit_tiles.Goals as goal

pub area-area-requires : goal.area-area-requires
area-area-requires c = item_box_fits c.args.net.now.item_boxes.now c.args.own c.requires.item_boxes.fit c.requires.own

pub visit_tile-requires-clause-own : goal.visit_tile-requires-clause-own
visit_tile-requires-clause-own c = item_box_fits c.args.net.now.item_boxes.now c.args.own c.requires.item_boxes.fit c.requires.own

pub tiles-init : goal.tiles-init
tiles-init c =
    walk_begun (TouchOn c.args.net.now.board.now) c.args.net.now.ids.now c.args.index.now c.area-area.result c.args.own c.args.own.id c.args.label c.args.labels.now c.args.stack.now.items c.first-tile.result c.first-tile.ensures.inside c.first-tile.ensures.none_before

pub tiles-preserved : goal.tiles-preserved
tiles-preserved c =
    walk_more (TouchOn c.args.net.now.board.now) c.args.net.now.ids.now c.args.index.now c.area-area.result c.args.own c.args.own.id c.args.label c.args.labels.now c.args.stack.now.items c.tiles.labels c.visit_tile.new.labels c.tiles.stack.items c.visit_tile.new.stack.items
    c.tiles.tile c.tiles.invariant c.in_ok-visit_tile.ensures c.after-tile.result c.after-tile.ensures.rises c.after-tile.ensures.none_between c.after-tile.ensures.inside

pub returns : goal.returns
returns c =
    walk_done (TouchOn c.args.net.now.board.now) c.args.net.now.ids.now c.args.net.now.item_boxes.now c.args.index.now c.area-area.result c.args.own c.args.label c.args.labels.now c.tiles.labels c.args.stack.now.items c.tiles.stack.items c.tiles.tile c.tiles.invariant
    c.requires.item_boxes c.requires.holds c.area-area.ensures.sound c.requires.own c.area-area.ensures.tiles (λ tile past. c.end-end.ensures.none_after tile (omega arith))
