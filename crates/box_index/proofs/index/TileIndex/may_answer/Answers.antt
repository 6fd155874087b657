use Rattle.std.proofs.Common.{◌<◌, sym, subst, arith}
use Rattle.std.specs.List.{All}
use Rattle.box_index.specs.declared.shared.Shared.{Shared}
use Rattle.box_index.specs.EntryOrigins.{BeginsBy}
use Rattle.box_index.specs.Tiles.{PlainIndex, IsSoundIndex, near_of, tile_count}
use Rattle.box_index.specs.SharedLists.{AreShared}
use Rattle.box_index.proofs.Begins.{none_in_column, none_in_row}
use Rattle.box_index.proofs.Buckets.{complete}
use Rattle.box_index.proofs.index.TileIndex.may_answer.Goals as goal

pub returns-then-tile-last : goal.returns-then-tile-last
returns-then-tile-last c test =
    let list = c.at.result.now in
    let index = c.args.self.now in
    let sound = subst (λ (i : PlainIndex). IsSoundIndex i) c.self.view_is c.self.invariant.0 in
    let shared = subst (λ (i : PlainIndex). AreShared (near_of i) c.self.inside.grid.tiles.items c.self.inside.grid.lists.items) c.self.view_is c.self.invariant.1 in
    let low : c.args.tile < tile_count = let l = c.if-tile-ge-TILES.false in omega (arith, l) in
    let begun = subst (λ (l : Shared). All (BeginsBy l.last) (near_of index c.args.tile)) (sym (c.at.ensures 0 list)) (shared.each c.args.tile 0 list low).begun in
    none_in_row index sound (complete index sound) c.args.tile list.last begun test

pub returns-else-tile-last : goal.returns-else-tile-last
returns-else-tile-last c test =
    let list = c.at.result.now in
    let index = c.args.self.now in
    let sound = subst (λ (i : PlainIndex). IsSoundIndex i) c.self.view_is c.self.invariant.0 in
    let shared = subst (λ (i : PlainIndex). AreShared (near_of i) c.self.inside.grid.tiles.items c.self.inside.grid.lists.items) c.self.view_is c.self.invariant.1 in
    let low : c.args.tile < tile_count = let l = c.if-tile-ge-TILES.false in omega (arith, l) in
    let begun = subst (λ (l : Shared). All (BeginsBy l.last) (near_of index c.args.tile)) (sym (c.at.ensures 0 list)) (shared.each c.args.tile 0 list low).begun in
    none_in_column index sound (complete index sound) c.args.tile list.last begun test
