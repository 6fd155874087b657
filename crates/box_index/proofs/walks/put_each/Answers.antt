use Rattle.std.proofs.Common.{◌≡◌, ◌<◌, ◌∙◌, true, false, sym, subst, slice_index_or, arith}
use Rattle.std.proofs.lemmas.List.{get_or_default}
use Rattle.box_index.specs.declared.shared.Shared.{Shared}
use Rattle.box_index.specs.Areas.{has_tile, IsSubarea}
use Rattle.box_index.specs.Tiles.{tile_count}
use Rattle.box_index.specs.SharedLists.{IsPut}
use Rattle.box_index.proofs.Buckets.{has_within}
use Rattle.box_index.proofs.Grids.{changed_more}
use Rattle.box_index.proofs.Changed.{put_rising, put_capacity, put_once, changed_all}
use Rattle.box_index.proofs.walks.put_each.Goals as goal

pub put-requires-clause-rising : goal.put-requires-clause-rising
put-requires-clause-rising c =
    let n = slice_index_or c.args.tiles.now c.tiles.tile 0 in
    let s = c.index-lists-tiles.result in
    let has : has_tile c.args.area c.tiles.tile ≡ true = c.tiles.invariant.next (let l = c.tiles-test.true in let e = c.requires.end in omega (arith, l, e)) in
    put_rising c.args.entry c.args.area (slice_index_or c.args.lists.now n s) (slice_index_or c.tiles.lists n s) (c.requires.open c.tiles.tile 0 s has) (c.tiles.invariant.each n s)

pub put-requires-clause-capacity : goal.put-requires-clause-capacity
put-requires-clause-capacity c =
    let n = slice_index_or c.args.tiles.now c.tiles.tile 0 in
    let s = c.index-lists-tiles.result in
    let has : has_tile c.args.area c.tiles.tile ≡ true = c.tiles.invariant.next (let l = c.tiles-test.true in let e = c.requires.end in omega (arith, l, e)) in
    put_capacity c.args.entry c.args.area (slice_index_or c.args.lists.now n s) (slice_index_or c.tiles.lists n s) (c.requires.ready c.tiles.tile 0 s has).capacity (c.tiles.invariant.each n s)

pub tiles-preserved : goal.tiles-preserved
tiles-preserved c =
    let tile = c.tiles.tile in
    let tiles = c.args.tiles.now in
    let old = c.args.lists.now in
    let n = slice_index_or tiles tile 0 in
    let s = c.index-lists-tiles.result in
    let has : has_tile c.args.area tile ≡ true = c.tiles.invariant.next (let l = c.tiles-test.true in let e = c.requires.end in omega (arith, l, e)) in
    let low : tile < tile_count = has_within c.args.area tile has in
    let within = c.requires.homed.within tile 0 low in
    let put = put_once c.args.entry c.args.area (slice_index_or old n s) (slice_index_or c.tiles.lists n s) c.put.new.self (c.requires.open tile 0 s has) (c.tiles.invariant.each n s) c.put.ensures.put c.put.ensures.once in
    changed_more (IsPut c.args.entry) (λ (list : Shared). IsSubarea list.home c.args.area) c.args.area tiles old c.tiles.lists tile c.after-tile.result c.tiles.invariant n
    (λ d. get_or_default tiles tile d 0 (let e = c.requires.homed.long in omega (arith, e, low)))
    (let e = c.tiles.invariant.long in omega (arith, e, within)) c.put.new.self
    (λ t. (c.requires.ready tile 0 t has).lies)
    (λ t. subst (λ (l : Shared). IsPut c.args.entry l c.put.new.self) (get_or_default old n s t within) put)
    (λ other l m t. let never : true ≡ false = sym t ∙ c.after-tile.ensures.none_between other l m in cc)
    c.after-tile.ensures.inside

pub returns : goal.returns
returns c = changed_all (IsPut c.args.entry) (λ (list : Shared). IsSubarea list.home c.args.area) c.args.area c.args.tiles.now c.args.lists.now c.tiles.lists c.tiles.tile c.args.end c.tiles.invariant c.tiles-test.false c.requires.all
