use Rattle.std.proofs.Common.{◌≡◌, ◌<◌, ◌∙◌, true, false, sym, subst, slice_index_or, arith}
use Rattle.std.proofs.lemmas.List.{get_or_default}
use Rattle.box_index.specs.declared.shared.Shared.{Shared}
use Rattle.box_index.specs.Areas.{has_tile}
use Rattle.box_index.specs.Tiles.{tile_count}
use Rattle.box_index.specs.SharedLists.{IsEntryRemoved}
use Rattle.box_index.proofs.Buckets.{has_within}
use Rattle.box_index.proofs.Grids.{changed_more}
use Rattle.box_index.proofs.Changed.{taken_rising, taken_once, changed_all}
use Rattle.box_index.proofs.walks.take_out_each.Goals as goal

pub take_out-requires : goal.take_out-requires
take_out-requires c =
    let n = slice_index_or c.args.tiles.now c.tiles.tile 0 in
    let s = c.index-lists-tiles.result in
    let has : has_tile c.args.area c.tiles.tile ≡ true = c.tiles.invariant.next (let l = c.tiles-test.true in let e = c.requires.end in omega (arith, l, e)) in
    taken_rising c.args.id (slice_index_or c.args.lists.now n s) (slice_index_or c.tiles.lists n s) (c.requires.rising c.tiles.tile 0 s has) (c.tiles.invariant.each n s)

pub tiles-preserved : goal.tiles-preserved
tiles-preserved c =
    let tile = c.tiles.tile in
    let tiles = c.args.tiles.now in
    let old = c.args.lists.now in
    let n = slice_index_or tiles tile 0 in
    let s = c.index-lists-tiles.result in
    let has : has_tile c.args.area tile ≡ true = c.tiles.invariant.next (let l = c.tiles-test.true in let e = c.requires.end in omega (arith, l, e)) in
    let low : tile < tile_count = has_within c.args.area tile has in
    let within = c.requires.homed.within tile 0 low in
    let taken = taken_once c.args.id (slice_index_or old n s) (slice_index_or c.tiles.lists n s) c.take_out.new.self (c.tiles.invariant.each n s) c.take_out.ensures in
    changed_more (IsEntryRemoved c.args.id) (λ (list : Shared). Unit {0}) c.args.area tiles old c.tiles.lists tile c.after-tile.result c.tiles.invariant n
    (λ d. get_or_default tiles tile d 0 (let e = c.requires.homed.long in omega (arith, e, low)))
    (let e = c.tiles.invariant.long in omega (arith, e, within)) c.take_out.new.self
    (λ t. tt)
    (λ t. subst (λ (l : Shared). IsEntryRemoved c.args.id l c.take_out.new.self) (get_or_default old n s t within) taken)
    (λ other l m t. let never : true ≡ false = sym t ∙ c.after-tile.ensures.none_between other l m in cc)
    c.after-tile.ensures.inside

pub returns : goal.returns
returns c = changed_all (IsEntryRemoved c.args.id) (λ (list : Shared). Unit {0}) c.args.area c.args.tiles.now c.args.lists.now c.tiles.lists c.tiles.tile c.args.end c.tiles.invariant c.tiles-test.false c.requires.all
