use Rattle.std.proofs.Common.{◌≡◌, ◌∙◌, ap, refl, sym, ℕ, ◌+◌, true, cond, slice_index_or, arith}
use Rattle.box_index.specs.Areas.{has_tile}
use Rattle.box_index.proofs.Buckets.{has_within}
use Rattle.box_index.proofs.Vacancies.{counted_none, counted_more, counted_all}
use Rattle.box_index.proofs.walks.count_vacant.Goals as goal
use Rattle.box_index.proofs.walks.count_vacant.Goals.{then-is_empty, else-is_empty}

no_more : (n : ℕ) → n ≡ n + 0
no_more n = omega arith

pub tiles-init : goal.tiles-init
tiles-init c = counted_none c.args.tiles.now c.args.lists.now c.args.area c.first-tile.result c.first-tile.ensures.inside (λ tile g l. c.first-tile.ensures.none_before tile l)

pub overflow_add-count : goal.overflow_add-count
overflow_add-count c =
    let has = c.tiles.invariant.next (let l = c.tiles-test.true in let e = c.end-end.ensures.value in omega (arith, l, e)) in
    let few = c.tiles.invariant.few in let low = has_within c.args.area c.tiles.tile has in omega (arith, few, low)

pub tiles-preserved : goal.tiles-preserved
tiles-preserved c =
    let tile = c.tiles.tile in
    let tiles = c.args.tiles.now in
    let lists = c.args.lists.now in
    let s = c.index-lists-tiles.result in
    let count = c.tiles.count in
    let has : has_tile c.args.area tile ≡ true = c.tiles.invariant.next (let l = c.tiles-test.true in let e = c.end-end.ensures.value in omega (arith, l, e)) in
    let more : c.if-is_empty.count ≡ count + cond c.is_empty.result 1 0 = elim c.if-is_empty.branch [
      | then-is_empty w ↦ w.count-is ∙ ap (λ b. count + cond b 1 0) (sym w.if-is_empty.true)
      | else-is_empty w ↦ w.count-is ∙ no_more count ∙ ap (λ b. count + cond b 1 0) (sym w.if-is_empty.false)
    ] in
    counted_more tiles lists c.args.area (slice_index_or lists (slice_index_or tiles tile 0) s) s c.is_empty.result count c.if-is_empty.count tile c.after-tile.result c.tiles.invariant has refl c.is_empty.ensures more
    c.after-tile.ensures.rises (λ other g l. c.after-tile.ensures.none_between other (omega (arith, g)) l) c.after-tile.ensures.inside

pub returns : goal.returns
returns c = counted_all c.args.tiles.now c.args.lists.now c.args.area c.tiles.count c.tiles.tile c.end-end.result c.tiles.invariant c.tiles-test.false c.end-end.ensures.within c.end-end.ensures.none_after
