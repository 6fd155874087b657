use Rattle.std.proofs.Common.{◌∙◌, [], true, sym}
use Rattle.row_check.specs.RowsOfTile.{AreRowsOfTile}
use Rattle.pair_check.specs.CheckViews.{checked_by}
use Rattle.tile_rows.proofs.AllTiles.{few_tiles, all_enough}
use Rattle.tile_rows.proofs.Answered.{zip_alike}
use Rattle.stolen_rows.proofs.whole.steal_all.Goals as goal

pub steal_tiles-requires-clause-few : goal.steal_tiles-requires-clause-few
steal_tiles-requires-clause-few g c κs within = few_tiles c.args.index.now [] true c.deref.result.now (c.deref.ensures.value ∙ c.in_ok-tiles.ensures.tiles)

pub all_rows-requires-clause-enough : goal.all_rows-requires-clause-enough
all_rows-requires-clause-enough g c = all_enough c.args.index.now c.deref-3.result.now c.deref-4.result.now (c.deref-4.ensures.value ∙ c.in_ok-tiles.ensures.tiles)

pub all_rows-requires-clause-batches : goal.all_rows-requires-clause-batches
all_rows-requires-clause-batches g c =
    let view = c.args.view in
    let index = c.args.index.now in
    zip_alike (λ changed tile batch. AreRowsOfTile (checked_by view) index tile changed batch) c.deref-2.result.now c.deref-3.result.now c.deref.result.now c.deref-4.result.now c.in_ok-batches.field-0.batches.items c.deref-5.result.now
    (c.deref-2.ensures.value ∙ sym c.deref-3.ensures.value) (c.deref.ensures.value ∙ sym c.deref-4.ensures.value) (sym c.deref-5.ensures.value) c.in_ok-batches.ensures.rows
