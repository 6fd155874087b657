use Rattle.std.proofs.Common.{◌∙◌, sym, subst}
use Rattle.pair_check.specs.CheckViews.{checked_by}
use Rattle.row_check.specs.Blocks.{AreBlocks}
use Rattle.row_check.specs.RowsOfTile.{AreRowsOfTile}
use Rattle.row_check.proofs.TileRows.{none_answered}
use Rattle.row_check.proofs.tile.test_tile_by.Goals as goal

pub returns-then-not-may_answer-clause-rows : goal.returns-then-not-may_answer-clause-rows
returns-then-not-may_answer-clause-rows g c =
    subst (AreRowsOfTile (checked_by c.args.view.now) c.args.index.now c.args.tile c.args.changed.now) (sym c.new.ensures.items)
    (none_answered (checked_by c.args.view.now) c.args.index.now c.near-near.ensures.sound c.requires.index c.args.tile c.args.changed.now (c.may_answer.ensures c.if-not-may_answer.true))

pub rows_near-requires-clause-touched : goal.rows_near-requires-clause-touched
rows_near-requires-clause-touched g c = c.deref-3.ensures.value ∙ c.in_ok-touched.ensures

pub rows_near-requires-clause-blocks : goal.rows_near-requires-clause-blocks
rows_near-requires-clause-blocks g c = record {
  short = subst (λ bs. AreBlocks 4 bs c.near-near.result.now) (sym c.deref.ensures.value) c.in_ok-short_boxes.ensures;
  long = subst (λ bs. AreBlocks 32 bs c.near-near.result.now) (sym c.deref-2.ensures.value) c.in_ok-long_boxes.ensures;
}
