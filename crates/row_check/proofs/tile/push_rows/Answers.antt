use Rattle.std.proofs.Common.{◌∙◌, sym}
use Rattle.std.proofs.lemmas.Bool.{eqb-true}
use Rattle.pair_check.specs.CheckViews.{checked_by}
use Rattle.board_index.specs.IndexedItems.{IsEntryOf}
use Rattle.row_check.specs.EntryWalks.{pairs_with}
use Rattle.row_check.proofs.TileEnds.{Fits, none_at_all, no_pairs_left, end_all, end_rises, end_blocks}
use Rattle.row_check.proofs.tile.push_rows.Goals as goal

pub push_beside-requires-clause-rising : goal.push_beside-requires-clause-rising
push_beside-requires-clause-rising g c = end_rises c.args.at.now.index.now c.args.at.now.tile c.args.first.now c.args.others.now c.owned_from-owned.result.now c.owned_from-owned.ensures.end c.requires.rising

pub push_beside-requires-clause-fits : goal.push_beside-requires-clause-fits
push_beside-requires-clause-fits g c = end_all c.args.at.now.index.now c.args.at.now.tile c.args.first.now c.args.others.now c.owned_from-owned.result.now c.owned_from-owned.ensures.end Fits c.requires.fits

pub push_beside-requires-clause-there : goal.push_beside-requires-clause-there
push_beside-requires-clause-there g c =
    end_all c.args.at.now.index.now c.args.at.now.tile c.args.first.now c.args.others.now c.owned_from-owned.result.now c.owned_from-owned.ensures.end (IsEntryOf (checked_by c.args.tested.now.view.now).board) c.requires.there

pub push_beside-requires-clause-blocks : goal.push_beside-requires-clause-blocks
push_beside-requires-clause-blocks g c = end_blocks c.args.at.now.index.now c.args.at.now.tile c.args.first.now c.args.others.now c.owned_from-owned.result.now c.owned_from-owned.ensures.end c.args.at.now.boxes c.requires.blocks

pub returns-then-is_empty-clause-rows : goal.returns-then-is_empty-clause-rows
returns-then-is_empty-clause-rows g c =
    none_at_all (checked_by c.args.tested.now.view.now) (pairs_with c.args.at.now.index.now c.args.at.now.tile c.args.first.now c.args.others.now) c.args.row_sink.now.rows.items
    (no_pairs_left c.args.at.now.index.now c.args.at.now.tile c.args.first.now c.args.others.now c.owned_from-owned.result.now c.owned_from-owned.ensures.end (eqb-true _ 0 (sym c.is_empty.ensures ∙ c.if-is_empty.true)))
