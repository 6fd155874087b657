use denote.Exit.{no}
use denote.Param.Send.{arg_sync, param_sync}
use Rattle.std.proofs.Common.{get_or}
use Rattle.pair_check.specs.PlainRow.{PlainRow}
use Rattle.pair_check.specs.Rows.{IsRowOfTwo}
use Rattle.pair_check.specs.CheckViews.{checked_by}
use Rattle.row_check.specs.RowsOfTile.{IsAskedIn}
use Rattle.row_check.proofs.OneList.{one_list_where}
use Rattle.tile_rows.proofs.Crossing.{asked_cross}
use Rattle.tile_rows.proofs.laws.one_value.Goals as goal

pub one_list_of_answers-requires-sync-T : goal.one_list_of_answers-requires-sync-T
one_list_of_answers-requires-sync-T c κs = param_sync 0 _ (arg_sync _ no _ (asked_cross _))

pub returns : goal.returns
returns c = λ count answers others.
    let work = c.args.work.now.tiles in
    c.one_list_of_answers.ensures count
    (λ k x y lt. one_list_where (λ (row : PlainRow). let tile = get_or work.tiles.now k 0 in IsRowOfTwo (checked_by work.view) row × IsAskedIn work.index.now tile work.changed.now row.first row.second) x y)
    answers others
