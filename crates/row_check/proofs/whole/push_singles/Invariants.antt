use Rattle.std.proofs.Common.{take}
use Rattle.pair_check.specs.CheckViews.{checked_by}
use Rattle.row_check.specs.EntryWalks.{HasAddedRows}
use Rattle.row_check.specs.Whole.{AreSingles}
use Rattle.row_check.proofs.whole.push_singles.Given as goal

abbrev pub invariant-loop-id : goal.invariant-loop-id
invariant-loop-id l = HasAddedRows (AreSingles (checked_by l.view) (take l.id-index l.ids)) l.fn.rows.items l.rows.items
