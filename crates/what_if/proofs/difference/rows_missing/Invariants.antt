use Rattle.std.proofs.Common.{◌≡◌, ℕ, ◌<◌, ◌≤◌, length, get_or, take}
use Rattle.pair_check.specs.PlainRow.{PlainRow}
use Rattle.pair_check.specs.Rows.{Before}
use Rattle.what_if.specs.Trials.{rows_not_in}
use Rattle.what_if.proofs.difference.rows_missing.Given as goal

abbrev pub invariant-loop-row : goal.invariant-loop-row
invariant-loop-row l = record {
  made : l.only.items ≡ rows_not_in l.others (take l.row-index l.rows);
  within : l.at ≤ length l.others;
  before : (k j : ℕ) (d : PlainRow) → k < l.at → l.row-index ≤ j → j < length l.rows → Before (get_or l.others k d) (get_or l.rows j d);
}
