use Rattle.pair_check.specs.Rows.{IsRow}
use Rattle.row_check.proofs.Sorting.{once_permutation, rows_from_once}
use Rattle.row_check.proofs.laws.once_in_order.Goals as goal

pub returns : goal.returns
returns c = λ checked rows sorted once same order. rows_from_once (IsRow checked) sorted order (once_permutation (IsRow checked) rows sorted same once)
