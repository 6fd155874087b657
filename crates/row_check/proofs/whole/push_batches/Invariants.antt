use Rattle.std.proofs.Common.{◌≡◌, ◌++◌, take, List}
use Rattle.std.specs.List.{flat_map}
use Rattle.pair_check.specs.PlainRow.{PlainRow}
use Rattle.row_check.proofs.whole.push_batches.Given as goal

abbrev pub invariant-loop-batch : goal.invariant-loop-batch
invariant-loop-batch l = l.rows.items ≡ l.fn.rows.items ++ flat_map (λ (batch : List PlainRow). batch) (take l.batch-index l.batches)
