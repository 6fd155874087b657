use Rattle.std.proofs.Common.{◌∙◌, Result, Ok, Err, OnErr}
use Rattle.row_check.proofs.whole.push_batches.Goals as goal

on_err : {T E P : Type 0} (r : Result T E) → P → OnErr r P
on_err (Ok v) p = tt
on_err (Err e) p = p

-- the batches before the one that there was no memory for
pub returns-in_err-extend_from_slice-clause-first : goal.returns-in_err-extend_from_slice-clause-first
returns-in_err-extend_from_slice-clause-first c = on_err c.from_residual.result (c.loop-batch.batch-index, c.in_err-extend_from_slice.ensures.items ∙ c.loop-batch.invariant)
