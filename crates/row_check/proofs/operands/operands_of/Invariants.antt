use Rattle.std.proofs.Common.{All}
use Rattle.pair_check.specs.CheckViews.{checked_by}
use Rattle.row_check.specs.Operands.{StandsAt}
use Rattle.row_check.proofs.operands.operands_of.Given as goal

abbrev pub invariant-loop-entry : goal.invariant-loop-entry
invariant-loop-entry l = All (StandsAt (checked_by l.view)) l.operands.items
