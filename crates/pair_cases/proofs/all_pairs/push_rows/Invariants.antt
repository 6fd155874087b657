use Rattle.std.proofs.Common.{All, map}
use Rattle.cond_lang.specs.Rules.{plain_rule}
use Rattle.pair_check.specs.Rows.{HasItems, HasSource}
use Rattle.pair_cases.proofs.all_pairs.push_rows.Given as goal

-- the rows so far can be written
abbrev pub invariant-loop-row : goal.invariant-loop-row
invariant-loop-row l = All (HasItems l.view.board.now) l.rows.items × All (HasSource (map plain_rule l.view.rules.now)) l.rows.items
